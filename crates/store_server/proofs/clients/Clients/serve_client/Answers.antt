use Rattle.std.proofs.Common.{inl, ap, subst}
use Rattle.registry_lines.specs.Interpreters.{script_of}
use Rattle.registry_lines.specs.Scripts.{Script}
use Rattle.store_server.specs.Visits.{HasServed}
use Rattle.store_server.proofs.clients.Clients.serve_client.Goals as goal

pub returns : goal.returns
returns g c =
    let O = g.O.Origin in
    let S = g.O.Start in
    let last = script_of c.serve_session-end.new.session.script in
    inl (
      c.args.start.moment,
      record {
        first = script_of c.in-Ok.script;
        begun = c.in-Ok.ensures.begun;
        last = last;
        served = subst (λ (s : Script). HasServed g.B.BackupFolder.holds S.store S.sole S.start O.trees O.number O.hives s last) (ap script_of c.new-session.ensures) c.serve_session-end.ensures;
        ended = c.finish-asker.ensures.ended;
        then = c.finish-asker.ensures.seen;
      },
    )
