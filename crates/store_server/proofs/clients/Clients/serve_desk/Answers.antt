use Rattle.std.proofs.Common.{[], refl, sym, subst}
use Rattle.store_server.specs.Visits.{ServesInTurn}
use Rattle.store_server.specs.declared.session_ends.SessionEnds.TheVariants.{Granted}
use Rattle.store_server.proofs.Ends.{ends_alone, served_more}
use Rattle.store_server.proofs.clients.Clients.serve_desk.Goals as goal

pub loop-init : goal.loop-init
loop-init g c = λ is ends t. t

pub loop-preserved : goal.loop-preserved
loop-preserved g c = λ is ends t.
    let O = g.O.Origin in
    let S = g.O.Start in
    let saves = g.B.BackupFolder.holds in
    let one = c.serve_client-back in
    c.loop.invariant is ends (served_more saves S.store S.sole S.start O.trees O.number O.hives c.loop.asker one.result.0 is c.loop.ends one.result.1 c.and-ends.result ends one.ensures c.and-ends.ensures t)

pub returns-in-Rest : goal.returns-in-Rest
returns-in-Rest g c =
    let O = g.O.Origin in
    let S = g.O.Start in
    let saves = g.B.BackupFolder.holds in
    let l = c.loop in
    let all = l.invariant l.asker l.ends ([], Granted, (refl, refl), sym (ends_alone l.ends)) in
    (all.0, subst (λ e. ServesInTurn saves S.store S.sole S.start O.trees O.number O.hives c.args.asker all.0 l.asker e) (sym all.3) all.2)
