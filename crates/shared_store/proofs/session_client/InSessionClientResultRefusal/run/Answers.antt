use Rattle.std.proofs.Common.{Result, Ok, Err, inl, inr, subst}
use Rattle.std.specs.Prelude.{IfErr, IfOk}
use Rattle.ktm_calls.specs.Denials.{IsDenied, IsOpened}
use Rattle.ktm_calls.specs.Moments.{Sight}
use Rattle.shared_store.proofs.Accounts.{ends_or_not}
use Rattle.shared_store.proofs.session_client.InSessionClientResultRefusal.run.Goals as goal

pub returns-in-Ok : goal.returns-in-Ok
returns-in-Ok g c =
    let O = g.O.Origin in
    let S = g.O.Start in
    let end = c.end_session-asker in
    let last = c.run-report.new.session in
    record {
      done = record {
        session = c.in-Ok.session.number;
        first = c.in-Ok.session.seen;
        told = c.in-Ok.field-0-1;
        opened = subst (λ (s : Sight). IsOpened S.sole S.start O.trees O.number O.hives s c.in-Ok.session c.in-Ok.field-0-1) c.requires.first c.in-Ok.ensures.opened;
        last = last.seen;
        reports = c.run-report.ensures.told;
        current = last.number;
        ended = ends_or_not S.sole S.start O.trees O.number O.hives last.seen end.result.0 last.number end.result.1 end.ensures.told end.ensures.denied;
        then = end.ensures.seen;
      };
    }
