use Rattle.std.proofs.Common.{inr}
use Rattle.recovery.specs.Recovered.{seen_in}
use Rattle.store_values.proofs.Kept.{commit_told, found_or}
use Rattle.std.proofs.lemmas.Result.{IfOk-weaker}
use Rattle.store_values.proofs.commits.find_commit.Goals as goal

pub returns-in-Ok-clause-reports : goal.returns-in-Ok-clause-reports
returns-in-Ok-clause-reports g c =
    let D = g.D.Disk in
    let found = c.in-Ok.ensures.recovers in
    IfOk-weaker c.print_outcome-told.result _ _ (λ told printed.
    commit_told _ _ (seen_in (D.state_at c.args.disk (D.clock c.args.disk))) c.args.unit.now _ _ found.0 c.in-Ok.tree c.commit_of.result told found.1
    (found_or c.commit_of.result _ c.commit_of.ensures.kept c.commit_of.ensures.refused) printed) c.print_outcome-told.ensures

pub returns-in-Err-clause-reports : goal.returns-in-Err-clause-reports
returns-in-Err-clause-reports g c = IfOk-weaker c.print_outcome-told-in-Err.result _ _ (λ told printed. inr (c.in-Err.refusal, c.in-Err.ensures.fails, printed)) c.print_outcome-told-in-Err.ensures
