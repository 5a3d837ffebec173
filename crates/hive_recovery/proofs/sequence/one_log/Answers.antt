use Rattle.std.proofs.Common.{◌≡◌, ℕ, List, [], ◌++◌, refl, sym, ◌∙◌, ap, subst}
use Rattle.hive_recovery.specs.Limits.{usable, starting}
use Rattle.hive_recovery.specs.Runs.{AreRunsOf}
use Rattle.hive_recovery.specs.declared.sequence.LogRun.{LogRun}
use Rattle.hive_recovery.proofs.Runs.{starting_last}
use Rattle.hive_recovery.proofs.sequence.one_log.Goals as goal

pub returns-clause-runs : goal.returns-clause-runs
returns-clause-runs c = λ logs there.
    let most = c.args.limits.to in
    let first = c.args.limits.from in
    let found = starting_last first (usable most c.args.log.now) in
    let part : c.starting.result.now ≡ starting first (usable most c.args.log.now) = c.starting.ensures ∙ ap (starting first) c.usable.ensures in
    let Before : List LogRun → Type 0 = λ runs. AreRunsOf most logs runs [] in
    let All : List (List ℕ) → Type 0 = λ entries. AreRunsOf most logs c.push_run.new.runs.items entries in
    subst All (ap (λ begun. begun ++ c.starting.result.now) (sym c.new-entries.ensures.items) ∙ sym c.in_ok-append.ensures)
    (c.in_ok-push_run.ensures most logs [] (record { log = c.args.log.now; before = found.0; there = there; end = found.1 ∙ ap (λ after. found.0 ++ after) (sym part) }) (subst Before (sym c.new-runs.ensures.items) refl))
