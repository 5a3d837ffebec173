use Rattle.std.proofs.Common.{ℕ, List, ◌++◌, sym, subst}
use Rattle.hive_recovery.specs.Runs.{AreLastOf, AreRunsOf}
use Rattle.hive_recovery.specs.declared.sequence.LogRun.{LogRun}
use Rattle.hive_recovery.proofs.Runs.{run_more}
use Rattle.hive_recovery.proofs.sequence.push_run.Goals as goal

pub returns : goal.returns
returns c = λ most logs entries last are.
    let part = c.args.part.now.entries.now in
    let At : ℕ → Type 0 = λ place. AreLastOf most logs place part in
    let Are : List LogRun → Type 0 = λ runs. AreRunsOf most logs runs (entries ++ part) in
    subst Are (sym {A = List LogRun} c.in_ok-push.ensures.items)
    (run_more most logs c.args.runs.now.items c.run_of.result entries part are (record { of_log = subst At (sym c.run_of.ensures.log) last; first = c.run_of.ensures.first; last = c.run_of.ensures.last }))
