use Rattle.std.proofs.Common.{◌≡◌, ◌++◌, None}
use Rattle.std.specs.Vec.Iter.{into_iter_items}
use Rattle.reg_apply.specs.Checks.{TriesStatements}
use Rattle.reg_apply.proofs.trial.try_all.Given as goal

-- the statements so far are tried, and the others are left
abbrev pub invariant-loop-numbered : goal.invariant-loop-numbered
invariant-loop-numbered l =
    (into_iter_items l.initial.numbered-iterator ≡ l.yielded ++ into_iter_items l.numbered-iterator)
    × TriesStatements l.prefixes l.hives None l.initial.plan l.yielded l.current l.told.items l.plan
