use Rattle.std.proofs.Common.{◌≡◌, ◌++◌, None}
use Rattle.std.specs.Vec.Iter.{into_iter_items}
use Rattle.reg_apply.specs.Statements.{TakesStatements}
use Rattle.reg_apply.proofs.statements.take_all.Given as goal

-- the edits of the statements so far are taken, and the others are left
abbrev pub invariant-loop-numbered : goal.invariant-loop-numbered
invariant-loop-numbered l =
    (into_iter_items l.initial.numbered-iterator ≡ l.yielded ++ into_iter_items l.numbered-iterator)
    × TakesStatements l.prefixes l.hives None l.initial.plan l.yielded l.current l.plan
