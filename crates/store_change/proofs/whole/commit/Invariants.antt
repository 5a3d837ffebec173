use Rattle.std.proofs.Common.{◌≡◌, ◌++◌, length}
use Rattle.std.specs.Vec.Iter.{into_iter_items, into_iter_len}
use Rattle.store_driver.specs.Later.{IsLater}
use Rattle.store_change.specs.Commits.{InTransaction}
use Rattle.store_change.proofs.whole.commit.Given as goal

-- the operations so far are the transaction's, and the others are left
abbrev pub invariant-loop-op : goal.invariant-loop-op
invariant-loop-op g l =
    (into_iter_items l.initial.op-iterator ≡ l.yielded ++ into_iter_items l.op-iterator)
    × InTransaction l.fn.engine.machine l.fn.id l.tx l.moment l.yielded l.engine.machine
    × (into_iter_len l.op-iterator ≡ length (into_iter_items l.op-iterator))
    × IsLater g.D.Disk.faithful g.D.Disk.failures l.fn.engine l.engine
