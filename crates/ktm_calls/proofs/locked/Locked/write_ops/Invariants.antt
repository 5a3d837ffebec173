use Rattle.std.proofs.Common.{◌≡◌, ◌++◌, length}
use Rattle.std.specs.Vec.Iter.{into_iter_items, into_iter_len}
use Rattle.ktm_calls.specs.Moments.{SeesMore}
use Rattle.ktm_calls.specs.Room.{HasMadeRoom}
use Rattle.ktm_calls.specs.WholeTransactions.{AreWritten}
use Rattle.ktm_calls.proofs.locked.Locked.write_ops.Given as goal

-- the operations so far are written, with nothing between, and the others are left
abbrev pub invariant-loop-op : goal.invariant-loop-op
invariant-loop-op g l = record {
  all : into_iter_items l.initial.op-iterator ≡ l.yielded ++ into_iter_items l.op-iterator;
  long : into_iter_len l.op-iterator ≡ length (into_iter_items l.op-iterator);
  seen : SeesMore l.fn.mine l.mine;
  same : l.mine.history ≡ l.self.history;
  room : HasMadeRoom g.O.Start.start l.self.history;
  written : AreWritten g.O.Start.sole g.O.Start.start g.O.Origin.trees g.O.Origin.number g.O.Origin.hives l.fn.session l.fn.tx l.fn.moment l.yielded l.fn.mine l.mine;
}
