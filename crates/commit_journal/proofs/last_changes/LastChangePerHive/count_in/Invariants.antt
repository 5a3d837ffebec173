use Rattle.std.proofs.Common.{◌≡◌, ◌+◌, ◌++◌, ℕ, List, length, take}
use Rattle.crash_model.specs.Changes as law
use Rattle.change_codec.specs.ModelChanges.{TimedOp, timed_elements}
use Rattle.commit_journal.specs.LastChangePerHive.{AreLastIn}
use Rattle.commit_journal.proofs.last_changes.LastChangePerHive.count_in.Given as goal

abbrev pub invariant-loop-change : goal.invariant-loop-change
invariant-loop-change l = record {
  number : l.number ≡ l.below + l.change-index;
  last : (base : ℕ) (known : List (law.Element TimedOp)) → base + length known ≡ l.below → AreLastIn base known l.fn.self.last.items → AreLastIn base (known ++ timed_elements (take l.change-index l.changes)) l.self.last.items;
  many : length l.self.last.items ≡ length l.fn.self.last.items;
}
