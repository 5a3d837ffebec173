use Rattle.std.proofs.Common.{◌≡◌, ◌+◌, ◌++◌, length}
use Rattle.commit_journal.specs.Numbered.{numbered}
use Rattle.recovery.specs.Retained.{HasRoom, numbered_changes}
use Rattle.recovery.proofs.retained_changes.RetainedChanges.append_reserved.Given as goal

abbrev pub invariant-loop-change : goal.invariant-loop-change
invariant-loop-change l = record {
  parts : l.yielded ++ l.change-iterator.rest.items ≡ l.fn.changes.items;
  last : l.last ≡ l.fn.number + length l.yielded;
  changes : numbered_changes l.self ≡ numbered_changes l.fn.self ++ numbered l.fn.number l.yielded;
  room : HasRoom (length l.change-iterator.rest.items) l.self;
}
