use Rattle.std.proofs.Common.{◌≤◌, length, take}
use Rattle.std.specs.Io.KnownBytes.{Appends}
use Rattle.commit_journal.specs.Numbered.{numbered}
use Rattle.served_replies.specs.ServedReplies.{served_texts}
use Rattle.store_changes.specs.Followed.{told_changes}
use Rattle.store_changes.proofs.report.tell_changes.Given as goal

abbrev pub invariant-loop-count : goal.invariant-loop-count
invariant-loop-count g l = record {
  few : l.count ≤ length l.changes;
  told : Appends (g.W.Write.contents l.fn.writer) (g.W.Write.contents l.writer) (served_texts l.named (told_changes (take l.count (numbered l.after l.changes))));
}
