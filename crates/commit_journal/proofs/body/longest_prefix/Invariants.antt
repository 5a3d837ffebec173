use Rattle.std.proofs.Common.{◌≡◌, ◌≤◌, take}
use Rattle.commit_journal.specs.declared.layout.TheConstants.{MOST_BODY_BYTES}
use Rattle.commit_journal.specs.Handed.{body_len}
use Rattle.commit_journal.proofs.body.longest_prefix.Given as goal

abbrev pub invariant-loop-count : goal.invariant-loop-count
invariant-loop-count l = record {
  size : l.size ≡ body_len (take l.count l.handed);
  fits : l.size ≤ MOST_BODY_BYTES;
}
