use Rattle.std.proofs.Common.{◌≡◌, ◌≤◌, length, take}
use Rattle.std.specs.List.{filter}
use Rattle.served_replies.specs.ServedReplies.{is_named}
use Rattle.served_replies.proofs.changes.count_named.Given as goal

-- those so far were counted
abbrev pub invariant-loop-op : goal.invariant-loop-op
invariant-loop-op l = record {
  counted : l.count ≡ length (filter (is_named l.named) (take l.op-index l.ops));
  few : l.count ≤ l.op-index;
}
