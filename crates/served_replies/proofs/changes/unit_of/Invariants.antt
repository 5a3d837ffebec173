use Rattle.std.proofs.Common.{◌≡◌, drop}
use Rattle.served_replies.specs.ServedReplies.{unit_in}
use Rattle.served_replies.proofs.changes.unit_of.Given as goal

-- none so far commits a unit
abbrev pub invariant-loop-op : goal.invariant-loop-op
invariant-loop-op l = unit_in l.named (drop l.op-index l.ops) ≡ unit_in l.named l.ops
