use Rattle.std.proofs.Common.{take}
use Rattle.std.specs.List.{flat_map}
use Rattle.std.specs.Io.KnownBytes.{Appends}
use Rattle.served_replies.specs.ServedReplies.{line_in}
use Rattle.served_replies.proofs.changes.write_lines.Given as goal

-- the lines of those so far were written
abbrev pub invariant-loop-op : goal.invariant-loop-op
invariant-loop-op g l = Appends (g.W.Write.contents l.fn.writer) (g.W.Write.contents l.writer) (flat_map (line_in l.named) (take l.op-index l.ops))
