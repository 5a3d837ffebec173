use Rattle.std.proofs.Common.{take}
use Rattle.std.specs.List.{flat_map}
use Rattle.std.specs.Io.KnownBytes.{Appends}
use Rattle.reply_lines.specs.Replies.{unit_text}
use Rattle.reply_lines.proofs.printer.write_units.Given as goal

-- the text of those so far was written
abbrev pub invariant-loop-unit : goal.invariant-loop-unit
invariant-loop-unit g l = Appends (g.W.Write.contents l.fn.writer) (g.W.Write.contents l.writer) (flat_map unit_text (take l.unit-index l.units))
