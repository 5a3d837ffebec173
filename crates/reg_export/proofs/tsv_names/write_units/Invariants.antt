use Rattle.std.proofs.Common.{ℕ, List, Option, length}
use Rattle.std.specs.Io.KnownBytes.{Appends}
use Rattle.reg_export.specs.Fields.{field_text}
use Rattle.reg_export.proofs.tsv_names.write_units.Given as goal

-- whatever is written of the units from here on, it is all of their text with what was written
abbrev pub invariant-loop-first : goal.invariant-loop-first
invariant-loop-first g l =
    (after : Option (List ℕ)) → Appends (g.W.Write.contents l.writer) after (field_text l.rest) → Appends (g.W.Write.contents l.fn.writer) after (field_text l.units)

abbrev pub decreases-loop-first : goal.decreases-loop-first
decreases-loop-first g l = length l.rest
