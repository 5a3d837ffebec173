use Rattle.std.proofs.Common.{◌≡◌, ◌++◌, ℕ, List, length}
use Rattle.reg_export.specs.Encodings.{Prints}
use Rattle.reg_export.proofs.reg_units.write_plain_units.Given as goal

-- the units before those that are left were printed
abbrev pub invariant-loop-first : goal.invariant-loop-first
invariant-loop-first g l = (done : List ℕ) × Prints l.encoding (g.W.Write.contents l.fn.writer) (g.W.Write.contents l.writer) done × (done ++ l.rest ≡ l.units)

abbrev pub decreases-loop-first : goal.decreases-loop-first
decreases-loop-first g l = length l.rest
