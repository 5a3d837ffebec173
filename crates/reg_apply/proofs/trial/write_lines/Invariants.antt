use Rattle.std.proofs.Common.{take}
use Rattle.std.specs.List.{flat_map}
use Rattle.std.specs.Io.KnownBytes.{Appends}
use Rattle.reg_apply.specs.Outcomes.{outcome_line}
use Rattle.reg_apply.proofs.trial.write_lines.Given as goal

-- the lines of those so far were written
abbrev pub invariant-loop-outcome : goal.invariant-loop-outcome
invariant-loop-outcome g l = Appends (g.W.Write.contents l.fn.writer) (g.W.Write.contents l.writer) (flat_map outcome_line (take l.outcome-index l.told))
