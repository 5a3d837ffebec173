use Rattle.std.proofs.Common.{◌≡◌, length, map}
use Rattle.reg_prefixes.specs.Words.{meaning_of, fits_by, are_pairwise}
use Rattle.reg_prefixes.proofs.rule.are_fit.Given as goal

abbrev pub invariant-loop-prefix : goal.invariant-loop-prefix
invariant-loop-prefix l = are_pairwise (fits_by l.rule) (map meaning_of l.rest) ≡ are_pairwise (fits_by l.rule) (map meaning_of l.prefixes)

abbrev pub decreases-loop-prefix : goal.decreases-loop-prefix
decreases-loop-prefix l = length l.rest
