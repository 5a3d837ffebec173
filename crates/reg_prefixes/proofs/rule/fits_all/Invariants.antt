use Rattle.std.proofs.Common.{◌≡◌, length, map}
use Rattle.std.specs.List.{list_all}
use Rattle.reg_prefixes.specs.Words.{meaning_of, fits_by}
use Rattle.reg_prefixes.proofs.rule.fits_all.Given as goal

abbrev pub invariant-loop-other : goal.invariant-loop-other
invariant-loop-other l = list_all (fits_by l.rule (meaning_of l.prefix)) (map meaning_of l.rest) ≡ list_all (fits_by l.rule (meaning_of l.prefix)) (map meaning_of l.others)

abbrev pub decreases-loop-other : goal.decreases-loop-other
decreases-loop-other l = length l.rest
