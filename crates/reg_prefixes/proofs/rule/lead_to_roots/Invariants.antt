use Rattle.std.proofs.Common.{◌≡◌, length, map}
use Rattle.std.specs.List.{list_all}
use Rattle.reg_prefixes.specs.Words.{meaning_of, leads_to_a_root}
use Rattle.reg_prefixes.proofs.rule.lead_to_roots.Given as goal

abbrev pub invariant-loop-prefix : goal.invariant-loop-prefix
invariant-loop-prefix l = list_all leads_to_a_root (map meaning_of l.rest) ≡ list_all leads_to_a_root (map meaning_of l.prefixes)

abbrev pub decreases-loop-prefix : goal.decreases-loop-prefix
decreases-loop-prefix l = length l.rest
