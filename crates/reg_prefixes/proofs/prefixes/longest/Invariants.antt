use Rattle.std.proofs.Common.{◌≡◌, drop}
use Rattle.std.specs.Option.{option_copied}
use Rattle.reg_prefixes.specs.Places.{longest_in}
use Rattle.reg_prefixes.proofs.Longest.{better}
use Rattle.reg_prefixes.proofs.prefixes.longest.Given as goal

-- what was found, or a longer one of those that follow
abbrev pub invariant-loop-prefix : goal.invariant-loop-prefix
invariant-loop-prefix l = longest_in l.prefixes l.text ≡ better (option_copied l.found) (longest_in (drop l.prefix-index l.prefixes) l.text)
