use Rattle.std.proofs.Common.{◌≡◌, drop}
use Rattle.reg_prefixes.specs.Places.{begins}
use Rattle.reg_prefixes.proofs.matching.begins.Given as goal

-- the rest of the prefix begins the rest of the text exactly if the prefix begins the text
abbrev pub invariant-loop-unit : goal.invariant-loop-unit
invariant-loop-unit l = begins l.prefix l.text ≡ begins (drop l.unit-index l.prefix) l.rest
