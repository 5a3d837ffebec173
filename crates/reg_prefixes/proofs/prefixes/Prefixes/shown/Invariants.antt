use Rattle.std.proofs.Common.{◌≡◌, drop}
use Rattle.reg_prefixes.specs.Places.{shown_in}
use Rattle.reg_prefixes.proofs.prefixes.Prefixes.shown.Given as goal

-- none of the first prefixes is the one
abbrev pub invariant-loop-prefix : goal.invariant-loop-prefix
invariant-loop-prefix l = shown_in l.self l.hive ≡ shown_in (drop l.prefix-index l.self) l.hive
