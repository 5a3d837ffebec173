-- What the values that functions hand to each other mean.
use Rattle.std.specs.Prelude.{ℕ, List}
use Rattle.std.specs.Borrow.{Bor}
use Rattle.reg_prefixes.specs.declared.word.Target.{Target}
use Rattle.reg_prefixes.specs.Words.{Meaning}

-- the key that a word names
abbrev pub target_view : Target → ℕ × List ℕ
target_view target = (target.hive, target.key.now)

-- the text before it, and the key
abbrev pub parted_view : Bor (List ℕ) × Target → Meaning
parted_view found = (found.0.now, (let target = found.1 in target.hive), (let target = found.1 in target.key.now))
