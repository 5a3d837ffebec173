use Rattle.std.proofs.Common.{ℕ, Option, take}
use Rattle.hive_recovery.specs.Laid.{HoldsImage, laid}
use Rattle.hive_recovery.proofs.bins.lay_entries.Given as goal

abbrev pub invariant-entries : goal.invariant-entries
invariant-entries l = (image : ℕ → Option ℕ) → HoldsImage l.initial.cells image → HoldsImage l.cells (laid image (take l.entry-index l.entries))
