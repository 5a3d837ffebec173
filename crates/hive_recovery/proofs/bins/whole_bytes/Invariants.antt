use Rattle.std.proofs.Common.{◌≡◌, ℕ, Option, Some}
use Rattle.hive_recovery.specs.Laid.{HoldsImage, first_bytes}
use Rattle.hive_recovery.proofs.bins.whole_bytes.Given as goal

abbrev pub invariant-cells : goal.invariant-cells
invariant-cells l = (image : ℕ → Option ℕ) → HoldsImage l.cells image → first_bytes image l.index ≡ Some l.bytes.items
