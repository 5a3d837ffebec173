use Rattle.std.proofs.Common.{◌≡◌, length}
use Rattle.hive_recovery.specs.Laid.{HoldsImage, own_bytes}
use Rattle.hive_recovery.proofs.bins.own_cells.Given as goal

abbrev pub invariant-places : goal.invariant-places
invariant-places l = (length l.cells.items ≡ l.place) × HoldsImage l.cells.items (own_bytes l.file)
