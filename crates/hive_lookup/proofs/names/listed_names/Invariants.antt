use Rattle.std.proofs.Common.{◌≡◌, take}
use Rattle.hive_cells.specs.Bins.{Cells, Shows}
use Rattle.hive_lookup.specs.declared.list_kind.ListKind.TheVariants.{Subkeys}
use Rattle.hive_lookup.specs.Records.{AreRecords}
use Rattle.hive_lookup.specs.Listings.{names_listed}
use Rattle.hive_lookup.proofs.names.listed_names.Given as goal

-- the first keys are read, and these are their names
abbrev pub invariant-loop-at : goal.invariant-loop-at
invariant-loop-at l = (cells : Cells) → Shows l.image.bytes cells → AreRecords Subkeys cells (take l.at-index l.listed) × (l.names.items ≡ names_listed cells (take l.at-index l.listed))
