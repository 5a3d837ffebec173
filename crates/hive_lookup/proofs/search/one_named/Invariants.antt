use Rattle.std.proofs.Common.{◌≡◌, take}
use Rattle.reg_names.specs.Names.{folded}
use Rattle.hive_cells.specs.Bins.{Cells, Shows}
use Rattle.hive_lookup.specs.Records.{AreRecords, offsets_named}
use Rattle.hive_lookup.specs.Lookups.{one_or_none}
use Rattle.hive_lookup.proofs.search.one_named.Given as goal

-- the first records are read, and the offset that was found is that of the one among them that has the name
abbrev pub invariant-loop-at : goal.invariant-loop-at
invariant-loop-at l = (cells : Cells) → Shows l.image.bytes cells → AreRecords l.kind cells (take l.at-index l.listed) × (offsets_named l.kind cells (folded l.name) (take l.at-index l.listed) ≡ one_or_none l.found)
