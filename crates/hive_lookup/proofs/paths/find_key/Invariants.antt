use Rattle.std.proofs.Common.{take, IsOk}
use Rattle.reg_names.specs.Names.{folded_path}
use Rattle.hive_cells.specs.Bins.{Cells, Shows}
use Rattle.hive_lookup.specs.declared.list_kind.ListKind.TheVariants.{Subkeys}
use Rattle.hive_lookup.specs.Records.{record_at}
use Rattle.hive_lookup.specs.Lookups.{PathLeads}
use Rattle.hive_lookup.proofs.paths.find_key.Given as goal

-- the first names lead to a key, whose node is read
abbrev pub invariant-loop-depth : goal.invariant-loop-depth
invariant-loop-depth l = (cells : Cells) → Shows l.image.bytes cells → PathLeads cells l.root (take l.depth (folded_path l.path)) l.at × IsOk (record_at Subkeys cells l.at)
