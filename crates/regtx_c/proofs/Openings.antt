-- Files and trees: what an opening is told, put together.
use Rattle.std.proofs.Common.{ℕ, List, refl, inl}
use Rattle.refusals.specs.declared.refusal.Refusal.TheVariants.{NoMemory}
use Rattle.base_block.specs.declared.block.BaseBlock.{BaseBlock}
use Rattle.reg_tree.specs.Maps.{TreeMap}
use Rattle.hive_load.specs.Limits.{BinsEncodeShallowTree}
use Rattle.hive_file_reader.specs.Hives.{FileHasBins, FileHoldsShallowTree}
use Rattle.hive_file_reader.specs.Readings.{ShallowFileRefusedAs}

pub holds_parts : (file bins : List ℕ) (block : BaseBlock) (tree : TreeMap) → FileHasBins file block bins → BinsEncodeShallowTree bins block.root block.minor tree → FileHoldsShallowTree file tree
holds_parts file bins block tree has encodes = record { block = block; bins = bins; has = has.0; own = has.1; tree_is = encodes }

pub refused_memory : (file : List ℕ) → ShallowFileRefusedAs 0 file NoMemory
refused_memory file = (NoMemory, inl refl, refl)
