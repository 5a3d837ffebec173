use Rattle.std.proofs.Common.{◌≡◌, Bool, take}
use Rattle.reg_tree_parts.specs.Rows.{Row}
use Rattle.hive_cells.specs.Bins.{Cells, Shows}
use Rattle.hive_tree_model.specs.Keys.{Keys, offsets}
use Rattle.hive_tree_model.specs.Encodings.{CellsMatchKeys}
use Rattle.hive_records.specs.KeyNodes.{keys_in}
use Rattle.hive_walk.specs.Siblings.{siblings_in}
use Rattle.hive_walk.proofs.walk.listed_siblings.Given as goal

abbrev pub invariant-loop-at : goal.invariant-loop-at
invariant-loop-at l = (cells : Cells) → Shows l.image.bytes cells → (split : Bool) (keys : Keys Row) → CellsMatchKeys (keys_in split cells) keys → offsets keys ≡ l.listed → l.siblings.items ≡ take l.at-index (siblings_in keys)
