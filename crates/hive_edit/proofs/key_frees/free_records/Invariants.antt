use Rattle.std.proofs.Common.{◌≡◌, ℕ, List}
use Rattle.reg_tree.specs.Maps.{TreeMap}
use Rattle.hive_edit_laws.specs.Found.{KeyFound}
use Rattle.hive_edit.specs.DataPlaces.{FreesCells}
use Rattle.hive_edit.specs.OwnCells.{list_record_cells}
use Rattle.hive_edit.proofs.key_frees.free_records.Given as goal

abbrev pub invariant-loop-index : goal.invariant-loop-index
invariant-loop-index l = record {
  freed : (root : ℕ) (tree : TreeMap) (path : List (List ℕ)) → (found : KeyFound l.fn.image.bytes root 5 tree path l.key) → FreesCells l.fn.image.bytes l.image.bytes (list_record_cells l.fn.image.bytes found.cells l.list.at l.index);
  saved : l.image.saved ≡ l.fn.image.saved;
}
