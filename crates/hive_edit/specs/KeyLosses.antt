-- A subkey is taken from its key.
use Rattle.std.specs.Prelude.{ℕ, List, [], ◌∷◌, ◌++◌}
use Rattle.base_block.specs.declared.block.TheConstants.{MINOR_VERSION}
use Rattle.reg_names.specs.Names.{folded, folded_path}
use Rattle.reg_tree.specs.Maps.{TreeMap}
use Rattle.reg_tree.specs.Operations.{tree_after}
use Rattle.reg_tree.specs.declared.op.Op.TheVariants.{DeleteKey}
use Rattle.hive_records.specs.Images.{BinsEncodeTree}
use Rattle.hive_edit_laws.specs.Found.{KeyFound}
use Rattle.hive_edit.specs.Searches.{IsNamedAt}
use Rattle.hive_edit.specs.declared.search.RecordKind.TheVariants.{Key}

-- The subkey whose node is at an offset is taken from the key whose node is at another: the new data encode the tree after
-- that operation, whatever path leads there.
abbrev pub TakesKey : List ℕ → List ℕ → ℕ → ℕ → ℕ → Type 0
TakesKey old_bytes new_bytes home at moment = (root hive : ℕ) (tree : TreeMap) (front : List (List ℕ)) (name : List ℕ) → KeyFound old_bytes root MINOR_VERSION tree (folded_path front) home → IsNamedAt Key old_bytes at (folded name)
    → BinsEncodeTree new_bytes root MINOR_VERSION (tree_after tree (DeleteKey hive (front ++ name ∷ [])) moment)
