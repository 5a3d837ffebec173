-- A value that was found by its name.
use Rattle.std.proofs.Common.{◌≡◌, ℕ, ◌*◌, ◌<◌, List, sym, ap, subst, ◌∙◌}
use Rattle.reg_tree.specs.Maps.{TreeMap}
use Rattle.hive_cells.specs.Tiles.{u32_at, cell_data}
use Rattle.hive_records.specs.Heads.{IsKeyNode}
use Rattle.hive_records.specs.declared.key_node.KeyNode.{KeyNode}
use Rattle.hive_edit_laws.specs.Found.{KeyFound, ValueFound, value_count, value_list, value_offset}
use Rattle.hive_edit_laws.proofs.ValueSearch.{value_there}
use Rattle.hive_edit.specs.Searches.{IsNamedAt}
use Rattle.hive_edit.specs.declared.search.RecordKind.TheVariants.{Value}

module _ (bytes : List ℕ) (root minor : ℕ) (tree : TreeMap) (path : List (List ℕ)) (key : ℕ) (name : List ℕ) (index at : ℕ) (cell : List ℕ) (node : KeyNode) (list : List ℕ) where
  pub value_at_index : KeyFound bytes root minor tree path key → cell ≡ cell_data bytes key → IsKeyNode node cell → list ≡ cell_data bytes node.values → index < node.value_count → at ≡ u32_at list (4 * index) → IsNamedAt Value bytes (u32_at list (4 * index)) name → ValueFound bytes root minor tree path name key index at
  value_at_index found cell_is is list_is less at_is named = subst (λ a. ValueFound bytes root minor tree path name key index a) (sym (at_is ∙ there)) (value_there bytes root minor tree path key found index name (subst (λ n. index < n) count less) (subst (λ a. IsNamedAt Value bytes a name) there named).1.1)
    where
      count : node.value_count ≡ value_count bytes key
      count = is.value_count ∙ ap (λ z. u32_at z 36) cell_is

      values : node.values ≡ value_list bytes key
      values = is.values ∙ ap (λ z. u32_at z 40) cell_is

      there : u32_at list (4 * index) ≡ value_offset bytes key index
      there = ap (λ z. u32_at z (4 * index)) (list_is ∙ ap (cell_data bytes) values)
