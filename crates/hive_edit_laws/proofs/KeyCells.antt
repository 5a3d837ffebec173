-- The cells of a key that was found, kind by kind.
use Rattle.std.proofs.Common.{◌≡◌, inl, inr, ℕ, ◌==◌, List, [], ◌∷◌, ◌++◌, flat_map, refl, ◌∙◌, ap, sym, Bool, if◌then◌else◌, Some, None, Option, IsSome}
use Rattle.reg_tree_parts.specs.declared.value.Value.{Value}
use Rattle.reg_tree_parts.specs.Rows.{ValueMap}
use Rattle.reg_tree.specs.Maps.{TreeMap}
use Rattle.hive_tree_model.specs.Lists.{IsIn, Once}
use Rattle.hive_tree_model.specs.Keys.{own_cells}
use Rattle.hive_tree_model.proofs.Basics.{yes_if, no_if, in_front, in_back, once_front}
use Rattle.hive_cells.specs.Tiles.{u32_at, IsAllocatedCell, cell_data}
use Rattle.hive_cells.specs.Bins.{Cells, Shows}
use Rattle.hive_records.specs.Readers.{Read, each}
use Rattle.hive_records.specs.Numbers.{nil_offset, u16_at, words_from}
use Rattle.hive_records.specs.Names.{has_flag}
use Rattle.hive_records.specs.Heads.{key_name_bytes}
use Rattle.hive_records.specs.Values.{value_at, values_at}
use Rattle.hive_records.specs.KeyNodes.{class_at, descriptor_at, trail_in}
use Rattle.hive_records.specs.Fields.{Gives}
use Rattle.hive_records.specs.Images.{splits}
use Rattle.hive_records.proofs.Keys.{keys_there, keys_trail}
use Rattle.hive_edit_laws.specs.ValueEdits.{value_cells, data_cells, list_cells}
use Rattle.hive_edit_laws.specs.SubkeyLists.{subkey_cells}
use Rattle.hive_edit_laws.specs.KeyCells.{class_cells, record_cells}
use Rattle.hive_edit_laws.specs.Found.{KeyFound, value_count, value_list}
use Rattle.hive_edit_laws.proofs.ReaderSteps.{lent_of, rule_of, choice_of, done_of}
use Rattle.hive_edit_laws.proofs.KeyPlaces.{none_there}
use Rattle.hive_edit_laws.proofs.EachSwaps.{steps_of as each_steps_of}
use Rattle.hive_edit_laws.proofs.EachParts.{none_are}
use Rattle.hive_edit_laws.proofs.CellsShown.{shown_some, shown_here}
use Rattle.hive_edit_laws.proofs.ValueRecords.{name_nothing, local_value}
use Rattle.hive_edit_laws.proofs.ValuesRead.{ValuesRead, values_of}
use Rattle.hive_edit_laws.proofs.DataCells.{value_parts, prefix_own}
use Rattle.hive_edit_laws.proofs.KeySteps.{Steps}
use Rattle.hive_edit_laws.proofs.KeySearch.{values_read}
use Rattle.hive_edit_laws.proofs.ValueSearch.{list_there}
use Rattle.hive_edit_laws.proofs.RowRevisions.{whole_found, read_found, steps_found, lent_apart}

class_own : (cells : Cells) (size at : ℕ) (own lent its : List ℕ) → Gives (class_at size at) cells own lent its → own ≡ (if size == 0 then [] else at ∷ [])
class_own cells size at own lent its h = elim (choice_of (size == 0) _ _ cells own lent its h) [
  | inl g ↦ (done_of [] cells own lent its g.1).0 ∙ sym (yes_if (size == 0) [] (at ∷ []) g.0)
  | inr g ↦ prefix_own cells size at own lent its g.1 ∙ sym (no_if (size == 0) [] (at ∷ []) g.0)
]

descriptor_own : (cells : Cells) (at : ℕ) (own lent its : List ℕ) → Gives (descriptor_at at) cells own lent its → own ≡ []
descriptor_own cells at own lent its h = elim (choice_of (at == nil_offset) _ _ cells own lent its h) [
  | inl g ↦ (done_of [] cells own lent its g.1).0
  | inr g ↦
      let l = lent_of at _ cells own lent its g.1 in
      let a = rule_of _ _ _ cells own l.lent_next its l.next in
      let b = rule_of _ _ _ cells own l.lent_next its a.1 in
      (done_of _ cells own l.lent_next its b.1).0
]

module _ (split : Bool) (bytes : List ℕ) (cells : Cells) (shows : Shows bytes cells) where
  each_own : (offsets : List ℕ) (own lent : List ℕ) (values : List Value) → Gives (each (value_at split) offsets) cells own lent values → own ≡ flat_map (λ (at : ℕ). record_cells split bytes cells at) offsets
  each_own [] own lent values h = (none_are (value_at split) cells own lent values h).0
  each_own (at ∷ offsets) own lent values h =
      let s = each_steps_of (value_at split) (local_value split) cells cells at offsets own lent values h in
      let v = value_parts split at cells s.own_first s.lent_first s.y s.one in
      let is : v.bytes ≡ cell_data bytes at = (shown_some bytes cells shows at v.bytes v.here).1 in
      s.own_is ∙ (λ i. (v.own_is ∙ ap (λ (z : List ℕ). at ∷ data_cells split cells z) is) i ++ each_own offsets s.own_next s.lent_next s.zs s.others i)

module _ (bytes : List ℕ) (root minor : ℕ) (tree : TreeMap) (path : List (List ℕ)) (at : ℕ) (f : KeyFound bytes root minor tree path at) where
  pub own_kinds : f.place.parts.own ≡ at ∷ (class_cells (cell_data bytes at) ++ (value_cells (splits minor) f.cells (cell_data bytes at) ++ subkey_cells f.cells (cell_data bytes at)))
  own_kinds = by (steps_found bytes root minor tree path at f)
    where
      by : Steps (splits minor) at f.cells f.place.parts → f.place.parts.own ≡ at ∷ (class_cells (cell_data bytes at) ++ (value_cells (splits minor) f.cells (cell_data bytes at) ++ subkey_cells f.cells (cell_data bytes at)))
      by s =
          let is : s.node ≡ cell_data bytes at = (shown_some bytes f.cells f.shows at s.node s.here).1 in
          let no_name : s.na ≡ [] = (name_nothing (has_flag 0x20 (u16_at s.node 2)) (key_name_bytes s.node) f.cells s.na s.nl (f.place.parts.row).name s.named).0 in
          let class_is : s.co ≡ class_cells (cell_data bytes at) = class_own f.cells (u16_at s.node 74) (u32_at s.node 48) s.co s.cl (f.place.parts.row).class s.classed ∙ ap class_cells is in
          let no_descriptor : s.eo ≡ [] = descriptor_own f.cells (u32_at s.node 44) s.eo s.dl (f.place.parts.row).descriptor s.described in
          let values_are : s.vo ≡ value_cells (splits minor) f.cells (cell_data bytes at) = sym (ap (λ (z : Read ValueMap). z.own) (s.valued).reads) ∙ ap (value_cells (splits minor) f.cells) is in
          let lists_are : s.ko ≡ subkey_cells f.cells (cell_data bytes at) = sym (ap (λ (z : Read (List ℕ)). z.own) (s.listed).reads) ∙ ap (subkey_cells f.cells) is in
          s.own_is ∙ (λ i. at ∷ (no_name i ++ (class_is i ++ (no_descriptor i ++ (values_are i ++ lists_are i)))))

  pub own_values : value_cells (splits minor) f.cells (cell_data bytes at) ≡ list_cells (cell_data bytes at) ++ flat_map (λ (offset : ℕ). record_cells (splits minor) bytes f.cells offset) (words_from (cell_data bytes (value_list bytes at)) 0 4 (value_count bytes at))
  own_values = by (values_read bytes root minor tree path at f)
    where
      by : (own : List ℕ) × Gives (values_at (splits minor) (value_count bytes at) (value_list bytes at)) f.cells own [] f.place.parts.row.values → value_cells (splits minor) f.cells (cell_data bytes at) ≡ list_cells (cell_data bytes at) ++ flat_map (λ (offset : ℕ). record_cells (splits minor) bytes f.cells offset) (words_from (cell_data bytes (value_list bytes at)) 0 4 (value_count bytes at))
      by v =
          let r : ValuesRead (splits minor) f.cells (value_count bytes at) (value_list bytes at) (cell_data bytes (value_list bytes at)) v.0 [] f.place.parts.row.values =
          values_of (splits minor) f.cells (value_count bytes at) (value_list bytes at) (cell_data bytes (value_list bytes at)) v.0 [] f.place.parts.row.values (λ some. shown_here bytes f.cells f.shows (value_list bytes at) (list_there bytes root minor tree path at f some).0) v.1 in
          ap (λ (z : Read ValueMap). z.own) (v.1).reads ∙ r.own_is
          ∙ ap (λ (z : List ℕ). list_cells (cell_data bytes at) ++ z) (each_own (splits minor) bytes f.cells f.shows (words_from (cell_data bytes (value_list bytes at)) 0 4 (value_count bytes at)) r.its_own r.its_lent r.its r.reads)

  pub own_trail : trail_in (splits minor) f.cells at ≡ f.place.parts.own
  own_trail = keys_trail (splits minor) f.cells at f.place.parts (read_found bytes root minor tree path at f)

  pub own_once : Once f.place.parts.own
  own_once = once_front f.place.parts.own (own_cells f.place.below) (whole_found bytes root minor tree path at f).once

  allocated : (cell : ℕ) → IsSome (f.cells cell) → IsAllocatedCell bytes cell
  allocated cell some = go (f.cells cell) refl some
    where
      go : (o : Option (List ℕ)) → f.cells cell ≡ o → IsSome o → IsAllocatedCell bytes cell
      go (Some its) e is = (shown_some bytes f.cells f.shows cell its e).0
      go None e is = absurd (none_there {A = List ℕ} None is refl)

  pub own_there : (cell : ℕ) → IsIn cell f.place.parts.own → IsAllocatedCell bytes cell
  own_there cell i = allocated cell (keys_there (splits minor) f.cells at f.place.parts (read_found bytes root minor tree path at f) cell (in_front cell f.place.parts.own f.place.parts.lent i))

  pub lent_there : (cell : ℕ) → IsIn cell f.place.parts.lent → IsAllocatedCell bytes cell × (IsIn cell f.place.parts.own → ⊥)
  lent_there cell i = (allocated cell (keys_there (splits minor) f.cells at f.place.parts (read_found bytes root minor tree path at f) cell (in_back cell f.place.parts.own f.place.parts.lent i)), lent_apart bytes root minor tree path at f cell i)
