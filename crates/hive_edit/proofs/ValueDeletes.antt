-- A value that was found is taken from its key.
use Rattle.std.proofs.Common.{◌≡◌, ◌≢◌, inl, inr, ℕ, suc, ◌*◌, ◌≤◌, true, List, [], ◌∷◌, length, sym, ap, subst, ◌∙◌}
use Rattle.reg_names.specs.Names.{folded, folded_path}
use Rattle.reg_tree.specs.Maps.{TreeMap}
use Rattle.reg_tree.specs.Operations.{tree_after}
use Rattle.reg_tree.specs.declared.op.Op.TheVariants.{DeleteValue}
use Rattle.hive_tree_model.specs.Lists.{IsIn}
use Rattle.hive_cells.specs.Tiles.{Tiles, u32_at, cell_data}
use Rattle.hive_cells.specs.Bins.{Cells, Shows}
use Rattle.hive_records.specs.Numbers.{words_from}
use Rattle.hive_records.specs.Images.{BinsEncodeTree}
use Rattle.hive_edit_laws.specs.Found.{ValueFound, value_list}
use Rattle.hive_edit_laws.proofs.CellsShown.{shown_some}
use Rattle.hive_edit_laws.proofs.DataCells.{found_data}
use Rattle.hive_edit_laws.specs.Shifts.{without_at}
use Rattle.hive_edit_laws.specs.ValueEdits.{DropsValue}
use Rattle.hive_edit_laws.proofs.RowRevisions.{deleted_encodes}
use Rattle.hive_edit_laws.proofs.ValueRemovals.{removal}
use Rattle.hive_edit.specs.DataPlaces.{IsDataPlace, FreesCells}
use Rattle.hive_edit.specs.ValueLists.{ListLess, TakesFromList}
use Rattle.hive_edit.specs.declared.value_data.DataPlace.{DataPlace}
use Rattle.hive_edit.specs.SegmentCells.{data_cells_at}
use Rattle.hive_edit.proofs.DataFrees.{data_placed, places_kept}
use Rattle.hive_edit.proofs.ValueSets.{its_cells, once, there, key_there, at_there}

module _ (bytes : List ℕ) (root : ℕ) (tree : TreeMap) (path : List (List ℕ)) (name : List ℕ) (key index at : ℕ) (found : ValueFound bytes root 5 tree path (folded name) key index at) (tiles : Tiles bytes)
    (gone : List ℕ) (moment : ℕ) (mid after : Cells) (places_are : its_cells bytes root tree path name key index at found tiles ≡ gone) (less : ListLess found.in_key.cells mid key (cell_data bytes key) index moment) (last : (cell : ℕ) → (IsIn cell (at ∷ gone) → ⊥) → after cell ≡ mid cell) where
  in_data : (cell : ℕ) → IsIn cell (gone) → IsIn cell (its_cells bytes root tree path name key index at found tiles)
  in_data cell i = subst (λ (z : List ℕ). IsIn cell z) (sym places_are) i

  key_kept : IsIn key (at ∷ gone) → ⊥
  key_kept (inl e) = (once bytes root tree path name key index at found tiles).0 (inr (inl e))
  key_kept (inr i) = (once bytes root tree path name key index at found tiles).0 (inr (inr (in_data key i)))

  list_kept : IsIn (u32_at (cell_data bytes key) 40) (at ∷ gone) → ⊥
  list_kept (inl e) = (once bytes root tree path name key index at found tiles).1.0 (inl e)
  list_kept (inr i) = (once bytes root tree path name key index at found tiles).1.0 (inr (in_data (u32_at (cell_data bytes key) 40) i))

  some_left : u32_at less.new_node 36 ≢ 0 → less.count ≢ 0
  some_left some e = some ((less.put).count_is ∙ e)

  pub drops : DropsValue true found.in_key.cells after key at index moment
  drops = record {
    old_node = cell_data bytes key;
    old_is = key_there bytes root tree path name key index at found tiles;
    new_node = less.new_node;
    new_is = last key key_kept ∙ less.new_is;
    fields = (less.put).fields;
    time_is = (less.put).time_is;
    subkey_count = (less.put).subkey_count;
    subkeys = (less.put).subkeys;
    count = less.count_was ∙ ap suc (sym (less.put).count_is);
    old_list = less.old_list;
    old_list_is = less.old_list_is;
    new_list = less.new_list;
    new_list_is = λ some. ap after ((less.put).list_is ∙ less.list_same (some_left some)) ∙ last (u32_at (cell_data bytes key) 40) list_kept ∙ ap mid (sym (less.list_same (some_left some))) ∙ less.new_list_is (some_left some);
    long = λ some. subst (λ (n : ℕ). 4 * n ≤ length less.new_list) (sym (less.put).count_is) (less.long (some_left some));
    listed = ap (λ (n : ℕ). words_from less.new_list 0 4 n) (less.put).count_is ∙ less.listed ∙ ap (λ (n : ℕ). without_at index (words_from less.old_list 0 4 n)) (sym less.count_was);
    list_takes = λ some. inl ((less.put).list_is ∙ less.list_same (some_left some));
    old_record = cell_data bytes at;
    old_record_is = at_there bytes root tree path name key index at found tiles;
    stays = λ cell is no no_list no_at no_data. last cell (λ i. elim i [ inl e ↦ no_at e | inr h ↦ no_data (in_data cell h) ]) ∙ less.stays cell no no_list;
  }

module _ (bytes : List ℕ) (root : ℕ) (tree : TreeMap) (path : List (List ℕ)) (name : List ℕ) (key index at : ℕ) (found : ValueFound bytes root 5 tree path (folded name) key index at) (tiles : Tiles bytes) where
  -- the cells of the data, by their place
  places_of : (old : DataPlace) → IsDataPlace (cell_data bytes at) old → its_cells bytes root tree path name key index at found tiles ≡ data_cells_at bytes at old
  places_of old h = data_placed bytes found.in_key.cells found.in_key.shows at (its_cells bytes root tree path name key index at found tiles) [] (found.value).«data» (found_data bytes root 5 tree path (folded name) key index at found) old h

  module _ (mid_bytes : List ℕ) (mid : Cells) (shown : Shows mid_bytes mid) (stays : (cell : ℕ) → cell ≢ key → cell ≢ u32_at (cell_data bytes key) 40 → mid cell ≡ found.in_key.cells cell) where
    -- the record, and the cells of its data, have the data that they had
    same_data : (cell : ℕ) → IsIn cell (at ∷ its_cells bytes root tree path name key index at found tiles) → cell_data bytes cell ≡ cell_data mid_bytes cell
    same_data cell i = (shown_some mid_bytes mid shown cell (cell_data bytes cell)
        (stays cell (λ e. (once bytes root tree path name key index at found tiles).0 (subst (λ (z : ℕ). IsIn z (value_list bytes key ∷ at ∷ its_cells bytes root tree path name key index at found tiles)) e (inr i)))
        (λ e. (once bytes root tree path name key index at found tiles).1.0 (subst (λ (z : ℕ). IsIn z (at ∷ its_cells bytes root tree path name key index at found tiles)) e i))
        ∙ there bytes root tree path name key index at found tiles cell (inr (inr i)))).1

    pub places_now : (old : DataPlace) → IsDataPlace (cell_data bytes at) old → its_cells bytes root tree path name key index at found tiles ≡ data_cells_at mid_bytes at old
    places_now old h = places_kept bytes mid_bytes at (its_cells bytes root tree path name key index at found tiles) same_data old (places_of old h)

pub deleted_stands : (bytes mid new_bytes : List ℕ) (root hive : ℕ) (tree : TreeMap) (path : List (List ℕ)) (name : List ℕ) (key index at : ℕ) (old : DataPlace) (moment : ℕ) →
    Tiles bytes → Tiles new_bytes → IsDataPlace (cell_data bytes at) old → TakesFromList bytes mid key index moment → FreesCells mid new_bytes (at ∷ data_cells_at mid at old) →
    ValueFound bytes root 5 tree (folded_path path) (folded name) key index at → BinsEncodeTree new_bytes root 5 (tree_after tree (DeleteValue hive path name) moment)
deleted_stands bytes mid new_bytes root hive tree path name key index at old moment tiles new_tiles place takes freed found =
    let p = takes found.in_key.cells found.in_key.shows in
    let g = freed p.0 p.1 in
    deleted_encodes bytes new_bytes root 5 tree hive path name key moment found.in_key new_tiles g.0 g.1
    (removal bytes root 5 tree (folded_path path) name key index at moment found g.0
    (drops bytes root tree (folded_path path) name key index at found tiles (data_cells_at mid at old) moment p.0 g.0 (places_now bytes root tree (folded_path path) name key index at found tiles mid p.0 p.1 (p.2).stays old place) p.2 g.2))
