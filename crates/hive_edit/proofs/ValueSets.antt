-- A value that was found gets a type and data.
use Rattle.std.proofs.Common.{◌≡◌, ◌≢◌, ◌⊎◌, inl, inr, ℕ, Bool, true, false, List, [], ◌∷◌, None, Some, is_some, refl, sym, ap, subst, ◌∙◌, arith}
use Rattle.reg_names.specs.Names.{folded, folded_path}
use Rattle.reg_tree.specs.Maps.{TreeMap}
use Rattle.reg_tree.specs.Operations.{tree_after}
use Rattle.reg_tree.specs.declared.op.Op.TheVariants.{SetValue}
use Rattle.hive_tree_model.specs.Lists.{IsIn, Once}
use Rattle.hive_tree_model.proofs.Basics.{some_none}
use Rattle.hive_cells.specs.Tiles.{Tiles, u32_at, cell_data}
use Rattle.hive_cells.specs.Bins.{Cells, Shows}
use Rattle.hive_records.specs.Numbers.{words_from}
use Rattle.hive_records.specs.Values.{segments_of}
use Rattle.hive_edit.specs.SegmentCells.{segment_cells}
use Rattle.hive_records.specs.Images.{BinsEncodeTree}
use Rattle.hive_edit_laws.proofs.KeyPlaces.{none_there}
use Rattle.hive_edit_laws.specs.Found.{ValueFound, value_list}
use Rattle.hive_edit_laws.specs.RecordEdits.{NodeTimeChanges, ValueFieldsChange}
use Rattle.hive_edit_laws.specs.ValueEdits.{data_cells, ValueChanges}
use Rattle.hive_edit_laws.proofs.CellWrites.{data_long, fields_over}
use Rattle.hive_edit_laws.proofs.CellsShown.{shown_here, shown_some}
use Rattle.hive_edit_laws.proofs.DataCells.{found_data, found_once, found_there, none_outside, none_empty, one_cell, many_cells}
use Rattle.hive_edit_laws.proofs.OneValue.{value_changes}
use Rattle.hive_edit_laws.proofs.RowRevisions.{set_encodes}
use Rattle.hive_savepoint.specs.Puts.{HasData}
use Rattle.hive_edit.specs.DataPlaces.{IsDataPlace, DataIsPut, PutsData, PutsFields, FreesCells, RecordIsPut, place_cells, freed_cells}
use Rattle.hive_edit.specs.declared.value_data.DataPlace.{DataPlace}
use Rattle.hive_edit.specs.declared.value_data.DataPlace.TheVariants.{InRecord, InCell, InSegments}
use Rattle.hive_edit.specs.declared.value_data.NewData.{NewData}

-- what is freed was a cell of the old data
freed_within : (bytes : List ℕ) (old : DataPlace) (in_place : Bool) (cell : ℕ) → IsIn cell (freed_cells bytes old in_place) → IsIn cell (place_cells bytes old)
freed_within bytes old true cell i = absurd i
freed_within bytes old false cell i = i

-- the cells of the data are the same while the db and its list are
place_now : (bytes now_bytes its_cells : List ℕ) (place : DataPlace) → its_cells ≡ place_cells bytes place → ((cell : ℕ) → IsIn cell its_cells → cell_data now_bytes cell ≡ cell_data bytes cell) → place_cells now_bytes place ≡ place_cells bytes place
place_now bytes now_bytes its_cells InRecord are same = refl
place_now bytes now_bytes its_cells (InCell to room) are same = refl
place_now bytes now_bytes its_cells (InSegments db size) are same =
    let list = u32_at (cell_data bytes db) 4 in
    ap (λ (z : List ℕ). db ∷ u32_at z 4 ∷ words_from (cell_data now_bytes (u32_at z 4)) 0 4 (segments_of size)) (same db (subst (IsIn db) (sym are) (inl refl)))
    ∙ ap (λ (z : List ℕ). db ∷ list ∷ words_from z 0 4 (segments_of size)) (same list (subst (IsIn list) (sym are) (inr (inl refl))))

none_some : {A : Type 0} (o : _) (x : A) → o ≡ None → o ≡ Some x → ⊥
none_some o x e f = some_none x (sym e ∙ f)

module _ (bytes : List ℕ) (root : ℕ) (tree : TreeMap) (path : List (List ℕ)) (name : List ℕ) (key index at : ℕ) (found : ValueFound bytes root 5 tree path (folded name) key index at) (tiles : Tiles bytes) where
  abbrev pub before : Cells
  before = found.in_key.cells

  abbrev pub its_cells : List ℕ
  its_cells = data_cells true before (cell_data bytes at)

  pub once : Once (key ∷ value_list bytes key ∷ at ∷ its_cells)
  once = found_once bytes root 5 tree path (folded name) key index at found

  pub there : (cell : ℕ) → IsIn cell (key ∷ value_list bytes key ∷ at ∷ its_cells) → before cell ≡ Some (cell_data bytes cell)
  there cell i = shown_here bytes before found.in_key.shows cell (found_there bytes root 5 tree path (folded name) key index at found cell i)

  pub key_there : before key ≡ Some (cell_data bytes key)
  key_there = there key (inl refl)

  pub at_there : before at ≡ Some (cell_data bytes at)
  at_there = there at (inr (inr (inl refl)))

  apart : key ≢ at
  apart e = once.0 (inr (inl e))

  -- the cells of the data, by their place
  pub places : (old : DataPlace) → IsDataPlace (cell_data bytes at) old → its_cells ≡ place_cells bytes old
  places InRecord (inl h) = none_outside true bytes before found.in_key.shows (cell_data bytes at) its_cells [] (found.value).«data» (found_data bytes root 5 tree path (folded name) key index at found) h
  places InRecord (inr h) = none_empty true bytes before found.in_key.shows (cell_data bytes at) its_cells [] (found.value).«data» (found_data bytes root 5 tree path (folded name) key index at found) h
  places (InCell to room) h = one_cell true bytes before found.in_key.shows (cell_data bytes at) its_cells [] (found.value).«data» (found_data bytes root 5 tree path (folded name) key index at found) h.1 h.0 (λ _. h.2) ∙ ap (λ z. z ∷ []) h.3
  places (InSegments db size) h = many_cells true bytes before found.in_key.shows (cell_data bytes at) its_cells [] (found.value).«data» (found_data bytes root 5 tree path (folded name) key index at found) refl h.1 h.0 ∙ (λ i. segment_cells bytes (h.2 i) (h.3 i))

  module _ (old : DataPlace) (new : NewData) (text : List ℕ) (kind moment : ℕ) (places_are : its_cells ≡ place_cells bytes old) (long : HasData bytes at 20) (mid : Cells) (put : DataIsPut before mid (place_cells bytes old) new text) where
    in_old : (cell : ℕ) → IsIn cell (place_cells bytes old) → IsIn cell its_cells
    in_old cell i = subst (λ (z : List ℕ). IsIn cell z) (sym places_are) i

    takes : (cell : ℕ) → IsIn cell put.own → IsIn cell its_cells ⊎ (before cell ≡ None)
    takes cell i = elim (put.takes cell i) [ inl h ↦ inl (in_old cell h) | inr h ↦ inr h ]

    key_not_own : IsIn key put.own → ⊥
    key_not_own i = elim (takes key i) [ inl h ↦ once.0 (inr (inr h)) | inr h ↦ none_some (before key) (cell_data bytes key) h key_there ]

    at_not_own : IsIn at put.own → ⊥
    at_not_own i = elim (takes at i) [ inl h ↦ once.1.1.0 h | inr h ↦ none_some (before at) (cell_data bytes at) h at_there ]

    mid_key : mid key ≡ Some (cell_data bytes key)
    mid_key = put.stays key (ap is_some key_there) key_not_own ∙ key_there

    mid_at : mid at ≡ Some (cell_data bytes at)
    mid_at = put.stays at (ap is_some at_there) at_not_own ∙ at_there

    not_freed : (cell : ℕ) → IsIn cell (freed_cells bytes old new.in_place) → IsIn cell its_cells
    not_freed cell i = in_old cell (freed_within bytes old new.in_place cell i)

    -- the cells that are freed, when the record no longer names them
    module _ (then_bytes : List ℕ) (then : Cells) (shown : Shows then_bytes then) (others : (cell : ℕ) → cell ≢ key → cell ≢ at → then cell ≡ mid cell) where
      old_stays : new.in_place ≡ false → (cell : ℕ) → IsIn cell its_cells → cell_data then_bytes cell ≡ cell_data bytes cell
      old_stays moved cell i =
          let is = there cell (inr (inr (inr i))) in
          sym (shown_some then_bytes then shown cell (cell_data bytes cell)
          (others cell (λ e. once.0 (inr (inr (subst (λ (z : ℕ). IsIn z its_cells) e i)))) (λ e. once.1.1.0 (subst (λ (z : ℕ). IsIn z its_cells) e i))
          ∙ put.stays cell (ap is_some is) (λ j. none_some (before cell) (cell_data bytes cell) (put.moved moved cell j) is) ∙ is)).1

      pub freed_now : (b : Bool) → new.in_place ≡ b → freed_cells then_bytes old b ≡ freed_cells bytes old b
      freed_now true e = refl
      freed_now false e = place_now bytes then_bytes its_cells old places_are (old_stays e)

    own_kept : (b : Bool) → new.in_place ≡ b → (cell : ℕ) → IsIn cell put.own → IsIn cell (freed_cells bytes old b) → ⊥
    own_kept true e cell i j = j
    own_kept false e cell i j = none_some (before cell) (cell_data bytes cell) (put.moved e cell i) (there cell (inr (inr (inr (in_old cell j)))))

    module _ (then after : Cells) (others : (cell : ℕ) → cell ≢ key → cell ≢ at → then cell ≡ mid cell) (fields : List ℕ) (fields_are : then at ≡ Some fields) (said : RecordIsPut new kind (cell_data bytes at) fields)
        (node : List ℕ) (node_is : then key ≡ Some node) (stamped : NodeTimeChanges (cell_data bytes key) node moment) (last : (cell : ℕ) → (IsIn cell (freed_cells bytes old new.in_place) → ⊥) → after cell ≡ then cell) where
      own_same : (cell : ℕ) → IsIn cell put.own → after cell ≡ mid cell
      own_same cell i = last cell (own_kept new.in_place refl cell i) ∙ others cell (λ e. key_not_own (subst (λ z. IsIn z put.own) e i)) (λ e. at_not_own (subst (λ z. IsIn z put.own) e i))

      pub changes : ValueChanges true before after key at kind text moment
      changes = record {
        old_node = cell_data bytes key;
        old_node_is = key_there;
        new_node = node;
        new_node_is = last key (λ i. once.0 (inr (inr (not_freed key i)))) ∙ node_is;
        node_fields = stamped;
        old_record = cell_data bytes at;
        old_record_is = at_there;
        new_record = fields;
        new_record_is = last at (λ i. once.1.1.0 (not_freed at i)) ∙ fields_are;
        record_fields = subst (λ k. ValueFieldsChange (cell_data bytes at) fields k) (said.1).kind_is (fields_over (cell_data bytes at) fields said.0 said.2 (said.1).len).0;
        own = put.own;
        reads = put.reads after kind (cell_data bytes at) fields own_same (let l = data_long bytes at tiles long.0 in omega (arith, l, long.1)) said;
        once = put.once;
        takes = takes;
        stays = λ cell is no no_at no_data. last cell (λ i. no_data (not_freed cell i)) ∙ others cell no no_at ∙ put.stays cell is (λ i. elim (takes cell i) [ inl h ↦ no_data h | inr h ↦ none_there (before cell) is h ]);
      }

pub set_stands : (bytes mid then new_bytes : List ℕ) (root hive : ℕ) (tree : TreeMap) (path : List (List ℕ)) (name : List ℕ) (key index at : ℕ) (old : DataPlace) (new : NewData) (text : List ℕ) (kind moment : ℕ) →
    Tiles bytes → Tiles new_bytes → HasData bytes at 20 → IsDataPlace (cell_data bytes at) old →
    PutsData bytes mid (place_cells bytes old) text new → PutsFields mid then key at new kind moment → FreesCells then new_bytes (freed_cells then old new.in_place) →
    ValueFound bytes root 5 tree (folded_path path) (folded name) key index at → BinsEncodeTree new_bytes root 5 (tree_after tree (SetValue hive path name kind text) moment)
set_stands bytes mid then new_bytes root hive tree path name key index at old new text kind moment tiles new_tiles long place put fields freed found =
    let cells = found.in_key.cells in
    let shows = found.in_key.shows in
    let p = put cells shows in
    let where_are = places bytes root tree (folded_path path) name key index at found tiles old place in
    let f = fields (apart bytes root tree (folded_path path) name key index at found tiles) p.0 p.1 in
    let says = f.3 (cell_data bytes at) (mid_at bytes root tree (folded_path path) name key index at found tiles old new text kind moment where_are long p.0 p.2) in
    let node = f.4 (cell_data bytes key) (mid_key bytes root tree (folded_path path) name key index at found tiles old new text kind moment where_are long p.0 p.2) in
    let g = freed f.0 f.1 in
    let same = freed_now bytes root tree (folded_path path) name key index at found tiles old new text kind moment where_are long p.0 p.2 then f.0 f.1 f.2 new.in_place refl in
    set_encodes bytes new_bytes root 5 tree hive path name kind text key moment found.in_key new_tiles g.0 g.1
    (value_changes bytes root 5 tree (folded_path path) name key index at kind text moment found g.0
    (changes bytes root tree (folded_path path) name key index at found tiles old new text kind moment where_are long p.0 p.2 f.0 g.0 f.2 says.0 says.1 says.2 node.0 node.1 node.2 (λ cell no. g.2 cell (λ i. no (subst (IsIn cell) same i)))))
