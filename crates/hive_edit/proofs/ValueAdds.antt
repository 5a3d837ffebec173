-- A value that is not there is added to a key that was found.
use Rattle.std.proofs.Common.{◌≡◌, ◌≢◌, ◌⊎◌, inl, inr, ℕ, ◌==◌, Bool, true, false, if◌then◌else◌, List, [], ◌∷◌, Option, None, Some, IsSome, is_some, refl, sym, ap, subst, ◌∙◌}
use Rattle.std.specs.FinMap as finite
use Rattle.reg_names.specs.Names.{folded, folded_path}
use Rattle.reg_tree_parts.specs.Rows.{Row}
use Rattle.reg_tree_parts.specs.declared.value.Value.{Value}
use Rattle.reg_tree.specs.Maps.{TreeMap, row}
use Rattle.reg_tree.specs.Operations.{tree_after}
use Rattle.reg_tree.specs.declared.op.Op.TheVariants.{SetValue}
use Rattle.hive_tree_model.specs.Lists.{IsIn}
use Rattle.hive_tree_model.proofs.Basics.{some_same, some_none, never}
use Rattle.hive_cells.specs.Tiles.{Tiles, u32_at, cell_data}
use Rattle.hive_cells.specs.Bins.{Cells}
use Rattle.hive_records.specs.Values.{value_at}
use Rattle.hive_records.specs.Images.{BinsEncodeTree}
use Rattle.hive_edit_laws.specs.Found.{KeyFound}
use Rattle.hive_edit_laws.specs.ValueEdits.{list_cells, AddsValue}
use Rattle.hive_edit_laws.proofs.CellsShown.{shown_here}
use Rattle.hive_edit_laws.proofs.EachSwaps.{same_reading}
use Rattle.hive_edit_laws.proofs.KeyPlaces.{none_there}
use Rattle.hive_edit_laws.proofs.KeySearch.{holds_node}
use Rattle.hive_edit_laws.proofs.RowRevisions.{row_found, set_encodes}
use Rattle.hive_edit_laws.proofs.ValueAdditions.{addition}
use Rattle.hive_edit_laws.proofs.ValueRecords.{local_value}
use Rattle.hive_edit_laws.proofs.ValueSearch.{list_there}
use Rattle.hive_edit.specs.Presences.{row_has_value}
use Rattle.hive_edit.specs.ValueLists.{ListMore, AddsToList}
use Rattle.hive_edit.specs.ValueRecords.{RecordIsAdded, AddsRecord}

-- what is in a node's list cells is the list of values that are there
list_within : (node : List ℕ) (cell : ℕ) → IsIn cell (list_cells node) → (u32_at node 36 ≢ 0) × (cell ≡ u32_at node 40)
list_within node cell i = go (u32_at node 36 == 0) refl i
  where
    go : (b : Bool) → (u32_at node 36 == 0) ≡ b → IsIn cell (if b then [] else u32_at node 40 ∷ []) → (u32_at node 36 ≢ 0) × (cell ≡ u32_at node 40)
    go true e i = absurd i
    go false e i = (λ q. never (sym e ∙ ap (λ (n : ℕ). n == 0) q), elim i [ inl h ↦ h | inr h ↦ absurd h ])

none_before : (mid before : Cells) (cell : ℕ) → (IsSome (before cell) → mid cell ≡ before cell) → mid cell ≡ None → before cell ≡ None
none_before mid before cell stays none = go (before cell) refl
  where
    go : (o : Option (List ℕ)) → before cell ≡ o → before cell ≡ None
    go None e = e
    go (Some x) e = some_none x (sym none ∙ stays (ap is_some e) ∙ e)

none_of : {A : Type 0} (o : Option A) → is_some o ≡ false → o ≡ None
none_of None e = refl
none_of (Some x) e = never (sym e)

module _ (bytes : List ℕ) (root : ℕ) (tree : TreeMap) (path : List (List ℕ)) (key index at : ℕ) (value : Value) (moment : ℕ) (found : KeyFound bytes root 5 tree path key) (mid after : Cells)
    (r : RecordIsAdded found.cells mid at value) (m : ListMore mid after key index at moment) where
  key_here : found.cells key ≡ Some (cell_data bytes key)
  key_here = shown_here bytes found.cells found.shows key (holds_node bytes root 5 tree path key found).0

  node_was : found.cells key ≡ Some m.node
  node_was = sym (r.stays key (ap is_some key_here)) ∙ m.node_is

  same_node : cell_data bytes key ≡ m.node
  same_node = some_same (cell_data bytes key) m.node (sym key_here ∙ node_was)

  list_is_there : u32_at m.node 36 ≢ 0 → IsSome (found.cells (u32_at m.node 40))
  list_is_there = subst (λ (z : List ℕ). u32_at z 36 ≢ 0 → IsSome (found.cells (u32_at z 40))) same_node
      (λ some. ap is_some (shown_here bytes found.cells found.shows (u32_at (cell_data bytes key) 40) (list_there bytes root 5 tree path key found some).0))

  listed_there : (cell : ℕ) → IsIn cell (list_cells m.node) → IsSome (found.cells cell)
  listed_there cell i = let w = list_within m.node cell i in subst (λ (z : ℕ). IsSome (found.cells z)) (sym w.1) (list_is_there w.0)

  own_not_key : (cell : ℕ) → IsIn cell r.own → cell ≢ key
  own_not_key cell i e = some_none _ (sym (r.fresh cell i) ∙ ap found.cells e ∙ key_here)

  own_not_list : (cell : ℕ) → IsIn cell r.own → IsIn cell (list_cells m.node) → ⊥
  own_not_list cell i j = none_there (found.cells cell) (listed_there cell j) (r.fresh cell i)

  list_new : IsIn m.list (list_cells m.node) ⊎ (found.cells m.list ≡ None)
  list_new = elim m.takes [ inl h ↦ inl h | inr h ↦ inr (none_before mid found.cells m.list (r.stays m.list) h) ]

  list_not_own : IsIn m.list r.own → ⊥
  list_not_own i = elim m.takes [ inl h ↦ own_not_list m.list i h | inr h ↦ none_there (mid m.list) (r.there m.list i) h ]

  pub adds : AddsValue true found.cells after key at index value moment
  adds = record {
    old_node = m.node;
    old_is = node_was;
    new_node = m.new_node;
    new_is = m.new_is;
    fields = (m.put).fields;
    time_is = (m.put).time_is;
    subkey_count = (m.put).subkey_count;
    subkeys = (m.put).subkeys;
    count = (m.put).count_is;
    old_list = m.old_list;
    old_list_is = λ some. sym (r.stays (u32_at m.node 40) (list_is_there some)) ∙ m.old_list_is some;
    new_list = m.new_list;
    new_list_is = ap after (m.put).list_is ∙ m.new_list_is;
    long = m.long;
    listed = m.listed;
    list_takes = subst (λ (z : ℕ). IsIn z (list_cells m.node) ⊎ (found.cells z ≡ None)) (sym (m.put).list_is) list_new;
    own = r.own;
    reads = same_reading (value_at true at) (local_value true at) mid after r.own [] value r.reads (λ cell i. m.stays cell (r.there cell i) (own_not_key cell i) (own_not_list cell i)) (λ cell i. absurd i);
    once = r.once;
    fresh = r.fresh;
    apart = λ i. list_not_own (subst (λ (z : ℕ). IsIn z r.own) (m.put).list_is i);
    stays = λ cell is no no_list. m.stays cell (ap is_some (r.stays cell is) ∙ is) no no_list ∙ r.stays cell is;
  }

pub added_stands : (bytes mid new_bytes : List ℕ) (root hive : ℕ) (tree : TreeMap) (path : List (List ℕ)) (name : List ℕ) (key index at kind : ℕ) (text : List ℕ) (moment : ℕ) → Tiles new_bytes → KeyFound bytes root 5 tree (folded_path path) key →
    row_has_value (row tree (folded_path path)) name ≡ false → AddsRecord bytes mid (record { name = name; kind = kind; «data» = text }) at → AddsToList mid new_bytes key index at moment → BinsEncodeTree new_bytes root 5 (tree_after tree (SetValue hive path name kind text) moment)
added_stands bytes mid new_bytes root hive tree path name key index at kind text moment tiles found absent puts lists =
    let p = puts found.cells found.shows in
    let q = lists p.0 p.1 in
    let none = none_of (finite.get found.place.parts.row.values (folded name)) (subst (λ (o : Option Row). row_has_value o name ≡ false) (row_found bytes root 5 tree (folded_path path) key found) absent) in
    set_encodes bytes new_bytes root 5 tree hive path name kind text key moment found tiles q.0 q.1
    (addition bytes root 5 tree (folded_path path) name key at index kind text moment found q.0 none
    (adds bytes root tree (folded_path path) key index at (record { name = name; kind = kind; «data» = text }) moment found p.0 q.0 p.2 q.2))
