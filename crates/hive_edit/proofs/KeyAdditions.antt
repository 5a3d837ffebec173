-- A key is created: its node, then its place in its parent's list, then what the parent's node says.
use Rattle.std.proofs.Common.{◌≡◌, ◌≢◌, inl, inr, ℕ, suc, ◌<◌, ◌^◌, is_some, true, List, [], ◌∷◌, ◌++◌, length, replicate, None, Some, IsSome, refl, sym, ap, subst, ◌∙◌, arith}
use Rattle.std.proofs.lemmas.Bool.Decides.{eqb_tells}
use Rattle.reg_names.specs.Names.{folded, folded_path}
use Rattle.reg_tree_parts.specs.NewRows.{new_row}
use Rattle.reg_tree.specs.Maps.{TreeMap, row}
use Rattle.reg_tree.specs.Operations.{tree_after}
use Rattle.reg_tree.specs.declared.op.Op.TheVariants.{CreateKey}
use Rattle.hive_tree_model.specs.Lists.{IsIn}
use Rattle.hive_tree_model.specs.Keys.{offsets}
use Rattle.hive_tree_model.proofs.Basics.{in_front}
use Rattle.hive_cells.specs.Tiles.{Tiles, u32_at, cell_data}
use Rattle.hive_cells.specs.Bins.{Cells, Shows}
use Rattle.hive_records.specs.Readers.{Read}
use Rattle.hive_records.specs.Fields.{Gives}
use Rattle.hive_records.specs.NameEncodings.{name_bytes}
use Rattle.hive_records.specs.KeyEncodings.{RowFits, KeyNodeFieldsFit, node_bytes}
use Rattle.hive_records.specs.Images.{BinsEncodeTree}
use Rattle.hive_records.specs.Lists.{subkeys_at}
use Rattle.hive_records.proofs.Keys.{keys_there, local_subkeys}
use Rattle.hive_edit_laws.specs.Found.{KeyFound}
use Rattle.hive_edit_laws.specs.SubkeyLists.{subkey_cells}
use Rattle.hive_edit_laws.proofs.CellsShown.{shown_here}
use Rattle.hive_edit_laws.proofs.EachSwaps.{same_reading}
use Rattle.hive_edit_laws.proofs.KeyPlaces.{none_there}
use Rattle.hive_edit_laws.proofs.KeySearch.{subkeys_read}
use Rattle.hive_edit_laws.proofs.RowRevisions.{read_found}
use Rattle.hive_savepoint.specs.Puts.{ChangesCell, AddsCell}
use Rattle.hive_edit.specs.SubkeyPlaces.{IsListOfKey, NodeGetsList, ListGrown, GrowsList, IsNewName, new_fields}
use Rattle.hive_edit.specs.declared.key_lists.KeyList.{KeyList}
use Rattle.hive_edit.proofs.KeyDeletions.{lists_once}
use Rattle.hive_edit.proofs.KeyCreations.{created, lists_own}

not_empty : (name : List ℕ) → 0 < length name → folded name ≢ []
not_empty [] some e = absurd (omega (arith, some))
not_empty (u ∷ us) some e = absurd (by (ap length e))
  where
    by : suc (length (folded us)) ≡ 0 → ⊥
    by h = omega (arith, h)

pub row_fits : (name descriptor : List ℕ) (moment : ℕ) → IsNewName name → length (name_bytes name) < 2 ^ 16 → moment < 2 ^ 64 → RowFits (new_row name descriptor moment)
row_fits name descriptor moment is short late = record {
  units = is.units;
  no_backslash = is.no_backslash;
  name = short;
  class = omega arith;
  flags = omega arith;
  not_spelling = refl;
  not_predefined = refl;
  time = late;
}

module _ (bytes : List ℕ) (root hive : ℕ) (tree : TreeMap) (front : List (List ℕ)) (name : List ℕ) (home : ℕ) (f : KeyFound bytes root 5 tree (folded_path front) home) (absent : row tree (folded_path front ++ folded name ∷ []) ≡ None) (moment : ℕ) (is : IsNewName name) (short : length (name_bytes name) < 2 ^ 16) (late : moment < 2 ^ 64)
    (list : KeyList) (of_key : IsListOfKey bytes home list) (security : ℕ) (security_is : security ≡ u32_at (cell_data bytes home) 44) (fits : KeyNodeFieldsFit (new_fields home security)) (text : List ℕ) (text_is : text ≡ node_bytes name 0 moment 0 (new_fields home security)) (mid grown new_bytes : List ℕ) (new_tiles : Tiles new_bytes) (at made count : ℕ) (count_is : count ≡ suc list.count)
    (insert : AddsCell bytes mid at text) (grow : GrowsList mid grown list at made) (put : ChangesCell grown new_bytes home (λ its now. NodeGetsList its now count made moment)) where
  r : (own : List ℕ) × Gives (subkeys_at (u32_at (cell_data bytes home) 20) (u32_at (cell_data bytes home) 28)) f.cells own [] (offsets f.place.below)
  r = subkeys_read bytes root 5 tree (folded_path front) home f

  abbrev own : List ℕ
  own = subkey_cells f.cells (cell_data bytes home)

  reads : Gives (subkeys_at list.count list.at) f.cells own [] (offsets f.place.below)
  reads = subst (λ (z : List ℕ). Gives (subkeys_at list.count list.at) f.cells z [] (offsets f.place.below)) (sym (ap (λ (z : Read (List ℕ)). z.own) (r.1).reads))
      (subst (λ (z : ℕ). Gives (subkeys_at z list.at) f.cells r.0 [] (offsets f.place.below)) (sym of_key.count_is)
      (subst (λ (z : ℕ). Gives (subkeys_at (u32_at (cell_data bytes home) 20) z) f.cells r.0 [] (offsets f.place.below)) (sym of_key.at_is) r.1))

  home_here : f.cells home ≡ Some (cell_data bytes home)
  home_here = shown_here bytes f.cells f.shows home of_key.long.0

  home_apart : IsIn home own → ⊥
  home_apart = (lists_once bytes root 5 tree (folded_path front) home f).0

  own_some : (cell : ℕ) → IsIn cell own → IsSome (f.cells cell)
  own_some cell i = keys_there true f.cells home f.place.parts (read_found bytes root 5 tree (folded_path front) home f) cell (in_front cell f.place.parts.own f.place.parts.lent (lists_own bytes root tree (folded_path front) home f cell i))

  -- the node is there
  module _ (fresh : f.cells at ≡ None) (one : Cells) (others : (cell : ℕ) → cell ≢ at → one cell ≡ f.cells cell) (node_text : List ℕ) (node_is : one at ≡ Some node_text) where
    apart_at : (cell : ℕ) → IsSome (f.cells cell) → cell ≢ at
    apart_at cell some e = none_there (f.cells cell) some (ap f.cells e ∙ fresh)

    kept : (cell : ℕ) → IsSome (f.cells cell) → one cell ≡ f.cells cell
    kept cell some = others cell (apart_at cell some)

    kept_some : (cell : ℕ) → IsSome (f.cells cell) → IsSome (one cell)
    kept_some cell some = subst (λ z. IsSome z) (sym (kept cell some)) some

    reads_one : Gives (subkeys_at list.count list.at) one own [] (offsets f.place.below)
    reads_one = same_reading (subkeys_at list.count list.at) (local_subkeys list.count list.at) f.cells one own [] (offsets f.place.below) reads (λ cell i. kept cell (own_some cell i)) (λ cell i. absurd i)

    none_before : (cell : ℕ) → one cell ≡ None → f.cells cell ≡ None
    none_before cell e = elim (eqb_tells cell at) [
      | inl k ↦ ap f.cells k.1 ∙ fresh
      | inr k ↦ sym (others cell k.1) ∙ e
    ]

    at_not_own : IsIn at own → ⊥
    at_not_own i = apart_at at (own_some at i) refl

    home_some : IsSome (f.cells home)
    home_some = ap is_some home_here

    -- the list has it
    module _ (two : Cells) (g : ListGrown one two list.count list.at made at own (offsets f.place.below)) where
      home_two : two home ≡ Some (cell_data bytes home)
      home_two = g.stays home (kept_some home home_some) home_apart ∙ kept home home_some ∙ home_here

      at_two : two at ≡ Some node_text
      at_two = g.stays at (ap is_some node_is) at_not_own ∙ node_is

      home_not_now : IsIn home g.own_now → ⊥
      home_not_now i = elim (g.takes home i) [
        | inl j ↦ home_apart j
        | inr e ↦ none_there (one home) (kept_some home home_some) e
      ]

      at_not_now : IsIn at g.own_now → ⊥
      at_not_now i = elim (g.takes at i) [
        | inl j ↦ at_not_own j
        | inr e ↦ none_there (one at) (ap is_some node_is) e
      ]

      -- the parent's node says so
      module _ (zeros : List ℕ) (text_there : node_text ≡ text ++ zeros) (after : Cells) (shown : Shows new_bytes after) (last : (cell : ℕ) → cell ≢ home → after cell ≡ two cell) (node : List ℕ) (now : after home ≡ Some node) (gets : NodeGetsList (cell_data bytes home) node count made moment) where
        at_home : at ≢ home
        at_home e = apart_at home home_some (sym e)

        pub all_created : BinsEncodeTree new_bytes root 5 (tree_after tree (CreateKey hive (front ++ name ∷ [])) moment)
        all_created = created bytes root tree hive front name home f of_key.long.0 (not_empty name is.some) absent moment (new_fields home security) (λ d. row_fits name d moment is short late) fits security_is refl refl
            new_bytes new_tiles after shown at made count fresh
            (λ d. (zeros, last at at_home ∙ at_two ∙ ap Some (text_there ∙ ap (λ (z : List ℕ). z ++ zeros) text_is)))
            node now gets g.subkeys g.more g.own_now
            (subst (λ (z : ℕ). Gives (subkeys_at z made) after g.own_now [] g.subkeys) (sym count_is)
            (same_reading (subkeys_at (suc list.count) made) (local_subkeys (suc list.count) made) two after g.own_now [] g.subkeys g.reads (λ cell i. last cell (λ e. home_not_now (subst (λ (z : ℕ). IsIn z g.own_now) e i))) (λ cell i. absurd i)))
            g.once
            (λ cell i. elim (g.takes cell i) [ inl j ↦ inl j | inr e ↦ inr (none_before cell e) ])
            at_not_now
            (λ cell some no_home not_list. last cell no_home ∙ g.stays cell (kept_some cell some) not_list ∙ kept cell some)

  pub key_added : BinsEncodeTree new_bytes root 5 (tree_after tree (CreateKey hive (front ++ name ∷ [])) moment)
  key_added =
      let s = insert.cells f.cells f.shows in
      let node_text : List ℕ = text ++ replicate s.4 0 in
      let g = grow s.1 s.2 own [] (offsets f.place.below) (reads_one s.0 s.1 s.3 node_text s.5) (lists_once bytes root 5 tree (folded_path front) home f).1 in
      let t = put.cells g.0 g.1 in
      let e = t.3 (cell_data bytes home) (home_two s.0 s.1 s.3 node_text s.5 g.0 g.2) in
      all_created s.0 s.1 s.3 node_text s.5 g.0 g.2 (replicate s.4 0) refl t.0 t.1 t.2 e.0 e.1 e.2
