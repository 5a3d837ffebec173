-- A key's list of subkeys after its one leaf was split.
use Rattle.std.proofs.Common.{◌≡◌, ◌≢◌, inl, inr, ℕ, zero, suc, ◌<◌, false, List, [], ◌∷◌, ◌++◌, length, replicate, is_some, None, Some, IsSome, refl, sym, ap, subst, ◌∙◌, arith, append-nil}
use Rattle.hive_tree_model.specs.Lists.{IsIn}
use Rattle.hive_cells.specs.Tiles.{cell_data}
use Rattle.hive_cells.specs.Bins.{Cells, Shows}
use Rattle.hive_records.specs.Fields.{Gives}
use Rattle.hive_records.specs.Lists.{is_indirect, subkeys_at}
use Rattle.hive_records.specs.ListEncodings.{indirect, AreOffsets}
use Rattle.hive_records.specs.KeyEncodings.{Leaf}
use Rattle.hive_records.proofs.ManyAgain.{indirect_back}
use Rattle.hive_edit_laws.specs.Found.{IsLeaf, leaf_words}
use Rattle.hive_edit_laws.proofs.CellsShown.{shown_here}
use Rattle.hive_edit_laws.proofs.KeyPlaces.{none_there}
use Rattle.hive_edit_laws.proofs.LeafBytes.{leaf_says, leaf_gives, list_is_leaf, list_length}
use Rattle.hive_savepoint.specs.Puts.{AddsCell}
use Rattle.hive_edit.specs.SubkeyPlaces.{IsShapeOf}
use Rattle.hive_edit.specs.LeafChanges.{KeepsSizes, KeepsCells, AreHalves, HalvesLeaf, ListKept, KeepsList}
use Rattle.hive_edit.specs.declared.key_lists.KeyList.{KeyList}
use Rattle.hive_edit.specs.declared.leaf_edit.LeafShape.{LeafShape}
use Rattle.hive_edit.proofs.LeafInserts.{once_alone, keeps_by, apart_from}

some_more : (n : ℕ) → n ≢ 0 → 0 < n
some_more zero some = absurd (some refl)
some_more (suc n) some = omega arith

module _ (bytes mid new_bytes : List ℕ) (list : KeyList) (some : list.count ≢ 0) (shape : LeafShape) (shaped : IsShapeOf bytes list.at shape) (direct : shape.is_indirect ≡ false) (second made : ℕ) (text : List ℕ) (halves : HalvesLeaf bytes mid list.at second) (adds : AddsCell mid new_bytes made text) where
  abbrev old : List ℕ
  old = cell_data bytes list.at

  not_indirect : is_indirect old ≡ false
  not_indirect = sym shaped.indirect_is ∙ direct

  module _ (before : Cells) (here : before list.at ≡ Some old) (half after : Cells) (second_new : before second ≡ None) (others : (cell : ℕ) → cell ≢ list.at → cell ≢ second → half cell ≡ before cell) (front back : List ℕ) (front_there : half list.at ≡ Some front) (back_there : half second ≡ Some back)
      (made_new : half made ≡ None) (rest : (cell : ℕ) → cell ≢ made → after cell ≡ half cell) where
    at_second : list.at ≢ second
    at_second e = none_there (before list.at) (ap is_some here) (ap before e ∙ second_new)

    at_made : list.at ≢ made
    at_made e = none_there (half list.at) (ap is_some front_there) (ap half e ∙ made_new)

    second_made : second ≢ made
    second_made e = none_there (half second) (ap is_some back_there) (ap half e ∙ made_new)

    made_none : before made ≡ None
    made_none = sym (others made (λ e. at_made (sym e)) (λ e. second_made (sym e))) ∙ made_new

    pub alone_stays : (cell : ℕ) → IsSome (before cell) → cell ≢ list.at → after cell ≡ before cell
    alone_stays cell there apart = rest cell (λ e. none_there (before cell) there (ap before e ∙ made_none)) ∙ others cell apart (λ e. none_there (before cell) there (ap before e ∙ second_new))

    module _ (zeros : List ℕ) (top_there : after made ≡ Some (text ++ zeros)) (text_is : text ≡ indirect (list.at ∷ second ∷ [])) (near : AreOffsets (list.at ∷ second ∷ [])) (own lent its : List ℕ) (h : Gives (subkeys_at list.count list.at) before own lent its) where
      own_is : own ≡ list.at ∷ []
      own_is = (list_is_leaf before list.count list.at own lent its old h some here not_indirect).0

      says : IsLeaf old × (its ≡ leaf_words old)
      says = leaf_says old before list.at here its (list_is_leaf before list.count list.at own lent its old h some here not_indirect).1

      at_own : IsIn list.at own
      at_own = subst (λ (z : List ℕ). IsIn list.at z) (sym own_is) (inl refl)

      module _ (both : AreHalves old front back) where
        leaves : List Leaf
        leaves = record { at = list.at; subkey_list = leaf_words front } ∷ record { at = second; subkey_list = leaf_words back } ∷ []

        same : leaf_words front ++ (leaf_words back ++ []) ≡ its
        same = ap (λ (z : List ℕ). leaf_words front ++ z) (append-nil (leaf_words back)) ∙ sym both.words ∙ sym says.1

        many : length (leaf_words front ++ (leaf_words back ++ [])) ≡ list.count
        many = ap length same ∙ list_length before list.count list.at own lent its old h some here

        read : Gives (subkeys_at (length (leaf_words front ++ (leaf_words back ++ []))) made) after (made ∷ list.at ∷ second ∷ []) [] (leaf_words front ++ (leaf_words back ++ []))
        unfolding leaves
        read = indirect_back after made leaves (subst (λ (n : ℕ). 0 < n) (sym many) (some_more list.count some)) (omega arith) near
            (leaf_gives front after list.at (rest list.at at_made ∙ front_there) both.first_is, (leaf_gives back after second (rest second second_made ∙ back_there) both.second_is, tt))
            (zeros, top_there ∙ ap Some (ap (λ (z : List ℕ). z ++ zeros) text_is))

        kept : ListKept before after list.count made own its
        kept = record {
          own_now = made ∷ list.at ∷ second ∷ [];
          lent_now = [];
          reads = subst (λ (n : ℕ). Gives (subkeys_at n made) after (made ∷ list.at ∷ second ∷ []) [] its) many (subst (λ (z : List ℕ). Gives (subkeys_at (length (leaf_words front ++ (leaf_words back ++ []))) made) after (made ∷ list.at ∷ second ∷ []) [] z) same read);
          once = ((λ i. elim i [ inl e ↦ at_made (sym e) | inr j ↦ elim j [ inl e ↦ second_made (sym e) | inr k ↦ k ] ]), ((λ i. elim i [ inl e ↦ at_second e | inr j ↦ j ]), once_alone second));
          takes = λ cell i. elim i [
            | inl e ↦ inr (ap before e ∙ made_none)
            | inr j ↦ elim j [
              | inl e ↦ inl (subst (λ (z : ℕ). IsIn z own) (sym e) at_own)
              | inr k ↦ elim k [ inl e ↦ inr (ap before e ∙ second_new) | inr l ↦ absurd l ]
            ]
          ];
          stays = λ cell there out. alone_stays cell there (λ e. out (subst (λ (z : ℕ). IsIn z own) (sym e) at_own));
        }

  pub alone_kept : text ≡ indirect (list.at ∷ second ∷ []) → AreOffsets (list.at ∷ second ∷ []) → KeepsList bytes new_bytes list made
  alone_kept text_is near before shows own lent its h once =
      let here : before list.at ≡ Some old = shown_here bytes before shows list.at shaped.long.0 in
      let v = halves before shows in
      let a = adds.cells v.1 v.2 in (
        a.1,
        a.2,
        kept before here v.1 a.1 v.0 v.3 v.4 v.6 v.5 v.7 a.0 a.3 (replicate a.4 0) a.5 text_is near own lent its h
            (v.8 (says before here v.1 a.1 v.0 v.3 v.4 v.6 v.5 v.7 a.0 a.3 (replicate a.4 0) a.5 text_is near own lent its h).0),
      )

  pub alone_cells : (cells : Cells) → Shows bytes cells → KeepsSizes bytes new_bytes → KeepsCells bytes new_bytes
  alone_cells before shows sizes =
      let here : before list.at ≡ Some old = shown_here bytes before shows list.at shaped.long.0 in
      let v = halves before shows in
      let a = adds.cells v.1 v.2 in
      keeps_by bytes new_bytes before a.1 shows a.2 (λ cell bare there. alone_stays before here v.1 a.1 v.0 v.3 v.4 v.6 v.5 v.7 a.0 a.3 cell there (apart_from bytes list.at cell shaped.holds bare)) sizes
