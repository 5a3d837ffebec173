-- If the keys below the changed one stay, one row changes.
use Rattle.std.proofs.Common.{◌≡◌, ◌≢◌, inl, inr, ℕ, List, [], ◌∷◌, refl, ◌∙◌, ap, sym, Some, Option}
use Rattle.std.specs.FinMap.{get}
use Rattle.hive_tree_model.specs.Keys.{KeyParts, KeyReader, Keys, none, key}
use Rattle.hive_tree_model.specs.Trees.{same, tree_of, row_in}
use Rattle.hive_tree_model.specs.Encodings.{Whole, LentApart}
use Rattle.hive_tree_model.specs.Cells.{IsLocal, IsThere}
use Rattle.hive_tree_model.specs.Changes.{below_in}
use Rattle.hive_tree_model.proofs.Basics.{yes_if, no_if, some_same, some_none}
use Rattle.hive_tree_model.proofs.Rows.{row_of_tree}
use Rattle.hive_tree_model.proofs.OneRow.{own_row, other_rows}
use Rattle.hive_edit_laws.specs.KeyPlaces.{KeyPlace, place_in, place_from, root_after, subkeys_after, EditsAt}
use Rattle.hive_edit_laws.proofs.KeyPlaces.{below_root}
use Rattle.hive_edit_laws.proofs.Bools.{by_test}

module _ {R : Type 0} where
  pub row_placed : (f : Keys R) (n : List ℕ) (path : List (List ℕ)) (p : KeyPlace R) → place_in f (n ∷ path) ≡ Some p → row_in f (n ∷ path) ≡ Some (p.parts).row
  row_placed none n path p e = some_none p e
  row_placed (key at parts below after) n [] p e = elim (by_test (same n parts.name) (Some (record { at = at; parts = parts; below = below })) (place_in after (n ∷ [])) p e) [
    | inl h ↦ yes_if (same n parts.name) (Some parts.row) (row_in after (n ∷ [])) h.0 ∙ ap (λ (z : KeyPlace R). Some (z.parts).row) (some_same (record { at = at; parts = parts; below = below }) p h.1)
    | inr h ↦ no_if (same n parts.name) (Some parts.row) (row_in after (n ∷ [])) h.0 ∙ row_placed after n [] p h.1
  ]
  row_placed (key at parts below after) n (m ∷ path) p e = elim (by_test (same n parts.name) (place_in below (m ∷ path)) (place_in after (n ∷ m ∷ path)) p e) [
    | inl h ↦ yes_if (same n parts.name) (row_in below (m ∷ path)) (row_in after (n ∷ m ∷ path)) h.0 ∙ row_placed below m path p h.1
    | inr h ↦ no_if (same n parts.name) (row_in below (m ∷ path)) (row_in after (n ∷ m ∷ path)) h.0 ∙ row_placed after n (m ∷ path) p h.1
  ]

  below_placed : (f : Keys R) (n : List ℕ) (path : List (List ℕ)) (p : KeyPlace R) → place_in f (n ∷ path) ≡ Some p → below_in f (n ∷ path) ≡ Some p.below
  below_placed none n path p e = some_none p e
  below_placed (key at parts below after) n [] p e = elim (by_test (same n parts.name) (Some (record { at = at; parts = parts; below = below })) (place_in after (n ∷ [])) p e) [
    | inl h ↦ yes_if (same n parts.name) (Some below) (below_in after (n ∷ [])) h.0 ∙ ap (λ (z : KeyPlace R). Some z.below) (some_same (record { at = at; parts = parts; below = below }) p h.1)
    | inr h ↦ no_if (same n parts.name) (Some below) (below_in after (n ∷ [])) h.0 ∙ below_placed after n [] p h.1
  ]
  below_placed (key at parts below after) n (m ∷ path) p e = elim (by_test (same n parts.name) (place_in below (m ∷ path)) (place_in after (n ∷ m ∷ path)) p e) [
    | inl h ↦ yes_if (same n parts.name) (below_in below (m ∷ path)) (below_in after (n ∷ m ∷ path)) h.0 ∙ below_placed below m path p h.1
    | inr h ↦ no_if (same n parts.name) (below_in below (m ∷ path)) (below_in after (n ∷ m ∷ path)) h.0 ∙ below_placed after n (m ∷ path) p h.1
  ]

  pub row_there : {C : Type 0} (reads : KeyReader R C) (root : ℕ) (above : KeyParts R) (subkey_list : Keys R) (path : List (List ℕ)) (p : KeyPlace R) → Whole reads root above subkey_list → place_from root above subkey_list path ≡ Some p → get (tree_of above subkey_list) path ≡ Some (p.parts).row
  row_there reads root above subkey_list [] p w e = row_of_tree above subkey_list w.named [] ∙ ap (λ (z : KeyPlace R). Some (z.parts).row) (some_same (record { at = root; parts = above; below = subkey_list }) p e)
  row_there reads root above subkey_list (n ∷ path) p w e = row_of_tree above subkey_list w.named (n ∷ path) ∙ row_placed subkey_list n path p e

module _ {D R C : Type 0} (read : (ℕ → Option D) → KeyReader R C) (local : IsLocal read) (is_there : IsThere read) (old new : ℕ → Option D) (root : ℕ) (above : KeyParts R) (subkey_list : Keys R) (w : Whole (read old) root above subkey_list) (apart : LentApart above subkey_list) where
  below_is : (n : List ℕ) (path : List (List ℕ)) (parts : KeyParts R) (below : Keys R) (e : EditsAt read old new root above subkey_list (n ∷ path) parts below) → below ≡ e.place.below → below_in subkey_list (n ∷ path) ≡ Some below
  below_is n path parts below e is = below_placed subkey_list n path e.place e.there ∙ ap Some (sym is)

  pub own_at : (path : List (List ℕ)) (parts : KeyParts R) (below : Keys R) (e : EditsAt read old new root above subkey_list path parts below) → below ≡ e.place.below → get (tree_of (root_after above path parts) (subkeys_after subkey_list path parts below)) path ≡ Some parts.row
  own_at [] parts below e is = row_of_tree parts below e.whole.named []
  own_at (n ∷ path) parts below e is = own_row read local old new parts below root above subkey_list n path w (below_root read local is_there old new root above subkey_list w apart n path parts below e) (below_is n path parts below e is)

  pub others_at : (path : List (List ℕ)) (parts : KeyParts R) (below : Keys R) (e : EditsAt read old new root above subkey_list path parts below) → below ≡ e.place.below → (q : List (List ℕ)) → q ≢ path → get (tree_of (root_after above path parts) (subkeys_after subkey_list path parts below)) q ≡ get (tree_of above subkey_list) q
  others_at [] parts below e is [] other = absurd (other refl)
  others_at [] parts below e is (n ∷ q) other = row_of_tree parts below e.whole.named (n ∷ q) ∙ ap (λ (z : Keys R). row_in z (n ∷ q)) (is ∙ sym (ap (λ (z : KeyPlace R). z.below) (some_same (record { at = root; parts = above; below = subkey_list }) e.place e.there))) ∙ sym (row_of_tree above subkey_list w.named (n ∷ q))
  others_at (n ∷ path) parts below e is q other = other_rows read local old new parts below root above subkey_list n path w (below_root read local is_there old new root above subkey_list w apart n path parts below e) (below_is n path parts below e is) q other
