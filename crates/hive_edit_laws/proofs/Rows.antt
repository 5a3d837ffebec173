-- A key that says something else while the keys below it stay.
use Rattle.std.proofs.Common.{◌≡◌, inl, inr, ℕ, List, [], ◌∷◌, ◌++◌, ◌∙◌, sym, subst, Some, Option}
use Rattle.hive_tree_model.specs.Lists.{IsIn, Once}
use Rattle.hive_tree_model.specs.Keys.{KeyParts, KeyReader, Keys, none, key, own_cells, lent_cells}
use Rattle.hive_tree_model.specs.Trees.{same}
use Rattle.hive_tree_model.specs.Encodings.{CellsMatchKeys, Named, Whole, LentApart}
use Rattle.hive_tree_model.specs.Cells.{IsLocal, IsThere}
use Rattle.hive_tree_model.proofs.Basics.{some_same, some_none, in_front, in_back, in_either, once_front, once_back, once_apart, once_joined}
use Rattle.hive_tree_model.proofs.Frame.{fits_still}
use Rattle.hive_edit_laws.specs.KeyPlaces.{KeyPlace, place_in, place_from, own_of, EditsAt, EditsRow}
use Rattle.hive_edit_laws.proofs.KeyPlaces.{none_there, own_within, all_or_lent, all_there, own_there}
use Rattle.hive_edit_laws.proofs.Bools.{by_test}

module _ {R C : Type 0} (reads : KeyReader R C) where
  whole_in : (f : Keys R) (n : List ℕ) (path : List (List ℕ)) (p : KeyPlace R) → CellsMatchKeys reads f → Named f → Once (own_cells f) → place_in f (n ∷ path) ≡ Some p → Whole reads p.at p.parts p.below
  whole_in none n path p fits named once e = some_none p e
  whole_in (key at parts below after) n [] p fits named once e = elim (by_test (same n parts.name) (Some (record { at = at; parts = parts; below = below })) (place_in after (n ∷ [])) p e) [
    | inl h ↦ subst (λ (z : KeyPlace R). Whole reads z.at z.parts z.below) (some_same (record { at = at; parts = parts; below = below }) p h.1)
        (record { read = fits.0; listed = fits.1; fits = fits.2; named = named.2; once = once_front (parts.own ++ own_cells below) (own_cells after) once })
    | inr h ↦ whole_in after n [] p fits.3 named.3 (once_back (parts.own ++ own_cells below) (own_cells after) once) h.1
  ]
  whole_in (key at parts below after) n (m ∷ path) p fits named once e = elim (by_test (same n parts.name) (place_in below (m ∷ path)) (place_in after (n ∷ m ∷ path)) p e) [
    | inl h ↦ whole_in below m path p fits.2 named.2 (once_back parts.own (own_cells below) (once_front (parts.own ++ own_cells below) (own_cells after) once)) h.1
    | inr h ↦ whole_in after n (m ∷ path) p fits.3 named.3 (once_back (parts.own ++ own_cells below) (own_cells after) once) h.1
  ]

  pub whole_there : (root : ℕ) (above : KeyParts R) (subkey_list : Keys R) (path : List (List ℕ)) (p : KeyPlace R) → Whole reads root above subkey_list → place_from root above subkey_list path ≡ Some p → Whole reads p.at p.parts p.below
  whole_there root above subkey_list [] p w e = subst (λ (z : KeyPlace R). Whole reads z.at z.parts z.below) (some_same (record { at = root; parts = above; below = subkey_list }) p e) w
  whole_there root above subkey_list (n ∷ path) p w e = whole_in subkey_list n path p w.fits w.named (once_back above.own (own_cells subkey_list) w.once) e

module _ {R : Type 0} where
  -- what is lent to a key and to those below it is lent to some key
  lent_within : (f : Keys R) (n : List ℕ) (path : List (List ℕ)) (p : KeyPlace R) → place_in f (n ∷ path) ≡ Some p → (cell : ℕ) → IsIn cell (p.parts.lent ++ lent_cells p.below) → IsIn cell (lent_cells f)
  lent_within none n path p e cell h = some_none p e
  lent_within (key at parts below after) n [] p e cell h = elim (by_test (same n parts.name) (Some (record { at = at; parts = parts; below = below })) (place_in after (n ∷ [])) p e) [
    | inl g ↦ in_front cell (parts.lent ++ lent_cells below) (lent_cells after) (subst (λ (z : KeyPlace R). IsIn cell (z.parts.lent ++ lent_cells z.below)) (sym (some_same (record { at = at; parts = parts; below = below }) p g.1)) h)
    | inr g ↦ in_back cell (parts.lent ++ lent_cells below) (lent_cells after) (lent_within after n [] p g.1 cell h)
  ]
  lent_within (key at parts below after) n (m ∷ path) p e cell h = elim (by_test (same n parts.name) (place_in below (m ∷ path)) (place_in after (n ∷ m ∷ path)) p e) [
    | inl g ↦ in_front cell (parts.lent ++ lent_cells below) (lent_cells after) (in_back cell parts.lent (lent_cells below) (lent_within below m path p g.1 cell h))
    | inr g ↦ in_back cell (parts.lent ++ lent_cells below) (lent_cells after) (lent_within after n (m ∷ path) p g.1 cell h)
  ]

  pub lent_from : (root : ℕ) (above : KeyParts R) (subkey_list : Keys R) (path : List (List ℕ)) (p : KeyPlace R) → place_from root above subkey_list path ≡ Some p → (cell : ℕ) → IsIn cell (p.parts.lent ++ lent_cells p.below) → IsIn cell (above.lent ++ lent_cells subkey_list)
  lent_from root above subkey_list [] p e cell h = subst (λ (z : KeyPlace R). IsIn cell (z.parts.lent ++ lent_cells z.below)) (sym (some_same (record { at = root; parts = above; below = subkey_list }) p e)) h
  lent_from root above subkey_list (n ∷ path) p e cell h = in_back cell above.lent (lent_cells subkey_list) (lent_within subkey_list n path p e cell h)

  pub own_from : (root : ℕ) (above : KeyParts R) (subkey_list : Keys R) (path : List (List ℕ)) (p : KeyPlace R) → place_from root above subkey_list path ≡ Some p → (cell : ℕ) → IsIn cell (own_of p) → IsIn cell (above.own ++ own_cells subkey_list)
  own_from root above subkey_list [] p e cell h = subst (λ (z : KeyPlace R). IsIn cell (own_of z)) (sym (some_same (record { at = root; parts = above; below = subkey_list }) p e)) h
  own_from root above subkey_list (n ∷ path) p e cell h = in_back cell above.own (own_cells subkey_list) (own_within subkey_list (n ∷ path) p e cell h)

module _ {D R C : Type 0} (read : (ℕ → Option D) → KeyReader R C) (local : IsLocal read) (is_there : IsThere read) (old new : ℕ → Option D) (root : ℕ) (above : KeyParts R) (subkey_list : Keys R) (w : Whole (read old) root above subkey_list) (apart : LentApart above subkey_list) where
  pub row_edit : (path : List (List ℕ)) (place : KeyPlace R) (parts : KeyParts R) → EditsRow read old new root above subkey_list path place parts → EditsAt read old new root above subkey_list path parts place.below
  row_edit path place parts e = by (whole_there (read old) root above subkey_list path place w e.there)
    where
      by : Whole (read old) place.at place.parts place.below → EditsAt read old new root above subkey_list path parts place.below
      by v = record {
        place = place;
        there = e.there;
        stays = λ cell some mine. e.stays cell some (λ i. mine (in_front cell place.parts.own (own_cells place.below) i));
        whole = record {
          read = e.read_so;
          listed = v.listed ∙ sym e.subkeys_stay;
          fits = fits_still read local old new place.below v.fits (λ cell i. e.stays cell (all_there read is_there old place.below v.fits cell i) (λ mine. elim (all_or_lent place.below cell i) [
            | inl own ↦ once_apart cell place.parts.own (own_cells place.below) v.once mine own
            | inr lent ↦ apart cell (lent_from root above subkey_list path place e.there cell (in_back cell place.parts.lent (lent_cells place.below) lent)) (own_from root above subkey_list path place e.there cell (in_front cell place.parts.own (own_cells place.below) mine))
          ]));
          named = v.named;
          once = once_joined parts.own (own_cells place.below) e.once (once_back place.parts.own (own_cells place.below) v.once) (λ cell i j. elim (e.takes cell i) [
            | inl mine ↦ once_apart cell place.parts.own (own_cells place.below) v.once mine j
            | inr fresh ↦ none_there (old cell) (own_there read is_there old place.below v.fits cell j) fresh
          ]);
        };
        name_stays = e.name_stays;
        takes = λ cell i. elim (in_either cell parts.own (own_cells place.below) i) [
          | inl j ↦ elim (e.takes cell j) [ inl mine ↦ inl (in_front cell place.parts.own (own_cells place.below) mine) | inr fresh ↦ inr fresh ]
          | inr j ↦ inl (in_back cell place.parts.own (own_cells place.below) j)
        ];
        lends = λ cell i. elim (in_either cell parts.lent (lent_cells place.below) i) [
          | inl j ↦ lent_from root above subkey_list path place e.there cell (in_front cell place.parts.lent (lent_cells place.below) (e.lends cell j))
          | inr j ↦ lent_from root above subkey_list path place e.there cell (in_back cell place.parts.lent (lent_cells place.below) j)
        ];
      }
