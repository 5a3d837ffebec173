-- The key at a path, its cells, and those of all others.
use Rattle.std.proofs.Common.{◌≡◌, ◌⊎◌, inl, inr, ℕ, List, [], ◌∷◌, ◌++◌, refl, ◌∙◌, ap, sym, subst, Bool, true, false, if◌then◌else◌, Some, None, Option, IsSome}
use Rattle.std.specs.FinMap.{get}
use Rattle.hive_tree_model.specs.Lists.{IsIn, Once}
use Rattle.hive_tree_model.specs.Keys.{KeyParts, KeyReader, Keys, none, key, own_cells, lent_cells, all_cells}
use Rattle.hive_tree_model.specs.Trees.{same, tree_of}
use Rattle.hive_tree_model.specs.Encodings.{CellsMatchKeys, Whole, LentApart}
use Rattle.hive_tree_model.specs.Cells.{IsLocal, IsThere}
use Rattle.hive_tree_model.specs.Changes.{offset_in, with_key, own_cells_but, all_cells_but, last_name, rest_of, row_or, Edits}
use Rattle.hive_tree_model.proofs.Basics.{never, decided, yes_if, no_if, same_is, some_same, some_none, in_front, in_back, in_either, once_front, once_back, once_apart}
use Rattle.hive_tree_model.proofs.Rows.{row_of_tree}
use Rattle.hive_tree_model.proofs.Edited.{whole_after, tree_after}
use Rattle.hive_edit_laws.specs.KeyPlaces.{KeyPlace, place_in, place_from, own_of, root_after, subkeys_after, EditsAt}
use Rattle.hive_edit_laws.proofs.Bools.{by_test}

pub none_there : {A : Type 0} (x : Option A) → IsSome x → x ≡ None → ⊥
none_there {A = A} x s e = never (subst (λ (o : Option A). IsSome o) e s)

in_choice : (b : Bool) (x y : List ℕ) (cell : ℕ) → IsIn cell (if b then x else y) → ((b ≡ true) × IsIn cell x) ⊎ ((b ≡ false) × IsIn cell y)
in_choice true x y cell h = inl (refl, h)
in_choice false x y cell h = inr (refl, h)

here_front : (own lent oc lc ao al : List ℕ) (cell : ℕ) → IsIn cell (own ++ lent) → IsIn cell ((own ++ oc) ++ ao) ⊎ IsIn cell ((lent ++ lc) ++ al)
here_front own lent oc lc ao al cell h = elim (in_either cell own lent h) [
  | inl g ↦ inl (in_front cell (own ++ oc) ao (in_front cell own oc g))
  | inr g ↦ inr (in_front cell (lent ++ lc) al (in_front cell lent lc g))
]

first_of_two : (b : Bool) (x y : List ℕ) (cell : ℕ) → b ≡ true → IsIn cell x → IsIn cell (if b then x else y)
first_of_two true x y cell e h = h
first_of_two false x y cell e h = never e

second_of_two : (b : Bool) (x y : List ℕ) (cell : ℕ) → b ≡ false → IsIn cell y → IsIn cell (if b then x else y)
second_of_two true x y cell e h = never (sym e)
second_of_two false x y cell e h = h

-- (hive_tree_model has these two too, where they are private)
module _ {R : Type 0} (parts : KeyParts R) (sub : Keys R) where
  -- lists that a test picks
  pick_list : (P : List ℕ → Type 0) (b : Bool) (x y : List ℕ) → P (if b then x else y) → (b ≡ true → P x) × (b ≡ false → P y)
  pick_list P true x y h = (λ e. h, λ e. never (sym e))
  pick_list P false x y h = (λ e. never e, λ e. h)

  but_within : (f : Keys R) (path : List (List ℕ)) (cell : ℕ) → IsIn cell (own_cells_but f path) → IsIn cell (own_cells f)
  but_within none path cell h = h
  but_within (key at p below after) [] cell h = h
  but_within (key at p below after) (n ∷ []) cell h =
      let two = pick_list (IsIn cell) (same n p.name) (own_cells after) ((p.own ++ own_cells below) ++ own_cells_but after (n ∷ [])) h in
      elim (decided (same n p.name)) [
        | inl e ↦ in_back cell (p.own ++ own_cells below) (own_cells after) (two.0 e)
        | inr e ↦ elim (in_either cell (p.own ++ own_cells below) (own_cells_but after (n ∷ [])) (two.1 e)) [
          | inl g ↦ in_front cell (p.own ++ own_cells below) (own_cells after) g
          | inr g ↦ in_back cell (p.own ++ own_cells below) (own_cells after) (but_within after (n ∷ []) cell g)
        ]
      ]
  but_within (key at p below after) (n ∷ m ∷ path) cell h =
      let two = pick_list (IsIn cell) (same n p.name) ((p.own ++ own_cells_but below (m ∷ path)) ++ own_cells after) ((p.own ++ own_cells below) ++ own_cells_but after (n ∷ m ∷ path)) h in
      elim (decided (same n p.name)) [
        | inl e ↦ elim (in_either cell (p.own ++ own_cells_but below (m ∷ path)) (own_cells after) (two.0 e)) [
          | inl g ↦ elim (in_either cell p.own (own_cells_but below (m ∷ path)) g) [
            | inl k ↦ in_front cell (p.own ++ own_cells below) (own_cells after) (in_front cell p.own (own_cells below) k)
            | inr k ↦ in_front cell (p.own ++ own_cells below) (own_cells after) (in_back cell p.own (own_cells below) (but_within below (m ∷ path) cell k))
          ]
          | inr g ↦ in_back cell (p.own ++ own_cells below) (own_cells after) g
        ]
        | inr e ↦ elim (in_either cell (p.own ++ own_cells below) (own_cells_but after (n ∷ m ∷ path)) (two.1 e)) [
          | inl g ↦ in_front cell (p.own ++ own_cells below) (own_cells after) g
          | inr g ↦ in_back cell (p.own ++ own_cells below) (own_cells after) (but_within after (n ∷ m ∷ path) cell g)
        ]
      ]

  New : ℕ → Type 0
  New cell = IsIn cell (parts.own ++ own_cells sub)

  -- a cell of the changed keys is one of the new ones or of the others
  either : (f : Keys R) (path : List (List ℕ)) (cell : ℕ) → IsIn cell (own_cells (with_key f path parts sub)) → New cell ⊎ IsIn cell (own_cells_but f path)
  unfolding New
  either none path cell h = inr h
  either (key at p below after) [] cell h = inr h
  either (key at p below after) (n ∷ []) cell h = go (decided (same n p.name)) h (λ g. either after (n ∷ []) cell g)
    where
      go : (same n p.name ≡ true) ⊎ (same n p.name ≡ false) → IsIn cell (own_cells (with_key (key at p below after) (n ∷ []) parts sub)) →
          (IsIn cell (own_cells (with_key after (n ∷ []) parts sub)) → IsIn cell (parts.own ++ own_cells sub) ⊎ IsIn cell (own_cells_but after (n ∷ []))) →
          IsIn cell (parts.own ++ own_cells sub) ⊎ IsIn cell (own_cells_but (key at p below after) (n ∷ []))
      go (inl e) h next = elim (in_either cell (parts.own ++ own_cells sub) (own_cells after) (subst (λ (z : Keys R). IsIn cell (own_cells z)) (yes_if (same n p.name) (key at parts sub after) (key at p below (with_key after (n ∷ []) parts sub)) e) h)) [
        | inl g ↦ inl g
        | inr g ↦ inr (subst (λ z. IsIn cell z) (sym (yes_if (same n p.name) (own_cells after) ((p.own ++ own_cells below) ++ own_cells_but after (n ∷ [])) e)) g)
      ]
      go (inr e) h next = elim (in_either cell (p.own ++ own_cells below) (own_cells (with_key after (n ∷ []) parts sub)) (subst (λ (z : Keys R). IsIn cell (own_cells z)) (no_if (same n p.name) (key at parts sub after) (key at p below (with_key after (n ∷ []) parts sub)) e) h)) [
        | inl g ↦ inr (subst (λ z. IsIn cell z) (sym (no_if (same n p.name) (own_cells after) ((p.own ++ own_cells below) ++ own_cells_but after (n ∷ [])) e)) (in_front cell (p.own ++ own_cells below) (own_cells_but after (n ∷ [])) g))
        | inr g ↦ elim (next g) [
          | inl k ↦ inl k
          | inr k ↦ inr (subst (λ z. IsIn cell z) (sym (no_if (same n p.name) (own_cells after) ((p.own ++ own_cells below) ++ own_cells_but after (n ∷ [])) e)) (in_back cell (p.own ++ own_cells below) (own_cells_but after (n ∷ [])) k))
        ]
      ]
  either (key at p below after) (n ∷ m ∷ path) cell h = go (decided (same n p.name)) h (λ g. either below (m ∷ path) cell g) (λ g. either after (n ∷ m ∷ path) cell g)
    where
      go : (same n p.name ≡ true) ⊎ (same n p.name ≡ false) → IsIn cell (own_cells (with_key (key at p below after) (n ∷ m ∷ path) parts sub)) →
          (IsIn cell (own_cells (with_key below (m ∷ path) parts sub)) → IsIn cell (parts.own ++ own_cells sub) ⊎ IsIn cell (own_cells_but below (m ∷ path))) →
          (IsIn cell (own_cells (with_key after (n ∷ m ∷ path) parts sub)) → IsIn cell (parts.own ++ own_cells sub) ⊎ IsIn cell (own_cells_but after (n ∷ m ∷ path))) →
          IsIn cell (parts.own ++ own_cells sub) ⊎ IsIn cell (own_cells_but (key at p below after) (n ∷ m ∷ path))
      go (inl e) h down next =
          let back : IsIn cell ((p.own ++ own_cells_but below (m ∷ path)) ++ own_cells after) → IsIn cell (own_cells_but (key at p below after) (n ∷ m ∷ path)) = λ g. subst (λ z. IsIn cell z) (sym (yes_if (same n p.name) ((p.own ++ own_cells_but below (m ∷ path)) ++ own_cells after) ((p.own ++ own_cells below) ++ own_cells_but after (n ∷ m ∷ path)) e)) g in
          elim (in_either cell (p.own ++ own_cells (with_key below (m ∷ path) parts sub)) (own_cells after) (subst (λ (z : Keys R). IsIn cell (own_cells z)) (yes_if (same n p.name) (key at p (with_key below (m ∷ path) parts sub) after) (key at p below (with_key after (n ∷ m ∷ path) parts sub)) e) h)) [
            | inl g ↦ elim (in_either cell p.own (own_cells (with_key below (m ∷ path) parts sub)) g) [
              | inl k ↦ inr (back (in_front cell (p.own ++ own_cells_but below (m ∷ path)) (own_cells after) (in_front cell p.own (own_cells_but below (m ∷ path)) k)))
              | inr k ↦ elim (down k) [
                | inl l ↦ inl l
                | inr l ↦ inr (back (in_front cell (p.own ++ own_cells_but below (m ∷ path)) (own_cells after) (in_back cell p.own (own_cells_but below (m ∷ path)) l)))
              ]
            ]
            | inr g ↦ inr (back (in_back cell (p.own ++ own_cells_but below (m ∷ path)) (own_cells after) g))
          ]
      go (inr e) h down next =
          let back : IsIn cell ((p.own ++ own_cells below) ++ own_cells_but after (n ∷ m ∷ path)) → IsIn cell (own_cells_but (key at p below after) (n ∷ m ∷ path)) = λ g. subst (λ z. IsIn cell z) (sym (no_if (same n p.name) ((p.own ++ own_cells_but below (m ∷ path)) ++ own_cells after) ((p.own ++ own_cells below) ++ own_cells_but after (n ∷ m ∷ path)) e)) g in
          elim (in_either cell (p.own ++ own_cells below) (own_cells (with_key after (n ∷ m ∷ path) parts sub)) (subst (λ (z : Keys R). IsIn cell (own_cells z)) (no_if (same n p.name) (key at p (with_key below (m ∷ path) parts sub) after) (key at p below (with_key after (n ∷ m ∷ path) parts sub)) e) h)) [
            | inl g ↦ inr (back (in_front cell (p.own ++ own_cells below) (own_cells_but after (n ∷ m ∷ path)) g))
            | inr g ↦ elim (next g) [
              | inl k ↦ inl k
              | inr k ↦ inr (back (in_back cell (p.own ++ own_cells below) (own_cells_but after (n ∷ m ∷ path)) k))
            ]
          ]

module _ {R : Type 0} where
  -- the key at a path is in one of two
  place_of : ℕ → KeyParts R → Keys R → KeyPlace R
  place_of at parts below = record { at = at; parts = parts; below = below }

  pub at_offset : (f : Keys R) (n : List ℕ) (path : List (List ℕ)) (p : KeyPlace R) → place_in f (n ∷ path) ≡ Some p → offset_in f (n ∷ path) ≡ Some p.at
  at_offset none n path p e = some_none p e
  at_offset (key at parts below after) n [] p e = elim (by_test (same n parts.name) (Some (record { at = at; parts = parts; below = below })) (place_in after (n ∷ [])) p e) [
    | inl h ↦ yes_if (same n parts.name) (Some at) (offset_in after (n ∷ [])) h.0 ∙ ap (λ (z : KeyPlace R). Some z.at) (some_same (record { at = at; parts = parts; below = below }) p h.1)
    | inr h ↦ no_if (same n parts.name) (Some at) (offset_in after (n ∷ [])) h.0 ∙ at_offset after n [] p h.1
  ]
  at_offset (key at parts below after) n (m ∷ path) p e = elim (by_test (same n parts.name) (place_in below (m ∷ path)) (place_in after (n ∷ m ∷ path)) p e) [
    | inl h ↦ yes_if (same n parts.name) (offset_in below (m ∷ path)) (offset_in after (n ∷ m ∷ path)) h.0 ∙ at_offset below m path p h.1
    | inr h ↦ no_if (same n parts.name) (offset_in below (m ∷ path)) (offset_in after (n ∷ m ∷ path)) h.0 ∙ at_offset after n (m ∷ path) p h.1
  ]

  pub named_last : (f : Keys R) (n : List ℕ) (path : List (List ℕ)) (p : KeyPlace R) → place_in f (n ∷ path) ≡ Some p → p.parts.name ≡ last_name n path
  named_last none n path p e = some_none p e
  named_last (key at parts below after) n [] p e = elim (by_test (same n parts.name) (Some (record { at = at; parts = parts; below = below })) (place_in after (n ∷ [])) p e) [
    | inl h ↦ sym (same_is n parts.name h.0 ∙ ap (λ (z : KeyPlace R). z.parts.name) (some_same (record { at = at; parts = parts; below = below }) p h.1))
    | inr h ↦ named_last after n [] p h.1
  ]
  named_last (key at parts below after) n (m ∷ path) p e = elim (by_test (same n parts.name) (place_in below (m ∷ path)) (place_in after (n ∷ m ∷ path)) p e) [
    | inl h ↦ named_last below m path p h.1
    | inr h ↦ named_last after n (m ∷ path) p h.1
  ]

  -- the cells of the key and of those below it are among all
  pub own_within : (f : Keys R) (path : List (List ℕ)) (p : KeyPlace R) → place_in f path ≡ Some p → (cell : ℕ) → IsIn cell (own_of p) → IsIn cell (own_cells f)
  own_within none path p e cell h = some_none p e
  own_within (key at parts below after) [] p e cell h = some_none p e
  own_within (key at parts below after) (n ∷ []) p e cell h = elim (by_test (same n parts.name) (Some (record { at = at; parts = parts; below = below })) (place_in after (n ∷ [])) p e) [
    | inl g ↦ in_front cell (parts.own ++ own_cells below) (own_cells after) (subst (λ (z : KeyPlace R). IsIn cell (own_of z)) (sym (some_same (record { at = at; parts = parts; below = below }) p g.1)) h)
    | inr g ↦ in_back cell (parts.own ++ own_cells below) (own_cells after) (own_within after (n ∷ []) p g.1 cell h)
  ]
  own_within (key at parts below after) (n ∷ m ∷ path) p e cell h = elim (by_test (same n parts.name) (place_in below (m ∷ path)) (place_in after (n ∷ m ∷ path)) p e) [
    | inl g ↦ in_front cell (parts.own ++ own_cells below) (own_cells after) (in_back cell parts.own (own_cells below) (own_within below (m ∷ path) p g.1 cell h))
    | inr g ↦ in_back cell (parts.own ++ own_cells below) (own_cells after) (own_within after (n ∷ m ∷ path) p g.1 cell h)
  ]

  -- none of them belongs to another key
  pub others_apart : (f : Keys R) (path : List (List ℕ)) (p : KeyPlace R) → place_in f path ≡ Some p → Once (own_cells f) → (cell : ℕ) → IsIn cell (own_of p) → IsIn cell (own_cells_but f path) → ⊥
  others_apart none path p e once cell h g = some_none p e
  others_apart (key at parts below after) [] p e once cell h g = some_none p e
  others_apart (key at parts below after) (n ∷ []) p e once cell h g =
      elim (by_test (same n parts.name) (Some (record { at = at; parts = parts; below = below })) (place_in after (n ∷ [])) p e) [
        | inl k ↦ elim (in_choice (same n parts.name) (own_cells after) ((parts.own ++ own_cells below) ++ own_cells_but after (n ∷ [])) cell g) [
          | inl l ↦ once_apart cell (parts.own ++ own_cells below) (own_cells after) once (subst (λ (z : KeyPlace R). IsIn cell (own_of z)) (sym (some_same (record { at = at; parts = parts; below = below }) p k.1)) h) l.1
          | inr l ↦ never (sym l.0 ∙ k.0)
        ]
        | inr k ↦ elim (in_choice (same n parts.name) (own_cells after) ((parts.own ++ own_cells below) ++ own_cells_but after (n ∷ [])) cell g) [
          | inl l ↦ never (sym k.0 ∙ l.0)
          | inr l ↦ elim (in_either cell (parts.own ++ own_cells below) (own_cells_but after (n ∷ [])) l.1) [
            | inl i ↦ once_apart cell (parts.own ++ own_cells below) (own_cells after) once i (own_within after (n ∷ []) p k.1 cell h)
            | inr i ↦ others_apart after (n ∷ []) p k.1 (once_back (parts.own ++ own_cells below) (own_cells after) once) cell h i
          ]
        ]
      ]
  others_apart (key at parts below after) (n ∷ m ∷ path) p e once cell h g =
      let front : Once (parts.own ++ own_cells below) = once_front (parts.own ++ own_cells below) (own_cells after) once in
      elim (by_test (same n parts.name) (place_in below (m ∷ path)) (place_in after (n ∷ m ∷ path)) p e) [
        | inl k ↦ elim (in_choice (same n parts.name) ((parts.own ++ own_cells_but below (m ∷ path)) ++ own_cells after) ((parts.own ++ own_cells below) ++ own_cells_but after (n ∷ m ∷ path)) cell g) [
          | inl l ↦ elim (in_either cell (parts.own ++ own_cells_but below (m ∷ path)) (own_cells after) l.1) [
            | inl i ↦ elim (in_either cell parts.own (own_cells_but below (m ∷ path)) i) [
              | inl j ↦ once_apart cell parts.own (own_cells below) front j (own_within below (m ∷ path) p k.1 cell h)
              | inr j ↦ others_apart below (m ∷ path) p k.1 (once_back parts.own (own_cells below) front) cell h j
            ]
            | inr i ↦ once_apart cell (parts.own ++ own_cells below) (own_cells after) once (in_back cell parts.own (own_cells below) (own_within below (m ∷ path) p k.1 cell h)) i
          ]
          | inr l ↦ never (sym l.0 ∙ k.0)
        ]
        | inr k ↦ elim (in_choice (same n parts.name) ((parts.own ++ own_cells_but below (m ∷ path)) ++ own_cells after) ((parts.own ++ own_cells below) ++ own_cells_but after (n ∷ m ∷ path)) cell g) [
          | inl l ↦ never (sym k.0 ∙ l.0)
          | inr l ↦ elim (in_either cell (parts.own ++ own_cells below) (own_cells_but after (n ∷ m ∷ path)) l.1) [
            | inl i ↦ once_apart cell (parts.own ++ own_cells below) (own_cells after) once i (own_within after (n ∷ m ∷ path) p k.1 cell h)
            | inr i ↦ others_apart after (n ∷ m ∷ path) p k.1 (once_back (parts.own ++ own_cells below) (own_cells after) once) cell h i
          ]
        ]
      ]

  -- what is read of keys belongs to one of them or is lent
  pub all_or_lent : (f : Keys R) (cell : ℕ) → IsIn cell (all_cells f) → IsIn cell (own_cells f) ⊎ IsIn cell (lent_cells f)
  all_or_lent none cell h = absurd h
  all_or_lent (key at p below after) cell h = elim (in_either cell ((p.own ++ p.lent) ++ all_cells below) (all_cells after) h) [
    | inl g ↦ elim (in_either cell (p.own ++ p.lent) (all_cells below) g) [
      | inl k ↦ here_front p.own p.lent (own_cells below) (lent_cells below) (own_cells after) (lent_cells after) cell k
      | inr k ↦ elim (all_or_lent below cell k) [
        | inl l ↦ inl (in_front cell (p.own ++ own_cells below) (own_cells after) (in_back cell p.own (own_cells below) l))
        | inr l ↦ inr (in_front cell (p.lent ++ lent_cells below) (lent_cells after) (in_back cell p.lent (lent_cells below) l))
      ]
    ]
    | inr g ↦ elim (all_or_lent after cell g) [
      | inl l ↦ inl (in_back cell (p.own ++ own_cells below) (own_cells after) l)
      | inr l ↦ inr (in_back cell (p.lent ++ lent_cells below) (lent_cells after) l)
    ]
  ]

  pub but_or_lent : (f : Keys R) (path : List (List ℕ)) (cell : ℕ) → IsIn cell (all_cells_but f path) → IsIn cell (own_cells_but f path) ⊎ IsIn cell (lent_cells f)
  but_or_lent none path cell h = absurd h
  but_or_lent (key at p below after) [] cell h = all_or_lent (key at p below after) cell h
  but_or_lent (key at p below after) (n ∷ []) cell h =
      let X : List ℕ = own_cells after in
      let Y : List ℕ = (p.own ++ own_cells below) ++ own_cells_but after (n ∷ []) in
      let L : List ℕ = p.lent ++ lent_cells below in
      elim (in_choice (same n p.name) (all_cells after) (((p.own ++ p.lent) ++ all_cells below) ++ all_cells_but after (n ∷ [])) cell h) [
        | inl g ↦ elim (all_or_lent after cell g.1) [
          | inl k ↦ inl (first_of_two (same n p.name) X Y cell g.0 k)
          | inr k ↦ inr (in_back cell L (lent_cells after) k)
        ]
        | inr g ↦ elim (in_either cell ((p.own ++ p.lent) ++ all_cells below) (all_cells_but after (n ∷ [])) g.1) [
          | inl k ↦ elim (in_either cell (p.own ++ p.lent) (all_cells below) k) [
            | inl l ↦ elim (here_front p.own p.lent (own_cells below) (lent_cells below) (own_cells_but after (n ∷ [])) (lent_cells after) cell l) [
              | inl i ↦ inl (second_of_two (same n p.name) X Y cell g.0 i)
              | inr i ↦ inr i
            ]
            | inr l ↦ elim (all_or_lent below cell l) [
              | inl i ↦ inl (second_of_two (same n p.name) X Y cell g.0 (in_front cell (p.own ++ own_cells below) (own_cells_but after (n ∷ [])) (in_back cell p.own (own_cells below) i)))
              | inr i ↦ inr (in_front cell L (lent_cells after) (in_back cell p.lent (lent_cells below) i))
            ]
          ]
          | inr k ↦ elim (but_or_lent after (n ∷ []) cell k) [
            | inl l ↦ inl (second_of_two (same n p.name) X Y cell g.0 (in_back cell (p.own ++ own_cells below) (own_cells_but after (n ∷ [])) l))
            | inr l ↦ inr (in_back cell L (lent_cells after) l)
          ]
        ]
      ]
  but_or_lent (key at p below after) (n ∷ m ∷ path) cell h =
      let X : List ℕ = (p.own ++ own_cells_but below (m ∷ path)) ++ own_cells after in
      let Y : List ℕ = (p.own ++ own_cells below) ++ own_cells_but after (n ∷ m ∷ path) in
      let L : List ℕ = p.lent ++ lent_cells below in
      elim (in_choice (same n p.name) (((p.own ++ p.lent) ++ all_cells_but below (m ∷ path)) ++ all_cells after) (((p.own ++ p.lent) ++ all_cells below) ++ all_cells_but after (n ∷ m ∷ path)) cell h) [
        | inl g ↦ elim (in_either cell ((p.own ++ p.lent) ++ all_cells_but below (m ∷ path)) (all_cells after) g.1) [
          | inl k ↦ elim (in_either cell (p.own ++ p.lent) (all_cells_but below (m ∷ path)) k) [
            | inl l ↦ elim (here_front p.own p.lent (own_cells_but below (m ∷ path)) (lent_cells below) (own_cells after) (lent_cells after) cell l) [
              | inl i ↦ inl (first_of_two (same n p.name) X Y cell g.0 i)
              | inr i ↦ inr i
            ]
            | inr l ↦ elim (but_or_lent below (m ∷ path) cell l) [
              | inl i ↦ inl (first_of_two (same n p.name) X Y cell g.0 (in_front cell (p.own ++ own_cells_but below (m ∷ path)) (own_cells after) (in_back cell p.own (own_cells_but below (m ∷ path)) i)))
              | inr i ↦ inr (in_front cell L (lent_cells after) (in_back cell p.lent (lent_cells below) i))
            ]
          ]
          | inr k ↦ elim (all_or_lent after cell k) [
            | inl l ↦ inl (first_of_two (same n p.name) X Y cell g.0 (in_back cell (p.own ++ own_cells_but below (m ∷ path)) (own_cells after) l))
            | inr l ↦ inr (in_back cell L (lent_cells after) l)
          ]
        ]
        | inr g ↦ elim (in_either cell ((p.own ++ p.lent) ++ all_cells below) (all_cells_but after (n ∷ m ∷ path)) g.1) [
          | inl k ↦ elim (in_either cell (p.own ++ p.lent) (all_cells below) k) [
            | inl l ↦ elim (here_front p.own p.lent (own_cells below) (lent_cells below) (own_cells_but after (n ∷ m ∷ path)) (lent_cells after) cell l) [
              | inl i ↦ inl (second_of_two (same n p.name) X Y cell g.0 i)
              | inr i ↦ inr i
            ]
            | inr l ↦ elim (all_or_lent below cell l) [
              | inl i ↦ inl (second_of_two (same n p.name) X Y cell g.0 (in_front cell (p.own ++ own_cells below) (own_cells_but after (n ∷ m ∷ path)) (in_back cell p.own (own_cells below) i)))
              | inr i ↦ inr (in_front cell L (lent_cells after) (in_back cell p.lent (lent_cells below) i))
            ]
          ]
          | inr k ↦ elim (but_or_lent after (n ∷ m ∷ path) cell k) [
            | inl l ↦ inl (second_of_two (same n p.name) X Y cell g.0 (in_back cell (p.own ++ own_cells below) (own_cells_but after (n ∷ m ∷ path)) l))
            | inr l ↦ inr (in_back cell L (lent_cells after) l)
          ]
        ]
      ]

  -- what is lent to the changed keys is lent to the new ones, or was lent before
  pub lent_after : (parts : KeyParts R) (sub : Keys R) (f : Keys R) (path : List (List ℕ)) (cell : ℕ) → IsIn cell (lent_cells (with_key f path parts sub)) → IsIn cell (parts.lent ++ lent_cells sub) ⊎ IsIn cell (lent_cells f)
  lent_after parts sub none path cell h = absurd h
  lent_after parts sub (key at p below after) [] cell h = inr h
  lent_after parts sub (key at p below after) (n ∷ []) cell h =
      let L : List ℕ = p.lent ++ lent_cells below in
      elim (kept (same n p.name) (key at parts sub after) (key at p below (with_key after (n ∷ []) parts sub)) cell h) [
        | inl g ↦ elim (in_either cell (parts.lent ++ lent_cells sub) (lent_cells after) g) [
          | inl k ↦ inl k
          | inr k ↦ inr (in_back cell L (lent_cells after) k)
        ]
        | inr g ↦ elim (in_either cell L (lent_cells (with_key after (n ∷ []) parts sub)) g) [
          | inl k ↦ inr (in_front cell L (lent_cells after) k)
          | inr k ↦ elim (lent_after parts sub after (n ∷ []) cell k) [ inl l ↦ inl l | inr l ↦ inr (in_back cell L (lent_cells after) l) ]
        ]
      ]
    where
      kept : (b : Bool) (x y : Keys R) (cell : ℕ) → IsIn cell (lent_cells (if b then x else y)) → IsIn cell (lent_cells x) ⊎ IsIn cell (lent_cells y)
      kept true x y cell h = inl h
      kept false x y cell h = inr h
  lent_after parts sub (key at p below after) (n ∷ m ∷ path) cell h =
      let L : List ℕ = p.lent ++ lent_cells below in
      elim (kept (same n p.name) (key at p (with_key below (m ∷ path) parts sub) after) (key at p below (with_key after (n ∷ m ∷ path) parts sub)) cell h) [
        | inl g ↦ elim (in_either cell (p.lent ++ lent_cells (with_key below (m ∷ path) parts sub)) (lent_cells after) g) [
          | inl k ↦ elim (in_either cell p.lent (lent_cells (with_key below (m ∷ path) parts sub)) k) [
            | inl l ↦ inr (in_front cell L (lent_cells after) (in_front cell p.lent (lent_cells below) l))
            | inr l ↦ elim (lent_after parts sub below (m ∷ path) cell l) [ inl i ↦ inl i | inr i ↦ inr (in_front cell L (lent_cells after) (in_back cell p.lent (lent_cells below) i)) ]
          ]
          | inr k ↦ inr (in_back cell L (lent_cells after) k)
        ]
        | inr g ↦ elim (in_either cell L (lent_cells (with_key after (n ∷ m ∷ path) parts sub)) g) [
          | inl k ↦ inr (in_front cell L (lent_cells after) k)
          | inr k ↦ elim (lent_after parts sub after (n ∷ m ∷ path) cell k) [ inl l ↦ inl l | inr l ↦ inr (in_back cell L (lent_cells after) l) ]
        ]
      ]
    where
      kept : (b : Bool) (x y : Keys R) (cell : ℕ) → IsIn cell (lent_cells (if b then x else y)) → IsIn cell (lent_cells x) ⊎ IsIn cell (lent_cells y)
      kept true x y cell h = inl h
      kept false x y cell h = inr h

module _ {D R C : Type 0} (read : (ℕ → Option D) → KeyReader R C) (there : IsThere read) (cells : ℕ → Option D) where
  -- the cells of keys that are read are there
  pub all_there : (f : Keys R) → CellsMatchKeys (read cells) f → (cell : ℕ) → IsIn cell (all_cells f) → IsSome (cells cell)
  all_there none fits cell h = absurd h
  all_there (key at p below after) fits cell h = elim (in_either cell ((p.own ++ p.lent) ++ all_cells below) (all_cells after) h) [
    | inl g ↦ elim (in_either cell (p.own ++ p.lent) (all_cells below) g) [
      | inl k ↦ there cells at p fits.0 cell k
      | inr k ↦ all_there below fits.2 cell k
    ]
    | inr g ↦ all_there after fits.3 cell g
  ]

  pub own_there : (f : Keys R) → CellsMatchKeys (read cells) f → (cell : ℕ) → IsIn cell (own_cells f) → IsSome (cells cell)
  own_there none fits cell h = absurd h
  own_there (key at p below after) fits cell h = elim (in_either cell (p.own ++ own_cells below) (own_cells after) h) [
    | inl g ↦ elim (in_either cell p.own (own_cells below) g) [
      | inl k ↦ there cells at p fits.0 cell (in_front cell p.own p.lent k)
      | inr k ↦ own_there below fits.2 cell k
    ]
    | inr g ↦ own_there after fits.3 cell g
  ]

  pub lent_there : (f : Keys R) → CellsMatchKeys (read cells) f → (cell : ℕ) → IsIn cell (lent_cells f) → IsSome (cells cell)
  lent_there none fits cell h = absurd h
  lent_there (key at p below after) fits cell h = elim (in_either cell (p.lent ++ lent_cells below) (lent_cells after) h) [
    | inl g ↦ elim (in_either cell p.lent (lent_cells below) g) [
      | inl k ↦ there cells at p fits.0 cell (in_back cell p.own p.lent k)
      | inr k ↦ lent_there below fits.2 cell k
    ]
    | inr g ↦ lent_there after fits.3 cell g
  ]

module _ {D R C : Type 0} (read : (ℕ → Option D) → KeyReader R C) (local : IsLocal read) (is_there : IsThere read) (old new : ℕ → Option D) (root : ℕ) (above : KeyParts R) (subkey_list : Keys R) (w : Whole (read old) root above subkey_list) (apart : LentApart above subkey_list) where
  root_there : (cell : ℕ) → IsIn cell (above.own ++ above.lent) → IsSome (old cell)
  root_there cell h = is_there old root above w.read cell h

  lent_is_there : (cell : ℕ) → IsIn cell (above.lent ++ lent_cells subkey_list) → IsSome (old cell)
  lent_is_there cell h = elim (in_either cell above.lent (lent_cells subkey_list) h) [
    | inl g ↦ root_there cell (in_back cell above.own above.lent g)
    | inr g ↦ lent_there read is_there old subkey_list w.fits cell g
  ]

  -- an edit below the root is one of those that the law of shapes knows
  pub below_root : (n : List ℕ) (path : List (List ℕ)) (parts : KeyParts R) (below : Keys R) → EditsAt read old new root above subkey_list (n ∷ path) parts below → Edits read old new above subkey_list n path parts below
  below_root n path parts below e = record {
    at = e.place.at;
    there = at_offset subkey_list n path e.place e.there;
    root_stays = λ cell h. e.stays cell (root_there cell h) (λ mine. elim (in_either cell above.own above.lent h) [
      | inl g ↦ once_apart cell above.own (own_cells subkey_list) w.once g (own_within subkey_list (n ∷ path) e.place e.there cell mine)
      | inr g ↦ apart cell (in_front cell above.lent (lent_cells subkey_list) g) (in_back cell above.own (own_cells subkey_list) (own_within subkey_list (n ∷ path) e.place e.there cell mine))
    ]);
    others_stay = λ cell h. let which = but_or_lent subkey_list (n ∷ path) cell h in e.stays cell
        (elim which [ inl g ↦ own_there read is_there old subkey_list w.fits cell (but_within parts below subkey_list (n ∷ path) cell g) | inr g ↦ lent_there read is_there old subkey_list w.fits cell g ])
        (λ mine. elim which [
          | inl g ↦ others_apart subkey_list (n ∷ path) e.place e.there (once_back above.own (own_cells subkey_list) w.once) cell mine g
          | inr g ↦ apart cell (in_back cell above.lent (lent_cells subkey_list) g) (in_back cell above.own (own_cells subkey_list) (own_within subkey_list (n ∷ path) e.place e.there cell mine))
        ]);
    whole = e.whole;
    name_stays = e.name_stays ∙ named_last subkey_list n path e.place e.there;
    not_roots = λ cell h g. elim (e.takes cell h) [
      | inl mine ↦ once_apart cell above.own (own_cells subkey_list) w.once g (own_within subkey_list (n ∷ path) e.place e.there cell mine)
      | inr fresh ↦ none_there (old cell) (root_there cell (in_front cell above.own above.lent g)) fresh
    ];
    not_others = λ cell h g. elim (e.takes cell h) [
      | inl mine ↦ others_apart subkey_list (n ∷ path) e.place e.there (once_back above.own (own_cells subkey_list) w.once) cell mine g
      | inr fresh ↦ none_there (old cell) (own_there read is_there old subkey_list w.fits cell (but_within parts below subkey_list (n ∷ path) cell g)) fresh
    ];
  }

  pub whole_at : (path : List (List ℕ)) (parts : KeyParts R) (below : Keys R) → EditsAt read old new root above subkey_list path parts below → Whole (read new) root (root_after above path parts) (subkeys_after subkey_list path parts below)
  whole_at [] parts below e = subst (λ (z : KeyPlace R). Whole (read new) z.at parts below) (sym (some_same (record { at = root; parts = above; below = subkey_list }) e.place e.there)) e.whole
  whole_at (n ∷ path) parts below e = whole_after read local old new parts below root above subkey_list n path w (below_root n path parts below e)

  -- what belonged to a key is lent to none
  own_not_lent : (cell : ℕ) (place : KeyPlace R) (path : List (List ℕ)) → place_from root above subkey_list path ≡ Some place → IsIn cell (own_of place) → IsIn cell (above.lent ++ lent_cells subkey_list) → ⊥
  own_not_lent cell place [] e mine lent = apart cell lent (subst (λ (z : KeyPlace R). IsIn cell (own_of z)) (sym (some_same (record { at = root; parts = above; below = subkey_list }) place e)) mine)
  own_not_lent cell place (n ∷ path) e mine lent = apart cell lent (in_back cell above.own (own_cells subkey_list) (own_within subkey_list (n ∷ path) place e cell mine))

  pub apart_at : (path : List (List ℕ)) (parts : KeyParts R) (below : Keys R) → EditsAt read old new root above subkey_list path parts below → LentApart (root_after above path parts) (subkeys_after subkey_list path parts below)
  unfolding New
  apart_at [] parts below e cell lent own = elim (e.takes cell own) [
    | inl mine ↦ own_not_lent cell e.place [] e.there mine (e.lends cell lent)
    | inr fresh ↦ none_there (old cell) (lent_is_there cell (e.lends cell lent)) fresh
  ]
  apart_at (n ∷ path) parts below e cell lent own =
      let was : IsIn cell (above.lent ++ lent_cells subkey_list) = elim (in_either cell above.lent (lent_cells (with_key subkey_list (n ∷ path) parts below)) lent) [
        | inl g ↦ in_front cell above.lent (lent_cells subkey_list) g
        | inr g ↦ elim (lent_after parts below subkey_list (n ∷ path) cell g) [
          | inl k ↦ e.lends cell k
          | inr k ↦ in_back cell above.lent (lent_cells subkey_list) k
        ]
      ] in
      elim (in_either cell above.own (own_cells (with_key subkey_list (n ∷ path) parts below)) own) [
        | inl g ↦ apart cell was (in_front cell above.own (own_cells subkey_list) g)
        | inr g ↦ elim (either parts below subkey_list (n ∷ path) cell g) [
          | inl k ↦ elim (e.takes cell k) [
            | inl mine ↦ own_not_lent cell e.place (n ∷ path) e.there mine was
            | inr fresh ↦ none_there (old cell) (lent_is_there cell was) fresh
          ]
          | inr k ↦ apart cell was (in_back cell above.own (own_cells subkey_list) (but_within parts below subkey_list (n ∷ path) cell k))
        ]
      ]

  pub rows_at : (path : List (List ℕ)) (parts : KeyParts R) (below : Keys R) → EditsAt read old new root above subkey_list path parts below → (q : List (List ℕ)) →
      get (tree_of (root_after above path parts) (subkeys_after subkey_list path parts below)) q ≡ row_or (rest_of path q) parts.row below (get (tree_of above subkey_list) q)
  rows_at [] parts below e q = row_of_tree parts below e.whole.named q
  rows_at (n ∷ path) parts below e q = tree_after read local old new parts below root above subkey_list n path w (below_root n path parts below e) q
