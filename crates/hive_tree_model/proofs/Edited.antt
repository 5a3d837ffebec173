-- A change of one key and of what is below it.
use Rattle.std.proofs.Common.{◌≡◌, ◌⊎◌, ◌≢◌, inl, inr, ℕ, List, [], ◌∷◌, ◌++◌, refl, ◌∙◌, ap, sym, subst, Bool, true, false, if◌then◌else◌, Some, None, Option}
use Rattle.std.specs.FinMap.{get}
use Rattle.hive_tree_model.specs.Lists.{IsIn, Once}
use Rattle.hive_tree_model.specs.Keys.{KeyParts, KeyReader, Keys, none, key, offsets, names, own_cells, all_cells}
use Rattle.hive_tree_model.specs.Trees.{same, tree_of, row_in, row_from}
use Rattle.hive_tree_model.specs.Encodings.{CellsMatchKeys, Named, Whole}
use Rattle.hive_tree_model.specs.Cells.{IsLocal}
use Rattle.hive_tree_model.specs.Changes.{offset_in, with_key, own_cells_but, all_cells_but, last_name, rest_of, row_or, Edits}
use Rattle.hive_tree_model.proofs.Basics.{never, decided, yes_if, no_if, same_is, same_of, same_not, some_same, some_none, in_front, in_back, in_either, once_front, once_back, once_apart, once_joined}
use Rattle.hive_tree_model.proofs.Rows.{row_of_tree}
use Rattle.hive_tree_model.proofs.Frame.{fits_still}

module _ {R : Type 0} (parts : KeyParts R) (sub : Keys R) where
  -- what holds of one of two keys, by a test, holds of what the test picks
  pick : (P : Keys R → Type 0) (b : Bool) (x y : Keys R) → (b ≡ true → P x) → (b ≡ false → P y) → P (if b then x else y)
  pick P true x y h g = h refl
  pick P false x y h g = g refl

  same_offsets : (f : Keys R) (path : List (List ℕ)) → offsets (with_key f path parts sub) ≡ offsets f
  same_offsets none path = refl
  same_offsets (key at p below after) [] = refl
  same_offsets (key at p below after) (n ∷ []) = pick (λ k. offsets k ≡ at ∷ offsets after) (same n p.name) (key at parts sub after) (key at p below (with_key after (n ∷ []) parts sub)) (λ e. refl) (λ e. ap (λ (z : List ℕ). at ∷ z) (same_offsets after (n ∷ [])))
  same_offsets (key at p below after) (n ∷ m ∷ path) = pick (λ k. offsets k ≡ at ∷ offsets after) (same n p.name) (key at p (with_key below (m ∷ path) parts sub) after) (key at p below (with_key after (n ∷ m ∷ path) parts sub)) (λ e. refl) (λ e. ap (λ (z : List ℕ). at ∷ z) (same_offsets after (n ∷ m ∷ path)))

  same_names : (f : Keys R) (n : List ℕ) (path : List (List ℕ)) → parts.name ≡ last_name n path → names (with_key f (n ∷ path) parts sub) ≡ names f
  same_names none n path is = refl
  same_names (key at p below after) n [] is = pick (λ k. names k ≡ p.name ∷ names after) (same n p.name) (key at parts sub after) (key at p below (with_key after (n ∷ []) parts sub))
      (λ e. ap (λ (z : List ℕ). z ∷ names after) (is ∙ same_is n p.name e)) (λ e. ap (λ (z : List (List ℕ)). p.name ∷ z) (same_names after n [] is))
  same_names (key at p below after) n (m ∷ path) is = pick (λ k. names k ≡ p.name ∷ names after) (same n p.name) (key at p (with_key below (m ∷ path) parts sub) after) (key at p below (with_key after (n ∷ m ∷ path) parts sub))
      (λ e. refl) (λ e. ap (λ (z : List (List ℕ)). p.name ∷ z) (same_names after n (m ∷ path) is))

  still_named : (f : Keys R) → Named f → (n : List ℕ) (path : List (List ℕ)) → parts.name ≡ last_name n path → Named sub → Named (with_key f (n ∷ path) parts sub)
  still_named none named n path is its = tt
  still_named (key at p below after) named n [] is its = pick Named (same n p.name) (key at parts sub after) (key at p below (with_key after (n ∷ []) parts sub))
      (λ e. let name_is : p.name ≡ parts.name = sym (is ∙ same_is n p.name e) in (subst (λ z. z ≢ []) name_is named.0, subst (λ z. IsIn z (names after) → ⊥) name_is named.1, its, named.3))
      (λ e. (named.0, subst (λ z. IsIn p.name z → ⊥) (sym (same_names after n [] is)) named.1, named.2, still_named after named.3 n [] is its))
  still_named (key at p below after) named n (m ∷ path) is its = pick Named (same n p.name) (key at p (with_key below (m ∷ path) parts sub) after) (key at p below (with_key after (n ∷ m ∷ path) parts sub))
      (λ e. (named.0, named.1, still_named below named.2 m path is its, named.3))
      (λ e. (named.0, subst (λ z. IsIn p.name z → ⊥) (sym (same_names after n (m ∷ path) is)) named.1, named.2, still_named after named.3 n (m ∷ path) is its))

  -- lists that a test picks
  picked : (P : List ℕ → Type 0) (b : Bool) (x y : List ℕ) → P (if b then x else y) → (b ≡ true → P x) × (b ≡ false → P y)
  picked P true x y h = (λ e. h, λ e. never (sym e))
  picked P false x y h = (λ e. never e, λ e. h)

  but_within : (f : Keys R) (path : List (List ℕ)) (cell : ℕ) → IsIn cell (own_cells_but f path) → IsIn cell (own_cells f)
  but_within none path cell h = h
  but_within (key at p below after) [] cell h = h
  but_within (key at p below after) (n ∷ []) cell h =
      let two = picked (IsIn cell) (same n p.name) (own_cells after) ((p.own ++ own_cells below) ++ own_cells_but after (n ∷ [])) h in
      elim (decided (same n p.name)) [
        | inl e ↦ in_back cell (p.own ++ own_cells below) (own_cells after) (two.0 e)
        | inr e ↦ elim (in_either cell (p.own ++ own_cells below) (own_cells_but after (n ∷ [])) (two.1 e)) [
          | inl g ↦ in_front cell (p.own ++ own_cells below) (own_cells after) g
          | inr g ↦ in_back cell (p.own ++ own_cells below) (own_cells after) (but_within after (n ∷ []) cell g)
        ]
      ]
  but_within (key at p below after) (n ∷ m ∷ path) cell h =
      let two = picked (IsIn cell) (same n p.name) ((p.own ++ own_cells_but below (m ∷ path)) ++ own_cells after) ((p.own ++ own_cells below) ++ own_cells_but after (n ∷ m ∷ path)) h in
      elim (decided (same n p.name)) [
        | inl e ↦ elim (in_either cell (p.own ++ own_cells_but below (m ∷ path)) (own_cells after) (two.0 e)) [
          | inl g ↦ elim (in_either cell p.own (own_cells_but below (m ∷ path)) g) [
            | inl k ↦ in_front cell (p.own ++ own_cells below) (own_cells after) (in_front cell p.own (own_cells below) k)
            | inr k ↦ in_front cell (p.own ++ own_cells below) (own_cells after) (in_back cell p.own (own_cells below) (but_within below (m ∷ path) cell k))
          ]
          | inr g ↦ in_back cell (p.own ++ own_cells below) (own_cells after) g
        ]
        | inr e ↦ elim (in_either cell (p.own ++ own_cells below) (own_cells_but after (n ∷ m ∷ path)) (two.1 e)) [
          | inl g ↦ in_front cell (p.own ++ own_cells below) (own_cells after) g
          | inr g ↦ in_back cell (p.own ++ own_cells below) (own_cells after) (but_within after (n ∷ m ∷ path) cell g)
        ]
      ]

  New : ℕ → Type 0
  New cell = IsIn cell (parts.own ++ own_cells sub)

  -- a cell of the changed keys is one of the new ones or of the others
  either : (f : Keys R) (path : List (List ℕ)) (cell : ℕ) → IsIn cell (own_cells (with_key f path parts sub)) → New cell ⊎ IsIn cell (own_cells_but f path)
  unfolding New
  either none path cell h = inr h
  either (key at p below after) [] cell h = inr h
  either (key at p below after) (n ∷ []) cell h = go (decided (same n p.name)) h (λ g. either after (n ∷ []) cell g)
    where
      go : (same n p.name ≡ true) ⊎ (same n p.name ≡ false) → IsIn cell (own_cells (with_key (key at p below after) (n ∷ []) parts sub)) →
          (IsIn cell (own_cells (with_key after (n ∷ []) parts sub)) → IsIn cell (parts.own ++ own_cells sub) ⊎ IsIn cell (own_cells_but after (n ∷ []))) →
          IsIn cell (parts.own ++ own_cells sub) ⊎ IsIn cell (own_cells_but (key at p below after) (n ∷ []))
      go (inl e) h next = elim (in_either cell (parts.own ++ own_cells sub) (own_cells after) (subst (λ (z : Keys R). IsIn cell (own_cells z)) (yes_if (same n p.name) (key at parts sub after) (key at p below (with_key after (n ∷ []) parts sub)) e) h)) [
        | inl g ↦ inl g
        | inr g ↦ inr (subst (λ z. IsIn cell z) (sym (yes_if (same n p.name) (own_cells after) ((p.own ++ own_cells below) ++ own_cells_but after (n ∷ [])) e)) g)
      ]
      go (inr e) h next = elim (in_either cell (p.own ++ own_cells below) (own_cells (with_key after (n ∷ []) parts sub)) (subst (λ (z : Keys R). IsIn cell (own_cells z)) (no_if (same n p.name) (key at parts sub after) (key at p below (with_key after (n ∷ []) parts sub)) e) h)) [
        | inl g ↦ inr (subst (λ z. IsIn cell z) (sym (no_if (same n p.name) (own_cells after) ((p.own ++ own_cells below) ++ own_cells_but after (n ∷ [])) e)) (in_front cell (p.own ++ own_cells below) (own_cells_but after (n ∷ [])) g))
        | inr g ↦ elim (next g) [
          | inl k ↦ inl k
          | inr k ↦ inr (subst (λ z. IsIn cell z) (sym (no_if (same n p.name) (own_cells after) ((p.own ++ own_cells below) ++ own_cells_but after (n ∷ [])) e)) (in_back cell (p.own ++ own_cells below) (own_cells_but after (n ∷ [])) k))
        ]
      ]
  either (key at p below after) (n ∷ m ∷ path) cell h = go (decided (same n p.name)) h (λ g. either below (m ∷ path) cell g) (λ g. either after (n ∷ m ∷ path) cell g)
    where
      go : (same n p.name ≡ true) ⊎ (same n p.name ≡ false) → IsIn cell (own_cells (with_key (key at p below after) (n ∷ m ∷ path) parts sub)) →
          (IsIn cell (own_cells (with_key below (m ∷ path) parts sub)) → IsIn cell (parts.own ++ own_cells sub) ⊎ IsIn cell (own_cells_but below (m ∷ path))) →
          (IsIn cell (own_cells (with_key after (n ∷ m ∷ path) parts sub)) → IsIn cell (parts.own ++ own_cells sub) ⊎ IsIn cell (own_cells_but after (n ∷ m ∷ path))) →
          IsIn cell (parts.own ++ own_cells sub) ⊎ IsIn cell (own_cells_but (key at p below after) (n ∷ m ∷ path))
      go (inl e) h down next =
          let back : IsIn cell ((p.own ++ own_cells_but below (m ∷ path)) ++ own_cells after) → IsIn cell (own_cells_but (key at p below after) (n ∷ m ∷ path)) = λ g. subst (λ z. IsIn cell z) (sym (yes_if (same n p.name) ((p.own ++ own_cells_but below (m ∷ path)) ++ own_cells after) ((p.own ++ own_cells below) ++ own_cells_but after (n ∷ m ∷ path)) e)) g in
          elim (in_either cell (p.own ++ own_cells (with_key below (m ∷ path) parts sub)) (own_cells after) (subst (λ (z : Keys R). IsIn cell (own_cells z)) (yes_if (same n p.name) (key at p (with_key below (m ∷ path) parts sub) after) (key at p below (with_key after (n ∷ m ∷ path) parts sub)) e) h)) [
            | inl g ↦ elim (in_either cell p.own (own_cells (with_key below (m ∷ path) parts sub)) g) [
              | inl k ↦ inr (back (in_front cell (p.own ++ own_cells_but below (m ∷ path)) (own_cells after) (in_front cell p.own (own_cells_but below (m ∷ path)) k)))
              | inr k ↦ elim (down k) [
                | inl l ↦ inl l
                | inr l ↦ inr (back (in_front cell (p.own ++ own_cells_but below (m ∷ path)) (own_cells after) (in_back cell p.own (own_cells_but below (m ∷ path)) l)))
              ]
            ]
            | inr g ↦ inr (back (in_back cell (p.own ++ own_cells_but below (m ∷ path)) (own_cells after) g))
          ]
      go (inr e) h down next =
          let back : IsIn cell ((p.own ++ own_cells below) ++ own_cells_but after (n ∷ m ∷ path)) → IsIn cell (own_cells_but (key at p below after) (n ∷ m ∷ path)) = λ g. subst (λ z. IsIn cell z) (sym (no_if (same n p.name) ((p.own ++ own_cells_but below (m ∷ path)) ++ own_cells after) ((p.own ++ own_cells below) ++ own_cells_but after (n ∷ m ∷ path)) e)) g in
          elim (in_either cell (p.own ++ own_cells below) (own_cells (with_key after (n ∷ m ∷ path) parts sub)) (subst (λ (z : Keys R). IsIn cell (own_cells z)) (no_if (same n p.name) (key at p (with_key below (m ∷ path) parts sub) after) (key at p below (with_key after (n ∷ m ∷ path) parts sub)) e) h)) [
            | inl g ↦ inr (back (in_front cell (p.own ++ own_cells below) (own_cells_but after (n ∷ m ∷ path)) g))
            | inr g ↦ elim (next g) [
              | inl k ↦ inl k
              | inr k ↦ inr (back (in_back cell (p.own ++ own_cells below) (own_cells_but after (n ∷ m ∷ path)) k))
            ]
          ]

  -- nothing of the new keys is in a list of others' cells
  Clear : List ℕ → Type 0
  Clear others = (cell : ℕ) → IsIn cell (parts.own ++ own_cells sub) → IsIn cell others → ⊥

  still_once : (f : Keys R) (path : List (List ℕ)) → Once (own_cells f) → Once (parts.own ++ own_cells sub) → Clear (own_cells_but f path) → Once (own_cells (with_key f path parts sub))
  unfolding Clear New
  still_once none path once its clear = tt
  still_once (key at p below after) [] once its clear = once
  still_once (key at p below after) (n ∷ []) once its clear = pick (λ k. Once (own_cells k)) (same n p.name) (key at parts sub after) (key at p below (with_key after (n ∷ []) parts sub))
      (λ e. once_joined (parts.own ++ own_cells sub) (own_cells after) its (once_back (p.own ++ own_cells below) (own_cells after) once)
      (λ cell h g. clear cell h (subst (λ z. IsIn cell z) (sym (yes_if (same n p.name) (own_cells after) ((p.own ++ own_cells below) ++ own_cells_but after (n ∷ [])) e)) g)))
      (λ e. let clear_so : (cell : ℕ) → IsIn cell (parts.own ++ own_cells sub) → IsIn cell ((p.own ++ own_cells below) ++ own_cells_but after (n ∷ [])) → ⊥ = λ cell h g. clear cell h (subst (λ z. IsIn cell z) (sym (no_if (same n p.name) (own_cells after) ((p.own ++ own_cells below) ++ own_cells_but after (n ∷ [])) e)) g) in
      once_joined (p.own ++ own_cells below) (own_cells (with_key after (n ∷ []) parts sub)) (once_front (p.own ++ own_cells below) (own_cells after) once)
      (still_once after (n ∷ []) (once_back (p.own ++ own_cells below) (own_cells after) once) its (λ cell h g. clear_so cell h (in_back cell (p.own ++ own_cells below) (own_cells_but after (n ∷ [])) g)))
      (λ cell h g. elim (either after (n ∷ []) cell g) [
        | inl k ↦ clear_so cell k (in_front cell (p.own ++ own_cells below) (own_cells_but after (n ∷ [])) h)
        | inr k ↦ once_apart cell (p.own ++ own_cells below) (own_cells after) once h (but_within after (n ∷ []) cell k)
      ]))
  still_once (key at p below after) (n ∷ m ∷ path) once its clear = pick (λ k. Once (own_cells k)) (same n p.name) (key at p (with_key below (m ∷ path) parts sub) after) (key at p below (with_key after (n ∷ m ∷ path) parts sub))
      (λ e. let clear_so : (cell : ℕ) → IsIn cell (parts.own ++ own_cells sub) → IsIn cell ((p.own ++ own_cells_but below (m ∷ path)) ++ own_cells after) → ⊥ = λ cell h g. clear cell h (subst (λ z. IsIn cell z) (sym (yes_if (same n p.name) ((p.own ++ own_cells_but below (m ∷ path)) ++ own_cells after) ((p.own ++ own_cells below) ++ own_cells_but after (n ∷ m ∷ path)) e)) g) in
      let front : Once (p.own ++ own_cells below) = once_front (p.own ++ own_cells below) (own_cells after) once in
      once_joined (p.own ++ own_cells (with_key below (m ∷ path) parts sub)) (own_cells after)
      (once_joined p.own (own_cells (with_key below (m ∷ path) parts sub)) (once_front p.own (own_cells below) front)
      (still_once below (m ∷ path) (once_back p.own (own_cells below) front) its (λ cell h g. clear_so cell h (in_front cell (p.own ++ own_cells_but below (m ∷ path)) (own_cells after) (in_back cell p.own (own_cells_but below (m ∷ path)) g))))
      (λ cell h g. elim (either below (m ∷ path) cell g) [
        | inl k ↦ clear_so cell k (in_front cell (p.own ++ own_cells_but below (m ∷ path)) (own_cells after) (in_front cell p.own (own_cells_but below (m ∷ path)) h))
        | inr k ↦ once_apart cell p.own (own_cells below) front h (but_within below (m ∷ path) cell k)
      ]))
      (once_back (p.own ++ own_cells below) (own_cells after) once)
      (λ cell h g. elim (in_either cell p.own (own_cells (with_key below (m ∷ path) parts sub)) h) [
        | inl k ↦ once_apart cell (p.own ++ own_cells below) (own_cells after) once (in_front cell p.own (own_cells below) k) g
        | inr k ↦ elim (either below (m ∷ path) cell k) [
          | inl l ↦ clear_so cell l (in_back cell (p.own ++ own_cells_but below (m ∷ path)) (own_cells after) g)
          | inr l ↦ once_apart cell (p.own ++ own_cells below) (own_cells after) once (in_back cell p.own (own_cells below) (but_within below (m ∷ path) cell l)) g
        ]
      ]))
      (λ e. let clear_so : (cell : ℕ) → IsIn cell (parts.own ++ own_cells sub) → IsIn cell ((p.own ++ own_cells below) ++ own_cells_but after (n ∷ m ∷ path)) → ⊥ = λ cell h g. clear cell h (subst (λ z. IsIn cell z) (sym (no_if (same n p.name) ((p.own ++ own_cells_but below (m ∷ path)) ++ own_cells after) ((p.own ++ own_cells below) ++ own_cells_but after (n ∷ m ∷ path)) e)) g) in
      once_joined (p.own ++ own_cells below) (own_cells (with_key after (n ∷ m ∷ path) parts sub)) (once_front (p.own ++ own_cells below) (own_cells after) once)
      (still_once after (n ∷ m ∷ path) (once_back (p.own ++ own_cells below) (own_cells after) once) its (λ cell h g. clear_so cell h (in_back cell (p.own ++ own_cells below) (own_cells_but after (n ∷ m ∷ path)) g)))
      (λ cell h g. elim (either after (n ∷ m ∷ path) cell g) [
        | inl k ↦ clear_so cell k (in_front cell (p.own ++ own_cells below) (own_cells_but after (n ∷ m ∷ path)) h)
        | inr k ↦ once_apart cell (p.own ++ own_cells below) (own_cells after) once h (but_within after (n ∷ m ∷ path) cell k)
      ]))

  -- the rows
  one_name : (b c d : Bool) (old : R) (x : Option R) → b ≡ c → b ≡ d → (if b then Some parts.row else x) ≡ row_or (if c then Some [] else None) parts.row sub (if d then Some old else x)
  one_name b c d old x e f = subst (λ z. (if b then Some parts.row else x) ≡ row_or (if z then Some [] else None) parts.row sub (if d then Some old else x)) e
      (subst (λ z. (if b then Some parts.row else x) ≡ row_or (if b then Some [] else None) parts.row sub (if z then Some old else x)) f
      (elim b as (λ z. (if z then Some parts.row else x) ≡ row_or (if z then Some [] else None) parts.row sub (if z then Some old else x)) [ true ↦ refl | false ↦ refl ]))

  more_names : (b c d : Bool) (m : List ℕ) (rest : List (List ℕ)) (old x : Option R) → b ≡ c → b ≡ d → (if b then row_in sub (m ∷ rest) else x) ≡ row_or (if c then Some (m ∷ rest) else None) parts.row sub (if d then old else x)
  more_names b c d m rest old x e f = subst (λ z. (if b then row_in sub (m ∷ rest) else x) ≡ row_or (if z then Some (m ∷ rest) else None) parts.row sub (if d then old else x)) e
      (subst (λ z. (if b then row_in sub (m ∷ rest) else x) ≡ row_or (if b then Some (m ∷ rest) else None) parts.row sub (if z then old else x)) f
      (elim b as (λ z. (if z then row_in sub (m ∷ rest) else x) ≡ row_or (if z then Some (m ∷ rest) else None) parts.row sub (if z then old else x)) [ true ↦ refl | false ↦ refl ]))

  went_on : (b c : Bool) (r : Option (List (List ℕ))) (new old x : Option R) → b ≡ c → new ≡ row_or r parts.row sub old → (if b then new else x) ≡ row_or (if c then r else None) parts.row sub (if b then old else x)
  went_on b c r new old x e is = subst (λ z. (if b then new else x) ≡ row_or (if z then r else None) parts.row sub (if b then old else x)) e
      (elim b as (λ z. (if z then new else x) ≡ row_or (if z then r else None) parts.row sub (if z then old else x)) [ true ↦ is | false ↦ refl ])

  passed : (b c : Bool) (r : Option (List (List ℕ))) (here new old : Option R) → (b ≡ true → c ≡ false) → new ≡ row_or (if c then r else None) parts.row sub old → (if b then here else new) ≡ row_or (if c then r else None) parts.row sub (if b then here else old)
  passed true c r here new old apart is = subst (λ z. here ≡ row_or (if z then r else None) parts.row sub here) (sym (apart refl)) refl
  passed false c r here new old apart is = is

  test_same : (m n o : List ℕ) → n ≡ o → same m n ≡ same m o
  test_same m n o e = ap (same m) e

  never_both : (m n o : List ℕ) → same n o ≡ false → same m o ≡ true → same m n ≡ false
  never_both m n o apart is = same_not m n (λ e. never (sym apart ∙ same_of n o (sym e ∙ same_is m o is)))

  nil_offset : (f : Keys R) → row_in f [] ≡ None
  nil_offset none = refl
  nil_offset (key at p below after) = refl

  pub rows_after : (f : Keys R) (n : List ℕ) (path : List (List ℕ)) (at : ℕ) → offset_in f (n ∷ path) ≡ Some at → parts.name ≡ last_name n path → (q : List (List ℕ)) →
      row_in (with_key f (n ∷ path) parts sub) q ≡ row_or (rest_of (n ∷ path) q) parts.row sub (row_in f q)
  rows_after none n path at there is q = some_none at there
  rows_after (key to p below after) n path at there is [] = nil_offset (with_key (key to p below after) (n ∷ path) parts sub)
  rows_after (key to p below after) n [] at there is (m ∷ []) = pick (λ k. row_in k (m ∷ []) ≡ row_or (rest_of (n ∷ []) (m ∷ [])) parts.row sub (row_in (key to p below after) (m ∷ []))) (same n p.name) (key to parts sub after) (key to p below (with_key after (n ∷ []) parts sub))
      (λ e. one_name (same m parts.name) (same m n) (same m p.name) p.row (row_in after (m ∷ [])) (test_same m parts.name n is) (test_same m parts.name p.name (is ∙ same_is n p.name e)))
      (λ e. passed (same m p.name) (same m n) (Some []) (Some p.row) (row_in (with_key after (n ∷ []) parts sub) (m ∷ [])) (row_in after (m ∷ [])) (never_both m n p.name e)
      (rows_after after n [] at (sym (no_if (same n p.name) (Some to) (offset_in after (n ∷ [])) e) ∙ there) is (m ∷ [])))
  rows_after (key to p below after) n [] at there is (m ∷ k ∷ rest) = pick (λ z. row_in z (m ∷ k ∷ rest) ≡ row_or (rest_of (n ∷ []) (m ∷ k ∷ rest)) parts.row sub (row_in (key to p below after) (m ∷ k ∷ rest))) (same n p.name) (key to parts sub after) (key to p below (with_key after (n ∷ []) parts sub))
      (λ e. more_names (same m parts.name) (same m n) (same m p.name) k rest (row_in below (k ∷ rest)) (row_in after (m ∷ k ∷ rest)) (test_same m parts.name n is) (test_same m parts.name p.name (is ∙ same_is n p.name e)))
      (λ e. passed (same m p.name) (same m n) (Some (k ∷ rest)) (row_in below (k ∷ rest)) (row_in (with_key after (n ∷ []) parts sub) (m ∷ k ∷ rest)) (row_in after (m ∷ k ∷ rest)) (never_both m n p.name e)
      (rows_after after n [] at (sym (no_if (same n p.name) (Some to) (offset_in after (n ∷ [])) e) ∙ there) is (m ∷ k ∷ rest)))
  rows_after (key to p below after) n (a ∷ path) at there is (m ∷ []) = pick (λ k. row_in k (m ∷ []) ≡ row_or (rest_of (n ∷ a ∷ path) (m ∷ [])) parts.row sub (row_in (key to p below after) (m ∷ []))) (same n p.name) (key to p (with_key below (a ∷ path) parts sub) after) (key to p below (with_key after (n ∷ a ∷ path) parts sub))
      (λ e. went_on (same m p.name) (same m n) None (Some p.row) (Some p.row) (row_in after (m ∷ [])) (test_same m p.name n (sym (same_is n p.name e))) refl)
      (λ e. passed (same m p.name) (same m n) None (Some p.row) (row_in (with_key after (n ∷ a ∷ path) parts sub) (m ∷ [])) (row_in after (m ∷ [])) (never_both m n p.name e)
      (rows_after after n (a ∷ path) at (sym (no_if (same n p.name) (offset_in below (a ∷ path)) (offset_in after (n ∷ a ∷ path)) e) ∙ there) is (m ∷ [])))
  rows_after (key to p below after) n (a ∷ path) at there is (m ∷ k ∷ rest) = pick (λ z. row_in z (m ∷ k ∷ rest) ≡ row_or (rest_of (n ∷ a ∷ path) (m ∷ k ∷ rest)) parts.row sub (row_in (key to p below after) (m ∷ k ∷ rest))) (same n p.name) (key to p (with_key below (a ∷ path) parts sub) after) (key to p below (with_key after (n ∷ a ∷ path) parts sub))
      (λ e. went_on (same m p.name) (same m n) (rest_of (a ∷ path) (k ∷ rest)) (row_in (with_key below (a ∷ path) parts sub) (k ∷ rest)) (row_in below (k ∷ rest)) (row_in after (m ∷ k ∷ rest)) (test_same m p.name n (sym (same_is n p.name e)))
      (rows_after below a path at (sym (yes_if (same n p.name) (offset_in below (a ∷ path)) (offset_in after (n ∷ a ∷ path)) e) ∙ there) is (k ∷ rest)))
      (λ e. passed (same m p.name) (same m n) (rest_of (a ∷ path) (k ∷ rest)) (row_in below (k ∷ rest)) (row_in (with_key after (n ∷ a ∷ path) parts sub) (m ∷ k ∷ rest)) (row_in after (m ∷ k ∷ rest)) (never_both m n p.name e)
      (rows_after after n (a ∷ path) at (sym (no_if (same n p.name) (offset_in below (a ∷ path)) (offset_in after (n ∷ a ∷ path)) e) ∙ there) is (m ∷ k ∷ rest)))

module _ {D R C : Type 0} (read : (ℕ → Option D) → KeyReader R C) (local : IsLocal read) (old new : ℕ → Option D) (parts : KeyParts R) (sub : Keys R) where
  Stay : List ℕ → Type 0
  Stay cells = (cell : ℕ) → IsIn cell cells → new cell ≡ old cell

  choose : (b : Bool) (x y : List ℕ) → Stay (if b then x else y) → (b ≡ true → Stay x) × (b ≡ false → Stay y)
  choose true x y h = (λ e. h, λ e. never (sym e))
  choose false x y h = (λ e. never e, λ e. h)

  stay_front : (x y : List ℕ) → Stay (x ++ y) → Stay x
  unfolding Stay
  stay_front x y s = λ cell h. s cell (in_front cell x y h)

  stay_back : (x y : List ℕ) → Stay (x ++ y) → Stay y
  unfolding Stay
  stay_back x y s = λ cell h. s cell (in_back cell x y h)

  fits_after : (f : Keys R) (n : List ℕ) (path : List (List ℕ)) (at : ℕ) → offset_in f (n ∷ path) ≡ Some at → CellsMatchKeys (read old) f → Stay (all_cells_but f (n ∷ path)) → Whole (read new) at parts sub → CellsMatchKeys (read new) (with_key f (n ∷ path) parts sub)
  unfolding Stay
  fits_after none n path at there fits stay w = tt
  fits_after (key to p below after) n [] at there fits stay w =
      let two = choose (same n p.name) (all_cells after) (((p.own ++ p.lent) ++ all_cells below) ++ all_cells_but after (n ∷ [])) stay in
      pick parts sub (CellsMatchKeys (read new)) (same n p.name) (key to parts sub after) (key to p below (with_key after (n ∷ []) parts sub))
      (λ e. (ap (read new) (some_same to at (sym (yes_if (same n p.name) (Some to) (offset_in after (n ∷ [])) e) ∙ there)) ∙ w.read, w.listed, w.fits, fits_still read local old new after fits.3 (two.0 e)))
      (λ e. let stays = two.1 e in let front = stay_front ((p.own ++ p.lent) ++ all_cells below) (all_cells_but after (n ∷ [])) stays in (
        local old new to p fits.0 (stay_front (p.own ++ p.lent) (all_cells below) front),
        fits.1,
        fits_still read local old new below fits.2 (stay_back (p.own ++ p.lent) (all_cells below) front),
        fits_after after n [] at (sym (no_if (same n p.name) (Some to) (offset_in after (n ∷ [])) e) ∙ there) fits.3 (stay_back ((p.own ++ p.lent) ++ all_cells below) (all_cells_but after (n ∷ [])) stays) w,
      ))
  fits_after (key to p below after) n (m ∷ path) at there fits stay w =
      let two = choose (same n p.name) (((p.own ++ p.lent) ++ all_cells_but below (m ∷ path)) ++ all_cells after) (((p.own ++ p.lent) ++ all_cells below) ++ all_cells_but after (n ∷ m ∷ path)) stay in
      pick parts sub (CellsMatchKeys (read new)) (same n p.name) (key to p (with_key below (m ∷ path) parts sub) after) (key to p below (with_key after (n ∷ m ∷ path) parts sub))
      (λ e. let stays = two.0 e in let front = stay_front ((p.own ++ p.lent) ++ all_cells_but below (m ∷ path)) (all_cells after) stays in (
        local old new to p fits.0 (stay_front (p.own ++ p.lent) (all_cells_but below (m ∷ path)) front),
        same_offsets parts sub below (m ∷ path) ∙ fits.1,
        fits_after below m path at (sym (yes_if (same n p.name) (offset_in below (m ∷ path)) (offset_in after (n ∷ m ∷ path)) e) ∙ there) fits.2 (stay_back (p.own ++ p.lent) (all_cells_but below (m ∷ path)) front) w,
        fits_still read local old new after fits.3 (stay_back ((p.own ++ p.lent) ++ all_cells_but below (m ∷ path)) (all_cells after) stays),
      ))
      (λ e. let stays = two.1 e in let front = stay_front ((p.own ++ p.lent) ++ all_cells below) (all_cells_but after (n ∷ m ∷ path)) stays in (
        local old new to p fits.0 (stay_front (p.own ++ p.lent) (all_cells below) front),
        fits.1,
        fits_still read local old new below fits.2 (stay_back (p.own ++ p.lent) (all_cells below) front),
        fits_after after n (m ∷ path) at (sym (no_if (same n p.name) (offset_in below (m ∷ path)) (offset_in after (n ∷ m ∷ path)) e) ∙ there) fits.3 (stay_back ((p.own ++ p.lent) ++ all_cells below) (all_cells_but after (n ∷ m ∷ path)) stays) w,
      ))

  pub whole_after : (root : ℕ) (above : KeyParts R) (subkey_list : Keys R) (n : List ℕ) (path : List (List ℕ)) → Whole (read old) root above subkey_list → Edits read old new above subkey_list n path parts sub → Whole (read new) root above (with_key subkey_list (n ∷ path) parts sub)
  unfolding Stay New Clear
  whole_after root above subkey_list n path w e = record {
    read = local old new root above w.read e.root_stays;
    listed = same_offsets parts sub subkey_list (n ∷ path) ∙ w.listed;
    fits = fits_after subkey_list n path e.at e.there w.fits e.others_stay e.whole;
    named = still_named parts sub subkey_list w.named n path e.name_stays e.whole.named;
    once = once_joined above.own (own_cells (with_key subkey_list (n ∷ path) parts sub)) (once_front above.own (own_cells subkey_list) w.once)
        (still_once parts sub subkey_list (n ∷ path) (once_back above.own (own_cells subkey_list) w.once) e.whole.once e.not_others)
        (λ cell h g. elim (either parts sub subkey_list (n ∷ path) cell g) [
          | inl k ↦ e.not_roots cell k h
          | inr k ↦ once_apart cell above.own (own_cells subkey_list) w.once h (but_within parts sub subkey_list (n ∷ path) cell k)
        ]);
  }

  pub tree_after : (root : ℕ) (above : KeyParts R) (subkey_list : Keys R) (n : List ℕ) (path : List (List ℕ)) → Whole (read old) root above subkey_list → Edits read old new above subkey_list n path parts sub → (q : List (List ℕ)) →
      get (tree_of above (with_key subkey_list (n ∷ path) parts sub)) q ≡ row_or (rest_of (n ∷ path) q) parts.row sub (get (tree_of above subkey_list) q)
  tree_after root above subkey_list n path w e q =
      row_of_tree above (with_key subkey_list (n ∷ path) parts sub) (still_named parts sub subkey_list w.named n path e.name_stays e.whole.named) q
      ∙ by q ∙ ap (row_or (rest_of (n ∷ path) q) parts.row sub) (sym (row_of_tree above subkey_list w.named q))
    where
      by : (q : List (List ℕ)) → row_from above.row (with_key subkey_list (n ∷ path) parts sub) q ≡ row_or (rest_of (n ∷ path) q) parts.row sub (row_from above.row subkey_list q)
      by [] = refl
      by (m ∷ rest) = rows_after parts sub subkey_list n path e.at e.there e.name_stays (m ∷ rest)
