-- A path is in the tree exactly if a chain of listed keys has its names.
use Rattle.std.proofs.Common.{◌≡◌, inl, inr, ℕ, List, [], ◌∷◌, ◌++◌, refl, ◌∙◌, ap, sym, subst, true, false, Some, Ok, IsSome, is_some}
use Rattle.std.specs.FinMap.{get}
use Rattle.hive_tree_model.specs.Lists.{IsIn}
use Rattle.hive_tree_model.specs.Keys.{KeyParts, KeyReader, Keys, none, key, offsets, names}
use Rattle.hive_tree_model.specs.Trees.{TreeOf, same, row_in, row_from}
use Rattle.hive_tree_model.specs.Encodings.{CellsMatchKeys, Named, Whole, CellsEncodeTree, IsKeyTree, NamesBy}
use Rattle.hive_tree_model.specs.Chains.{PathReachesRow}
use Rattle.hive_tree_model.proofs.Basics.{decided, yes_if, no_if, same_is, same_not, same_of, some_same, some_none}
use Rattle.hive_tree_model.proofs.Rows.{row_of_tree}
use Rattle.hive_tree_model.proofs.Only.{one_parts}

module _ {R C : Type 0} (reads : KeyReader R C) where
  -- a subkey of the name, from which a chain has the rest of the names
  abbrev Subkey : List ℕ → List ℕ → List (List ℕ) → R → Type 0
  Subkey subkey_list n path row = (subkey : ℕ) × (its : KeyParts R) × IsIn subkey subkey_list × (reads subkey ≡ Ok its) × (its.name ≡ n) × PathReachesRow reads subkey path row

  later : (subkey_list : List ℕ) (at : ℕ) (n : List ℕ) (path : List (List ℕ)) (row : R) → Subkey subkey_list n path row → Subkey (at ∷ subkey_list) n path row
  later subkey_list at n path row k = (k.0, k.1, inr k.2, k.3, k.4, k.5)

  deeper : (at : ℕ) (p : KeyParts R) (below : Keys R) (m : List ℕ) (path : List (List ℕ)) (row : R) → reads at ≡ Ok p → offsets below ≡ p.subkey_list → Subkey (offsets below) m path row → PathReachesRow reads at (m ∷ path) row
  deeper at p below m path row r e k = (p, k.0, k.1, r, subst (λ z. IsIn k.0 z) e k.2, k.3, k.4, k.5)

  spelled : (f : Keys R) → CellsMatchKeys reads f → (n : List ℕ) (path : List (List ℕ)) (row : R) → row_in f (n ∷ path) ≡ Some row → Subkey (offsets f) n path row
  spelled none fits n path row h = some_none row h
  spelled (key at p below after) fits n [] row h = elim (decided (same n p.name)) [
    | inl it_is ↦ (at, p, inl refl, fits.0, sym (same_is n p.name it_is), (p, fits.0, some_same p.row row (sym (yes_if (same n p.name) (Some p.row) (row_in after (n ∷ [])) it_is) ∙ h)))
    | inr not_it ↦ later (offsets after) at n [] row (spelled after fits.3 n [] row (sym (no_if (same n p.name) (Some p.row) (row_in after (n ∷ [])) not_it) ∙ h))
  ]
  spelled (key at p below after) fits n (m ∷ path) row h = elim (decided (same n p.name)) [
    | inl it_is ↦ (at, p, inl refl, fits.0, sym (same_is n p.name it_is), deeper at p below m path row fits.0 fits.1 (spelled below fits.2 m path row (sym (yes_if (same n p.name) (row_in below (m ∷ path)) (row_in after (n ∷ m ∷ path)) it_is) ∙ h)))
    | inr not_it ↦ later (offsets after) at n (m ∷ path) row (spelled after fits.3 n (m ∷ path) row (sym (no_if (same n p.name) (row_in below (m ∷ path)) (row_in after (n ∷ m ∷ path)) not_it) ∙ h))
  ]

  name_listed : (f : Keys R) → CellsMatchKeys reads f → (subkey : ℕ) (its : KeyParts R) → IsIn subkey (offsets f) → reads subkey ≡ Ok its → IsIn its.name (names f)
  name_listed none fits subkey its h r = absurd h
  name_listed (key at p below after) fits subkey its (inl e) r = inl (ap (λ (z : KeyParts R). z.name) (one_parts reads subkey at its p e r fits.0))
  name_listed (key at p below after) fits subkey its (inr h) r = inr (name_listed after fits.3 subkey its h r)

  stands_there : (f : Keys R) → CellsMatchKeys reads f → Named f → (n : List ℕ) (path : List (List ℕ)) (row : R) → Subkey (offsets f) n path row → row_in f (n ∷ path) ≡ Some row
  stands_there none fits named n path row k = absurd k.2
  stands_there (key at p below after) fits named n path row (subkey, its, inl e, r, is, s) = here (λ m rest k. stands_there below fits.2 named.2 m rest row k) path s
    where
      its_is : its ≡ p
      its_is = one_parts reads subkey at its p e r fits.0

      it_is : same n p.name ≡ true
      it_is = same_of n p.name (sym is ∙ ap (λ (z : KeyParts R). z.name) its_is)

      here : ((m : List ℕ) (rest : List (List ℕ)) → Subkey (offsets below) m rest row → row_in below (m ∷ rest) ≡ Some row) → (path : List (List ℕ)) → PathReachesRow reads subkey path row → row_in (key at p below after) (n ∷ path) ≡ Some row
      here further [] t = yes_if (same n p.name) (Some p.row) (row_in after (n ∷ [])) it_is ∙ ap (λ (z : KeyParts R). Some z.row) (one_parts reads at subkey p t.0 (sym e) fits.0 t.1) ∙ ap Some t.2
      here further (m ∷ rest) t = yes_if (same n p.name) (row_in below (m ∷ rest)) (row_in after (n ∷ m ∷ rest)) it_is
          ∙ further m rest (t.1, t.2, subst (λ z. IsIn t.1 z) (ap (λ (z : KeyParts R). z.subkey_list) (one_parts reads subkey at t.0 p e t.3 fits.0) ∙ sym fits.1) t.4, t.5, t.6, t.7)
  stands_there (key at p below after) fits named n path row (subkey, its, inr h, r, is, s) = past path (stands_there after fits.3 named.3 n path row (subkey, its, h, r, is, s))
    where
      not_it : same n p.name ≡ false
      not_it = same_not n p.name (λ e. named.1 (subst (λ z. IsIn z (names after)) (is ∙ e) (name_listed after fits.3 subkey its h r)))

      past : (path : List (List ℕ)) → row_in after (n ∷ path) ≡ Some row → row_in (key at p below after) (n ∷ path) ≡ Some row
      past [] t = no_if (same n p.name) (Some p.row) (row_in after (n ∷ [])) not_it ∙ t
      past (m ∷ rest) t = no_if (same n p.name) (row_in below (m ∷ rest)) (row_in after (n ∷ m ∷ rest)) not_it ∙ t

  from_whole : (root : ℕ) (p : KeyParts R) (below : Keys R) → Whole reads root p below → (path : List (List ℕ)) (row : R) → row_from p.row below path ≡ Some row → PathReachesRow reads root path row
  from_whole root p below w [] row h = (p, w.read, some_same p.row row h)
  from_whole root p below w (n ∷ path) row h = deeper root p below n path row w.read w.listed (spelled below w.fits n path row h)

  to_whole : (root : ℕ) (p : KeyParts R) (below : Keys R) → Whole reads root p below → (path : List (List ℕ)) (row : R) → PathReachesRow reads root path row → row_from p.row below path ≡ Some row
  to_whole root p below w [] row s = ap (λ (z : KeyParts R). Some z.row) (one_parts reads root root p s.0 refl w.read s.1) ∙ ap Some s.2
  to_whole root p below w (n ∷ path) row s = stands_there below w.fits w.named n path row
      (s.1, s.2, subst (λ z. IsIn s.1 z) (ap (λ (z : KeyParts R). z.subkey_list) (one_parts reads root root s.0 p refl s.3 w.read) ∙ sym w.listed) s.4, s.5, s.6, s.7)

  pub chains : (root : ℕ) (tree : TreeOf R) → CellsEncodeTree reads root tree → (path : List (List ℕ)) (row : R) → (get tree path ≡ Some row → PathReachesRow reads root path row) × (PathReachesRow reads root path row → get tree path ≡ Some row)
  chains root tree s path row =
      let at : get tree path ≡ row_from s.0.row s.1 path = ap (λ (t : TreeOf R). get t path) s.3 ∙ row_of_tree s.0 s.1 s.2.named path in
      (λ h. from_whole root s.0 s.1 s.2 path row (sym at ∙ h), λ h. at ∙ to_whole root s.0 s.1 s.2 path row h)

  -- with each key its parent is there, and each key is under its name
  module _ (name_of : R → List ℕ) (by : NamesBy name_of reads) where
    parent : (f : Keys R) → (n : List ℕ) (path : List (List ℕ)) (m : List ℕ) → IsSome (row_in f (n ∷ (path ++ m ∷ []))) → IsSome (row_in f (n ∷ path))
    parent none n path m h = h
    parent (key at p below after) n [] m h = elim (decided (same n p.name)) [
      | inl it_is ↦ ap is_some (yes_if (same n p.name) (Some p.row) (row_in after (n ∷ [])) it_is)
      | inr not_it ↦ ap is_some (no_if (same n p.name) (Some p.row) (row_in after (n ∷ [])) not_it)
          ∙ parent after n [] m (sym (ap is_some (no_if (same n p.name) (row_in below (m ∷ [])) (row_in after (n ∷ m ∷ [])) not_it)) ∙ h)
    ]
    parent (key at p below after) n (a ∷ path) m h = elim (decided (same n p.name)) [
      | inl it_is ↦ ap is_some (yes_if (same n p.name) (row_in below (a ∷ path)) (row_in after (n ∷ a ∷ path)) it_is)
          ∙ parent below a path m (sym (ap is_some (yes_if (same n p.name) (row_in below (a ∷ (path ++ m ∷ []))) (row_in after (n ∷ a ∷ (path ++ m ∷ []))) it_is)) ∙ h)
      | inr not_it ↦ ap is_some (no_if (same n p.name) (row_in below (a ∷ path)) (row_in after (n ∷ a ∷ path)) not_it)
          ∙ parent after n (a ∷ path) m (sym (ap is_some (no_if (same n p.name) (row_in below (a ∷ (path ++ m ∷ []))) (row_in after (n ∷ a ∷ (path ++ m ∷ []))) not_it)) ∙ h)
    ]

    is_named : (f : Keys R) → CellsMatchKeys reads f → (path : List (List ℕ)) (n m : List ℕ) (row : R) → row_in f (n ∷ []) ≡ Some row → name_of row ≡ n
    is_named none fits path n m row h = some_none row h
    is_named (key at p below after) fits path n m row h = elim (decided (same n p.name)) [
      | inl it_is ↦ ap name_of (sym (some_same p.row row (sym (yes_if (same n p.name) (Some p.row) (row_in after (n ∷ [])) it_is) ∙ h))) ∙ sym (by at p fits.0) ∙ sym (same_is n p.name it_is)
      | inr not_it ↦ is_named after fits.3 path n m row (sym (no_if (same n p.name) (Some p.row) (row_in after (n ∷ [])) not_it) ∙ h)
    ]

    named_below : (f : Keys R) → CellsMatchKeys reads f → (a : List ℕ) (path : List (List ℕ)) (n : List ℕ) (row : R) → row_in f (a ∷ (path ++ n ∷ [])) ≡ Some row → name_of row ≡ n
    named_below none fits a path n row h = some_none row h
    named_below (key at p below after) fits a [] n row h = elim (decided (same a p.name)) [
      | inl it_is ↦ is_named below fits.2 [] n n row (sym (yes_if (same a p.name) (row_in below (n ∷ [])) (row_in after (a ∷ n ∷ [])) it_is) ∙ h)
      | inr not_it ↦ named_below after fits.3 a [] n row (sym (no_if (same a p.name) (row_in below (n ∷ [])) (row_in after (a ∷ n ∷ [])) not_it) ∙ h)
    ]
    named_below (key at p below after) fits a (b ∷ path) n row h = elim (decided (same a p.name)) [
      | inl it_is ↦ named_below below fits.2 b path n row (sym (yes_if (same a p.name) (row_in below (b ∷ (path ++ n ∷ []))) (row_in after (a ∷ b ∷ (path ++ n ∷ []))) it_is) ∙ h)
      | inr not_it ↦ named_below after fits.3 a (b ∷ path) n row (sym (no_if (same a p.name) (row_in below (b ∷ (path ++ n ∷ []))) (row_in after (a ∷ b ∷ (path ++ n ∷ []))) not_it) ∙ h)
    ]

    pub key_tree : (root : ℕ) (tree : TreeOf R) → CellsEncodeTree reads root tree → IsKeyTree name_of tree
    key_tree root tree s = record { root = ap is_some (at []); parents = λ path name h. ap is_some (at path) ∙ up path name (sym (ap is_some (at (path ++ name ∷ []))) ∙ h); named = λ path name row h. under path name row (sym (at (path ++ name ∷ [])) ∙ h) }
      where
        at : (path : List (List ℕ)) → get tree path ≡ row_from s.0.row s.1 path
        at path = ap (λ (t : TreeOf R). get t path) s.3 ∙ row_of_tree s.0 s.1 s.2.named path

        up : (path : List (List ℕ)) (name : List ℕ) → IsSome (row_from s.0.row s.1 (path ++ name ∷ [])) → IsSome (row_from s.0.row s.1 path)
        up [] name h = refl
        up (n ∷ path) name h = parent s.1 n path name h

        under : (path : List (List ℕ)) (name : List ℕ) (row : R) → row_from s.0.row s.1 (path ++ name ∷ []) ≡ Some row → name_of row ≡ name
        under [] name row h = is_named s.1 s.2.fits [] name name row h
        under (n ∷ path) name row h = named_below s.1 s.2.fits n path name row h
