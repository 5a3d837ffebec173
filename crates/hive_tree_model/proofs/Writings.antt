-- Writing keys one after another, into new cells alone.
use Rattle.std.proofs.Common.{◌≡◌, ◌⊎◌, inl, inr, ℕ, List, [], ◌∷◌, ◌++◌, refl, ◌∙◌, ap, sym, subst, Ok, Some, None, Option, IsSome, is_some}
use Rattle.hive_tree_model.specs.Lists.{IsIn, Once}
use Rattle.hive_tree_model.specs.Keys.{KeyParts, KeyReader, Keys, none, key, offsets, names, own_cells, all_cells, lent_cells}
use Rattle.hive_tree_model.specs.Encodings.{CellsMatchKeys}
use Rattle.hive_tree_model.specs.Loads.{with_last}
use Rattle.hive_tree_model.specs.Cells.{IsLocal, IsThere, Grows, AreNew, SameBut, LentThere, KeyIsWritten, SubkeysAreWritten}
use Rattle.hive_tree_model.proofs.Basics.{never, in_front, in_back, in_either, once_joined}
use Rattle.hive_tree_model.proofs.Frame.{fits_still}
use Rattle.hive_tree_model.proofs.Loading.{used_last, fits_last, inner_last, all_named}

some_not : {D A : Type 0} (o : Option D) → IsSome o → o ≡ None → A
some_not o h e = never (sym (ap is_some e) ∙ h)

none_before : {D : Type 0} (old mid : ℕ → Option D) → Grows old mid → (cell : ℕ) → mid cell ≡ None → old cell ≡ None
none_before old mid grows cell e = go (old cell) refl
  where
    go : (o : Option _) → old cell ≡ o → old cell ≡ None
    go None f = f
    go (Some d) f = some_not (mid cell) (ap is_some (grows cell (ap is_some f) ∙ f)) e

grows_on : {D : Type 0} (old mid new : ℕ → Option D) → Grows old mid → Grows mid new → Grows old new
grows_on old mid new g h = λ cell s. h cell (ap is_some (g cell s) ∙ s) ∙ g cell s

-- a cell that keys depend on is their own, or is lent
own_or_lent : {R : Type 0} (f : Keys R) (cell : ℕ) → IsIn cell (all_cells f) → IsIn cell (own_cells f) ⊎ IsIn cell (lent_cells f)
own_or_lent none cell h = absurd h
own_or_lent (key at p below after) cell h = elim (in_either cell ((p.own ++ p.lent) ++ all_cells below) (all_cells after) h) [
  | inl i ↦ elim (in_either cell (p.own ++ p.lent) (all_cells below) i) [
    | inl j ↦ elim (in_either cell p.own p.lent j) [
      | inl k ↦ inl (in_front cell (p.own ++ own_cells below) (own_cells after) (in_front cell p.own (own_cells below) k))
      | inr k ↦ inr (in_front cell (p.lent ++ lent_cells below) (lent_cells after) (in_front cell p.lent (lent_cells below) k))
    ]
    | inr j ↦ elim (own_or_lent below cell j) [
      | inl k ↦ inl (in_front cell (p.own ++ own_cells below) (own_cells after) (in_back cell p.own (own_cells below) k))
      | inr k ↦ inr (in_front cell (p.lent ++ lent_cells below) (lent_cells after) (in_back cell p.lent (lent_cells below) k))
    ]
  ]
  | inr i ↦ elim (own_or_lent after cell i) [
    | inl k ↦ inl (in_back cell (p.own ++ own_cells below) (own_cells after) k)
    | inr k ↦ inr (in_back cell (p.lent ++ lent_cells below) (lent_cells after) k)
  ]
]

module _ {D R C : Type 0} (read : (ℕ → Option D) → KeyReader R C) (local : IsLocal read) (there : IsThere read) where
  -- what is read is there
  touched_there : (cells : ℕ → Option D) (f : Keys R) → CellsMatchKeys (read cells) f → (cell : ℕ) → IsIn cell (all_cells f) → IsSome (cells cell)
  touched_there cells none fits cell h = absurd h
  touched_there cells (key at p below after) fits cell h = elim (in_either cell ((p.own ++ p.lent) ++ all_cells below) (all_cells after) h) [
    | inl i ↦ elim (in_either cell (p.own ++ p.lent) (all_cells below) i) [ inl j ↦ there cells at p fits.0 cell j | inr j ↦ touched_there cells below fits.2 cell j ]
    | inr i ↦ touched_there cells after fits.3 cell i
  ]

  used_there : (cells : ℕ → Option D) (f : Keys R) → CellsMatchKeys (read cells) f → (cell : ℕ) → IsIn cell (own_cells f) → IsSome (cells cell)
  used_there cells none fits cell h = absurd h
  used_there cells (key at p below after) fits cell h = elim (in_either cell (p.own ++ own_cells below) (own_cells after) h) [
    | inl i ↦ elim (in_either cell p.own (own_cells below) i) [ inl j ↦ there cells at p fits.0 cell (in_front cell p.own p.lent j) | inr j ↦ used_there cells below fits.2 cell j ]
    | inr i ↦ used_there cells after fits.3 cell i
  ]

  fits_grown : (old new : ℕ → Option D) → Grows old new → (f : Keys R) → CellsMatchKeys (read old) f → CellsMatchKeys (read new) f
  fits_grown old new grows f fits = fits_still read local old new f fits (λ cell h. grows cell (touched_there old f fits cell h))

  pub writes_none : (cells : ℕ → Option D) → SubkeysAreWritten read cells cells none
  writes_none cells = record { fits = tt; inner = tt; once = tt; grows = λ cell h. refl; fresh = λ cell h. absurd h }

  pub writes_on : (old mid new : ℕ → Option D) (f : Keys R) (at : ℕ) (p : KeyParts R) (below : Keys R) → SubkeysAreWritten read old mid f → KeyIsWritten read mid new at p below → SubkeysAreWritten read old new (with_last f at p below)
  writes_on old mid new f at p below w k = record {
    fits = fits_last (read new) f at p below (fits_grown mid new k.grows f w.fits) k.whole;
    inner = inner_last (read new) f at p below w.inner k.whole.named;
    once = subst Once (sym (used_last (read new) f at p below)) (once_joined (own_cells f) (p.own ++ own_cells below) w.once k.whole.once (λ cell h g. some_not (mid cell) (used_there mid f w.fits cell h) (k.fresh cell g)));
    grows = grows_on old mid new w.grows k.grows;
    fresh = subst (AreNew old) (sym (used_last (read new) f at p below)) (λ cell h. elim (in_either cell (own_cells f) (p.own ++ own_cells below) h) [ inl i ↦ w.fresh cell i | inr i ↦ none_before old mid w.grows cell (k.fresh cell i) ]);
  }

  pub writes_key : (old mid new : ℕ → Option D) (at : ℕ) (p : KeyParts R) (f : Keys R) → SubkeysAreWritten read old mid f → Grows mid new → read new at ≡ Ok p → Once p.own → AreNew mid p.own → offsets f ≡ p.subkey_list → Once (names f) → (IsIn [] (names f) → ⊥) → KeyIsWritten read old new at p f
  writes_key old mid new at p f w grows r once fresh e distinct some = record {
    whole = record {
      read = r;
      listed = e;
      fits = fits_grown mid new grows f w.fits;
      named = all_named (read new) f w.inner distinct some;
      once = once_joined p.own (own_cells f) once w.once (λ cell h g. some_not (mid cell) (used_there mid f w.fits cell g) (fresh cell h));
    };
    grows = grows_on old mid new w.grows grows;
    fresh = λ cell h. elim (in_either cell p.own (own_cells f) h) [ inl i ↦ none_before old mid w.grows cell (fresh cell i) | inr i ↦ w.fresh cell i ];
  }

  pub writes_filled : (old start mid full new : ℕ → Option D) (at : ℕ) (p : KeyParts R) (f : Keys R) (rest : List ℕ) → Grows old start → old at ≡ None → IsSome (start at) → SubkeysAreWritten read start mid f → Grows mid full → SameBut at full new
      → read new at ≡ Ok p → p.own ≡ at ∷ rest → Once rest → AreNew mid rest → LentThere old f → offsets f ≡ p.subkey_list → Once (names f) → (IsIn [] (names f) → ⊥) → KeyIsWritten read old new at p f
  writes_filled old start mid full new at p f rest begun fresh_at there_at w grows same r own once fresh lent e distinct some = record {
    whole = record {
      read = r;
      listed = e;
      fits = fits;
      named = all_named (read new) f w.inner distinct some;
      once = subst (λ cells. Once (cells ++ own_cells f)) (sym own) (once_joined (at ∷ rest) (own_cells f) own_once w.once apart);
    };
    grows = λ cell h. same cell (λ i. not_at_old cell h i) ∙ grows_on old start full begun (grows_on start mid full w.grows grows) cell h;
    fresh = subst (λ cells. AreNew old (cells ++ own_cells f)) (sym own) all_new;
  }
    where
      not_at_old : (cell : ℕ) → IsSome (old cell) → cell ≡ at → ⊥
      not_at_old cell h i = some_not (old cell) h (ap old i ∙ fresh_at)

      not_at_start : (cell : ℕ) → start cell ≡ None → cell ≡ at → ⊥
      not_at_start cell h i = some_not (start at) there_at (ap start (sym i) ∙ h)

      mid_at : IsSome (mid at)
      mid_at = ap is_some (w.grows at there_at) ∙ there_at

      not_at : (cell : ℕ) → IsIn cell (all_cells f) → cell ≡ at → ⊥
      not_at cell h i = elim (own_or_lent f cell h) [ inl j ↦ not_at_start cell (w.fresh cell j) i | inr j ↦ not_at_old cell (lent cell j) i ]

      fits : CellsMatchKeys (read new) f
      fits = fits_still read local full new f (fits_grown mid full grows f w.fits) (λ cell h. same cell (λ i. not_at cell h i))

      own_once : Once (at ∷ rest)
      own_once = (λ h. some_not (mid at) mid_at (fresh at h), once)

      apart : (cell : ℕ) → IsIn cell (at ∷ rest) → IsIn cell (own_cells f) → ⊥
      apart cell (inl i) g = not_at_start cell (w.fresh cell g) i
      apart cell (inr h) g = some_not (mid cell) (used_there mid f w.fits cell g) (fresh cell h)

      old_new : (cell : ℕ) → IsIn cell (at ∷ rest) → old cell ≡ None
      old_new cell (inl i) = ap old i ∙ fresh_at
      old_new cell (inr h) = none_before old mid (grows_on old start mid begun w.grows) cell (fresh cell h)

      all_new : AreNew old ((at ∷ rest) ++ own_cells f)
      all_new cell h = elim (in_either cell (at ∷ rest) (own_cells f) h) [ inl i ↦ old_new cell i | inr i ↦ none_before old start begun cell (w.fresh cell i) ]
