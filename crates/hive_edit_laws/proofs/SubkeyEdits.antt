-- A key gets a subkey, or loses one.
use Rattle.std.proofs.Common.{◌≡◌, inl, inr, ℕ, List, [], ◌∷◌, ◌++◌, refl, ◌∙◌, ap, sym, subst, Bool, true, false, if◌then◌else◌, Some, None, Option, IsSome, append_assoc}
use Rattle.hive_tree_model.specs.Lists.{IsIn, Once}
use Rattle.hive_tree_model.specs.Keys.{KeyParts, KeyReader, Keys, none, key, offsets, names, own_cells, lent_cells}
use Rattle.hive_tree_model.specs.Trees.{same, row_in, row_from}
use Rattle.hive_tree_model.specs.Encodings.{CellsMatchKeys, Named, Whole, LentApart}
use Rattle.hive_tree_model.specs.Cells.{IsLocal, IsThere}
use Rattle.hive_tree_model.proofs.Basics.{same_is, same_not, no_if, in_front, in_back, in_either, once_front, once_back, once_apart, once_joined}
use Rattle.hive_tree_model.proofs.Frame.{fits_still}
use Rattle.hive_edit_laws.specs.KeyPlaces.{KeyPlace, place_from, own_of, EditsAt}
use Rattle.hive_edit_laws.specs.SubkeyEdits.{beside, Adds, Drops}
use Rattle.hive_edit_laws.proofs.KeyPlaces.{none_there, all_or_lent, all_there, own_there}
use Rattle.hive_edit_laws.proofs.Rows.{whole_there, lent_from, own_from}

module _ {R : Type 0} where
  pub offsets_beside : (f g : Keys R) → offsets (beside f g) ≡ offsets f ++ offsets g
  offsets_beside none g = refl
  offsets_beside (key at p below after) g = ap (λ (z : List ℕ). at ∷ z) (offsets_beside after g)

  pub names_beside : (f g : Keys R) → names (beside f g) ≡ names f ++ names g
  names_beside none g = refl
  names_beside (key at p below after) g = ap (λ (z : List (List ℕ)). p.name ∷ z) (names_beside after g)

  pub own_beside : (f g : Keys R) → own_cells (beside f g) ≡ own_cells f ++ own_cells g
  own_beside none g = refl
  own_beside (key at p below after) g = ap (λ (z : List ℕ). (p.own ++ own_cells below) ++ z) (own_beside after g) ∙ sym (append_assoc (p.own ++ own_cells below) (own_cells after) (own_cells g))

  lent_beside : (f g : Keys R) → lent_cells (beside f g) ≡ lent_cells f ++ lent_cells g
  lent_beside none g = refl
  lent_beside (key at p below after) g = ap (λ (z : List ℕ). (p.lent ++ lent_cells below) ++ z) (lent_beside after g) ∙ sym (append_assoc (p.lent ++ lent_cells below) (lent_cells after) (lent_cells g))

  pub named_front : (f g : Keys R) → Named (beside f g) → Named f
  named_front none g n = tt
  named_front (key at p below after) g n = (n.0, λ i. n.1 (subst (λ (z : List (List ℕ)). IsIn p.name z) (sym (names_beside after g)) (in_front p.name (names after) (names g) i)), n.2, named_front after g n.3)

  pub named_back : (f g : Keys R) → Named (beside f g) → Named g
  named_back none g n = n
  named_back (key at p below after) g n = named_back after g n.3

  pub named_apart : (f g : Keys R) (n : List ℕ) → Named (beside f g) → IsIn n (names f) → IsIn n (names g) → ⊥
  named_apart none g n named i j = absurd i
  named_apart (key at p below after) g n named (inl e) j = named.1 (subst (λ (z : List (List ℕ)). IsIn p.name z) (sym (names_beside after g)) (in_back p.name (names after) (names g) (subst (λ (z : List ℕ). IsIn z (names g)) e j)))
  named_apart (key at p below after) g n named (inr i) j = named_apart after g n named.3 i j

  named_both : (f g : Keys R) → Named f → Named g → ((n : List ℕ) → IsIn n (names f) → IsIn n (names g) → ⊥) → Named (beside f g)
  named_both none g n m apart = m
  named_both (key at p below after) g n m apart = (
    n.0,
    λ i. elim (in_either p.name (names after) (names g) (subst (λ (z : List (List ℕ)). IsIn p.name z) (names_beside after g) i)) [ inl j ↦ n.1 j | inr j ↦ apart p.name (inl refl) j ],
    n.2,
    named_both after g n.3 m (λ k i j. apart k (inr i) j),
  )

  -- the rows, with one key more or less
  pub rows_beside : (f : Keys R) (at : ℕ) (p : KeyParts R) (sub g : Keys R) → (IsIn p.name (names f) → ⊥) → (m : List ℕ) (rest : List (List ℕ)) →
      row_in (beside f (key at p sub g)) (m ∷ rest) ≡ (if same m p.name then row_from p.row sub rest else row_in (beside f g) (m ∷ rest))
  rows_beside none at p sub g apart m [] = refl
  rows_beside none at p sub g apart m (n ∷ rest) = refl
  rows_beside (key to q below after) at p sub g apart m [] =
      ap (λ z. if same m q.name then Some q.row else z) (rows_beside after at p sub g (λ i. apart (inr i)) m []) ∙ two_tests (same m q.name) (same m p.name) (Some q.row) (Some p.row) (row_in (beside after g) (m ∷ [])) (λ t. same_not m p.name (λ e. apart (inl (sym e ∙ same_is m q.name t))))
    where
      two_tests : (b c : Bool) (x y z : Option R) → (b ≡ true → c ≡ false) → (if b then x else (if c then y else z)) ≡ (if c then y else (if b then x else z))
      two_tests true c x y z h = sym (no_if c y x (h refl))
      two_tests false c x y z h = refl
  rows_beside (key to q below after) at p sub g apart m (n ∷ rest) =
      ap (λ z. if same m q.name then row_in below (n ∷ rest) else z) (rows_beside after at p sub g (λ i. apart (inr i)) m (n ∷ rest)) ∙ two_tests (same m q.name) (same m p.name) (row_in below (n ∷ rest)) (row_in sub (n ∷ rest)) (row_in (beside after g) (m ∷ n ∷ rest)) (λ t. same_not m p.name (λ e. apart (inl (sym e ∙ same_is m q.name t))))
    where
      two_tests : (b c : Bool) (x y z : Option R) → (b ≡ true → c ≡ false) → (if b then x else (if c then y else z)) ≡ (if c then y else (if b then x else z))
      two_tests true c x y z h = sym (no_if c y x (h refl))
      two_tests false c x y z h = refl

  pub no_row : (f : Keys R) (n : List ℕ) (rest : List (List ℕ)) → (IsIn n (names f) → ⊥) → row_in f (n ∷ rest) ≡ None
  no_row none n rest apart = refl
  no_row (key at p below after) n [] apart = no_if (same n p.name) (Some p.row) (row_in after (n ∷ [])) (same_not n p.name (λ e. apart (inl e))) ∙ no_row after n [] (λ i. apart (inr i))
  no_row (key at p below after) n (m ∷ rest) apart = no_if (same n p.name) (row_in below (m ∷ rest)) (row_in after (n ∷ m ∷ rest)) (same_not n p.name (λ e. apart (inl e))) ∙ no_row after n (m ∷ rest) (λ i. apart (inr i))

module _ {R C : Type 0} (reads : KeyReader R C) where
  fits_front : (f g : Keys R) → CellsMatchKeys reads (beside f g) → CellsMatchKeys reads f
  fits_front none g h = tt
  fits_front (key at p below after) g h = (h.0, h.1, h.2, fits_front after g h.3)

  fits_back : (f g : Keys R) → CellsMatchKeys reads (beside f g) → CellsMatchKeys reads g
  fits_back none g h = h
  fits_back (key at p below after) g h = fits_back after g h.3

  fits_both : (f g : Keys R) → CellsMatchKeys reads f → CellsMatchKeys reads g → CellsMatchKeys reads (beside f g)
  fits_both none g h k = k
  fits_both (key at p below after) g h k = (h.0, h.1, h.2, fits_both after g h.3 k)

module _ {D R C : Type 0} (read : (ℕ → Option D) → KeyReader R C) (local : IsLocal read) (is_there : IsThere read) (old new : ℕ → Option D) (root : ℕ) (above : KeyParts R) (subkey_list : Keys R) (w : Whole (read old) root above subkey_list) (apart : LentApart above subkey_list) (path : List (List ℕ)) (place : KeyPlace R) (there : place_from root above subkey_list path ≡ Some place) where
  v : Whole (read old) place.at place.parts place.below
  v = whole_there (read old) root above subkey_list path place w there

  -- keys of those below the place, whose cells the edit leaves alone
  fits_on : (f : Keys R) (mine : List ℕ) → CellsMatchKeys (read old) f → ((cell : ℕ) → IsSome (old cell) → (IsIn cell mine → ⊥) → new cell ≡ old cell) → ((cell : ℕ) → IsIn cell mine → IsIn cell (own_of place)) → ((cell : ℕ) → IsIn cell (own_cells f) → IsIn cell mine → ⊥) → ((cell : ℕ) → IsIn cell (lent_cells f) → IsIn cell (lent_cells place.below)) → CellsMatchKeys (read new) f
  fits_on f mine fits stays within off lent_in = fits_still read local old new f fits (λ cell i. stays cell (all_there read is_there old f fits cell i) (λ m. elim (all_or_lent f cell i) [
    | inl own ↦ off cell own m
    | inr lent ↦ apart cell (lent_from root above subkey_list path place there cell (in_back cell place.parts.lent (lent_cells place.below) (lent_in cell lent))) (own_from root above subkey_list path place there cell (within cell m))
  ]))

  module _ (parts : KeyParts R) (front back : Keys R) (at : ℕ) (subkey : KeyParts R) (sub : Keys R) where
    K : List ℕ
    K = subkey.own ++ own_cells sub

    own_new : own_cells (beside front (key at subkey sub back)) ≡ own_cells front ++ ((subkey.own ++ own_cells sub) ++ own_cells back)
    own_new = own_beside front (key at subkey sub back)

    lent_new : lent_cells (beside front (key at subkey sub back)) ≡ lent_cells front ++ ((subkey.lent ++ lent_cells sub) ++ lent_cells back)
    lent_new = lent_beside front (key at subkey sub back)

    pub adds : Adds read old new root above subkey_list path place parts front back at subkey sub → EditsAt read old new root above subkey_list path parts (beside front (key at subkey sub back))
    adds e = record {
      place = place;
      there = there;
      stays = λ cell some mine. e.stays cell some (λ i. mine (in_front cell place.parts.own (own_cells place.below) i));
      whole = record {
        read = e.read_so;
        listed = offsets_beside front (key at subkey sub back) ∙ sym e.lists;
        fits = fits_both (read new) front (key at subkey sub back)
            (fits_on front place.parts.own (fits_front (read old) front back fits_old) e.stays (λ cell i. in_front cell place.parts.own (own_cells place.below) i) (λ cell i j. once_apart cell place.parts.own (own_cells place.below) v.once j (in_front_own cell i)) (λ cell i. subst (λ (z : List ℕ). IsIn cell z) (sym lent_old) (in_front cell (lent_cells front) (lent_cells back) i))) (
              e.whole.read,
              e.whole.listed,
              e.whole.fits,
              fits_on back place.parts.own (fits_back (read old) front back fits_old) e.stays (λ cell i. in_front cell place.parts.own (own_cells place.below) i) (λ cell i j. once_apart cell place.parts.own (own_cells place.below) v.once j (in_back_own cell i)) (λ cell i. subst (λ (z : List ℕ). IsIn cell z) (sym lent_old) (in_back cell (lent_cells front) (lent_cells back) i)),
            );
        named = named_both front (key at subkey sub back) (named_front front back named_old)
            (e.named, (λ i. e.unlike (subst (λ (z : List (List ℕ)). IsIn subkey.name z) (sym names_old) (in_back subkey.name (names front) (names back) i))), e.whole.named, named_back front back named_old)
            (λ n i j. elim j [
              | inl is ↦ e.unlike (subst (λ (z : List (List ℕ)). IsIn subkey.name z) (sym names_old) (in_front subkey.name (names front) (names back) (subst (λ (z : List ℕ). IsIn z (names front)) is i)))
              | inr k ↦ named_apart front back n named_old i k
            ]);
        once = subst (λ (z : List ℕ). Once (parts.own ++ z)) (sym own_new)
            (once_joined parts.own (own_cells front ++ ((subkey.own ++ own_cells sub) ++ own_cells back)) (once_front parts.own (subkey.own ++ own_cells sub) e.once)
            (once_joined (own_cells front) ((subkey.own ++ own_cells sub) ++ own_cells back) (once_front (own_cells front) (own_cells back) once_old)
            (once_joined (subkey.own ++ own_cells sub) (own_cells back) (once_back parts.own (subkey.own ++ own_cells sub) e.once) (once_back (own_cells front) (own_cells back) once_old)
            (λ cell i j. none_there (old cell) (was_there cell (in_back_own cell j)) (e.fresh cell i)))
            (λ cell i j. elim (in_either cell (subkey.own ++ own_cells sub) (own_cells back) j) [
              | inl k ↦ none_there (old cell) (was_there cell (in_front_own cell i)) (e.fresh cell k)
              | inr k ↦ once_apart cell (own_cells front) (own_cells back) once_old i k
            ]))
            (λ cell i j. elim (in_either cell (own_cells front) ((subkey.own ++ own_cells sub) ++ own_cells back) j) [
              | inl k ↦ not_below cell i (in_front_own cell k)
              | inr k ↦ elim (in_either cell (subkey.own ++ own_cells sub) (own_cells back) k) [
                | inl l ↦ once_apart cell parts.own (subkey.own ++ own_cells sub) e.once i l
                | inr l ↦ not_below cell i (in_back_own cell l)
              ]
            ]));
      };
      name_stays = e.name_stays;
      takes = λ cell i. elim (in_either cell parts.own (own_cells (beside front (key at subkey sub back))) i) [
        | inl j ↦ elim (e.takes cell j) [ inl mine ↦ inl (in_front cell place.parts.own (own_cells place.below) mine) | inr fresh ↦ inr fresh ]
        | inr j ↦ elim (in_either cell (own_cells front) ((subkey.own ++ own_cells sub) ++ own_cells back) (subst (λ (z : List ℕ). IsIn cell z) own_new j)) [
          | inl k ↦ inl (in_back cell place.parts.own (own_cells place.below) (in_front_own cell k))
          | inr k ↦ elim (in_either cell (subkey.own ++ own_cells sub) (own_cells back) k) [
            | inl l ↦ inr (e.fresh cell l)
            | inr l ↦ inl (in_back cell place.parts.own (own_cells place.below) (in_back_own cell l))
          ]
        ]
      ];
      lends = λ cell i. elim (in_either cell parts.lent (lent_cells (beside front (key at subkey sub back))) i) [
        | inl j ↦ e.lends cell (in_front cell parts.lent (subkey.lent ++ lent_cells sub) j)
        | inr j ↦ elim (in_either cell (lent_cells front) ((subkey.lent ++ lent_cells sub) ++ lent_cells back) (subst (λ (z : List ℕ). IsIn cell z) lent_new j)) [
          | inl k ↦ lent_from root above subkey_list path place there cell (in_back cell place.parts.lent (lent_cells place.below) (subst (λ (z : List ℕ). IsIn cell z) (sym lent_old) (in_front cell (lent_cells front) (lent_cells back) k)))
          | inr k ↦ elim (in_either cell (subkey.lent ++ lent_cells sub) (lent_cells back) k) [
            | inl l ↦ e.lends cell (in_back cell parts.lent (subkey.lent ++ lent_cells sub) l)
            | inr l ↦ lent_from root above subkey_list path place there cell (in_back cell place.parts.lent (lent_cells place.below) (subst (λ (z : List ℕ). IsIn cell z) (sym lent_old) (in_back cell (lent_cells front) (lent_cells back) l)))
          ]
        ]
      ];
    }
      where
        fits_old : CellsMatchKeys (read old) (beside front back)
        fits_old = subst (λ (z : Keys R). CellsMatchKeys (read old) z) e.were v.fits

        named_old : Named (beside front back)
        named_old = subst (λ (z : Keys R). Named z) e.were v.named

        names_old : names place.below ≡ names front ++ names back
        names_old = ap (λ (z : Keys R). names z) e.were ∙ names_beside front back

        own_old : own_cells place.below ≡ own_cells front ++ own_cells back
        own_old = ap (λ (z : Keys R). own_cells z) e.were ∙ own_beside front back

        lent_old : lent_cells place.below ≡ lent_cells front ++ lent_cells back
        lent_old = ap (λ (z : Keys R). lent_cells z) e.were ∙ lent_beside front back

        once_old : Once (own_cells front ++ own_cells back)
        once_old = subst (λ (z : List ℕ). Once z) own_old (once_back place.parts.own (own_cells place.below) v.once)

        in_front_own : (cell : ℕ) → IsIn cell (own_cells front) → IsIn cell (own_cells place.below)
        in_front_own cell i = subst (λ (z : List ℕ). IsIn cell z) (sym own_old) (in_front cell (own_cells front) (own_cells back) i)

        in_back_own : (cell : ℕ) → IsIn cell (own_cells back) → IsIn cell (own_cells place.below)
        in_back_own cell i = subst (λ (z : List ℕ). IsIn cell z) (sym own_old) (in_back cell (own_cells front) (own_cells back) i)

        was_there : (cell : ℕ) → IsIn cell (own_cells place.below) → IsSome (old cell)
        was_there cell i = own_there read is_there old place.below v.fits cell i

        not_below : (cell : ℕ) → IsIn cell parts.own → IsIn cell (own_cells place.below) → ⊥
        not_below cell i j = elim (e.takes cell i) [
          | inl mine ↦ once_apart cell place.parts.own (own_cells place.below) v.once mine j
          | inr fresh ↦ none_there (old cell) (was_there cell j) fresh
        ]

    pub drops : Drops read old new root above subkey_list path place parts front back at subkey sub → EditsAt read old new root above subkey_list path parts (beside front back)
    drops e = record {
      place = place;
      there = there;
      stays = λ cell some mine. e.stays cell some (λ i. mine (all_mine cell i));
      whole = record {
        read = e.read_so;
        listed = offsets_beside front back ∙ sym e.lists;
        fits = fits_both (read new) front back
            (fits_on front (place.parts.own ++ (subkey.own ++ own_cells sub)) (fits_front (read old) front (key at subkey sub back) fits_old) e.stays all_mine
            (λ cell i j. elim (in_either cell place.parts.own (subkey.own ++ own_cells sub) j) [
              | inl k ↦ once_apart cell place.parts.own (own_cells place.below) v.once k (in_front_own cell i)
              | inr k ↦ once_apart cell (own_cells front) ((subkey.own ++ own_cells sub) ++ own_cells back) once_old i (in_front cell (subkey.own ++ own_cells sub) (own_cells back) k)
            ])
            (λ cell i. subst (λ (z : List ℕ). IsIn cell z) (sym lent_old) (in_front cell (lent_cells front) ((subkey.lent ++ lent_cells sub) ++ lent_cells back) i)))
            (fits_on back (place.parts.own ++ (subkey.own ++ own_cells sub)) (fits_back (read old) front (key at subkey sub back) fits_old).3 e.stays all_mine
            (λ cell i j. elim (in_either cell place.parts.own (subkey.own ++ own_cells sub) j) [
              | inl k ↦ once_apart cell place.parts.own (own_cells place.below) v.once k (in_back_own cell i)
              | inr k ↦ once_apart cell (subkey.own ++ own_cells sub) (own_cells back) (once_back (own_cells front) ((subkey.own ++ own_cells sub) ++ own_cells back) once_old) k i
            ])
            (λ cell i. subst (λ (z : List ℕ). IsIn cell z) (sym lent_old) (in_back cell (lent_cells front) ((subkey.lent ++ lent_cells sub) ++ lent_cells back) (in_back cell (subkey.lent ++ lent_cells sub) (lent_cells back) i))));
        named = named_both front back (named_front front (key at subkey sub back) named_old) (named_back front (key at subkey sub back) named_old).3
            (λ n i j. named_apart front (key at subkey sub back) n named_old i (inr j));
        once = subst (λ (z : List ℕ). Once (parts.own ++ z)) (sym (own_beside front back))
            (once_joined parts.own (own_cells front ++ own_cells back) e.once
            (once_joined (own_cells front) (own_cells back) (once_front (own_cells front) ((subkey.own ++ own_cells sub) ++ own_cells back) once_old)
            (once_back (subkey.own ++ own_cells sub) (own_cells back) (once_back (own_cells front) ((subkey.own ++ own_cells sub) ++ own_cells back) once_old))
            (λ cell i j. once_apart cell (own_cells front) ((subkey.own ++ own_cells sub) ++ own_cells back) once_old i (in_back cell (subkey.own ++ own_cells sub) (own_cells back) j)))
            (λ cell i j. elim (in_either cell (own_cells front) (own_cells back) j) [ inl k ↦ not_below cell i (in_front_own cell k) | inr k ↦ not_below cell i (in_back_own cell k) ]));
      };
      name_stays = e.name_stays;
      takes = λ cell i. elim (in_either cell parts.own (own_cells (beside front back)) i) [
        | inl j ↦ elim (e.takes cell j) [ inl mine ↦ inl (in_front cell place.parts.own (own_cells place.below) mine) | inr fresh ↦ inr fresh ]
        | inr j ↦ inl (in_back cell place.parts.own (own_cells place.below) (elim (in_either cell (own_cells front) (own_cells back) (subst (λ (z : List ℕ). IsIn cell z) (own_beside front back) j)) [ inl k ↦ in_front_own cell k | inr k ↦ in_back_own cell k ]))
      ];
      lends = λ cell i. lent_from root above subkey_list path place there cell (elim (in_either cell parts.lent (lent_cells (beside front back)) i) [
        | inl j ↦ in_front cell place.parts.lent (lent_cells place.below) (e.lends cell j)
        | inr j ↦ in_back cell place.parts.lent (lent_cells place.below) (subst (λ (z : List ℕ). IsIn cell z) (sym lent_old) (elim (in_either cell (lent_cells front) (lent_cells back) (subst (λ (z : List ℕ). IsIn cell z) (lent_beside front back) j)) [
          | inl k ↦ in_front cell (lent_cells front) ((subkey.lent ++ lent_cells sub) ++ lent_cells back) k
          | inr k ↦ in_back cell (lent_cells front) ((subkey.lent ++ lent_cells sub) ++ lent_cells back) (in_back cell (subkey.lent ++ lent_cells sub) (lent_cells back) k)
        ]))
      ]);
    }
      where
        fits_old : CellsMatchKeys (read old) (beside front (key at subkey sub back))
        fits_old = subst (λ (z : Keys R). CellsMatchKeys (read old) z) e.were v.fits

        named_old : Named (beside front (key at subkey sub back))
        named_old = subst (λ (z : Keys R). Named z) e.were v.named

        own_old : own_cells place.below ≡ own_cells front ++ ((subkey.own ++ own_cells sub) ++ own_cells back)
        own_old = ap (λ (z : Keys R). own_cells z) e.were ∙ own_new

        lent_old : lent_cells place.below ≡ lent_cells front ++ ((subkey.lent ++ lent_cells sub) ++ lent_cells back)
        lent_old = ap (λ (z : Keys R). lent_cells z) e.were ∙ lent_new

        once_old : Once (own_cells front ++ ((subkey.own ++ own_cells sub) ++ own_cells back))
        once_old = subst (λ (z : List ℕ). Once z) own_old (once_back place.parts.own (own_cells place.below) v.once)

        in_front_own : (cell : ℕ) → IsIn cell (own_cells front) → IsIn cell (own_cells place.below)
        in_front_own cell i = subst (λ (z : List ℕ). IsIn cell z) (sym own_old) (in_front cell (own_cells front) ((subkey.own ++ own_cells sub) ++ own_cells back) i)

        in_back_own : (cell : ℕ) → IsIn cell (own_cells back) → IsIn cell (own_cells place.below)
        in_back_own cell i = subst (λ (z : List ℕ). IsIn cell z) (sym own_old) (in_back cell (own_cells front) ((subkey.own ++ own_cells sub) ++ own_cells back) (in_back cell (subkey.own ++ own_cells sub) (own_cells back) i))

        all_mine : (cell : ℕ) → IsIn cell (place.parts.own ++ (subkey.own ++ own_cells sub)) → IsIn cell (own_of place)
        all_mine cell i = elim (in_either cell place.parts.own (subkey.own ++ own_cells sub) i) [
          | inl j ↦ in_front cell place.parts.own (own_cells place.below) j
          | inr j ↦ in_back cell place.parts.own (own_cells place.below) (subst (λ (z : List ℕ). IsIn cell z) (sym own_old) (in_back cell (own_cells front) ((subkey.own ++ own_cells sub) ++ own_cells back) (in_front cell (subkey.own ++ own_cells sub) (own_cells back) j)))
        ]

        not_below : (cell : ℕ) → IsIn cell parts.own → IsIn cell (own_cells place.below) → ⊥
        not_below cell i j = elim (e.takes cell i) [
          | inl mine ↦ once_apart cell place.parts.own (own_cells place.below) v.once mine j
          | inr fresh ↦ none_there (old cell) (own_there read is_there old place.below v.fits cell j) fresh
        ]
