-- Reading keys one after another.
use Rattle.std.proofs.Common.{◌≡◌, ◌≢◌, ◌⊎◌, inl, inr, ℕ, zero, suc, List, [], ◌∷◌, ◌++◌, length, refl, ◌∙◌, ap, sym, subst, true, false, Ok, Some, None, slice_get, append_assoc, append-nil, arith}
use Rattle.hive_tree_model.specs.Lists.{IsIn, Once}
use Rattle.hive_tree_model.specs.Keys.{KeyParts, KeyReader, Keys, none, key, offsets, names, own_cells}
use Rattle.hive_tree_model.specs.Encodings.{CellsMatchKeys, Named, Whole}
use Rattle.hive_tree_model.specs.Chains.{WayLeadsTo}
use Rattle.hive_tree_model.specs.Faults.{HasSubkeysAlike, IsTrail, Shared}
use Rattle.hive_tree_model.specs.Loads.{CellMarks, Marked, Loaded, Inner, Loading, with_last, MeetsMarkedCell, HasFault}
use Rattle.hive_tree_model.proofs.Basics.{clash, decided, in_front, in_back, in_either, once_joined, same_tail, cons_nil}

pub marked_joined : (a b c : CellMarks) (xs ys : List ℕ) → Marked a b xs → Marked b c ys → Marked a c (xs ++ ys)
marked_joined a b c xs ys m n = record {
  fresh = λ cell h. elim (in_either cell xs ys h) [ inl i ↦ m.fresh cell i | inr i ↦ before cell i ];
  once = once_joined xs ys m.once n.once (λ cell i j. clash (b cell) ((m.now cell).1 (inr i)) (n.fresh cell j));
  now = λ cell. (
    λ e. elim ((n.now cell).0 e) [
      | inl f ↦ elim ((m.now cell).0 f) [ inl g ↦ inl g | inr g ↦ inr (in_front cell xs ys g) ]
      | inr i ↦ inr (in_back cell xs ys i)
    ],
    λ e. elim e [
      | inl f ↦ (n.now cell).1 (inl ((m.now cell).1 (inl f)))
      | inr i ↦ elim (in_either cell xs ys i) [ inl j ↦ (n.now cell).1 (inl ((m.now cell).1 (inr j))) | inr j ↦ (n.now cell).1 (inr j) ]
    ],
  );
}
  where
    before : (cell : ℕ) → IsIn cell ys → a cell ≡ false
    before cell i = elim (decided (a cell)) [ inl t ↦ clash (b cell) ((m.now cell).1 (inl t)) (n.fresh cell i) | inr f ↦ f ]

pub none_marked : (a : CellMarks) → Marked a a []
none_marked a = record { fresh = λ cell h. absurd h; once = tt; now = λ cell. (λ e. inl e, λ e. elim e [ inl f ↦ f | inr i ↦ absurd i ]) }

in_other : {A : Type 0} (x : A) (xs ys : List A) → xs ≡ ys → IsIn x xs → IsIn x ys
in_other x xs ys e h = subst (λ z. IsIn x z) e h

module _ {R C : Type 0} (reads : KeyReader R C) where
  pub used_last : (f : Keys R) (at : ℕ) (p : KeyParts R) (below : Keys R) → own_cells (with_last f at p below) ≡ own_cells f ++ (p.own ++ own_cells below)
  used_last none at p below = append-nil (p.own ++ own_cells below)
  used_last (key to q subkey_list after) at p below = ap (λ z. (q.own ++ own_cells subkey_list) ++ z) (used_last after at p below) ∙ sym (append_assoc (q.own ++ own_cells subkey_list) (own_cells after) (p.own ++ own_cells below))

  pub offsets_last : (f : Keys R) (at : ℕ) (p : KeyParts R) (below : Keys R) → offsets (with_last f at p below) ≡ offsets f ++ at ∷ []
  offsets_last none at p below = refl
  offsets_last (key to q subkey_list after) at p below = ap (λ (z : List ℕ). to ∷ z) (offsets_last after at p below)

  pub fits_last : (f : Keys R) (at : ℕ) (p : KeyParts R) (below : Keys R) → CellsMatchKeys reads f → Whole reads at p below → CellsMatchKeys reads (with_last f at p below)
  fits_last none at p below fits w = (w.read, w.listed, w.fits, tt)
  fits_last (key to q subkey_list after) at p below fits w = (fits.0, fits.1, fits.2, fits_last after at p below fits.3 w)

  pub inner_last : (f : Keys R) (at : ℕ) (p : KeyParts R) (below : Keys R) → Inner f → Named below → Inner (with_last f at p below)
  inner_last none at p below inner named = (named, tt)
  inner_last (key to q subkey_list after) at p below inner named = (inner.0, inner_last after at p below inner.1 named)

  pub begins : (marks : CellMarks) → Loading reads marks marks none
  begins marks = record { fits = tt; inner = tt; marked = none_marked marks }

  pub goes_on : (old mid new : CellMarks) (f : Keys R) (at : ℕ) (p : KeyParts R) (below : Keys R) → Loading reads old mid f → Loaded reads mid new at p below → Loading reads old new (with_last f at p below)
  goes_on old mid new f at p below l k = record {
    fits = fits_last f at p below l.fits k.0;
    inner = inner_last f at p below l.inner k.0.named;
    marked = subst (λ z. Marked old new z) (sym (used_last f at p below)) (marked_joined old mid new (own_cells f) (p.own ++ own_cells below) l.marked k.1);
  }

  pub all_named : (f : Keys R) → Inner f → Once (names f) → (IsIn [] (names f) → ⊥) → Named f
  all_named none inner once some = tt
  all_named (key at p below after) inner once some = (λ e. some (inl (sym e)), once.0, inner.0, all_named after inner.1 once.1 (λ h. some (inr h)))

  pub ends : (old mid new : CellMarks) (at : ℕ) (p : KeyParts R) (f : Keys R) → reads at ≡ Ok p → Marked old mid p.own → Loading reads mid new f → offsets f ≡ p.subkey_list → Once (names f) → (IsIn [] (names f) → ⊥) → Loaded reads old new at p f
  ends old mid new at p f r m l e once some =
      let all : Marked old new (p.own ++ own_cells f) = marked_joined old mid new p.own (own_cells f) m l.marked in
      (record { read = r; listed = e; fits = l.fits; named = all_named f l.inner once some; once = all.once }, all)

  -- a refusal at a subkey is one at the key
  module _ (trail : ℕ → List ℕ) (is : IsTrail trail reads) (bad_name shared : C) where
    -- each cell of keys that were read is reached by a way
    record Way (f : Keys R) (cell : ℕ) : Type 0 where
      place : ℕ
      subkey : ℕ
      listed : slice_get (offsets f) place ≡ Some subkey
      way : List ℕ
      to : ℕ
      leads : WayLeadsTo reads subkey way to
      has : IsIn cell (trail to)

    way_to : (f : Keys R) → CellsMatchKeys reads f → (cell : ℕ) → IsIn cell (own_cells f) → Way f cell
    way_to none fits cell h = absurd h
    way_to (key at p below after) fits cell h = go (in_either cell (p.own ++ own_cells below) (own_cells after) h) (λ i. way_to below fits.2 cell i) (λ i. way_to after fits.3 cell i)
      where
        down : Way below cell → Way (key at p below after) cell
        down w = record { place = 0; subkey = at; listed = refl; way = w.place ∷ w.way; to = w.to; leads = (p, w.subkey, fits.0, ap (λ (z : List ℕ). slice_get z w.place) (sym fits.1) ∙ w.listed, w.leads); has = w.has }

        past : Way after cell → Way (key at p below after) cell
        past w = record { place = suc w.place; subkey = w.subkey; listed = w.listed; way = w.way; to = w.to; leads = w.leads; has = w.has }

        here : IsIn cell p.own → Way (key at p below after) cell
        here i = record { place = 0; subkey = at; listed = refl; way = []; to = at; leads = refl; has = in_other cell p.own (trail at) (sym (is at p fits.0)) i }

        go : IsIn cell (p.own ++ own_cells below) ⊎ IsIn cell (own_cells after) → (IsIn cell (own_cells below) → Way below cell) → (IsIn cell (own_cells after) → Way after cell) → Way (key at p below after) cell
        go (inl i) in_below in_after = elim (in_either cell p.own (own_cells below) i) [ inl j ↦ here j | inr j ↦ down (in_below j) ]
        go (inr i) in_below in_after = past (in_after i)

    -- the index after a list's front
    behind : (xs : List ℕ) (x : ℕ) (ys : List ℕ) → slice_get (xs ++ x ∷ ys) (length xs) ≡ Some x
    behind [] x ys = refl
    behind (z ∷ xs) x ys = behind xs x ys

    in_front_at : (xs ys : List ℕ) (i x : ℕ) → slice_get xs i ≡ Some x → slice_get (xs ++ ys) i ≡ Some x
    in_front_at [] ys i x e = clash_none e
      where
        clash_none : {A : Type 0} → None ≡ Some x → A
        clash_none h = absurd (subst (λ o. elim o as (λ z. Type 0) [ Some y ↦ ⊥ | None ↦ Unit {0} ]) h tt)
    in_front_at (z ∷ xs) ys zero x e = e
    in_front_at (z ∷ xs) ys (suc i) x e = in_front_at xs ys i x e

    below_length : (xs : List ℕ) (i x : ℕ) → slice_get xs i ≡ Some x → i ≢ length xs
    below_length [] i x e h = absurd (subst (λ o. elim o as (λ z. Type 0) [ Some y ↦ ⊥ | None ↦ Unit {0} ]) e tt)
    below_length (z ∷ xs) zero x e h = absurd (subst (λ n. elim n as (λ k. Type 0) [ zero ↦ Unit {0} | suc k ↦ ⊥ ]) h tt)
    below_length (z ∷ xs) (suc i) x e h = below_length xs i x e (down h)
      where
        down : suc i ≡ suc (length xs) → i ≡ length xs
        down g = omega (arith, g)

    head_same : (i j : ℕ) (w v : List ℕ) → i ∷ w ≡ j ∷ v → i ≡ j
    head_same i j w v e = ap (λ (z : List ℕ). elim z as (λ y. ℕ) [ [] ↦ i | y ∷ ys ↦ y ]) e

    module _ (at : ℕ) (p : KeyParts R) (r : reads at ≡ Ok p) (old mid now : CellMarks) (m : Marked old mid p.own) (f : Keys R) (l : Loading reads mid now f) (subkey : ℕ) (rest : List ℕ) (subkey_list : p.subkey_list ≡ offsets f ++ subkey ∷ rest) where
      i : ℕ
      i = length (offsets f)

      subkey_listed : slice_get p.subkey_list (length (offsets f)) ≡ Some subkey
      subkey_listed = ap (λ (z : List ℕ). slice_get z (length (offsets f))) subkey_list ∙ behind (offsets f) subkey rest

      farther : (way : List ℕ) (to : ℕ) → WayLeadsTo reads subkey way to → WayLeadsTo reads at (length (offsets f) ∷ way) to
      farther way to h = (p, subkey, r, subkey_listed, h)

      met : (way : List ℕ) (to cell : ℕ) → WayLeadsTo reads subkey way to → IsIn cell (trail to) → now cell ≡ true → Shared trail reads at ⊎ MeetsMarkedCell trail reads old at
      met way to cell h has marked = elim ((l.marked.now cell).0 marked) [
        | inl e ↦ elim ((m.now cell).0 e) [
          | inl g ↦ inr (length (offsets f) ∷ way, to, cell, farther way to h, has, g)
          | inr j ↦ inl (record { way = []; at = at; leads = refl; other_way = length (offsets f) ∷ way; other = to; other_leads = farther way to h; apart = λ e. cons_nil (length (offsets f)) way (sym e); cell = cell; first = in_other cell p.own (trail at) (sym (is at p r)) j; second = has })
        ]
        | inr j ↦ inl (earlier (way_to f l.fits cell j))
      ]
        where
          earlier : Way f cell → Shared trail reads at
          earlier w = record {
            way = w.place ∷ w.way;
            at = w.to;
            leads = (p, w.subkey, r, ap (λ (z : List ℕ). slice_get z w.place) subkey_list ∙ in_front_at (offsets f) (subkey ∷ rest) w.place w.subkey w.listed, w.leads);
            other_way = length (offsets f) ∷ way;
            other = to;
            other_leads = farther way to h;
            apart = λ e. below_length (offsets f) w.place w.subkey w.listed (head_same w.place (length (offsets f)) w.way way e);
            cell = cell;
            first = w.has;
            second = has;
          }

      shared_up : Shared trail reads subkey → Shared trail reads at
      shared_up s = record { way = length (offsets f) ∷ s.way; at = s.at; leads = farther s.way s.at s.leads; other_way = length (offsets f) ∷ s.other_way; other = s.other; other_leads = farther s.other_way s.other s.other_leads; apart = λ e. s.apart (same_tail (length (offsets f)) (length (offsets f)) s.way s.other_way e); cell = s.cell; first = s.first; second = s.second }

      alike_up : HasSubkeysAlike reads subkey → HasSubkeysAlike reads at
      alike_up a = record { way = length (offsets f) ∷ a.way; at = a.at; leads = farther a.way a.at a.leads; parts = a.parts; reads_so = a.reads_so; i = a.i; j = a.j; apart = a.apart; one = a.one; one_listed = a.one_listed; one_parts = a.one_parts; one_reads = a.one_reads; other = a.other; other_listed = a.other_listed; other_parts = a.other_parts; other_reads = a.other_reads; same_name = a.same_name }

      pub told_up : (cause : C) → HasFault trail reads bad_name shared now subkey cause → HasFault trail reads bad_name shared old at cause
      told_up cause (inl u) = inl (length (offsets f) ∷ u.0, u.1, farther u.0 u.1 u.2, u.3)
      told_up cause (inr (inl (e, inl n))) = inr (inl (e, inl (length (offsets f), n.0 ∷ n.1, n.2, n.3, farther (n.0 ∷ n.1) n.2 n.4, n.5, n.6)))
      told_up cause (inr (inl (e, inr a))) = inr (inl (e, inr (alike_up a)))
      told_up cause (inr (inr (e, inl w))) = inr (inr (e, inl (length (offsets f) ∷ w.0, w.1, farther w.0 w.1 w.2, w.3)))
      told_up cause (inr (inr (e, inr (inl s)))) = inr (inr (e, inr (inl (shared_up s))))
      told_up cause (inr (inr (e, inr (inr k)))) = inr (inr (e, inr (met k.0 k.1 k.2 k.3 k.4 k.5)))
