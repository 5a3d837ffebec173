-- In an image that encodes a tree there is no fault.
use Rattle.std.proofs.Common.{◌≡◌, ◌≢◌, inl, inr, ℕ, zero, suc, List, [], ◌∷◌, ◌++◌, refl, ◌∙◌, ap, sym, subst, Ok, Some, slice_get, false}
use Rattle.hive_tree_model.specs.Lists.{IsIn, Once}
use Rattle.hive_tree_model.specs.Keys.{KeyParts, KeyReader, Keys, none, key, offsets, names, own_cells, lent_cells}
use Rattle.hive_tree_model.specs.Encodings.{CellsMatchKeys, Named, Whole, LentApart}
use Rattle.hive_tree_model.specs.Chains.{WayLeadsTo}
use Rattle.hive_tree_model.specs.Faults.{KeyIsUnreadable, HasNamelessKey, HasSubkeysAlike, IsTrail, KeyRepeatsCell, Shared, IsLentTrail, LendsOwnCell}
use Rattle.hive_tree_model.specs.Loads.{HasFault}
use Rattle.hive_tree_model.proofs.Basics.{never, some_same, some_none, ok_err, in_front, in_back, once_front, once_back, once_apart}
use Rattle.hive_tree_model.proofs.Only.{one_parts}

module _ {R C : Type 0} (reads : KeyReader R C) where
  -- the cells of the key at an index among keys beside one another, and of those below it
  abbrev cells_at : Keys R → ℕ → List ℕ
  cells_at none i = []
  cells_at (key at p below after) zero = p.own ++ own_cells below
  cells_at (key at p below after) (suc i) = cells_at after i

  abbrev names_at : Keys R → ℕ → List (List ℕ)
  names_at none i = []
  names_at (key at p below after) zero = p.name ∷ []
  names_at (key at p below after) (suc i) = names_at after i

  abbrev lents_at : Keys R → ℕ → List ℕ
  lents_at none i = []
  lents_at (key at p below after) zero = p.lent ++ lent_cells below
  lents_at (key at p below after) (suc i) = lents_at after i

  lents_within : (f : Keys R) (i cell : ℕ) → IsIn cell (lents_at f i) → IsIn cell (lent_cells f)
  lents_within none i cell h = h
  lents_within (key at p below after) zero cell h = in_front cell (p.lent ++ lent_cells below) (lent_cells after) h
  lents_within (key at p below after) (suc i) cell h = in_back cell (p.lent ++ lent_cells below) (lent_cells after) (lents_within after i cell h)

  within : (f : Keys R) (i cell : ℕ) → IsIn cell (cells_at f i) → IsIn cell (own_cells f)
  within none i cell h = h
  within (key at p below after) zero cell h = in_front cell (p.own ++ own_cells below) (own_cells after) h
  within (key at p below after) (suc i) cell h = in_back cell (p.own ++ own_cells below) (own_cells after) (within after i cell h)

  among : (f : Keys R) (i : ℕ) (n : List ℕ) → IsIn n (names_at f i) → IsIn n (names f)
  among none i n h = h
  among (key at p below after) zero n (inl e) = inl e
  among (key at p below after) zero n (inr h) = absurd h
  among (key at p below after) (suc i) n h = inr (among after i n h)

  places_apart : (f : Keys R) → Once (own_cells f) → (i j cell : ℕ) → i ≢ j → IsIn cell (cells_at f i) → IsIn cell (cells_at f j) → ⊥
  places_apart none once i j cell d h g = h
  places_apart (key at p below after) once zero zero cell d h g = d refl
  places_apart (key at p below after) once zero (suc j) cell d h g = once_apart cell (p.own ++ own_cells below) (own_cells after) once h (within after j cell g)
  places_apart (key at p below after) once (suc i) zero cell d h g = once_apart cell (p.own ++ own_cells below) (own_cells after) once g (within after i cell h)
  places_apart (key at p below after) once (suc i) (suc j) cell d h g = places_apart after (once_back (p.own ++ own_cells below) (own_cells after) once) i j cell (λ e. d (ap suc e)) h g

  names_apart : (f : Keys R) → Named f → (i j : ℕ) (n : List ℕ) → i ≢ j → IsIn n (names_at f i) → IsIn n (names_at f j) → ⊥
  names_apart none named i j n d h g = h
  names_apart (key at p below after) named zero zero n d h g = d refl
  names_apart (key at p below after) named zero (suc j) n d (inl e) g = named.1 (subst (λ z. IsIn z (names after)) e (among after j n g))
  names_apart (key at p below after) named zero (suc j) n d (inr h) g = absurd h
  names_apart (key at p below after) named (suc i) zero n d h (inl e) = named.1 (subst (λ z. IsIn z (names after)) e (among after i n h))
  names_apart (key at p below after) named (suc i) zero n d h (inr g) = absurd g
  names_apart (key at p below after) named (suc i) (suc j) n d h g = names_apart after named.3 i j n (λ e. d (ap suc e)) h g

  -- the key at an index
  record Place (f : Keys R) (i subkey : ℕ) : Type 0 where
    parts : KeyParts R
    below : Keys R
    whole : Whole reads subkey parts below
    cells : cells_at f i ≡ parts.own ++ own_cells below
    lents : lents_at f i ≡ parts.lent ++ lent_cells below
    its_names : names_at f i ≡ parts.name ∷ []
    has_name : parts.name ≢ []

  place : (f : Keys R) → CellsMatchKeys reads f → Named f → Once (own_cells f) → (i subkey : ℕ) → slice_get (offsets f) i ≡ Some subkey → Place f i subkey
  place none fits named once i subkey e = some_none subkey e
  place (key at p below after) fits named once zero subkey e = record {
    parts = p;
    below = below;
    whole = record { read = ap reads (sym (some_same at subkey e)) ∙ fits.0; listed = fits.1; fits = fits.2; named = named.2; once = once_front (p.own ++ own_cells below) (own_cells after) once };
    cells = refl;
    lents = refl;
    its_names = refl;
    has_name = named.0;
  }
  place (key at p below after) fits named once (suc i) subkey e =
      let found : Place after i subkey = place after fits.3 named.3 (once_back (p.own ++ own_cells below) (own_cells after) once) i subkey e in
      record { parts = found.parts; below = found.below; whole = found.whole; cells = found.cells; lents = found.lents; its_names = found.its_names; has_name = found.has_name }

  step : (at : ℕ) (p : KeyParts R) (below : Keys R) → Whole reads at p below → (q : KeyParts R) (i subkey : ℕ) → reads at ≡ Ok q → slice_get q.subkey_list i ≡ Some subkey → Place below i subkey
  step at p below w q i subkey r e = place below w.fits w.named (once_back p.own (own_cells below) w.once) i subkey
      (ap (λ (z : List ℕ). slice_get z i) (w.listed ∙ ap (λ (z : KeyParts R). z.subkey_list) (one_parts reads at at p q refl w.read r)) ∙ e)

  -- the key at the end of a way
  record End (at : ℕ) (p : KeyParts R) (below : Keys R) (to : ℕ) : Type 0 where
    parts : KeyParts R
    under : Keys R
    whole : Whole reads to parts under
    cells : (cell : ℕ) → IsIn cell parts.own → IsIn cell (p.own ++ own_cells below)
    lents : (cell : ℕ) → IsIn cell parts.lent → IsIn cell (p.lent ++ lent_cells below)

  end : (way : List ℕ) (at : ℕ) (p : KeyParts R) (below : Keys R) (to : ℕ) → Whole reads at p below → WayLeadsTo reads at way to → End at p below to
  end [] at p below to w e = record {
    parts = p;
    under = below;
    whole = record { read = ap reads (sym e) ∙ w.read; listed = w.listed; fits = w.fits; named = w.named; once = w.once };
    cells = λ cell h. in_front cell p.own (own_cells below) h;
    lents = λ cell h. in_front cell p.lent (lent_cells below) h;
  }
  end (i ∷ way) at p below to w l =
      let s : Place below i l.1 = step at p below w l.0 i l.1 l.2 l.3 in
      let e : End l.1 s.parts s.below to = end way l.1 s.parts s.below to s.whole l.4 in
      record {
        parts = e.parts;
        under = e.under;
        whole = e.whole;
        cells = λ cell h. in_back cell p.own (own_cells below) (within below i cell (subst (λ z. IsIn cell z) (sym s.cells) (e.cells cell h)));
        lents = λ cell h. in_back cell p.lent (lent_cells below) (lents_within below i cell (subst (λ z. IsIn cell z) (sym s.lents) (e.lents cell h)));
      }

  own_of : (to : ℕ) (p q : KeyParts R) (cell : ℕ) → reads to ≡ Ok p → reads to ≡ Ok q → IsIn cell q.own → IsIn cell p.own
  own_of to p q cell r s h = subst (λ (z : KeyParts R). IsIn cell z.own) (one_parts reads to to q p refl s r) h

  -- a cell of the key at the end of a way that goes through the key at an index
  reached : (i : ℕ) (way : List ℕ) (at : ℕ) (p : KeyParts R) (below : Keys R) (to : ℕ) (q : KeyParts R) (cell : ℕ) → Whole reads at p below → WayLeadsTo reads at (i ∷ way) to → reads to ≡ Ok q → IsIn cell q.own → IsIn cell (cells_at below i)
  reached i way at p below to q cell w l r h =
      let s : Place below i l.1 = step at p below w l.0 i l.1 l.2 l.3 in
      let e : End l.1 s.parts s.below to = end way l.1 s.parts s.below to s.whole l.4 in
      subst (λ z. IsIn cell z) (sym s.cells) (e.cells cell (own_of to e.parts q cell e.whole.read r h))

  one_way : (way other : List ℕ) (at : ℕ) (p : KeyParts R) (below : Keys R) (to too : ℕ) (q r : KeyParts R) (cell : ℕ) → Whole reads at p below →
      WayLeadsTo reads at way to → reads to ≡ Ok q → IsIn cell q.own → WayLeadsTo reads at other too → reads too ≡ Ok r → IsIn cell r.own → way ≢ other → ⊥
  one_way [] [] at p below to too q r cell w l a h m b g d = d refl
  one_way [] (j ∷ other) at p below to too q r cell w l a h m b g d =
      once_apart cell p.own (own_cells below) w.once (own_of to p q cell (ap reads (sym l) ∙ w.read) a h) (within below j cell (reached j other at p below too r cell w m b g))
  one_way (i ∷ way) [] at p below to too q r cell w l a h m b g d =
      once_apart cell p.own (own_cells below) w.once (own_of too p r cell (ap reads (sym m) ∙ w.read) b g) (within below i cell (reached i way at p below to q cell w l a h))
  one_way (i ∷ way) (j ∷ other) at p below to too q r cell w l a h m b g d =
      let s : Place below i l.1 = step at p below w l.0 i l.1 l.2 l.3 in
      let subkeys_same : i ≡ j → m.1 ≡ l.1 = λ e. some_same m.1 l.1 (sym m.3 ∙ ap (λ (z : KeyParts R). slice_get z.subkey_list j) (one_parts reads at at m.0 l.0 refl m.2 l.2) ∙ ap (λ z. slice_get l.0.subkey_list z) (sym e) ∙ l.3) in
      places_apart below (once_back p.own (own_cells below) w.once) i j cell
      (λ e. one_way way other l.1 s.parts s.below to too q r cell s.whole l.4 a h (subst (λ z. WayLeadsTo reads z other too) (subkeys_same e) m.4) b g (λ f. d (λ x. e x ∷ f x)))
      (reached i way at p below to q cell w l a h) (reached j other at p below too r cell w m b g)

  name_there : (at : ℕ) (p : KeyParts R) (below : Keys R) → Whole reads at p below → (i subkey : ℕ) (q : KeyParts R) → slice_get p.subkey_list i ≡ Some subkey → reads subkey ≡ Ok q → IsIn q.name (names_at below i)
  name_there at p below w i subkey q e r =
      let s : Place below i subkey = step at p below w p i subkey w.read e in
      subst (λ z. IsIn q.name z) (sym s.its_names) (inl (ap (λ (z : KeyParts R). z.name) (one_parts reads subkey subkey q s.parts refl r s.whole.read)))

  pub not_unread : (root : ℕ) (p : KeyParts R) (below : Keys R) → Whole reads root p below → (c : C) → KeyIsUnreadable reads root c → ⊥
  not_unread root p below w c f =
      let e : End root p below f.1 = end f.0 root p below f.1 w f.2 in
      ok_err e.parts c (sym e.whole.read ∙ f.3)

  pub not_shared : (trail : ℕ → List ℕ) → IsTrail trail reads → (root : ℕ) (p : KeyParts R) (below : Keys R) → Whole reads root p below → Shared trail reads root → ⊥
  not_shared trail is root p below w f =
      let one : End root p below f.at = end f.way root p below f.at w f.leads in
      let two : End root p below f.other = end f.other_way root p below f.other w f.other_leads in
      one_way f.way f.other_way root p below f.at f.other one.parts two.parts f.cell w
      f.leads one.whole.read (subst (IsIn f.cell) (is f.at one.parts one.whole.read) f.first)
      f.other_leads two.whole.read (subst (IsIn f.cell) (is f.other two.parts two.whole.read) f.second) f.apart

  pub not_repeats : (trail : ℕ → List ℕ) → IsTrail trail reads → (root : ℕ) (p : KeyParts R) (below : Keys R) → Whole reads root p below → KeyRepeatsCell trail reads root → ⊥
  not_repeats trail is root p below w f =
      let e : End root p below f.1 = end f.0 root p below f.1 w f.2 in
      f.3 (subst Once (sym (is f.1 e.parts e.whole.read)) (once_front e.parts.own (own_cells e.under) e.whole.once))

  pub not_alike : (root : ℕ) (p : KeyParts R) (below : Keys R) → Whole reads root p below → HasSubkeysAlike reads root → ⊥
  not_alike root p below w f =
      let e : End root p below f.at = end f.way root p below f.at w f.leads in
      let same_parts : f.parts ≡ e.parts = one_parts reads f.at f.at f.parts e.parts refl f.reads_so e.whole.read in
      let one : IsIn f.one_parts.name (names_at e.under f.i) = name_there f.at e.parts e.under e.whole f.i f.one f.one_parts (ap (λ (z : KeyParts R). slice_get z.subkey_list f.i) (sym same_parts) ∙ f.one_listed) f.one_reads in
      let two : IsIn f.other_parts.name (names_at e.under f.j) = name_there f.at e.parts e.under e.whole f.j f.other f.other_parts (ap (λ (z : KeyParts R). slice_get z.subkey_list f.j) (sym same_parts) ∙ f.other_listed) f.other_reads in
      names_apart e.under e.whole.named f.i f.j f.one_parts.name f.apart one (subst (λ z. IsIn z (names_at e.under f.j)) (sym f.same_name) two)

  name_of_last : (way : List ℕ) (i at : ℕ) (p : KeyParts R) (below : Keys R) (to : ℕ) → Whole reads at p below → WayLeadsTo reads at (i ∷ way) to → (q : KeyParts R) → reads to ≡ Ok q → q.name ≢ []
  name_of_last [] i at p below to w l q r n =
      let s : Place below i l.1 = step at p below w l.0 i l.1 l.2 l.3 in
      s.has_name (ap (λ (z : KeyParts R). z.name) (one_parts reads l.1 to s.parts q l.4 s.whole.read r) ∙ n)
  name_of_last (j ∷ way) i at p below to w l q r n =
      let s : Place below i l.1 = step at p below w l.0 i l.1 l.2 l.3 in
      name_of_last way j l.1 s.parts s.below to s.whole l.4 q r n

  pub not_nameless : (root : ℕ) (p : KeyParts R) (below : Keys R) → Whole reads root p below → HasNamelessKey reads root → ⊥
  not_nameless root p below w f = name_of_last f.1 f.0 root p below f.2 w f.4 f.3 f.5 f.6

  pub not_told : (trail : ℕ → List ℕ) → IsTrail trail reads → (bad_name shared : C) (root : ℕ) (p : KeyParts R) (below : Keys R) → Whole reads root p below → (cause : C) → HasFault trail reads bad_name shared (λ cell. false) root cause → ⊥
  not_told trail is bad_name shared root p below w cause (inl f) = not_unread root p below w cause f
  not_told trail is bad_name shared root p below w cause (inr (inl (e, inl f))) = not_nameless root p below w f
  not_told trail is bad_name shared root p below w cause (inr (inl (e, inr f))) = not_alike root p below w f
  not_told trail is bad_name shared root p below w cause (inr (inr (e, inl f))) = not_repeats trail is root p below w f
  not_told trail is bad_name shared root p below w cause (inr (inr (e, inr (inl f)))) = not_shared trail is root p below w f
  not_told trail is bad_name shared root p below w cause (inr (inr (e, inr (inr f)))) = never f.5

  pub not_lends : (trail lends : ℕ → List ℕ) → IsTrail trail reads → IsLentTrail lends reads → (root : ℕ) (p : KeyParts R) (below : Keys R) → Whole reads root p below → LentApart p below → LendsOwnCell trail lends reads root → ⊥
  not_lends trail lends is also root p below w apart f =
      let one : End root p below f.at = end f.way root p below f.at w f.leads in
      let two : End root p below f.other = end f.other_way root p below f.other w f.other_leads in
      apart f.cell (two.lents f.cell (subst (IsIn f.cell) (also f.other two.parts two.whole.read) f.lent)) (one.cells f.cell (subst (IsIn f.cell) (is f.at one.parts one.whole.read) f.belongs))
