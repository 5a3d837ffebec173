-- Cells that are lent are compared with those that were marked once all keys are read.
use Rattle.std.proofs.Common.{◌≡◌, inl, inr, ℕ, suc, List, [], ◌∷◌, ◌++◌, refl, ◌∙◌, ap, sym, subst, true, false, Ok, Some, slice_get}
use Rattle.hive_tree_model.specs.Lists.{IsIn}
use Rattle.hive_tree_model.specs.Keys.{KeyParts, KeyReader, Keys, none, key, offsets, own_cells, lent_cells}
use Rattle.hive_tree_model.specs.Encodings.{CellsMatchKeys, Whole, LentApart}
use Rattle.hive_tree_model.specs.Chains.{WayLeadsTo}
use Rattle.hive_tree_model.specs.Faults.{IsTrail, IsLentTrail, LendsOwnCell}
use Rattle.hive_tree_model.specs.Loads.{CellMarks, Loaded}
use Rattle.hive_tree_model.proofs.Basics.{never, clash, in_either}

module _ {R C : Type 0} (reads : KeyReader R C) where
  pub settled : (now : CellMarks) (root : ℕ) (p : KeyParts R) (below : Keys R) → Loaded reads (λ cell. false) now root p below → ((cell : ℕ) → IsIn cell (p.lent ++ lent_cells below) → now cell ≡ false) → LentApart p below
  settled now root p below l free = λ cell h g. clash (now cell) ((l.1.now cell).1 (inr g)) (free cell h)

  -- a way from a key to a key whose list has the cell
  To : (ℕ → List ℕ) → ℕ → ℕ → Type 0
  To list at cell = (way : List ℕ) × (to : ℕ) × WayLeadsTo reads at way to × IsIn cell (list to)

  record Way (list : ℕ → List ℕ) (f : Keys R) (cell : ℕ) : Type 0 where
    place : ℕ
    subkey : ℕ
    listed : slice_get (offsets f) place ≡ Some subkey
    way : List ℕ
    to : ℕ
    leads : WayLeadsTo reads subkey way to
    has : IsIn cell (list to)

  here : (list : ℕ → List ℕ) (at : ℕ) (p : KeyParts R) (below after : Keys R) (cell : ℕ) → IsIn cell (list at) → Way list (key at p below after) cell
  here list at p below after cell h = record { place = 0; subkey = at; listed = refl; way = []; to = at; leads = refl; has = h }

  down : (list : ℕ → List ℕ) (at : ℕ) (p : KeyParts R) (below after : Keys R) (cell : ℕ) → reads at ≡ Ok p → offsets below ≡ p.subkey_list → Way list below cell → Way list (key at p below after) cell
  down list at p below after cell r e w = record { place = 0; subkey = at; listed = refl; way = w.place ∷ w.way; to = w.to; leads = (p, w.subkey, r, ap (λ (z : List ℕ). slice_get z w.place) (sym e) ∙ w.listed, w.leads); has = w.has }

  past : (list : ℕ → List ℕ) (at : ℕ) (p : KeyParts R) (below after : Keys R) (cell : ℕ) → Way list after cell → Way list (key at p below after) cell
  past list at p below after cell w = record { place = suc w.place; subkey = w.subkey; listed = w.listed; way = w.way; to = w.to; leads = w.leads; has = w.has }

  own_way : (trail : ℕ → List ℕ) → IsTrail trail reads → (f : Keys R) → CellsMatchKeys reads f → (cell : ℕ) → IsIn cell (own_cells f) → Way trail f cell
  own_way trail is none fits cell h = absurd h
  own_way trail is (key at p below after) fits cell h = elim (in_either cell (p.own ++ own_cells below) (own_cells after) h) [
    | inl i ↦ elim (in_either cell p.own (own_cells below) i) [
      | inl j ↦ here trail at p below after cell (subst (IsIn cell) (sym (is at p fits.0)) j)
      | inr j ↦ down trail at p below after cell fits.0 fits.1 (own_way trail is below fits.2 cell j)
    ]
    | inr i ↦ past trail at p below after cell (own_way trail is after fits.3 cell i)
  ]

  lent_way : (lends : ℕ → List ℕ) → IsLentTrail lends reads → (f : Keys R) → CellsMatchKeys reads f → (cell : ℕ) → IsIn cell (lent_cells f) → Way lends f cell
  lent_way lends is none fits cell h = absurd h
  lent_way lends is (key at p below after) fits cell h = elim (in_either cell (p.lent ++ lent_cells below) (lent_cells after) h) [
    | inl i ↦ elim (in_either cell p.lent (lent_cells below) i) [
      | inl j ↦ here lends at p below after cell (subst (IsIn cell) (sym (is at p fits.0)) j)
      | inr j ↦ down lends at p below after cell fits.0 fits.1 (lent_way lends is below fits.2 cell j)
    ]
    | inr i ↦ past lends at p below after cell (lent_way lends is after fits.3 cell i)
  ]

  from_root : (list : ℕ → List ℕ) (root : ℕ) (p : KeyParts R) (below : Keys R) (cell : ℕ) → Whole reads root p below → Way list below cell → To list root cell
  unfolding To
  from_root list root p below cell w y = (y.place ∷ y.way, y.to, (p, y.subkey, w.read, ap (λ (z : List ℕ). slice_get z y.place) (sym w.listed) ∙ y.listed, y.leads), y.has)

  own_from : (trail : ℕ → List ℕ) → IsTrail trail reads → (root : ℕ) (p : KeyParts R) (below : Keys R) → Whole reads root p below → (cell : ℕ) → IsIn cell (p.own ++ own_cells below) → To trail root cell
  unfolding To
  own_from trail is root p below w cell h = elim (in_either cell p.own (own_cells below) h) [
    | inl i ↦ ([], root, refl, subst (IsIn cell) (sym (is root p w.read)) i)
    | inr i ↦ from_root trail root p below cell w (own_way trail is below w.fits cell i)
  ]

  lent_from : (lends : ℕ → List ℕ) → IsLentTrail lends reads → (root : ℕ) (p : KeyParts R) (below : Keys R) → Whole reads root p below → (cell : ℕ) → IsIn cell (p.lent ++ lent_cells below) → To lends root cell
  unfolding To
  lent_from lends is root p below w cell h = elim (in_either cell p.lent (lent_cells below) h) [
    | inl i ↦ ([], root, refl, subst (IsIn cell) (sym (is root p w.read)) i)
    | inr i ↦ from_root lends root p below cell w (lent_way lends is below w.fits cell i)
  ]

  pub lent_met : (trail lends : ℕ → List ℕ) → IsTrail trail reads → IsLentTrail lends reads → (now : CellMarks) (root : ℕ) (p : KeyParts R) (below : Keys R) → Loaded reads (λ cell. false) now root p below → (cell : ℕ) → IsIn cell (p.lent ++ lent_cells below) → now cell ≡ true → LendsOwnCell trail lends reads root
  unfolding To
  lent_met trail lends is also now root p below l cell h e = elim ((l.1.now cell).0 e) [
    | inl f ↦ never f
    | inr i ↦
        let one : To trail root cell = own_from trail is root p below l.0 cell i in
        let two : To lends root cell = lent_from lends also root p below l.0 cell h in
        record { way = one.0; at = one.1; leads = one.2; other_way = two.0; other = two.1; other_leads = two.2; cell = cell; belongs = one.3; lent = two.3 }
  ]
