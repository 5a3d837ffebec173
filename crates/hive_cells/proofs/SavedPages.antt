-- A saved page is put back.
use Rattle.std.proofs.Common.{◌≡◌, ◌≢◌, ◌⊎◌, inl, inr, ℕ, ◌+◌, ◌*◌, ◌/◌, ◌%◌, ◌<◌, ◌≤◌, List, length, slice_index, slice_range, take, drop, length-take, zero, ◌-◌, sym, ◌∙◌, ap, subst, arith}
use Rattle.std.proofs.lemmas.Bool.{cases_eq, cases_lt}
use Rattle.std.proofs.lemmas.List.{get_or-drop, get_or-take, ext_get_or}
use Rattle.refusals.specs.declared.refusal.Refusal.{Refusal}
use Rattle.refusals.specs.declared.refusal.Refusal.TheVariants as refusal
use Rattle.refusals.specs.declared.refusal.Cause.TheVariants as cause
use Rattle.hive_cells.specs.Tiles.{Tiles, IsFaultOf}
use Rattle.hive_cells.specs.Restores.{IsSaved, IsAt, Restores}

-- a byte of a part of a list
pub range_index : (xs : List ℕ) (from to i : ℕ) → from + i < to → slice_index (slice_range xs from to) i ≡ slice_index xs (from + i)
range_index xs from to i h = get_or-take (to - from) (drop from xs) i 0 (omega (arith, h)) ∙ get_or-drop from xs i 0

-- a byte is as it was, or its page is yet to be put back
abbrev pub Left : List ℕ → List ℕ → List ℕ → ℕ → ℕ → Type 0
Left old now order n i = (slice_index now i ≡ slice_index old i) ⊎ ((k : ℕ) × (n ≤ k) × IsAt order k (i / 512))

one_more : (n k : ℕ) → n ≤ k → k ≢ n → n + 1 ≤ k
one_more n k most apart = elim (cases_lt n k) [ inl l ↦ omega (arith, l) | inr g ↦ absurd (apart (omega (arith, most, g))) ]

-- after a page more
pub page_back : (old start now new order saved : List ℕ) (n i : ℕ) → IsSaved old start order saved → n < length order → i < length old →
    ((j : ℕ) → j < 512 → slice_index new (512 * slice_index order n + j) ≡ slice_index (slice_range saved (512 * n) (512 * n + 512)) j) →
    ((k : ℕ) → ((k < 512 * slice_index order n) ⊎ (512 * slice_index order n + 512 ≤ k)) → slice_index new k ≡ slice_index now k) →
    Left old now order n i → Left old new order (n + 1) i
page_back old start now new order saved n i s low within its others left = elim (cases_eq (i / 512) (slice_index order n)) [
  | inl here ↦ inl (back here)
  | inr there ↦ elim left [
    | inl same ↦ inl (others i (off there) ∙ same)
    | inr later ↦ inr (later.0, next there later.0 later.1 later.2.1, later.2)
  ]
]
  where
    back : i / 512 ≡ slice_index order n → slice_index new i ≡ slice_index old i
    back here =
        let place : 512 * slice_index order n + i % 512 ≡ i = omega (arith, here) in
        let small : i % 512 < 512 = omega arith in
        ap (slice_index new) (sym place)
        ∙ its (i % 512) small
        ∙ range_index saved (512 * n) (512 * n + 512) (i % 512) (omega (arith, small))
        ∙ s.kept n (i % 512) low small
        ∙ ap (slice_index old) place

    off : i / 512 ≢ slice_index order n → (i < 512 * slice_index order n) ⊎ (512 * slice_index order n + 512 ≤ i)
    off there = by (cases_lt i (512 * slice_index order n)) (cases_lt i (512 * slice_index order n + 512))
      where
        by : (i < 512 * slice_index order n) ⊎ (512 * slice_index order n ≤ i) → (i < 512 * slice_index order n + 512) ⊎ (512 * slice_index order n + 512 ≤ i) → (i < 512 * slice_index order n) ⊎ (512 * slice_index order n + 512 ≤ i)
        by (inl a) b = inl a
        by (inr a) (inr b) = inr b
        by (inr a) (inl b) = absurd (there (omega (arith, a, b)))

    next : i / 512 ≢ slice_index order n → (k : ℕ) → n ≤ k → slice_index order k ≡ i / 512 → n + 1 ≤ k
    next there k most is = elim (cases_eq k n) [
      | inl e ↦ absurd (there (sym is ∙ ap (slice_index order) e))
      | inr e ↦ one_more n k most e
    ]

-- all pages are back, and the data have their old length
pub restored : (old now put order saved : List ℕ) (len : ℕ) → Restores old now order saved len → length put ≡ length now
    → ((any : List ℕ) → IsSaved any now order saved → (i : ℕ) → i < length any → slice_index put i ≡ slice_index any i) → take len put ≡ old
restored old now put order saved len r same back =
    let longer : length old ≤ length now = r.is_saved.longer in
    let size : length old ≡ len = r.len in
    let cut : length (take len put) ≡ len = omega (arith, length-take len put, same, longer, size) in
    ext_get_or 0 (take len put) old (cut ∙ sym size) (λ i less. get_or-take len put i 0 (omega arith) ∙ back old r.is_saved i (omega arith))

-- the same, as the method knows it
pub restored_all : (items now given put order saved : List ℕ) (len : ℕ) → items ≡ now → given ≡ items → length put ≡ length given
    → ((any : List ℕ) → IsSaved any given order saved → (i : ℕ) → i < length any → slice_index put i ≡ slice_index any i) → (old : List ℕ) → Restores old now order saved len → take len put ≡ old
restored_all items now given put order saved len seen same long back old r =
    restored old now put order saved len r (long ∙ ap length (same ∙ seen)) (λ any s. back any (subst (λ (x : List ℕ). IsSaved any x order saved) (sym (same ∙ seen)) s))

-- data that bins and cells tile have no fault
pub no_fault : (bytes : List ℕ) (why : Refusal) → Tiles bytes → IsFaultOf bytes why → ⊥
no_fault bytes (refusal.HiveDamaged zero cause.Truncated) t f = f t.pages
no_fault bytes (refusal.HiveDamaged zero cause.BadBin) t f = f.2 (t.bins f.0 f.1)
no_fault bytes (refusal.HiveDamaged zero cause.BadCell) t f = f.3 (t.cells f.0 f.1 f.2)
no_fault bytes _ t f = absurd f
