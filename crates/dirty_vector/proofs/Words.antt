-- Marks in words: masks, a write to one word, and counting.
use Rattle.std.proofs.Common.{◌≡◌, ◌≤◌, ◌<◌, ℕ, zero, suc, ◌+◌, ◌-◌, ◌*◌, ◌/◌, ◌%◌, ◌^◌, Bool, true, false, ◌&&◌, ◌||◌, eqb, leb, ltb, min, max, cond, List, length, get_or, set, refl, sym, ap, subst, ◌∙◌, inl, inr, arith, bit_and, bit_or}
use Rattle.std.specs.Int.{bit_at}
use Rattle.std.proofs.lemmas.Bool.{cases_lt, cases_eq, le-leb, lt-leb, lt-ltb, le-ltb}
use Rattle.std.proofs.lemmas.Bool.Decides.{leb_tells}
use Rattle.std.proofs.lemmas.List.{get_or-set_same, get_or-set_other}
use Rattle.std.proofs.lemmas.Nat.Bits.{bit_at_and, bit_at_or, bit_at-lt, bit_at_ones, bit_at_ones_above, bit_at_mask_inside, bit_at_mask_below, bit_at_cat_low, ones_shl, ones_shr}
use Rattle.std.proofs.Math.Nat.{add-zero, add_assoc, add_comm, mul_comm, one-le-pow, pow-suc, mod-lt, div-add-mod', div-lt_iff_lt-mul}
use lib.Count.{ones, ones_cat, ones-ones}
use Rattle.dirty_vector.specs.Marks.{is_marked, marked_count, IsMask}

-- ---- tests

pub and_test : (x y : ℕ) → x < 2 → y < 2 → eqb (min x y) 1 ≡ (eqb x 1 && eqb y 1)
and_test zero zero hx hy = refl
and_test zero (suc zero) hx hy = refl
and_test (suc zero) zero hx hy = refl
and_test (suc zero) (suc zero) hx hy = refl
and_test x (suc (suc y)) hx hy = absurd (omega arith)
and_test (suc (suc x)) y hx hy = absurd (omega arith)

pub or_test : (x y : ℕ) → x < 2 → y < 2 → eqb (max x y) 1 ≡ (eqb x 1 || eqb y 1)
or_test zero zero hx hy = refl
or_test zero (suc zero) hx hy = refl
or_test (suc zero) zero hx hy = refl
or_test (suc zero) (suc zero) hx hy = refl
or_test x (suc (suc y)) hx hy = absurd (omega arith)
or_test (suc (suc x)) y hx hy = absurd (omega arith)

pub same_leb : (a b c d : ℕ) → (a ≤ b → c ≤ d) → (c ≤ d → a ≤ b) → leb a b ≡ leb c d
same_leb a b c d f g =
    elim (leb_tells a b) [
      | inl x ↦ x.0 ∙ sym (le-leb c d (f x.1))
      | inr x ↦ x.0 ∙ sym (lt-leb c d (elim (cases_lt d c) [ inl lt ↦ lt | inr le ↦ absurd (omega (arith, g le, x.1)) ]))
    ]

-- ---- masks

high_part : (low bit : ℕ) → low < 64 → bit < 64 → eqb (bit_at (2 ^ 64 - 2 ^ low) bit) 1 ≡ leb low bit
high_part low bit hl hb =
    elim (leb_tells low bit) [
      | inl x ↦ ap (λ (n : ℕ). eqb n 1) (bit_at_mask_inside low 64 bit x.1 hb) ∙ sym x.0
      | inr x ↦ ap (λ (n : ℕ). eqb n 1) (bit_at_mask_below low 64 bit x.1) ∙ sym x.0
    ]

low_part : (high bit : ℕ) → eqb (bit_at (2 ^ (high + 1) - 1) bit) 1 ≡ leb bit high
low_part high bit =
    elim (leb_tells bit high) [
      | inl x ↦ ap (λ (n : ℕ). eqb n 1) (bit_at_ones (high + 1) bit (omega (arith, x.1))) ∙ sym x.0
      | inr x ↦ ap (λ (n : ℕ). eqb n 1) (bit_at_ones_above (high + 1) bit (omega (arith, x.1))) ∙ sym x.0
    ]

pub mask_is : (low high : ℕ) → low ≤ high → high < 64 → IsMask (bit_and (18446744073709551615 * 2 ^ low % 18446744073709551616) (18446744073709551615 / 2 ^ (63 - high))) low high
mask_is low high some inside = λ bit h.
    let up : 18446744073709551615 * 2 ^ low % 18446744073709551616 ≡ 2 ^ 64 - 2 ^ low = ones_shl 64 low (omega arith) in
    let width : 64 - (63 - high) ≡ high + 1 = omega arith in
    let down : 18446744073709551615 / 2 ^ (63 - high) ≡ 2 ^ (high + 1) - 1 = ones_shr 64 (63 - high) (omega arith) ∙ ap (λ (n : ℕ). 2 ^ n - 1) width in
    let a = 2 ^ 64 - 2 ^ low in
    let b = 2 ^ (high + 1) - 1 in
    let parts : bit_at (bit_and (18446744073709551615 * 2 ^ low % 18446744073709551616) (18446744073709551615 / 2 ^ (63 - high))) bit ≡ min (bit_at a bit) (bit_at b bit) = ap (λ (n : ℕ). bit_at (bit_and n (18446744073709551615 / 2 ^ (63 - high))) bit) up ∙ ap (λ (n : ℕ). bit_at (bit_and a n) bit) down ∙ bit_at_and a b bit in
    ap (λ (n : ℕ). eqb n 1) parts ∙ and_test (bit_at a bit) (bit_at b bit) (bit_at-lt a bit) (bit_at-lt b bit)
    ∙ ap (λ (t : Bool). t && eqb (bit_at b bit) 1) (high_part low bit (omega arith) h)
    ∙ ap (λ (t : Bool). leb low bit && t) (low_part high bit)

-- ---- one word

-- what is marked so far: what was, and the pages of the words below index
abbrev pub MarkedTo : List ℕ → List ℕ → ℕ → ℕ → ℕ → Type 0
MarkedTo old words first last index = (page : ℕ) → is_marked words page ≡ (is_marked old page || (leb first page && leb page last && ltb (page / 64) index))

regroup : (a b c : Bool) → ((a || (b && c && false)) || (b && c)) ≡ (a || (b && c && true))
regroup true b c = refl
regroup false true true = refl
regroup false true false = refl
regroup false false c = refl

pub mark_word : (old words : List ℕ) (first last index mask : ℕ) → index < length words → index ≤ last / 64
    → IsMask mask (first - 64 * index) (min (last - 64 * index) 63)
    → MarkedTo old words first last index → MarkedTo old (set words index (bit_or (get_or words index 0) mask)) first last (index + 1)
mark_word old words first last index mask fits until is_mask before = λ page.
    let word = bit_or (get_or words index 0) mask in
    let a = is_marked old page in
    let bc = leb first page && leb page last in
    elim (cases_eq (page / 64) index) [
      | inl here ↦
          let bit = page % 64 in
          let small : bit < 64 = omega arith in
          let at : page ≡ 64 * index + bit = omega arith in
          let new : is_marked (set words index word) page ≡ eqb (bit_at word bit) 1 = ap (λ (i : ℕ). eqb (bit_at (get_or (set words index word) i 0) bit) 1) here ∙ ap (λ (w : ℕ). eqb (bit_at w bit) 1) (get_or-set_same words index word 0 fits) in
          let was : eqb (bit_at (get_or words index 0) bit) 1 ≡ is_marked words page = ap (λ (i : ℕ). eqb (bit_at (get_or words i 0) bit) 1) (sym here) in
          let lows : leb (first - 64 * index) bit ≡ leb first page = same_leb (first - 64 * index) bit first page (λ h. omega (arith, h)) (λ h. omega (arith, h)) in
          let highs : leb bit (min (last - 64 * index) 63) ≡ leb page last = same_leb bit (min (last - 64 * index) 63) page last (λ h. omega (arith, h)) (λ h. omega (arith, h)) in
          let not_yet : ltb (page / 64) index ≡ false = le-ltb _ _ (omega arith) in
          let now : ltb (page / 64) (index + 1) ≡ true = lt-ltb _ _ (omega arith) in
          new
          ∙ ap (λ (n : ℕ). eqb n 1) (bit_at_or (get_or words index 0) mask bit)
          ∙ or_test (bit_at (get_or words index 0) bit) (bit_at mask bit) (bit_at-lt _ bit) (bit_at-lt mask bit)
          ∙ ap (λ (t : Bool). t || eqb (bit_at mask bit) 1) (was ∙ before page ∙ ap (λ (t : Bool). a || (bc && t)) not_yet)
          ∙ ap (λ (t : Bool). (a || (bc && false)) || t) (is_mask bit small ∙ ap (λ (t : Bool). t && leb bit (min (last - 64 * index) 63)) lows ∙ ap (λ (t : Bool). leb first page && t) highs)
          ∙ regroup a (leb first page) (leb page last)
          ∙ ap (λ (t : Bool). a || (bc && t)) (sym now)
      | inr other ↦
          let same : is_marked (set words index word) page ≡ is_marked words page = ap (λ (w : ℕ). eqb (bit_at w (page % 64)) 1) (get_or-set_other words index (page / 64) word 0 other) in
          let tests : ltb (page / 64) index ≡ ltb (page / 64) (index + 1) = same_leb (suc (page / 64)) index (suc (page / 64)) (index + 1) (λ h. omega (arith, h)) (λ h. elim (cases_lt (page / 64) index) [ inl lt ↦ lt | inr le ↦ absurd (other (omega (arith, h, le))) ]) in
          same ∙ before page ∙ ap (λ (t : Bool). a || (bc && t)) tests
    ]

or_nothing : (a b : Bool) → a ≡ (a || (false && b))
or_nothing true b = refl
or_nothing false b = refl

or_never : (a b : Bool) → a ≡ (a || (b && false))
or_never true b = refl
or_never false true = refl
or_never false false = refl

and_true : (b : Bool) → (b && true) ≡ b
and_true true = refl
and_true false = refl

and_never : (a b : Bool) → (a && false && b) ≡ (a && false)
and_never true b = refl
and_never false b = refl

-- before the first word nothing more is marked
pub mark_none : (words : List ℕ) (first last : ℕ) → MarkedTo words words first last (first / 64)
mark_none words first last = λ page.
    elim (cases_lt page first) [
      | inl lt ↦
          let e : leb first page ≡ false = lt-leb first page lt in
          or_nothing (is_marked words page) (leb page last) ∙ early (is_marked words page) (leb first page) (leb page last) (ltb (page / 64) (first / 64)) e
      | inr le ↦
          let e : ltb (page / 64) (first / 64) ≡ false = le-ltb _ _ (omega arith) in
          or_never (is_marked words page) (leb first page && leb page last) ∙ ap (λ (t : Bool). is_marked words page || (leb first page && leb page last && t)) (sym e)
    ]
  where
    early : (a x y z : Bool) → x ≡ false → (a || (false && y)) ≡ (a || (x && y && z))
    early a x y z e = ap (λ (t : Bool). a || (t && y && z)) (sym e)

-- after the last word each page of the range is marked
pub mark_all : (old words : List ℕ) (first last index : ℕ) → last / 64 < index → MarkedTo old words first last index → (page : ℕ) → is_marked words page ≡ (is_marked old page || (leb first page && leb page last))
mark_all old words first last index done all page =
    all page
    ∙ ap (λ (t : Bool). is_marked old page || t) (elim (cases_lt last page) [
      | inl lt ↦
          let e : leb page last ≡ false = lt-leb page last lt in
          ap (λ (t : Bool). leb first page && t && ltb (page / 64) index) e ∙ and_never (leb first page) (ltb (page / 64) index) ∙ ap (λ (t : Bool). leb first page && t) (sym e)
      | inr le ↦
          let e : ltb (page / 64) index ≡ true = lt-ltb _ _ (omega arith) in
          ap (λ (t : Bool). leb first page && leb page last && t) e ∙ and_true (leb first page && leb page last)
    ])

-- ---- counting

pub same_count : (f g : ℕ → Bool) (n : ℕ) → ((k : ℕ) → k < n → f k ≡ g k) → marked_count f n ≡ marked_count g n
same_count f g zero same = refl
same_count f g (suc n) same =
    ap (λ (m : ℕ). m + cond (f n) 1 0) (same_count f g n (λ k h. same k (omega arith)))
    ∙ ap (λ (t : Bool). marked_count g n + cond t 1 0) (same n (omega arith))

-- the count below a + k is the count below a and the count of the next k
pub count_split : (f : ℕ → Bool) (a k : ℕ) → marked_count f (a + k) ≡ marked_count f a + marked_count (λ j. f (a + j)) k
count_split f a zero = let e : a + 0 ≡ a = omega arith in ap (marked_count f) e ∙ sym (add-zero (marked_count f a))
count_split f a (suc k) =
    let e : a + suc k ≡ suc (a + k) = omega arith in
    ap (marked_count f) e ∙ ap (λ (n : ℕ). n + cond (f (a + k)) 1 0) (count_split f a k) ∙ add_assoc (marked_count f a) (marked_count (λ j. f (a + j)) k) (cond (f (a + k)) 1 0)

bit_count : (x : ℕ) → x < 2 → ones x ≡ cond (eqb (x % 2) 1) 1 0
bit_count zero h = ones-ones 0
bit_count (suc zero) h = ones-ones 1
bit_count (suc (suc x)) h = absurd (omega arith)

-- the ones of a word are its marked bits
pub ones_counted : (k w : ℕ) → w < 2 ^ k → ones w ≡ marked_count (λ j. eqb (bit_at w j) 1) k
ones_counted zero w h =
    let e : w ≡ 0 = omega (arith, h) in
    ap ones e ∙ ones-ones 0
ones_counted (suc k) w h =
    let p = 2 ^ k in
    let pos : 0 < 2 ^ k = one-le-pow k 2 (omega arith) in
    let twice : 2 ^ suc k ≡ 2 ^ k * 2 = pow-suc 2 k in
    let low : w % 2 ^ k < 2 ^ k = mod-lt w pos in
    let whole : w ≡ w / 2 ^ k * 2 ^ k + w % 2 ^ k = sym (div-add-mod' w (2 ^ k)) in
    let top : w / 2 ^ k < 2 = (div-lt_iff_lt-mul pos).1 (subst (λ (n : ℕ). w < n) (twice ∙ mul_comm (2 ^ k) 2) h) in
    let same : marked_count (λ j. eqb (bit_at (w % 2 ^ k) j) 1) k ≡ marked_count (λ j. eqb (bit_at w j) 1) k =
    same_count (λ j. eqb (bit_at (w % 2 ^ k) j) 1) (λ j. eqb (bit_at w j) 1) k
    (λ j hj. ap (λ (n : ℕ). eqb n 1) (sym (bit_at_cat_low (w / 2 ^ k) k (w % 2 ^ k) j hj) ∙ ap (λ (n : ℕ). bit_at n j) (sym whole))) in
    ap ones whole
    ∙ ones_cat k (w / 2 ^ k) (w % 2 ^ k) low
    ∙ ap (λ (n : ℕ). n + ones (w % 2 ^ k)) (bit_count (w / 2 ^ k) top)
    ∙ ap (λ (n : ℕ). cond (eqb (bit_at w k) 1) 1 0 + n) (ones_counted k (w % 2 ^ k) low ∙ same)
    ∙ add_comm (cond (eqb (bit_at w k) 1) 1 0) (marked_count (λ j. eqb (bit_at w j) 1) k)

-- one word more is counted
pub count_word : (words : List ℕ) (index : ℕ) → get_or words index 0 < 2 ^ 64 → marked_count (is_marked words) (64 * (index + 1)) ≡ marked_count (is_marked words) (64 * index) + ones (get_or words index 0)
count_word words index fits =
    let e : 64 * (index + 1) ≡ 64 * index + 64 = omega arith in
    let w = get_or words index 0 in
    ap (marked_count (is_marked words)) e ∙ count_split (is_marked words) (64 * index) 64
    ∙ ap (λ (n : ℕ). marked_count (is_marked words) (64 * index) + n)
    (same_count (λ j. is_marked words (64 * index + j)) (λ j. eqb (bit_at w j) 1) 64
    (λ j h.
    let d : (64 * index + j) / 64 ≡ index = omega arith in
    let m : (64 * index + j) % 64 ≡ j = omega arith in
    ap (λ (i : ℕ). eqb (bit_at (get_or words i 0) ((64 * index + j) % 64)) 1) d ∙ ap (λ (i : ℕ). eqb (bit_at w i) 1) m)
    ∙ sym (ones_counted 64 w fits))
