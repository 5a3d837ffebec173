-- The bytes of words, and marks in them.
use Rattle.std.proofs.Common.{◌≡◌, ◌≤◌, ◌<◌, ℕ, zero, suc, ◌+◌, ◌-◌, ◌*◌, ◌/◌, ◌%◌, ◌^◌, Bool, true, false, ◌&&◌, ◌||◌, eqb, ltb, cond, List, length, get_or, set, replicate, refl, sym, ap, ◌∙◌, inl, inr, arith, bit_or}
use Rattle.std.specs.Int.{bit_at}
use Rattle.std.proofs.lemmas.Bool.{cases_lt, cases_eq, lt-ltb, le-ltb, eq-eqb, ne_eqb}
use Rattle.std.proofs.lemmas.List.{get_or-set_same, get_or-set_other, get_or_past}
use Rattle.std.proofs.lemmas.List.FromFn.{fill_by_all}
use Rattle.std.proofs.lemmas.Nat.{pow-add}
use Rattle.std.proofs.lemmas.Nat.Bits.{bit_at_or, bit_at-lt, bit_at-zero, bit_at_above, bit_at_cat_low, bit_at_cat_high}
use Rattle.std.proofs.Math.Nat.{one-le-pow, mul-le-mul_right, div-div-eq-div-mul, div-add-mod', mod-lt, add-zero}
use Rattle.std.proofs.Math.ListN.{get_or-replicate}
use Rattle.dirty_vector.specs.Marks.{is_marked, is_marked_in_bitmap}
use Rattle.dirty_vector.specs.Pages.{bit_of, bitmap_byte, bitmap_of}
use Rattle.dirty_vector.proofs.Words.{or_test, same_leb}

-- a byte shifted to its position in a word fits the word
pub shifted_fits : (byte index : ℕ) → byte < 256 → index < 8 → byte * 2 ^ (8 * index) < 2 ^ 64
shifted_fits byte index small inside =
    let p = 2 ^ (8 * index) in
    let pos : 1 ≤ 2 ^ (8 * index) = one-le-pow (8 * index) 2 (omega arith) in
    let rest : 1 ≤ 2 ^ (56 - 8 * index) = one-le-pow (56 - 8 * index) 2 (omega arith) in
    let sum : 8 * index + (56 - 8 * index) ≡ 56 = omega arith in
    let whole : 2 ^ (8 * index) * 2 ^ (56 - 8 * index) ≡ 2 ^ 56 = sym (pow-add 2 (8 * index) (56 - 8 * index)) ∙ ap (λ (n : ℕ). 2 ^ n) sum in
    let less : (byte + 1) * 2 ^ (8 * index) ≤ 256 * 2 ^ (8 * index) = mul-le-mul_right (2 ^ (8 * index)) (omega arith) in
    let up : 1 * 2 ^ (8 * index) ≤ 2 ^ (56 - 8 * index) * 2 ^ (8 * index) = mul-le-mul_right (2 ^ (8 * index)) rest in
    omega (arith, pos, whole, less, up)

-- a bit of a word, from a bit on
pub bit_from : (w s j : ℕ) → bit_at (w / 2 ^ s) j ≡ bit_at w (s + j)
bit_from w s j = ap (λ (n : ℕ). n % 2) (div-div-eq-div-mul w (2 ^ s) (2 ^ j) ∙ ap (λ (n : ℕ). w / n) (sym (pow-add 2 s j)))

-- a bit of a byte of a word
byte_bit : (w index j : ℕ) → j < 8 → bit_at (w / 2 ^ (8 * index) % 256) j ≡ bit_at w (8 * index + j)
byte_bit w index j h =
    let x = w / 2 ^ (8 * index) in
    sym (bit_at_cat_low (x / 2 ^ 8) 8 (x % 2 ^ 8) j h) ∙ ap (λ (n : ℕ). bit_at n j) (div-add-mod' x (2 ^ 8)) ∙ bit_from w (8 * index) j

-- a byte is its bits
byte_by_bits : (x : ℕ) → x < 256 → x ≡ bit_at x 0 + 2 * bit_at x 1 + 4 * bit_at x 2 + 8 * bit_at x 3 + 16 * bit_at x 4 + 32 * bit_at x 5 + 64 * bit_at x 6 + 128 * bit_at x 7
byte_by_bits x h = omega arith

bit_is : (b : ℕ) → b < 2 → b ≡ bit_of (eqb b 1)
bit_is zero h = refl
bit_is (suc zero) h = refl
bit_is (suc (suc b)) h = absurd (omega arith)

-- the bit of the bitmap's byte that is a page's
mark_bit : (words : List ℕ) (k j : ℕ) → j < 8 → bit_at (get_or words (k / 8) 0 / 2 ^ (8 * (k % 8)) % 256) j ≡ bit_of (is_marked words (8 * k + j))
mark_bit words k j h =
    let w = get_or words (k / 8) 0 in
    let word : (8 * k + j) / 64 ≡ k / 8 = omega arith in
    let bit : (8 * k + j) % 64 ≡ 8 * (k % 8) + j = omega arith in
    byte_bit w (k % 8) j h
    ∙ bit_is (bit_at w (8 * (k % 8) + j)) (bit_at-lt w (8 * (k % 8) + j))
    ∙ ap (λ (i : ℕ). bit_of (eqb (bit_at (get_or words i 0) (8 * (k % 8) + j)) 1)) (sym word)
    ∙ ap (λ (i : ℕ). bit_of (eqb (bit_at (get_or words ((8 * k + j) / 64) 0) i) 1)) (sym bit)

pub byte_written : (words : List ℕ) (k : ℕ) → get_or words (k / 8) 0 / 2 ^ (8 * (k % 8)) % 256 ≡ bitmap_byte (is_marked words) k
byte_written words k =
    let x = get_or words (k / 8) 0 / 2 ^ (8 * (k % 8)) % 256 in
    let e0 : bit_at x 0 ≡ bit_of (is_marked words (8 * k)) = mark_bit words k 0 (omega arith) ∙ ap (λ (p : ℕ). bit_of (is_marked words p)) (add-zero (8 * k)) in
    byte_by_bits x (mod-lt _ (omega arith))
    ∙ rw (e0, mark_bit words k 1 (omega arith), mark_bit words k 2 (omega arith), mark_bit words k 3 (omega arith), mark_bit words k 4 (omega arith), mark_bit words k 5 (omega arith), mark_bit words k 6 (omega arith), mark_bit words k 7 (omega arith))

-- each byte below index is written
abbrev pub WrittenTo : List ℕ → List ℕ → ℕ → Type 0
WrittenTo words bitmap index = (k : ℕ) → k < index → get_or bitmap k 0 ≡ bitmap_byte (is_marked words) k

pub write_byte : (words bitmap : List ℕ) (index byte : ℕ) → index < length bitmap → byte ≡ get_or words (index / 8) 0 / 2 ^ (8 * (index % 8)) % 256 → WrittenTo words bitmap index → WrittenTo words (set bitmap index byte) (index + 1)
write_byte words bitmap index byte inside is before = λ k h.
    elim (cases_eq k index) [
      | inl here ↦ ap (λ (i : ℕ). get_or (set bitmap index byte) i 0) here ∙ get_or-set_same bitmap index byte 0 inside ∙ is ∙ byte_written words index ∙ ap (bitmap_byte (is_marked words)) (sym here)
      | inr other ↦ get_or-set_other bitmap index k byte 0 other ∙ before k (omega (arith, h, other))
    ]

pub written_all : (words old new : List ℕ) (index : ℕ) → length new ≡ length old → length old ≤ index → WrittenTo words new index → new ≡ bitmap_of (is_marked words) (length old)
unfolding bitmap_of
written_all words old new index same done all = fill_by_all (bitmap_byte (is_marked words)) new (length old) 0 same (λ k h. all k (omega (arith, h)))

-- ---- reading

-- a bit of a byte that was shifted to its position
shifted_bit : (byte index bit : ℕ) → byte < 256 → bit_at (byte * 2 ^ (8 * index)) bit ≡ cond (eqb (bit / 8) index) (bit_at byte (bit % 8)) 0
shifted_bit byte index bit small =
    let s = 8 * index in
    let plain : byte * 2 ^ (8 * index) ≡ byte * 2 ^ (8 * index) + 0 = sym (add-zero (byte * 2 ^ (8 * index))) in
    elim (cases_lt bit (8 * index)) [
      | inl below ↦
          let no : eqb (bit / 8) index ≡ false = ne_eqb (bit / 8) index (λ e. omega (arith, e)) in
          ap (λ (n : ℕ). bit_at n bit) plain ∙ bit_at_cat_low byte (8 * index) 0 bit below ∙ bit_at-zero bit ∙ rw no refl
      | inr above ↦
          let moved : bit_at (byte * 2 ^ (8 * index)) bit ≡ bit_at byte (bit - 8 * index) = ap (λ (n : ℕ). bit_at n bit) plain ∙ bit_at_cat_high byte (8 * index) 0 bit (one-le-pow (8 * index) 2 (omega arith)) above in
          elim (cases_eq (bit / 8) index) [
            | inl here ↦
                let place : bit - 8 * index ≡ bit % 8 = omega arith in
                let yes : eqb (bit / 8) index ≡ true = eq-eqb (bit / 8) index here in
                moved ∙ ap (bit_at byte) place ∙ rw yes refl
            | inr other ↦
                let no : eqb (bit / 8) index ≡ false = ne_eqb (bit / 8) index other in
                moved ∙ bit_at_above byte 8 (bit - 8 * index) small (omega (arith, other)) ∙ rw no refl
          ]
    ]

-- what is read of the first bytes
abbrev pub ReadTo : List ℕ → List ℕ → ℕ → Type 0
ReadTo bitmap words index = (page : ℕ) → is_marked words page ≡ (is_marked_in_bitmap bitmap page && ltb (page / 8) index)

or_false : (a b : Bool) → b ≡ false → (a || b) ≡ a
or_false true b e = refl
or_false false b e = e

and_of : (m t : Bool) → t ≡ true → (m && t) ≡ m
and_of true t e = e
and_of false t e = refl

and_off : (m t : Bool) → t ≡ false → (m && t) ≡ false
and_off true t e = e
and_off false t e = refl

pub read_byte : (bitmap words : List ℕ) (index byte mark : ℕ) → index / 8 < length words → byte ≡ get_or bitmap index 0 → byte < 256 → mark ≡ byte * 2 ^ (8 * (index % 8))
    → ReadTo bitmap words index → ReadTo bitmap (set words (index / 8) (bit_or (get_or words (index / 8) 0) mark)) (index + 1)
read_byte bitmap words index byte mark inside is small shifted before = λ page.
    let word = bit_or (get_or words (index / 8) 0) mark in
    let bit = page % 64 in
    let m = is_marked_in_bitmap bitmap page in
    elim (cases_eq (page / 64) (index / 8)) [
      | inr other ↦
          let same : is_marked (set words (index / 8) word) page ≡ is_marked words page = ap (λ (w : ℕ). eqb (bit_at w bit) 1) (get_or-set_other words (index / 8) (page / 64) word 0 other) in
          let tests : ltb (page / 8) index ≡ ltb (page / 8) (index + 1) = same_leb (suc (page / 8)) index (suc (page / 8)) (index + 1) (λ h. omega (arith, h)) (λ h. elim (cases_lt (page / 8) index) [ inl lt ↦ lt | inr le ↦ absurd (other (omega (arith, h, le))) ]) in
          same ∙ before page ∙ ap (λ (t : Bool). m && t) tests
      | inl here ↦
          let new : is_marked (set words (index / 8) word) page ≡ eqb (bit_at word bit) 1 = ap (λ (i : ℕ). eqb (bit_at (get_or (set words (index / 8) word) i 0) bit) 1) here ∙ ap (λ (w : ℕ). eqb (bit_at w bit) 1) (get_or-set_same words (index / 8) word 0 inside) in
          let was : eqb (bit_at (get_or words (index / 8) 0) bit) 1 ≡ (m && ltb (page / 8) index) = ap (λ (i : ℕ). eqb (bit_at (get_or words i 0) bit) 1) (sym here) ∙ before page in
          let bits : bit_at mark bit ≡ cond (eqb (bit / 8) (index % 8)) (bit_at byte (bit % 8)) 0 = ap (λ (n : ℕ). bit_at n bit) shifted ∙ shifted_bit byte (index % 8) bit small in
          let both : eqb (bit_at word bit) 1 ≡ ((m && ltb (page / 8) index) || eqb (bit_at mark bit) 1) =
          ap (λ (n : ℕ). eqb n 1) (bit_at_or (get_or words (index / 8) 0) mark bit)
          ∙ or_test (bit_at (get_or words (index / 8) 0) bit) (bit_at mark bit) (bit_at-lt _ bit) (bit_at-lt mark bit)
          ∙ ap (λ (t : Bool). t || eqb (bit_at mark bit) 1) was in
          elim (cases_eq (page / 8) index) [
            | inl now ↦
                let off : (m && ltb (page / 8) index) ≡ false = and_off m _ (le-ltb (page / 8) index (omega (arith, now))) in
                let on : (m && ltb (page / 8) (index + 1)) ≡ m = and_of m _ (lt-ltb (page / 8) (index + 1) (omega (arith, now))) in
                let place : eqb (bit / 8) (index % 8) ≡ true = eq-eqb (bit / 8) (index % 8) (omega (arith, now)) in
                let low : bit % 8 ≡ page % 8 = omega arith in
                let mark_is : eqb (bit_at mark bit) 1 ≡ m =
                ap (λ (n : ℕ). eqb n 1) (bits ∙ ap (λ (t : Bool). cond t (bit_at byte (bit % 8)) 0) place ∙ ap (bit_at byte) low ∙ ap (λ (n : ℕ). bit_at n (page % 8)) (is ∙ ap (λ (i : ℕ). get_or bitmap i 0) (sym now))) in
                new ∙ both ∙ ap (λ (t : Bool). t || eqb (bit_at mark bit) 1) off ∙ mark_is ∙ sym on
            | inr not_now ↦
                let place : eqb (bit / 8) (index % 8) ≡ false = ne_eqb (bit / 8) (index % 8) (λ e. not_now (omega (arith, e, here))) in
                let none : eqb (bit_at mark bit) 1 ≡ false = ap (λ (n : ℕ). eqb n 1) (bits ∙ ap (λ (t : Bool). cond t (bit_at byte (bit % 8)) 0) place) in
                let tests : ltb (page / 8) index ≡ ltb (page / 8) (index + 1) = same_leb (suc (page / 8)) index (suc (page / 8)) (index + 1) (λ h. omega (arith, h)) (λ h. elim (cases_lt (page / 8) index) [ inl lt ↦ lt | inr le ↦ absurd (not_now (omega (arith, h, le))) ]) in
                new ∙ both ∙ or_false (m && ltb (page / 8) index) (eqb (bit_at mark bit) 1) none ∙ ap (λ (t : Bool). m && t) tests
          ]
    ]

never_marked : (words : List ℕ) → words ≡ replicate (length words) 0 → (i : ℕ) → get_or words i 0 ≡ 0
never_marked words e i = elim (cases_lt i (length words)) [
  | inl lt ↦ ap (λ (ws : List ℕ). get_or ws i 0) e ∙ get_or-replicate {A = ℕ} (length words) i 0 0 lt
  | inr le ↦ get_or_past words i 0 le
]

-- words of zeros have no mark
pub none_marked : (words : List ℕ) → words ≡ replicate (length words) 0 → (page : ℕ) → is_marked words page ≡ false
none_marked words e page = ap (λ (w : ℕ). eqb (bit_at w (page % 64)) 1) (never_marked words e (page / 64)) ∙ ap (λ (n : ℕ). eqb n 1) (bit_at-zero (page % 64))

pub read_none : (bitmap words : List ℕ) → words ≡ replicate (length words) 0 → ReadTo bitmap words 0
read_none bitmap words e = λ page. none_marked words e page ∙ sym (and_off (is_marked_in_bitmap bitmap page) (ltb (page / 8) 0) (le-ltb (page / 8) 0 (omega arith)))

pub read_all : (bitmap words : List ℕ) (index : ℕ) → length bitmap ≤ index → ReadTo bitmap words index → (page : ℕ) → is_marked words page ≡ is_marked_in_bitmap bitmap page
read_all bitmap words index done all page = all page ∙ elim (cases_lt (page / 8) (length bitmap)) [
  | inl lt ↦ and_of (is_marked_in_bitmap bitmap page) _ (lt-ltb (page / 8) index (omega (arith, lt)))
  | inr le ↦
      let off : is_marked_in_bitmap bitmap page ≡ false = ap (λ (b : ℕ). eqb (bit_at b (page % 8)) 1) (get_or_past bitmap (page / 8) 0 le) ∙ ap (λ (n : ℕ). eqb n 1) (bit_at-zero (page % 8)) in
      ap (λ (t : Bool). t && ltb (page / 8) index) off ∙ sym off
]
