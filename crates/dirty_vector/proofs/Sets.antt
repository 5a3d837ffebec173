-- The set of the marked pages.
use Rattle.std.proofs.Common.{◌≡◌, ◌≢◌, ◌≤◌, ◌<◌, ℕ, zero, suc, ◌+◌, ◌-◌, ◌*◌, ◌/◌, ◌%◌, Bool, true, false, ◌&&◌, ◌||◌, eqb, leb, ltb, cond, List, [], ◌∷◌, length, get_or, map, refl, sym, ap, ◌∙◌, inl, inr, arith, ◌⊎◌, ◌↔◌, IsTrue, Result, Ok, Err}
use Rattle.std.specs.Ordering.{nat_cmp, eq_by_cmp}
use Rattle.std.specs.Cmp.{nat_cmp_total}
use Rattle.std.specs.FinSet as set
use Rattle.std.specs.Int.{bit_at}
use Rattle.std.specs.List.{range_with_len}
use Rattle.std.proofs.lemmas.Bool.{false≢true, eqb-true, cases_lt, cases_eq, cases_Bool, lt-ltb, le-ltb, leb-true, le-leb, eq-eqb, ne_eqb, and_parts, and_from, or_cases, or_left, or_right}
use Rattle.std.proofs.lemmas.Bool.Decides.{nat_tests}
use Rattle.std.proofs.Math.Nat.{add-zero}
use Rattle.std.proofs.lemmas.List.FromFn.{fill_by_all, length-map-range_with_len, get_or-map-range_with_len}
use Rattle.dirty_vector.specs.Marks.{is_marked, is_marked_in_bitmap, marked_count, marked_below, IsNthMark}
use Rattle.refusals.specs.declared.limits.TheConstants.{MOST_BINS_BYTES}
use Rattle.dirty_vector.specs.Pages.{Pages, is_dirty, dirty_count, is_bins_size, Touches, clean_pages, fresh_pages, read_pages, bit_of, bitmap_byte, bitmap_of, NoneFrom, IsNextDirty, IsNthDirty, IsFirstRun}
use Rattle.dirty_vector.specs.MarkWords.{pages_of, AreMarkWords, IsBlank}
use Rattle.std.specs.Prelude.{Option, Some, None, MatchOption, replicate}
use Rattle.dirty_vector.proofs.Bytes.{none_marked}
use Rattle.dirty_vector.proofs.Words.{same_count}
use Rattle.refusals.specs.declared.refusal.Refusal.{Refusal}
use Rattle.refusals.specs.declared.refusal.Refusal.TheVariants.{TooLarge}

abbrev pages : ℕ → set.FinSet nat_cmp → Pages
pages size dirty = record { bins_size = size; dirty = dirty }

-- a size of bins data is of whole pages
size_pages : (size : ℕ) → is_bins_size size ≡ true → size % 512 ≡ 0
size_pages size good =
    let e : size % 4096 ≡ 0 = eqb-true _ _ (and_parts _ _ (and_parts _ _ good).0).0 in
    omega (arith, e)

ties : (q k : ℕ) → eq_by_cmp nat_cmp q k ≡ eqb q k
ties q k = grind (arith, nat_tests)

never : (a b : Bool) → b ≡ false → (a && b) ≡ false
never true b e = e
never false b e = refl

narrow : (n q : ℕ) → q ≢ n → ltb q n ≡ ltb q (suc n)
narrow n q other = elim (cases_lt q n) [
  | inl lt ↦ lt-ltb q n lt ∙ sym (lt-ltb q (suc n) (omega (arith, lt)))
  | inr le ↦ le-ltb q n le ∙ sym (le-ltb q (suc n) (omega (arith, le, other)))
]

with_it : (mark : ℕ → Bool) (n q : ℕ) → mark n ≡ true → (eqb q n || (ltb q n && mark q)) ≡ (ltb q (suc n) && mark q)
with_it mark n q on = elim (cases_eq q n) [
  | inl same ↦
      let e : eqb q n ≡ true = eq-eqb q n same in
      let l : ltb q (suc n) ≡ true = lt-ltb q (suc n) (omega (arith, same)) in
      ap (λ (b : Bool). b || (ltb q n && mark q)) e ∙ sym (ap (λ (b : Bool). b && mark q) l ∙ ap mark same ∙ on)
  | inr other ↦
      let e : eqb q n ≡ false = ne_eqb q n other in
      ap (λ (b : Bool). b || (ltb q n && mark q)) e ∙ ap (λ (b : Bool). b && mark q) (narrow n q other)
]

without_it : (mark : ℕ → Bool) (n q : ℕ) → mark n ≡ false → (ltb q n && mark q) ≡ (ltb q (suc n) && mark q)
without_it mark n q off = elim (cases_eq q n) [
  | inl same ↦ never (ltb q n) (mark q) (ap mark same ∙ off) ∙ sym (never (ltb q (suc n)) (mark q) (ap mark same ∙ off))
  | inr other ↦ ap (λ (b : Bool). b && mark q) (narrow n q other)
]

-- a page is among the marked ones below n exactly when it is marked and below n
pub contains_below : (mark : ℕ → Bool) (n q : ℕ) → set.contains (marked_below mark n) q ≡ (ltb q n && mark q)
unfolding marked_below
contains_below mark zero q =
    let off : ltb q 0 ≡ false = le-ltb q 0 (omega arith) in
    set.contains-empty nat_cmp q ∙ ap (λ (t : Bool). t && mark q) (sym off)
contains_below mark (suc n) q =
    elim (cases_Bool (mark n)) [
      | inl on ↦
          ap (λ (b : Bool). set.contains (cond b (set.insert (marked_below mark n) n) (marked_below mark n)) q) on
          ∙ set.contains-insert nat_cmp_total (marked_below mark n) n q
          ∙ ap (λ (b : Bool). b || set.contains (marked_below mark n) q) (ties q n)
          ∙ ap (λ (b : Bool). eqb q n || b) (contains_below mark n q)
          ∙ with_it mark n q on
      | inr off ↦
          ap (λ (b : Bool). set.contains (cond b (set.insert (marked_below mark n) n) (marked_below mark n)) q) off
          ∙ contains_below mark n q
          ∙ without_it mark n q off
    ]

-- the set has as many pages as are marked
pub len_below : (mark : ℕ → Bool) (n : ℕ) → set.len (marked_below mark n) ≡ marked_count mark n
unfolding marked_below
len_below mark zero = set.len-empty nat_cmp
len_below mark (suc n) =
    elim (cases_Bool (mark n)) [
      | inl on ↦
          let out : set.contains (marked_below mark n) n ≡ false = contains_below mark n n ∙ ap (λ (b : Bool). b && mark n) (le-ltb n n (omega arith)) in
          ap (λ (b : Bool). set.len (cond b (set.insert (marked_below mark n) n) (marked_below mark n))) on
          ∙ set.len-insert nat_cmp_total (marked_below mark n) n
          ∙ ap (λ (b : Bool). cond b (set.len (marked_below mark n)) (set.len (marked_below mark n) + 1)) out
          ∙ ap (λ (k : ℕ). k + 1) (len_below mark n)
          ∙ ap (λ (b : Bool). marked_count mark n + cond b 1 0) (sym on)
      | inr off ↦
          ap (λ (b : Bool). set.len (cond b (set.insert (marked_below mark n) n) (marked_below mark n))) off
          ∙ len_below mark n
          ∙ sym (ap (λ (b : Bool). marked_count mark n + cond b 1 0) off ∙ add-zero (marked_count mark n))
    ]

-- sets of the same marks are equal
pub same_below : (f g : ℕ → Bool) (n : ℕ) → ((p : ℕ) → f p ≡ g p) → marked_below f n ≡ marked_below g n
same_below f g n same = set.same_set nat_cmp_total set.nat_cmp-IsAntisymmetric (marked_below f n) (marked_below g n)
    (λ q. contains_below f n q ∙ ap (λ (b : Bool). ltb q n && b) (same q) ∙ sym (contains_below g n q))

-- if nothing is marked, the set is empty
pub none_below : (mark : ℕ → Bool) (n : ℕ) → ((p : ℕ) → mark p ≡ false) → marked_below mark n ≡ set.empty
none_below mark n none = set.same_set nat_cmp_total set.nat_cmp-IsAntisymmetric (marked_below mark n) set.empty
    (λ q. contains_below mark n q ∙ never (ltb q n) (mark q) (none q) ∙ sym (set.contains-empty nat_cmp q))

-- no mark past n: the marks below m are as many as those below n
pub count_past : (mark : ℕ → Bool) (n m : ℕ) → n ≤ m → ((p : ℕ) → n ≤ p → mark p ≡ false) → marked_count mark m ≡ marked_count mark n
count_past mark n zero le none = let e : 0 ≡ n = omega (arith, le) in ap (marked_count mark) e
count_past mark n (suc m) le none = elim (cases_eq n (suc m)) [
  | inl same ↦ ap (marked_count mark) (sym same)
  | inr other ↦ ap (λ (b : Bool). marked_count mark m + cond b 1 0) (none m (omega (arith, le, other))) ∙ add-zero (marked_count mark m) ∙ count_past mark n m (omega (arith, le, other)) none
]

-- in words that keep a set, a page is dirty exactly when it is marked
pub dirty_is_marked : (size : ℕ) (words : List ℕ) → AreMarkWords size words → (page : ℕ) → is_dirty (pages_of size words) page ≡ is_marked words page
dirty_is_marked size words kept page = contains_below (is_marked words) (size / 512) page ∙ elim (cases_lt page (size / 512)) [
  | inl lt ↦ ap (λ (b : Bool). b && is_marked words page) (lt-ltb page (size / 512) lt)
  | inr le ↦ ap (λ (b : Bool). b && is_marked words page) (le-ltb page (size / 512) le) ∙ sym (kept.inside page le)
]

pub count_kept : (size : ℕ) (words : List ℕ) → AreMarkWords size words → marked_count (is_marked words) (64 * length words) ≡ set.len (marked_below (is_marked words) (size / 512))
count_kept size words kept = count_past (is_marked words) (size / 512) (64 * length words) (omega (arith, kept.room)) kept.inside ∙ sym (len_below (is_marked words) (size / 512))

-- ---- a range of bytes

pub touched : (start end page : ℕ) → Touches start end page → (start / 512 ≤ page) × (page ≤ (end - 1) / 512)
touched start end page t = (omega (arith, t.1, t.3), omega (arith, t.2, t.3))

pub touches : (start end page : ℕ) → start < end → start / 512 ≤ page → page ≤ (end - 1) / 512 → Touches start end page
touches start end page some low high = elim (cases_lt (512 * page) start) [
  | inl inside ↦ (start, omega arith, some, omega (arith, low, inside))
  | inr before ↦ (512 * page, before, omega (arith, high, some), omega arith)
]

-- ---- bitmaps

same_bytes : (f g : ℕ → Bool) (k : ℕ) → ((p : ℕ) → f p ≡ g p) → bitmap_byte f k ≡ bitmap_byte g k
same_bytes f g k same =
    rw (same (8 * k), same (8 * k + 1), same (8 * k + 2), same (8 * k + 3), same (8 * k + 4), same (8 * k + 5), same (8 * k + 6), same (8 * k + 7))

-- bitmaps of the same marks are equal
pub same_bitmap : (f g : ℕ → Bool) (n : ℕ) → ((p : ℕ) → f p ≡ g p) → bitmap_of f n ≡ bitmap_of g n
unfolding bitmap_of
same_bitmap f g n same = fill_by_all (bitmap_byte g) (map (bitmap_byte f) (range_with_len 0 n)) n 0 (length-map-range_with_len (bitmap_byte f) 0 n)
    (λ k h. get_or-map-range_with_len (bitmap_byte f) 0 n k k 0 h (omega arith) ∙ same_bytes f g k same)

-- ---- making, reading and marking

abbrev done : Pages → Result Pages Refusal
done v = Ok v

abbrev failed : Refusal → Result Pages Refusal
failed refusal = Err refusal

pub made_fresh : (size : ℕ) (words : List ℕ) → IsBlank size words → done (pages_of size words) ≡ fresh_pages size
made_fresh size words blank =
    ap (λ (d : set.FinSet nat_cmp). done (pages size d)) (none_below (is_marked words) (size / 512) (none_marked words blank.zeros))
    ∙ sym (ap (λ (b : Bool). cond b (done (pages size set.empty)) (failed TooLarge)) blank.good)

pub made_read : (size : ℕ) (words new bitmap : List ℕ) → IsBlank size words → ((page : ℕ) → is_marked new page ≡ is_marked_in_bitmap bitmap page) → done (pages_of size new) ≡ read_pages size bitmap
made_read size words new bitmap blank same =
    ap (λ (d : set.FinSet nat_cmp). done (pages size d)) (same_below (is_marked new) (is_marked_in_bitmap bitmap) (size / 512) same)
    ∙ sym (ap (λ (b : Bool). cond b (done (pages size (marked_below (is_marked_in_bitmap bitmap) (size / 512)))) (failed TooLarge)) blank.good)

-- words without a mark are the words of clean bins data
pub made_clean : (size : ℕ) (old words : List ℕ) (v : Pages) → pages_of size old ≡ v → words ≡ replicate (length words) 0 → pages_of size words ≡ clean_pages v.bins_size
made_clean size old words v is zeros = ap (λ (d : set.FinSet nat_cmp). pages size d) (none_below (is_marked words) (size / 512) (none_marked words zeros)) ∙ ap (λ (u : Pages). clean_pages u.bins_size) is

-- the same words are the words of larger bins data
pub kept_larger : (size larger : ℕ) (words : List ℕ) → AreMarkWords size words → is_bins_size larger ≡ true → size ≤ larger → AreMarkWords larger words
kept_larger size larger words kept good more =
    let most : larger ≤ MOST_BINS_BYTES = leb-true larger MOST_BINS_BYTES (and_parts (eqb (larger % 4096) 0 && leb 4096 larger) (leb larger MOST_BINS_BYTES) good).1 in
    record { good = good; room = omega (arith, kept.long); long = kept.long; inside = λ page past. kept.inside page (omega arith) }

pub same_in_larger : (size larger : ℕ) (words : List ℕ) (v : Pages) → AreMarkWords size words → pages_of size words ≡ v → is_bins_size larger ≡ true → v.bins_size ≤ larger → (page : ℕ) → is_dirty (pages_of larger words) page ≡ is_dirty v page
same_in_larger size larger words v kept is good more page =
    let size_is : v.bins_size ≡ size = ap (λ (u : Pages). u.bins_size) (sym is) in
    dirty_is_marked larger words (kept_larger size larger words kept good (omega (arith, size_is))) page ∙ sym (dirty_is_marked size words kept page) ∙ ap (λ (u : Pages). is_dirty u page) is

-- what marking the pages of a range leaves
pub marked_range : (size : ℕ) (old new : List ℕ) (start end : ℕ) → AreMarkWords size old → start < end → end ≤ size
    → ((page : ℕ) → is_marked new page ≡ (is_marked old page || (leb (start / 512) page && leb page ((end - 1) / 512))))
    → (page : ℕ) → IsTrue (is_dirty (pages_of size new) page) ↔ (IsTrue (is_dirty (pages_of size old) page) ⊎ Touches start end page)
marked_range size old new start end kept some inside all page =
    let range = leb (start / 512) page && leb page ((end - 1) / 512) in
    let new_is : is_dirty (pages_of size new) page ≡ (ltb page (size / 512) && (is_marked old page || range)) = contains_below (is_marked new) (size / 512) page ∙ ap (λ (b : Bool). ltb page (size / 512) && b) (all page) in
    let old_is = dirty_is_marked size old kept page in (
      (λ t.
          let parts = and_parts _ _ (sym new_is ∙ t) in
          elim (or_cases (is_marked old page) range parts.1) [
            | inl before ↦ inl (old_is ∙ before)
            | inr now ↦ let p = and_parts _ _ now in inr (touches start end page some (leb-true _ _ p.0) (leb-true _ _ p.1))
          ]),
      (λ t. new_is ∙ (elim t [
        | inl before ↦ and_from _ _ (elim (cases_lt page (size / 512)) [ inl lt ↦ lt-ltb _ _ lt | inr le ↦ absurd (false≢true (sym (kept.inside page le) ∙ sym old_is ∙ before)) ]) (or_left _ range (sym old_is ∙ before))
        | inr now ↦
            let p = touched start end page now in
            let whole = size_pages size kept.good in
            and_from _ _ (lt-ltb page (size / 512) (omega (arith, p.1, some, inside, whole))) (or_right (is_marked old page) _ (and_from _ _ (le-leb _ _ p.0) (le-leb _ _ p.1)))
      ])),
    )

-- ---- runs

as_marked : (size : ℕ) (words : List ℕ) (v : Pages) → AreMarkWords size words → pages_of size words ≡ v → (page : ℕ) → is_dirty v page ≡ is_marked words page
as_marked size words v kept is page = ap (λ (u : Pages). is_dirty u page) (sym is) ∙ dirty_is_marked size words kept page

pub none_past : (size : ℕ) (words : List ℕ) (v : Pages) (from : ℕ) → AreMarkWords size words → pages_of size words ≡ v → size / 512 ≤ from → NoneFrom v from
none_past size words v from kept is past page h = as_marked size words v kept is page ∙ kept.inside page (omega (arith, past, h))

pub none_more : (size : ℕ) (words : List ℕ) (v : Pages) (from : ℕ) → AreMarkWords size words → pages_of size words ≡ v
    → ((page : ℕ) → from ≤ page → page < size / 512 → is_marked words page ≡ false) → NoneFrom v from
none_more size words v from kept is clean page h = as_marked size words v kept is page ∙ elim (cases_lt page (size / 512)) [
  | inl lt ↦ clean page h lt
  | inr le ↦ kept.inside page le
]

pub first_run : (size : ℕ) (words : List ℕ) (v : Pages) (from start end : ℕ) → AreMarkWords size words → pages_of size words ≡ v
    → from ≤ start → start < size / 512 → ((page : ℕ) → from ≤ page → page < start → is_marked words page ≡ false) → is_marked words start ≡ true
    → start ≤ end → end ≤ size / 512 → ((page : ℕ) → start ≤ page → page < end → is_marked words page ≡ true) → (end < size / 512 → is_marked words end ≡ false)
    → IsFirstRun v from start end
first_run size words v from start end kept is after inside clean on later within dirty off =
    let size_is : v.bins_size ≡ size = ap (λ (u : Pages). u.bins_size) (sym is) in
    let stop : is_marked words end ≡ false = elim (cases_lt end (size / 512)) [ inl lt ↦ off lt | inr le ↦ kept.inside end le ] in
    record {
      after = after;
      some = elim (cases_lt start end) [
        | inl lt ↦ lt
        | inr le ↦ let e : start ≡ end = omega (arith, le, later) in absurd (false≢true (sym stop ∙ ap (is_marked words) (sym e) ∙ on))
      ];
      within = omega (arith, within, size_is);
      before = λ page low high. as_marked size words v kept is page ∙ clean page low high;
      dirty = λ page low high. as_marked size words v kept is page ∙ dirty page low high;
      ended = as_marked size words v kept is end ∙ stop;
    }

pub next_kept : (size : ℕ) (words : List ℕ) (v : Pages) (from next : ℕ) → AreMarkWords size words → pages_of size words ≡ v
    → from ≤ next → next < size / 512 → ((page : ℕ) → from ≤ page → page < next → is_marked words page ≡ false) → is_marked words next ≡ true → IsNextDirty v from next
next_kept size words v from next kept is after inside clean on = (
  after,
  omega (arith, inside, ap (λ (u : Pages). u.bins_size) (sym is)),
  as_marked size words v kept is next ∙ on,
  (λ page low high. as_marked size words v kept is page ∙ clean page low high),
)

-- the marked pages are the dirty ones
pub dirty_counted : (size : ℕ) (words : List ℕ) (v : Pages) → AreMarkWords size words → pages_of size words ≡ v → marked_count (is_marked words) (64 * length words) ≡ dirty_count v
dirty_counted size words v kept is =
    count_past (is_marked words) (size / 512) (64 * length words) (omega (arith, kept.room)) kept.inside
    ∙ same_count (is_marked words) (is_dirty v) (size / 512) (λ p h. sym (as_marked size words v kept is p))
    ∙ ap (λ (u : Pages). marked_count (is_dirty v) (u.bins_size / 512)) is

pub nth_kept : (size : ℕ) (words : List ℕ) (v : Pages) (n : ℕ) (result : Option ℕ) → AreMarkWords size words → pages_of size words ≡ v
    → MatchOption result (marked_count (is_marked words) (64 * length words) ≤ n) (IsNthMark words n) → MatchOption result (dirty_count v ≤ n) (IsNthDirty v n)
nth_kept size words v n None kept is few = omega (arith, dirty_counted size words v kept is, few)
nth_kept size words v n (Some page) kept is nth =
    let inside : page < size / 512 = elim (cases_lt page (size / 512)) [ inl lt ↦ lt | inr le ↦ absurd (false≢true (sym (kept.inside page le) ∙ nth.0)) ] in (
      as_marked size words v kept is page ∙ nth.0,
      omega (arith, inside, ap (λ (u : Pages). u.bins_size) (sym is)),
      same_count (is_dirty v) (is_marked words) page (λ p h. as_marked size words v kept is p) ∙ nth.2,
    )

-- ---- the bitmap is read again

bit_small : (b : Bool) → bit_of b < 2
bit_small true = omega arith
bit_small false = omega arith

bit_test : (b : Bool) → eqb (bit_of b) 1 ≡ b
bit_test true = refl
bit_test false = refl

-- a bit of a number that is given by its bits
bit_of_eight : (a b c d e f g h j : ℕ) → a < 2 → b < 2 → c < 2 → d < 2 → e < 2 → f < 2 → g < 2 → h < 2 → j < 8
    → bit_at (a + 2 * b + 4 * c + 8 * d + 16 * e + 32 * f + 64 * g + 128 * h) j ≡ get_or (a ∷ b ∷ c ∷ d ∷ e ∷ f ∷ g ∷ h ∷ []) j 0
bit_of_eight a b c d e f g h zero ha hb hc hd he hf hg hh hj = omega arith
bit_of_eight a b c d e f g h (suc zero) ha hb hc hd he hf hg hh hj = omega arith
bit_of_eight a b c d e f g h (suc (suc zero)) ha hb hc hd he hf hg hh hj = omega arith
bit_of_eight a b c d e f g h (suc (suc (suc zero))) ha hb hc hd he hf hg hh hj = omega arith
bit_of_eight a b c d e f g h (suc (suc (suc (suc zero)))) ha hb hc hd he hf hg hh hj = omega arith
bit_of_eight a b c d e f g h (suc (suc (suc (suc (suc zero))))) ha hb hc hd he hf hg hh hj = omega arith
bit_of_eight a b c d e f g h (suc (suc (suc (suc (suc (suc zero)))))) ha hb hc hd he hf hg hh hj = omega arith
bit_of_eight a b c d e f g h (suc (suc (suc (suc (suc (suc (suc zero))))))) ha hb hc hd he hf hg hh hj = omega arith
bit_of_eight a b c d e f g h (suc (suc (suc (suc (suc (suc (suc (suc j)))))))) ha hb hc hd he hf hg hh hj = absurd (omega arith)

-- the marks of the pages of a byte, by their indexes
marks_of_byte : (mark : ℕ → Bool) (k j : ℕ) → j < 8
    → get_or (bit_of (mark (8 * k)) ∷ bit_of (mark (8 * k + 1)) ∷ bit_of (mark (8 * k + 2)) ∷ bit_of (mark (8 * k + 3)) ∷ bit_of (mark (8 * k + 4)) ∷ bit_of (mark (8 * k + 5)) ∷ bit_of (mark (8 * k + 6)) ∷ bit_of (mark (8 * k + 7)) ∷ []) j 0 ≡ bit_of (mark (8 * k + j))
marks_of_byte mark k zero h = let e : 8 * k ≡ 8 * k + 0 = omega arith in ap (λ (p : ℕ). bit_of (mark p)) e
marks_of_byte mark k (suc zero) h = refl
marks_of_byte mark k (suc (suc zero)) h = refl
marks_of_byte mark k (suc (suc (suc zero))) h = refl
marks_of_byte mark k (suc (suc (suc (suc zero)))) h = refl
marks_of_byte mark k (suc (suc (suc (suc (suc zero))))) h = refl
marks_of_byte mark k (suc (suc (suc (suc (suc (suc zero)))))) h = refl
marks_of_byte mark k (suc (suc (suc (suc (suc (suc (suc zero))))))) h = refl
marks_of_byte mark k (suc (suc (suc (suc (suc (suc (suc (suc j)))))))) h = absurd (omega arith)

-- the bitmap marks what it was made of
marked_again : (mark : ℕ → Bool) (n page : ℕ) → page < 8 * n → is_marked_in_bitmap (bitmap_of mark n) page ≡ mark page
unfolding bitmap_of
marked_again mark n page inside =
    let k = page / 8 in
    let j = page % 8 in
    let whole : 8 * k + j ≡ page = omega arith in
    ap (λ (b : ℕ). eqb (bit_at b j) 1) (get_or-map-range_with_len (bitmap_byte mark) 0 n k k 0 (omega (arith, inside)) (omega arith))
    ∙ ap (λ (b : ℕ). eqb b 1) (bit_of_eight (bit_of (mark (8 * k))) (bit_of (mark (8 * k + 1))) (bit_of (mark (8 * k + 2))) (bit_of (mark (8 * k + 3))) (bit_of (mark (8 * k + 4))) (bit_of (mark (8 * k + 5))) (bit_of (mark (8 * k + 6))) (bit_of (mark (8 * k + 7))) j
    (bit_small (mark (8 * k))) (bit_small (mark (8 * k + 1))) (bit_small (mark (8 * k + 2))) (bit_small (mark (8 * k + 3))) (bit_small (mark (8 * k + 4))) (bit_small (mark (8 * k + 5))) (bit_small (mark (8 * k + 6))) (bit_small (mark (8 * k + 7))) (omega arith)
    ∙ marks_of_byte mark k j (omega arith))
    ∙ bit_test (mark (8 * k + j)) ∙ ap mark whole

pub bitmap_again : (size : ℕ) (words : List ℕ) (v : Pages) → AreMarkWords size words → pages_of size words ≡ v → read_pages v.bins_size (bitmap_of (is_dirty v) (v.bins_size / 4096)) ≡ done v
bitmap_again size words v kept is =
    let size_is : v.bins_size ≡ size = ap (λ (u : Pages). u.bins_size) (sym is) in
    let good : is_bins_size v.bins_size ≡ true = ap is_bins_size size_is ∙ kept.good in
    let bits : v.bins_size % 4096 ≡ 0 = eqb-true _ _ (and_parts _ _ (and_parts _ _ good).0).0 in
    let bitmap = bitmap_of (is_dirty v) (v.bins_size / 4096) in
    let same : marked_below (is_marked_in_bitmap bitmap) (v.bins_size / 512) ≡ v.dirty =
    set.same_set nat_cmp_total set.nat_cmp-IsAntisymmetric (marked_below (is_marked_in_bitmap bitmap) (v.bins_size / 512)) v.dirty
    (λ q. contains_below (is_marked_in_bitmap bitmap) (v.bins_size / 512) q ∙ elim (cases_lt q (v.bins_size / 512)) [
      | inl lt ↦ ap (λ (b : Bool). b && is_marked_in_bitmap bitmap q) (lt-ltb q (v.bins_size / 512) lt) ∙ marked_again (is_dirty v) (v.bins_size / 4096) q (omega (arith, lt, bits))
      | inr le ↦ ap (λ (b : Bool). b && is_marked_in_bitmap bitmap q) (le-ltb q (v.bins_size / 512) le) ∙ sym (as_marked size words v kept is q ∙ kept.inside q (omega (arith, le, size_is)))
    ]) in
    ap (λ (b : Bool). cond b (done (pages v.bins_size (marked_below (is_marked_in_bitmap bitmap) (v.bins_size / 512)))) (failed TooLarge)) good
    ∙ ap (λ (d : set.FinSet nat_cmp). done (pages v.bins_size d)) same
