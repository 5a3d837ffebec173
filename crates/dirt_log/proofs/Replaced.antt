-- Pages that are replaced one after the other.
use Rattle.std.proofs.Common.{◌≡◌, ◌≤◌, ◌<◌, ℕ, zero, suc, ◌+◌, ◌-◌, ◌*◌, ◌/◌, ◌%◌, Bool, true, false, cond, eqb, ltb, List, ◌++◌, length, take, drop, get_or, map, refl, sym, ap, ◌∙◌, inl, inr, arith}
use Rattle.std.specs.List.{range_with_len}
use Rattle.std.proofs.lemmas.Bool.{cases_lt, cases_eq, cases_Bool, lt-ltb, le-ltb, eq-eqb, ne_eqb}
use Rattle.std.proofs.lemmas.List.FromFn.{fill_by_all, length-map-range_with_len, get_or-map-range_with_len}
use Rattle.std.proofs.lemmas.List.{length-take, length-take-le, get_or-take, get_or-drop, get_or-append_right}
use Rattle.std.proofs.Math.ListN.{get_or-append}
use borrow.Rule.Slice.PartMut.{put_mid}
use Rattle.dirty_vector.specs.Marks.{marked_count}
use Rattle.dirty_vector.specs.Pages.{Pages, is_dirty, dirty_count, NoneFrom, IsNextDirty}
use Rattle.dirt_log.specs.LogEncoding.{page_of, pages_from}
use Rattle.dirt_log.proofs.PageBytes.{length_page, pages_nth, pages_next}
use Rattle.dirt_log.specs.WholeLog.{IsCovered, repaired_byte, repaired}

-- the bytes of the pages before one are repaired, the others are as they were
abbrev pub ReplacedTo : List ℕ → Pages → List ℕ → List ℕ → ℕ → Type 0
ReplacedTo old v pages new page = (i : ℕ) → get_or new i 0 ≡ cond (ltb (i / 512) page) (repaired_byte old v pages i) (get_or old i 0)

count_more : (mark : ℕ → Bool) (d n : ℕ) → marked_count mark n ≤ marked_count mark (n + d)
count_more mark zero n = let e : n + 0 ≡ n = omega arith in rw e (omega arith)
count_more mark (suc d) n = let e : n + suc d ≡ suc (n + d) = omega arith in rw e (omega (arith, count_more mark d n))

pub count_rises : (mark : ℕ → Bool) (n m : ℕ) → n ≤ m → marked_count mark n ≤ marked_count mark m
count_rises mark n m h = let e : n + (m - n) ≡ m = omega arith in omega (arith, count_more mark (m - n) n, ap (marked_count mark) e)

count_same : (mark : ℕ → Bool) (d n : ℕ) → ((p : ℕ) → n ≤ p → p < n + d → mark p ≡ false) → marked_count mark (n + d) ≡ marked_count mark n
count_same mark zero n clean = let e : n + 0 ≡ n = omega arith in ap (marked_count mark) e
count_same mark (suc d) n clean =
    let e : n + suc d ≡ suc (n + d) = omega arith in
    let one : marked_count mark (suc (n + d)) ≡ marked_count mark (n + d) + 0 = ap (λ (b : Bool). marked_count mark (n + d) + cond b 1 0) (clean (n + d) (omega arith) (omega arith)) in
    ap (marked_count mark) e ∙ omega (arith, one, count_same mark d n (λ p low high. clean p low (omega (arith, high))))

-- up to the next dirty page no mark is added, and then one
pub count_next : (v : Pages) (page next : ℕ) → IsNextDirty v page next → (marked_count (is_dirty v) next ≡ marked_count (is_dirty v) page) × (marked_count (is_dirty v) (next + 1) ≡ marked_count (is_dirty v) page + 1) × (marked_count (is_dirty v) page + 1 ≤ dirty_count v)
count_next v page next h =
    let e : page + (next - page) ≡ next = omega (arith, h.0) in
    let same : marked_count (is_dirty v) next ≡ marked_count (is_dirty v) page = ap (marked_count (is_dirty v)) (sym e) ∙ count_same (is_dirty v) (next - page) page (λ p low high. h.3 p low (omega (arith, high, e))) in
    let f : next + 1 ≡ suc next = omega arith in
    let one : marked_count (is_dirty v) (next + 1) ≡ marked_count (is_dirty v) next + 1 = ap (marked_count (is_dirty v)) f ∙ ap (λ (b : Bool). marked_count (is_dirty v) next + cond b 1 0) h.2 in
    (same, omega (arith, one, same), omega (arith, one, same, count_rises (is_dirty v) (next + 1) (v.bins_size / 512) (omega (arith, h.1))))

pub replaced_none : (old : List ℕ) (v : Pages) (pages : List ℕ) → ReplacedTo old v pages old 0
replaced_none old v pages = λ i. ap (λ (b : Bool). cond b (repaired_byte old v pages i) (get_or old i 0)) (sym (le-ltb (i / 512) 0 (omega arith)))

clean_byte : (old : List ℕ) (v : Pages) (pages : List ℕ) (i : ℕ) → is_dirty v (i / 512) ≡ false → repaired_byte old v pages i ≡ get_or old i 0
clean_byte old v pages i off = ap (λ (b : Bool). cond b (get_or pages (512 * marked_count (is_dirty v) (i / 512) + i % 512) 0) (get_or old i 0)) off

dirty_byte : (old : List ℕ) (v : Pages) (pages : List ℕ) (i : ℕ) → is_dirty v (i / 512) ≡ true → repaired_byte old v pages i ≡ get_or pages (512 * marked_count (is_dirty v) (i / 512) + i % 512) 0
dirty_byte old v pages i on = ap (λ (b : Bool). cond b (get_or pages (512 * marked_count (is_dirty v) (i / 512) + i % 512) 0) (get_or old i 0)) on

pub replaced_more : (old : List ℕ) (v : Pages) (pages image new part : List ℕ) (page next index : ℕ) → IsNextDirty v page next → index ≡ marked_count (is_dirty v) page
    → part ≡ page_of pages index
    → ((i : ℕ) → get_or new i 0 ≡ cond (eqb (i / 512) next) (get_or part (i % 512) 0) (get_or image i 0))
    → ReplacedTo old v pages image page → ReplacedTo old v pages new (next + 1)
replaced_more old v pages image new part page next index h is parts put before = λ i.
    elim (cases_eq (i / 512) next) [
      | inl here ↦
          let dirty : is_dirty v (i / 512) ≡ true = ap (is_dirty v) here ∙ h.2 in
          let count : marked_count (is_dirty v) (i / 512) ≡ marked_count (is_dirty v) page = ap (marked_count (is_dirty v)) here ∙ (count_next v page next h).0 in
          let place : 512 * index + i % 512 ≡ 512 * marked_count (is_dirty v) (i / 512) + i % 512 = omega (arith, is, count) in
          put i
          ∙ ap (λ (b : Bool). cond b (get_or part (i % 512) 0) (get_or image i 0)) (eq-eqb (i / 512) next here)
          ∙ ap (λ (xs : List ℕ). get_or xs (i % 512) 0) parts ∙ get_or-take 512 (drop (512 * index) pages) (i % 512) 0 (omega arith) ∙ get_or-drop (512 * index) pages (i % 512) 0
          ∙ ap (λ (n : ℕ). get_or pages n 0) place
          ∙ sym (dirty_byte old v pages i dirty)
          ∙ ap (λ (b : Bool). cond b (repaired_byte old v pages i) (get_or old i 0)) (sym (lt-ltb (i / 512) (next + 1) (omega (arith, here))))
      | inr other ↦
          let same : get_or new i 0 ≡ cond (ltb (i / 512) page) (repaired_byte old v pages i) (get_or old i 0) = put i ∙ ap (λ (b : Bool). cond b (get_or part (i % 512) 0) (get_or image i 0)) (ne_eqb (i / 512) next other) ∙ before i in
          elim (cases_lt (i / 512) page) [
            | inl early ↦ same ∙ ap (λ (b : Bool). cond b (repaired_byte old v pages i) (get_or old i 0)) (lt-ltb (i / 512) page early ∙ sym (lt-ltb (i / 512) (next + 1) (omega (arith, early, h.0))))
            | inr late ↦
                elim (cases_lt (i / 512) next) [
                  | inl between ↦
                      same ∙ ap (λ (b : Bool). cond b (repaired_byte old v pages i) (get_or old i 0)) (le-ltb (i / 512) page late)
                      ∙ sym (clean_byte old v pages i (h.3 (i / 512) late between))
                      ∙ ap (λ (b : Bool). cond b (repaired_byte old v pages i) (get_or old i 0)) (sym (lt-ltb (i / 512) (next + 1) (omega (arith, between))))
                  | inr after ↦ same ∙ ap (λ (b : Bool). cond b (repaired_byte old v pages i) (get_or old i 0)) (le-ltb (i / 512) page late ∙ sym (le-ltb (i / 512) (next + 1) (omega (arith, after, other))))
                ]
          ]
    ]

pub replaced_all : (old : List ℕ) (v : Pages) (pages new : List ℕ) (page : ℕ) → length new ≡ v.bins_size → NoneFrom v page → ReplacedTo old v pages new page → new ≡ repaired old v pages
unfolding repaired
replaced_all old v pages new page size none all = fill_by_all (repaired_byte old v pages) new v.bins_size 0 size (λ i h. all i ∙ elim (cases_lt (i / 512) page) [
  | inl early ↦ ap (λ (b : Bool). cond b (repaired_byte old v pages i) (get_or old i 0)) (lt-ltb (i / 512) page early)
  | inr late ↦ ap (λ (b : Bool). cond b (repaired_byte old v pages i) (get_or old i 0)) (le-ltb (i / 512) page late) ∙ sym (clean_byte old v pages i (none (i / 512) late))
])

-- what repairs depends only on the bytes of clean pages
pub repaired_same : (old other : List ℕ) (v : Pages) (pages : List ℕ) → ((i : ℕ) → i < v.bins_size → is_dirty v (i / 512) ≡ false → get_or old i 0 ≡ get_or other i 0) → repaired old v pages ≡ repaired other v pages
unfolding repaired
repaired_same old other v pages same = fill_by_all (repaired_byte other v pages) (map (repaired_byte old v pages) (range_with_len 0 v.bins_size)) v.bins_size 0 (length-map-range_with_len (repaired_byte old v pages) 0 v.bins_size)
    (λ i h. get_or-map-range_with_len (repaired_byte old v pages) 0 v.bins_size i i 0 h (omega arith) ∙ elim (cases_Bool (is_dirty v (i / 512))) [
      | inl on ↦ dirty_byte old v pages i on ∙ sym (dirty_byte other v pages i on)
      | inr off ↦ clean_byte old v pages i off ∙ same i h off ∙ sym (clean_byte other v pages i off)
    ])

-- and on the bytes of dirty pages
pub repaired_by : (old : List ℕ) (v : Pages) (pages other : List ℕ)
    → ((i : ℕ) → i < v.bins_size → is_dirty v (i / 512) ≡ true → get_or pages (512 * marked_count (is_dirty v) (i / 512) + i % 512) 0 ≡ get_or other (512 * marked_count (is_dirty v) (i / 512) + i % 512) 0)
    → repaired old v pages ≡ repaired old v other
unfolding repaired
repaired_by old v pages other same = fill_by_all (repaired_byte old v other) (map (repaired_byte old v pages) (range_with_len 0 v.bins_size)) v.bins_size 0 (length-map-range_with_len (repaired_byte old v pages) 0 v.bins_size)
    (λ i h. get_or-map-range_with_len (repaired_byte old v pages) 0 v.bins_size i i 0 h (omega arith) ∙ elim (cases_Bool (is_dirty v (i / 512))) [
      | inl on ↦ dirty_byte old v pages i on ∙ same i h on ∙ sym (dirty_byte old v other i on)
      | inr off ↦ clean_byte old v pages i off ∙ sym (clean_byte old v other i off)
    ])

-- a dirty page is among those that are counted
pub dirty_counts : (v : Pages) (page : ℕ) → is_dirty v page ≡ true → 512 * (page + 1) ≤ v.bins_size → marked_count (is_dirty v) page + 1 ≤ dirty_count v
dirty_counts v page on within =
    let here : IsNextDirty v page page = (omega arith, within, on, (λ p low high. absurd (omega (arith, low, high)))) in
    (count_next v page page here).2

-- ---- a page of an image

pub put_page_byte : (image new : List ℕ) (page i : ℕ) → length new ≡ 512 → 512 * (page + 1) ≤ length image
    → get_or (put_mid (512 * page) (512 * (page + 1) - 512 * page) image new) i 0 ≡ cond (eqb (i / 512) page) (get_or new (i % 512) 0) (get_or image i 0)
put_page_byte image new page i whole inside =
    let a = 512 * page in
    let k = 512 * (page + 1) - 512 * page in
    let front = take a image in
    let rest = drop k (drop a image) in
    let front_len : length front ≡ a = length-take-le a image (omega (arith, inside)) in
    let k_is : k ≡ 512 = omega arith in
    elim (cases_lt i a) [
      | inl before ↦
          let other : eqb (i / 512) page ≡ false = ne_eqb (i / 512) page (λ e. omega (arith, e, before)) in
          get_or-append front (new ++ rest) 0 i (omega (arith, before, front_len)) ∙ get_or-take a image i 0 before
          ∙ ap (λ (b : Bool). cond b (get_or new (i % 512) 0) (get_or image i 0)) (sym other)
      | inr after ↦
          get_or-append_right front (new ++ rest) a i 0 front_len after
          ∙ elim (cases_lt (i - a) 512) [
            | inl inside_page ↦
                let here : eqb (i / 512) page ≡ true = eq-eqb (i / 512) page (omega (arith, after, inside_page)) in
                let place : i - a ≡ i % 512 = omega (arith, after, inside_page) in
                get_or-append new rest 0 (i - a) (omega (arith, whole, inside_page)) ∙ ap (λ (n : ℕ). get_or new n 0) place
                ∙ ap (λ (b : Bool). cond b (get_or new (i % 512) 0) (get_or image i 0)) (sym here)
            | inr behind ↦
                let other : eqb (i / 512) page ≡ false = ne_eqb (i / 512) page (λ e. omega (arith, e, behind, after)) in
                let place : a + (k + (i - a - 512)) ≡ i = omega (arith, behind, after) in
                get_or-append_right new rest 512 (i - a) 0 whole behind
                ∙ get_or-drop k (drop a image) (i - a - 512) 0 ∙ get_or-drop a image (k + (i - a - 512)) 0
                ∙ ap (λ (n : ℕ). get_or image n 0) place
                ∙ ap (λ (b : Bool). cond b (get_or new (i % 512) 0) (get_or image i 0)) (sym other)
          ]
    ]

-- ---- cutting or lengthening

pub resized_same : (old new : List ℕ) (v : Pages) (pages : List ℕ) (filler : List ℕ) → new ≡ take v.bins_size old ++ filler → v.bins_size % 512 ≡ 0 → IsCovered (length old) v → repaired new v pages ≡ repaired old v pages
resized_same old new v pages filler is whole covered =
    repaired_same new old v pages (λ i inside off.
    let there : 512 * (i / 512 + 1) ≤ length old = covered (i / 512) (omega (arith, inside, whole)) off in
    ap (λ (xs : List ℕ). get_or xs i 0) is
    ∙ get_or-append (take v.bins_size old) filler 0 i (omega (arith, length-take v.bins_size old, inside, there))
    ∙ get_or-take v.bins_size old i 0 inside)

-- ---- the log of an image repairs to the image

logged_byte : (image : List ℕ) (v : Pages) (i : ℕ) → length image ≡ v.bins_size → v.bins_size % 512 ≡ 0 → i < v.bins_size → is_dirty v (i / 512) ≡ true
    → get_or (pages_from image v 0) (512 * marked_count (is_dirty v) (i / 512) + i % 512) 0 ≡ get_or image i 0
logged_byte image v i sizes whole inside on =
    let page = i / 512 in
    let j = i % 512 in
    let k = marked_count (is_dirty v) page in
    let within : 512 * (page + 1) ≤ v.bins_size = omega (arith, inside, whole) in
    let there : 512 * (page + 1) ≤ length image = omega (arith, within, sizes) in
    let here : IsNextDirty v page page = (omega arith, within, on, (λ p low high. absurd (omega (arith, low, high)))) in
    let place : 512 * page + j ≡ i = omega arith in
    let long = length_page image page there in
    sym (get_or-drop (512 * k) (pages_from image v 0) j 0)
    ∙ ap (λ (xs : List ℕ). get_or xs j 0) (pages_nth image v k page sizes (on, within, refl) ∙ pages_next image v page page here)
    ∙ get_or-append (page_of image page) (pages_from image v (page + 1)) 0 j (omega (arith, long))
    ∙ get_or-take 512 (drop (512 * page) image) j 0 (omega arith)
    ∙ get_or-drop (512 * page) image j 0
    ∙ ap (λ (n : ℕ). get_or image n 0) place

pub repairs : (image primary : List ℕ) (v : Pages) → length image ≡ v.bins_size → v.bins_size % 512 ≡ 0
    → ((i : ℕ) → i < v.bins_size → is_dirty v (i / 512) ≡ false → get_or primary i 0 ≡ get_or image i 0) → repaired primary v (pages_from image v 0) ≡ image
unfolding repaired
repairs image primary v sizes whole same =
    let pages = pages_from image v 0 in
    sym (fill_by_all (repaired_byte primary v pages) image v.bins_size 0 sizes (λ i inside. elim (cases_Bool (is_dirty v (i / 512))) [
      | inl on ↦ sym (logged_byte image v i sizes whole inside on) ∙ sym (dirty_byte primary v pages i on)
      | inr off ↦ sym (same i inside off) ∙ sym (clean_byte primary v pages i off)
    ]))
