-- The bytes of dirty pages.
use Rattle.std.proofs.Common.{◌≡◌, ◌≢◌, ◌≤◌, ◌<◌, ℕ, zero, suc, ◌+◌, ◌-◌, ◌*◌, ◌/◌, Bool, true, false, cond, List, [], ◌∷◌, ◌++◌, length, take, drop, refl, sym, ap, ◌∙◌, inl, inr, arith, append_assoc, length-append}
use Rattle.std.specs.Prelude.{filter}
use Rattle.std.specs.List.{range_with_len, flat_map}
use Rattle.std.proofs.lemmas.Bool.{cases_Bool}
use Rattle.std.proofs.lemmas.List.{append-nil, length-take-le, length-drop, drop_at, take_at, take_all, drop-drop}
use Rattle.std.proofs.lemmas.List.Concat.{flat_map-cons}
use Rattle.std.proofs.Math.ListN.{drop_of_length-le}
use Rattle.std.proofs.Math.ListN.{length-replicate}
use Rattle.std.proofs.lemmas.List.FromFn.{length-map-range_with_len}
use Rattle.std.specs.Prelude.{codes}
use Rattle.base_block.specs.Layout.{zeros}
use Rattle.dirty_vector.specs.Marks.{marked_count}
use Rattle.dirty_vector.specs.Pages.{Pages, is_dirty, dirty_count, bitmap_byte, bitmap_of, NoneFrom, IsNextDirty, IsNthDirty}
use Rattle.dirt_log.specs.LogEncoding.{bitmap_end, pages_at, page_of, dirty_bytes, pages_from, head_bytes, bytes_behind}

pub length_page : (image : List ℕ) (page : ℕ) → 512 * (page + 1) ≤ length image → length (page_of image page) ≡ 512
length_page image page h = length-take-le 512 (drop (512 * page) image) (omega (arith, length-drop (512 * page) image))

pub step_dirty : (image : List ℕ) (v : Pages) (page n : ℕ) → is_dirty v page ≡ true → dirty_bytes image v page (suc n) ≡ page_of image page ++ dirty_bytes image v (page + 1) n
unfolding dirty_bytes
step_dirty image v page n on =
    let rest = filter (is_dirty v) (range_with_len (page + 1) n) in
    ap (λ (b : Bool). flat_map (page_of image) (cond b (page ∷ rest) rest)) on ∙ flat_map-cons (page_of image) page rest

pub step_clean : (image : List ℕ) (v : Pages) (page n : ℕ) → is_dirty v page ≡ false → dirty_bytes image v page (suc n) ≡ dirty_bytes image v (page + 1) n
unfolding dirty_bytes
step_clean image v page n off =
    let rest = filter (is_dirty v) (range_with_len (page + 1) n) in
    ap (λ (b : Bool). flat_map (page_of image) (cond b (page ∷ rest) rest)) off

none_bytes : (image : List ℕ) (v : Pages) (page : ℕ) → dirty_bytes image v page 0 ≡ []
unfolding dirty_bytes
none_bytes image v page = refl

-- clean pages add nothing
skip_clean : (image : List ℕ) (v : Pages) (d page n : ℕ) → ((p : ℕ) → page ≤ p → p < page + d → is_dirty v p ≡ false) → dirty_bytes image v page (d + n) ≡ dirty_bytes image v (page + d) n
skip_clean image v zero page n clean =
    let e : 0 + n ≡ n = omega arith in
    let f : page + 0 ≡ page = omega arith in
    ap (dirty_bytes image v page) e ∙ ap (λ (p : ℕ). dirty_bytes image v p n) (sym f)
skip_clean image v (suc d) page n clean =
    let e : suc d + n ≡ suc (d + n) = omega arith in
    let f : page + 1 + d ≡ page + suc d = omega arith in
    ap (dirty_bytes image v page) e ∙ step_clean image v page (d + n) (clean page (omega arith) (omega arith))
    ∙ skip_clean image v d (page + 1) n (λ p low high. clean p (omega (arith, low)) (omega (arith, high)))
    ∙ ap (λ (p : ℕ). dirty_bytes image v p n) f

pub pages_next : (image : List ℕ) (v : Pages) (page next : ℕ) → IsNextDirty v page next → pages_from image v page ≡ page_of image next ++ pages_from image v (next + 1)
pages_next image v page next h =
    let after : page ≤ next = h.0 in
    let inside : 512 * (next + 1) ≤ v.bins_size = h.1 in
    let e : v.bins_size / 512 - page ≡ (next - page) + suc (v.bins_size / 512 - (next + 1)) = omega arith in
    let f : page + (next - page) ≡ next = omega arith in
    ap (dirty_bytes image v page) e
    ∙ skip_clean image v (next - page) page (suc (v.bins_size / 512 - (next + 1))) (λ p low high. h.3 p low (omega (arith, high, after)))
    ∙ ap (λ (p : ℕ). dirty_bytes image v p (suc (v.bins_size / 512 - (next + 1)))) f
    ∙ step_dirty image v next (v.bins_size / 512 - (next + 1)) h.2

pub pages_none : (image : List ℕ) (v : Pages) (page : ℕ) → NoneFrom v page → pages_from image v page ≡ []
pages_none image v page none =
    let n = v.bins_size / 512 - page in
    let e : n ≡ n + 0 = omega arith in
    ap (dirty_bytes image v page) e ∙ skip_clean image v n page 0 (λ p low high. none p low) ∙ none_bytes image v (page + n)

-- the first pages and the rest
split_bytes : (image : List ℕ) (v : Pages) (a page m : ℕ) → dirty_bytes image v page (a + m) ≡ dirty_bytes image v page a ++ dirty_bytes image v (page + a) m
split_bytes image v zero page m =
    let e : 0 + m ≡ m = omega arith in
    let f : page ≡ page + 0 = omega arith in
    ap (dirty_bytes image v page) e ∙ ap (λ (p : ℕ). dirty_bytes image v p m) f ∙ ap (λ (xs : List ℕ). xs ++ dirty_bytes image v (page + 0) m) (sym (none_bytes image v page))
split_bytes image v (suc a) page m =
    let e : suc a + m ≡ suc (a + m) = omega arith in
    let f : page + 1 + a ≡ page + suc a = omega arith in
    let rest = dirty_bytes image v (page + suc a) m in
    let later : dirty_bytes image v (page + 1) (a + m) ≡ dirty_bytes image v (page + 1) a ++ rest = split_bytes image v a (page + 1) m ∙ ap (λ (p : ℕ). dirty_bytes image v (page + 1) a ++ dirty_bytes image v p m) f in
    ap (dirty_bytes image v page) e
    ∙ elim (cases_Bool (is_dirty v page)) [
      | inl on ↦
          step_dirty image v page (a + m) on ∙ ap (λ (xs : List ℕ). page_of image page ++ xs) later
          ∙ sym (append_assoc (page_of image page) (dirty_bytes image v (page + 1) a) rest)
          ∙ ap (λ (xs : List ℕ). xs ++ rest) (sym (step_dirty image v page a on))
      | inr off ↦ step_clean image v page (a + m) off ∙ later ∙ ap (λ (xs : List ℕ). xs ++ rest) (sym (step_clean image v page a off))
    ]

-- 512 bytes for each dirty page
pub length_bytes : (image : List ℕ) (v : Pages) (n : ℕ) → 512 * n ≤ length image → length (dirty_bytes image v 0 n) ≡ 512 * marked_count (is_dirty v) n
length_bytes image v zero h = ap length (none_bytes image v 0)
length_bytes image v (suc n) h =
    let e : suc n ≡ n + 1 = omega arith in
    let before = length_bytes image v n (omega (arith, h)) in
    let one : length (dirty_bytes image v n 1) ≡ 512 * cond (is_dirty v n) 1 0 = elim (cases_Bool (is_dirty v n)) [
      | inl on ↦
          ap length (step_dirty image v n 0 on ∙ ap (λ (xs : List ℕ). page_of image n ++ xs) (none_bytes image v (n + 1)) ∙ append-nil (page_of image n)) ∙ length_page image n (omega (arith, h))
          ∙ ap (λ (b : Bool). 512 * cond b 1 0) (sym on)
      | inr off ↦ ap length (step_clean image v n 0 off ∙ none_bytes image v (n + 1)) ∙ ap (λ (b : Bool). 512 * cond b 1 0) (sym off)
    ] in
    let whole : length (dirty_bytes image v 0 (suc n)) ≡ length (dirty_bytes image v 0 n) + length (dirty_bytes image v n 1) =
    ap (λ (k : ℕ). length (dirty_bytes image v 0 k)) e ∙ ap length (split_bytes image v n 0 1 ∙ ap (λ (p : ℕ). dirty_bytes image v 0 n ++ dirty_bytes image v p 1) (zero_plus n)) ∙ length-append (dirty_bytes image v 0 n) (dirty_bytes image v n 1) in
    omega (arith, whole, before, one)
  where
    zero_plus : (n : ℕ) → 0 + n ≡ n
    zero_plus n = omega arith

-- the log's pages from the one with k dirty pages before it
pub pages_nth : (image : List ℕ) (v : Pages) (k page : ℕ) → length image ≡ v.bins_size → IsNthDirty v k page → drop (512 * k) (pages_from image v 0) ≡ pages_from image v page
pages_nth image v k page sizes h =
    let inside : 512 * (page + 1) ≤ v.bins_size = h.1 in
    let e : v.bins_size / 512 - 0 ≡ page + (v.bins_size / 512 - page) = omega arith in
    let f : 0 + page ≡ page = omega arith in
    let front : length (dirty_bytes image v 0 page) ≡ 512 * k = length_bytes image v page (omega (arith, inside, sizes)) ∙ ap (λ (n : ℕ). 512 * n) h.2 in
    ap (drop (512 * k)) (ap (dirty_bytes image v 0) e ∙ split_bytes image v page 0 (v.bins_size / 512 - page) ∙ ap (λ (p : ℕ). dirty_bytes image v 0 page ++ dirty_bytes image v p (v.bins_size / 512 - page)) f)
    ∙ drop_at (dirty_bytes image v 0 page) (pages_from image v page) (512 * k) front

pub length_pages : (image : List ℕ) (v : Pages) → length image ≡ v.bins_size → length (pages_from image v 0) ≡ 512 * dirty_count v
length_pages image v sizes =
    let e : v.bins_size / 512 - 0 ≡ v.bins_size / 512 = omega arith in
    ap (λ (n : ℕ). length (dirty_bytes image v 0 n)) e ∙ length_bytes image v (v.bins_size / 512) (omega (arith, sizes))

pub pages_few : (image : List ℕ) (v : Pages) (k : ℕ) → length image ≡ v.bins_size → dirty_count v ≤ k → drop (512 * k) (pages_from image v 0) ≡ []
pages_few image v k sizes few = drop_of_length-le (pages_from image v 0) (omega (arith, length_pages image v sizes, few))

count_le : (f : ℕ → Bool) (n : ℕ) → marked_count f n ≤ n
count_le f zero = omega arith
count_le f (suc n) = elim (cases_Bool (f n)) [
  | inl on ↦ let e : marked_count f (suc n) ≡ marked_count f n + 1 = ap (λ (b : Bool). marked_count f n + cond b 1 0) on in omega (arith, e, count_le f n)
  | inr off ↦ let e : marked_count f (suc n) ≡ marked_count f n + 0 = ap (λ (b : Bool). marked_count f n + cond b 1 0) off in omega (arith, e, count_le f n)
]

-- the dirty pages are bins data
pub few_dirty : (v : Pages) → 512 * dirty_count v ≤ v.bins_size
few_dirty v = omega (arith, count_le (is_dirty v) (v.bins_size / 512))

-- ---- the whole encoding

length-zeros : (n : ℕ) → length (zeros n) ≡ n
unfolding zeros
length-zeros n = length-replicate {A = ℕ} n 0

pub length-bitmap : (mark : ℕ → Bool) (n : ℕ) → length (bitmap_of mark n) ≡ n
unfolding bitmap_of
length-bitmap mark n = length-map-range_with_len (bitmap_byte mark) 0 n

pub length_head : (v : Pages) (sector : List ℕ) → length sector ≡ 512 → length (head_bytes v sector) ≡ pages_at v.bins_size
unfolding head_bytes
length_head v sector whole =
    let size = v.bins_size in
    let bitmap = bitmap_of (is_dirty v) (size / 4096) in
    let gap = zeros (pages_at size - bitmap_end size) in
    omega (arith, length-append (sector ++ codes "DIRT" ++ bitmap) gap, length-append (sector ++ codes "DIRT") bitmap, length-append sector (codes "DIRT"), whole, length-zeros (pages_at size - bitmap_end size), length-bitmap (is_dirty v) (size / 4096))

pub length_log : (image : List ℕ) (v : Pages) (sector : List ℕ) → length image ≡ v.bins_size → length sector ≡ 512 → length (bytes_behind image v sector) ≡ pages_at v.bins_size + 512 * dirty_count v
unfolding bytes_behind
length_log image v sector sizes whole =
    omega (arith, length-append (head_bytes v sector) (pages_from image v 0), length_head v sector whole, length_pages image v sizes)

-- ---- chunks

-- all is laid
pub all_laid : (buffer rest whole : List ℕ) (end : ℕ) → end ≤ 65536 → length buffer ≡ 65536 → rest ≡ [] → take end buffer ++ rest ≡ whole → take end buffer ≡ take 65536 whole
all_laid buffer rest whole end inside room none bytes =
    let same : take end buffer ≡ whole = sym (append-nil (take end buffer)) ∙ ap (λ (xs : List ℕ). take end buffer ++ xs) (sym none) ∙ bytes in
    let short : length whole ≤ 65536 = omega (arith, sym (ap length same), length-take-le end buffer (omega (arith, inside, room))) in
    same ∙ sym (take_all 65536 whole short)

-- the chunk is full
pub full_laid : (buffer rest whole : List ℕ) (end : ℕ) → end ≡ 65536 → length buffer ≡ 65536 → take end buffer ++ rest ≡ whole → take end buffer ≡ take 65536 whole
full_laid buffer rest whole end full room bytes =
    let len : length (take end buffer) ≡ 65536 = length-take-le end buffer (omega (arith, full, room)) ∙ full in
    sym (take_at (take end buffer) rest 65536 len) ∙ ap (take 65536) bytes

-- one page more
pub part_laid : (buffer new image part rest whole : List ℕ) (end next : ℕ) → part ≡ page_of image next → length part ≡ 512
    → take (end + length part) new ≡ take end buffer ++ part
    → take end buffer ++ (page_of image next ++ rest) ≡ whole → take (end + 512) new ++ rest ≡ whole
part_laid buffer new image part rest whole end next is long put bytes =
    let laid : take (end + 512) new ≡ take end buffer ++ page_of image next = ap (λ (n : ℕ). take (end + n) new) (sym long) ∙ put ∙ ap (λ (xs : List ℕ). take end buffer ++ xs) is in
    ap (λ (xs : List ℕ). xs ++ rest) laid ∙ append_assoc (take end buffer) (page_of image next) rest ∙ bytes

-- the head, part by part
pub head_laid : (v : Pages) (sector letters b0 b1 b2 b3 b4 : List ℕ) (size pages : ℕ) → length sector ≡ 512 → letters ≡ codes "DIRT" → size ≡ v.bins_size → pages ≡ pages_at size
    → take (0 + length sector) b1 ≡ take 0 b0 ++ sector
    → take (512 + length letters) b2 ≡ take 512 b1 ++ letters
    → take (bitmap_end v.bins_size) b3 ≡ take 516 b2 ++ bitmap_of (is_dirty v) (v.bins_size / 4096)
    → take pages b4 ≡ take (516 + size / 4096) b3 ++ zeros (pages - (516 + size / 4096))
    → take (pages_at v.bins_size) b4 ≡ head_bytes v sector
unfolding head_bytes
head_laid v sector letters b0 b1 b2 b3 b4 size pages whole are is at e1 e2 e3 e4 =
    let bitmap = bitmap_of (is_dirty v) (v.bins_size / 4096) in
    let first : take 512 b1 ≡ sector = ap (λ (n : ℕ). take n b1) (sym whole ∙ sym (zero_more (length sector))) ∙ e1 in
    let four : 512 + length letters ≡ 516 = ap (λ (xs : List ℕ). 512 + length xs) are in
    let second : take 516 b2 ≡ sector ++ codes "DIRT" = ap (λ (n : ℕ). take n b2) (sym four) ∙ e2 ∙ ap (λ (xs : List ℕ). xs ++ letters) first ∙ ap (λ (xs : List ℕ). sector ++ xs) are in
    let third : take (bitmap_end v.bins_size) b3 ≡ sector ++ codes "DIRT" ++ bitmap = e3 ∙ ap (λ (xs : List ℕ). xs ++ bitmap) second in
    let here : pages_at v.bins_size ≡ pages = ap pages_at (sym is) ∙ sym at in
    ap (λ (n : ℕ). take n b4) here ∙ e4
    ∙ ap (λ (n : ℕ). take (516 + n / 4096) b3 ++ zeros (pages - (516 + n / 4096))) is
    ∙ ap (λ (n : ℕ). take (bitmap_end v.bins_size) b3 ++ zeros (n - bitmap_end v.bins_size)) (sym here)
    ∙ ap (λ (xs : List ℕ). xs ++ zeros (pages_at v.bins_size - bitmap_end v.bins_size)) third
  where
    zero_more : (n : ℕ) → 0 + n ≡ n
    zero_more n = omega arith

-- ---- chunks of the encoding

-- a later chunk begins among the pages
pub later_chunk : (image : List ℕ) (v : Pages) (sector : List ℕ) (start k : ℕ) → length sector ≡ 512 → pages_at v.bins_size ≤ start → 512 * k ≡ start - pages_at v.bins_size
    → drop start (bytes_behind image v sector) ≡ drop (512 * k) (pages_from image v 0)
unfolding bytes_behind
later_chunk image v sector start k whole past skip =
    let e : start ≡ pages_at v.bins_size + 512 * k = omega (arith, past, skip) in
    ap (λ (n : ℕ). drop n (head_bytes v sector ++ pages_from image v 0)) e
    ∙ sym (drop-drop (512 * k) (pages_at v.bins_size) (head_bytes v sector ++ pages_from image v 0))
    ∙ ap (drop (512 * k)) (drop_at (head_bytes v sector) (pages_from image v 0) (pages_at v.bins_size) (length_head v sector whole))

-- how many bytes a chunk has
pub chunk_count : (buffer whole : List ℕ) (result : ℕ) → length buffer ≡ 65536 → result ≤ 65536 → take result buffer ≡ take 65536 whole → result ≡ length (take 65536 whole)
chunk_count buffer whole result room within bytes = sym (length-take-le result buffer (omega (arith, room, within))) ∙ ap length bytes

pub first_chunk : (image : List ℕ) (v : Pages) (sector encoding buffer new : List ℕ) (index head result : ℕ) → bytes_behind image v sector ≡ encoding → index ≡ 0 → head ≡ pages_at v.bins_size
    → take (pages_at v.bins_size) buffer ≡ head_bytes v sector → take result new ≡ take 65536 (take head buffer ++ pages_from image v 0) → take result new ≡ take 65536 (drop (65536 * index) encoding)
unfolding bytes_behind
first_chunk image v sector encoding buffer new index head result is zeroth at laid bytes =
    let e : 65536 * index ≡ 0 = omega (arith, zeroth) in
    bytes
    ∙ ap (λ (n : ℕ). take 65536 (take n buffer ++ pages_from image v 0)) at
    ∙ ap (λ (xs : List ℕ). take 65536 (xs ++ pages_from image v 0)) laid
    ∙ ap (take 65536) is
    ∙ ap (λ (n : ℕ). take 65536 (drop n encoding)) (sym e)

-- the offset of a chunk among the pages is the offset of whole pages
pub skipped_pages : (size index head skipped : ℕ) → size ≤ 67108864 → index ≢ 0 → head ≡ pages_at size → skipped ≡ (65536 * index - head) / 512 → (pages_at size ≤ 65536 * index) × (512 * skipped ≡ 65536 * index - pages_at size)
skipped_pages size index head skipped small later at is = (omega (arith, small, later), omega (arith, small, later, at, is))

pub some_chunk : (image : List ℕ) (v : Pages) (sector encoding new : List ℕ) (start k page result : ℕ) → bytes_behind image v sector ≡ encoding → length image ≡ v.bins_size → length sector ≡ 512
    → (pages_at v.bins_size ≤ start) × (512 * k ≡ start - pages_at v.bins_size) → IsNthDirty v k page → take result new ≡ take 65536 (pages_from image v page) → take result new ≡ take 65536 (drop start encoding)
some_chunk image v sector encoding new start k page result is sizes whole place nth bytes =
    bytes
    ∙ ap (take 65536) (sym (pages_nth image v k page sizes nth) ∙ sym (later_chunk image v sector start k whole place.0 place.1))
    ∙ ap (λ (xs : List ℕ). take 65536 (drop start xs)) is

pub no_chunk : (image : List ℕ) (v : Pages) (sector encoding : List ℕ) (start k : ℕ) → bytes_behind image v sector ≡ encoding → length image ≡ v.bins_size → length sector ≡ 512
    → (pages_at v.bins_size ≤ start) × (512 * k ≡ start - pages_at v.bins_size) → dirty_count v ≤ k → [] ≡ take 65536 (drop start encoding)
no_chunk image v sector encoding start k is sizes whole place few =
    ap (take 65536) (sym (pages_few image v k sizes few) ∙ sym (later_chunk image v sector start k whole place.0 place.1))
    ∙ ap (λ (xs : List ℕ). take 65536 (drop start xs)) is
