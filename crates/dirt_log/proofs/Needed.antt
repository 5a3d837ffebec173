-- What depends on the front of a log and of a primary file alone.
use Rattle.std.proofs.Common.{◌≡◌, ◌≢◌, ◌≤◌, ℕ, ◌+◌, ◌*◌, ◌/◌, ◌%◌, cond, Bool, List, length, take, drop, sym, ap, subst, ◌∙◌, inl, inr, arith, ◌↔◌}
use Rattle.std.proofs.lemmas.Bool.{cases_eq, eq-eqb, ne_eqb}
use Rattle.std.proofs.lemmas.List.{length-take, get_or-take, take-take, drop-take}
use Rattle.base_block.specs.declared.block.BaseBlock.{BaseBlock}
use Rattle.base_block.specs.Layout.{block_at}
use Rattle.base_block.specs.Judgements.{IsLog}
use Rattle.dirty_vector.specs.Marks.{is_marked_in_bitmap, marked_below, marked_count}
use Rattle.dirty_vector.specs.Pages.{Pages, is_dirty, dirty_count}
use Rattle.dirt_log.specs.LogEncoding.{bitmap_end, pages_at}
use Rattle.dirt_log.specs.WholeLog.{LogIsWhole, HasBitmap, HasPages, IsCovered, block_of, bitmap_in, pages_in, page_bytes_in, log_end, repaired}
use Rattle.dirt_log.proofs.Replaced.{repaired_same, repaired_by, dirty_counts}

-- a part of what is in front
part_same : (n from count : ℕ) (xs : List ℕ) → from + count ≤ n → take count (drop from (take n xs)) ≡ take count (drop from xs)
part_same n from count xs within =
    sym (drop-take from count (take n xs)) ∙ ap (drop from) (take-take (from + count) n xs within) ∙ drop-take from count xs

-- whether a number of bytes are there
long_same : (n k : ℕ) (xs : List ℕ) → k ≤ n → (k ≤ length (take n xs)) ↔ (k ≤ length xs)
long_same n k xs within = ((λ h. omega (arith, length-take n xs)), (λ h. omega (arith, length-take n xs)))

pub block_same : (log : List ℕ) (n : ℕ) → 512 ≤ n → block_of (take n log) ≡ block_of log
block_same log n h = ap block_at (take-take 512 n log h)

abbrev marked_by : ℕ → List ℕ → Pages
marked_by size bitmap = record { bins_size = size; dirty = marked_below (is_marked_in_bitmap bitmap) (size / 512) }

pub marked_same : (log : List ℕ) (n : ℕ) → bitmap_end (block_of log).bins_size ≤ n → pages_in (take n log) ≡ pages_in log
marked_same log n h =
    let size = (block_of log).bins_size in
    let sizes : (block_of (take n log)).bins_size ≡ size = ap (λ (b : BaseBlock). b.bins_size) (block_same log n (omega (arith, h))) in
    ap (λ (k : ℕ). marked_by k (bitmap_in (take n log) k)) sizes ∙ ap (marked_by size) (part_same n 516 (size / 4096) log h)

pub bitmap_same : (log : List ℕ) (size n : ℕ) → bitmap_end size ≤ n → HasBitmap (take n log) size ↔ HasBitmap log size
bitmap_same log size n h =
    let letters : take 4 (drop 512 (take n log)) ≡ take 4 (drop 512 log) = part_same n 512 4 log (omega (arith, h)) in
    let there = long_same n (bitmap_end size) log h in
    ((λ b. (sym letters ∙ b.0, there.0 b.1)), (λ b. (letters ∙ b.0, there.1 b.1)))

-- the end of a log is after its bitmap, and after its pages if it marks any
end_of : (log : List ℕ) (n : ℕ) → log_end log ≤ n → (bitmap_end (block_of log).bins_size ≤ n) × (512 * dirty_count (pages_in log) ≢ 0 → pages_at (block_of log).bins_size + 512 * dirty_count (pages_in log) ≤ n)
end_of log n h =
    let size = (block_of log).bins_size in
    let count = dirty_count (pages_in log) in
    elim (cases_eq count 0) [
      | inl none ↦
          let e : log_end log ≡ bitmap_end size = ap (λ (b : Bool). cond b (bitmap_end size) (pages_at size + 512 * count)) (eq-eqb count 0 none) in
          (omega (arith, e, h), (λ some. absurd (some (omega (arith, none)))))
      | inr some ↦
          let e : log_end log ≡ pages_at size + 512 * count = ap (λ (b : Bool). cond b (bitmap_end size) (pages_at size + 512 * count)) (ne_eqb count 0 some) in
          (omega (arith, e, h), (λ any. omega (arith, e, h)))
    ]

same_pages : (log : List ℕ) (n start len : ℕ) → (len ≢ 0 → start + len ≤ n) → HasPages (take n log) start len ↔ HasPages log start len
same_pages log n start len within = (
  (λ has some. (long_same n (start + len) log (within some)).0 (has some)),
  (λ has some. (long_same n (start + len) log (within some)).1 (has some)),
)

pub whole_same : (log : List ℕ) (n : ℕ) → log_end log ≤ n → LogIsWhole (take n log) ↔ LogIsWhole log
whole_same log n h =
    let ends = end_of log n h in
    let size = (block_of log).bins_size in
    let len = 512 * dirty_count (pages_in log) in
    let block : block_of (take n log) ≡ block_of log = block_same log n (omega (arith, ends.0)) in
    let sizes : (block_of (take n log)).bins_size ≡ size = ap (λ (b : BaseBlock). b.bins_size) block in
    let marked : pages_in (take n log) ≡ pages_in log = marked_same log n ends.0 in
    let lens : 512 * dirty_count (pages_in (take n log)) ≡ len = ap (λ (v : Pages). 512 * dirty_count v) marked in
    let bitmap = bitmap_same log size n ends.0 in
    let pages = same_pages log n (pages_at size) len ends.1 in (
      (λ whole. record {
        block = subst (λ (b : BaseBlock). IsLog b) block whole.block;
        bitmap = bitmap.0 (subst (λ (k : ℕ). HasBitmap (take n log) k) sizes whole.bitmap);
        pages = pages.0 (subst (λ (k : ℕ). HasPages (take n log) (pages_at k) len) sizes (subst (λ (k : ℕ). HasPages (take n log) (pages_at (block_of (take n log)).bins_size) k) lens whole.pages));
      }),
      (λ whole. record {
        block = subst (λ (b : BaseBlock). IsLog b) (sym block) whole.block;
        bitmap = subst (λ (k : ℕ). HasBitmap (take n log) k) (sym sizes) (bitmap.1 whole.bitmap);
        pages = subst (λ (k : ℕ). HasPages (take n log) (pages_at (block_of (take n log)).bins_size) k) (sym lens) (subst (λ (k : ℕ). HasPages (take n log) (pages_at k) len) (sym sizes) (pages.1 whole.pages));
      }),
    )

pub bytes_same : (log : List ℕ) (n : ℕ) → log_end log ≤ n → page_bytes_in (take n log) ≡ page_bytes_in log
bytes_same log n h =
    let ends = end_of log n h in
    let size = (block_of log).bins_size in
    let len = 512 * dirty_count (pages_in log) in
    let sizes : (block_of (take n log)).bins_size ≡ size = ap (λ (b : BaseBlock). b.bins_size) (block_same log n (omega (arith, ends.0))) in
    let lens : 512 * dirty_count (pages_in (take n log)) ≡ len = ap (λ (v : Pages). 512 * dirty_count v) (marked_same log n ends.0) in
    ap (λ (k : ℕ). take k (drop (pages_at (block_of (take n log)).bins_size) (take n log))) lens
    ∙ ap (λ (k : ℕ). take len (drop (pages_at k) (take n log))) sizes
    ∙ elim (cases_eq len 0) [
      | inl none ↦ ap (λ (k : ℕ). take k (drop (pages_at size) (take n log))) none ∙ sym (ap (λ (k : ℕ). take k (drop (pages_at size) log)) none)
      | inr some ↦ part_same n (pages_at size) len log (ends.1 some)
    ]

-- ---- repairing

pub covered_same : (primary : List ℕ) (v : Pages) (n : ℕ) → v.bins_size ≤ n → IsCovered (length (take n primary)) v ↔ IsCovered (length primary) v
covered_same primary v n h = (
  (λ covered page inside off. (long_same n (512 * (page + 1)) primary (omega (arith, inside, h))).0 (covered page inside off)),
  (λ covered page inside off. (long_same n (512 * (page + 1)) primary (omega (arith, inside, h))).1 (covered page inside off)),
)

pub primary_same : (primary pages : List ℕ) (v : Pages) (n : ℕ) → v.bins_size ≤ n → repaired (take n primary) v pages ≡ repaired primary v pages
primary_same primary pages v n h = repaired_same (take n primary) primary v pages (λ i inside off. get_or-take n primary i 0 (omega (arith, inside, h)))

pub logged_same : (primary pages : List ℕ) (v : Pages) (n : ℕ) → v.bins_size % 512 ≡ 0 → 512 * dirty_count v ≤ n → repaired primary v (take n pages) ≡ repaired primary v pages
logged_same primary pages v n whole h = repaired_by primary v (take n pages) pages (λ i inside on.
    let counts : marked_count (is_dirty v) (i / 512) + 1 ≤ dirty_count v = dirty_counts v (i / 512) on (omega (arith, inside, whole)) in
    get_or-take n pages (512 * marked_count (is_dirty v) (i / 512) + i % 512) 0 (omega (arith, counts, h)))
