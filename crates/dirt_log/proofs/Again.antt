-- A log that was written is read again.
use Rattle.std.proofs.Common.{◌≡◌, ℕ, ◌-◌, ◌*◌, ◌/◌, Bool, List, ◌++◌, length, take, drop, refl, sym, ap, subst, ◌∙◌, inl, arith, append_assoc, length-append}
use Rattle.std.specs.Prelude.{codes}
use Rattle.std.proofs.lemmas.Bool.{eq-eqb}
use Rattle.std.proofs.lemmas.List.{take_at, drop_at, take_all}
use Rattle.base_block.specs.declared.block.BaseBlock.{BaseBlock}
use Rattle.base_block.specs.Layout.{block_at, zeros}
use Rattle.base_block.specs.Judgements.{IsLog}
use Rattle.dirty_vector.specs.Marks.{is_marked_in_bitmap, marked_below}
use Rattle.dirty_vector.specs.Pages.{Pages, is_dirty, dirty_count, is_bins_size, bitmap_of, read_pages}
use Rattle.dirt_log.specs.LogEncoding.{bitmap_end, pages_at, pages_from, head_bytes, bytes_behind}
use Rattle.dirt_log.specs.WholeLog.{IsLoggable, LogDecodesTo, block_as_read, block_of, bitmap_in, pages_in}
use Rattle.dirt_log.proofs.PageBytes.{length-bitmap, length_head, length_log, length_pages}
use Rattle.dirt_log.proofs.Whole.{done, read_good, good_size, same_pages}

-- what follows the letters
behind : List ℕ → Pages → List ℕ
behind image v = bitmap_of (is_dirty v) (v.bins_size / 4096) ++ (zeros (pages_at v.bins_size - bitmap_end v.bins_size) ++ pages_from image v 0)

parts : (image : List ℕ) (v : Pages) (sector : List ℕ) → bytes_behind image v sector ≡ sector ++ (codes "DIRT" ++ behind image v)
unfolding bytes_behind head_bytes behind
parts image v sector =
    let bitmap = bitmap_of (is_dirty v) (v.bins_size / 4096) in
    let gap = zeros (pages_at v.bins_size - bitmap_end v.bins_size) in
    let pages = pages_from image v 0 in
    append_assoc (sector ++ codes "DIRT" ++ bitmap) gap pages
    ∙ append_assoc (sector ++ codes "DIRT") bitmap (gap ++ pages)
    ∙ append_assoc sector (codes "DIRT") (bitmap ++ (gap ++ pages))

sector_again : (image : List ℕ) (v : Pages) (sector : List ℕ) → length sector ≡ 512 → take 512 (bytes_behind image v sector) ≡ sector
sector_again image v sector long = ap (take 512) (parts image v sector) ∙ take_at sector (codes "DIRT" ++ behind image v) 512 long

letters_again : (image : List ℕ) (v : Pages) (sector : List ℕ) → length sector ≡ 512 → take 4 (drop 512 (bytes_behind image v sector)) ≡ codes "DIRT"
letters_again image v sector long = ap (λ (xs : List ℕ). take 4 (drop 512 xs)) (parts image v sector) ∙ ap (take 4) (drop_at sector (codes "DIRT" ++ behind image v) 512 long) ∙ take_at (codes "DIRT") (behind image v) 4 refl

bitmap_again : (image : List ℕ) (v : Pages) (sector : List ℕ) → length sector ≡ 512 → bitmap_in (bytes_behind image v sector) v.bins_size ≡ bitmap_of (is_dirty v) (v.bins_size / 4096)
unfolding behind
bitmap_again image v sector long =
    let bitmap = bitmap_of (is_dirty v) (v.bins_size / 4096) in
    let rest = zeros (pages_at v.bins_size - bitmap_end v.bins_size) ++ pages_from image v 0 in
    let front : length (sector ++ codes "DIRT") ≡ 516 = omega (arith, length-append sector (codes "DIRT"), long) in
    ap (λ (xs : List ℕ). take (v.bins_size / 4096) (drop 516 xs)) (parts image v sector ∙ sym (append_assoc sector (codes "DIRT") (bitmap ++ rest)))
    ∙ ap (take (v.bins_size / 4096)) (drop_at (sector ++ codes "DIRT") (bitmap ++ rest) 516 front)
    ∙ take_at bitmap rest (v.bins_size / 4096) (length-bitmap (is_dirty v) (v.bins_size / 4096))

-- a block of a log of its own
log_of : (b : BaseBlock) (v : Pages) → IsLoggable b v → IsLog (block_as_read b)
log_of b v h = (
  record { signature = h.usable.signature; bins_size = h.usable.bins_size; within = h.usable.within },
  eq-eqb b.primary.0 b.secondary.0 h.equal,
  h.version,
  inl refl,
)

abbrev pages_of : ℕ → List ℕ → Pages
pages_of size bitmap = record { bins_size = size; dirty = marked_below (is_marked_in_bitmap bitmap) (size / 512) }

abbrev is_size : ℕ → Bool
is_size n = is_bins_size n

tail : (image : List ℕ) (v : Pages) (sector : List ℕ) → length sector ≡ 512 → drop (pages_at v.bins_size) (bytes_behind image v sector) ≡ pages_from image v 0
unfolding bytes_behind
tail image v sector long = drop_at (head_bytes v sector) (pages_from image v 0) (pages_at v.bins_size) (length_head v sector long)

pub reads_as : (image : List ℕ) (v : Pages) (b : BaseBlock) (sector : List ℕ) → length image ≡ v.bins_size → length sector ≡ 512
    → block_at sector ≡ block_as_read b → read_pages v.bins_size (bitmap_of (is_dirty v) (v.bins_size / 4096)) ≡ done v → IsLoggable b v
    → LogDecodesTo (bytes_behind image v sector) (block_as_read b) v (pages_from image v 0)
reads_as image v b sector sizes long read again loggable =
    let encoding = bytes_behind image v sector in
    let base : block_of encoding ≡ block_as_read b = ap block_at (sector_again image v sector long) ∙ read in
    let size : (block_of encoding).bins_size ≡ v.bins_size = ap (λ (x : BaseBlock). x.bins_size) base ∙ loggable.size in
    let good = good_size b loggable.usable in
    let vector : pages_of v.bins_size (bitmap_of (is_dirty v) (v.bins_size / 4096)) ≡ v = same_pages _ _ (sym (read_good v.bins_size (bitmap_of (is_dirty v) (v.bins_size / 4096)) (ap is_size (sym loggable.size) ∙ good)) ∙ again) in
    let marked : pages_in encoding ≡ v =
    ap (λ (n : ℕ). pages_of n (bitmap_in encoding n)) size ∙ ap (pages_of v.bins_size) (bitmap_again image v sector long) ∙ vector in
    let count : dirty_count (pages_in encoding) ≡ dirty_count v = ap (λ (u : Pages). dirty_count u) marked in
    let len = length_log image v sector sizes long in
    let pages_len = length_pages image v sizes in
    let pages : drop (pages_at v.bins_size) encoding ≡ pages_from image v 0 = tail image v sector long in
    record {
      whole = record {
        block = subst (λ (x : BaseBlock). IsLog x) (sym base) (log_of b v loggable);
        bitmap = (letters_again image v sector long, omega (arith, size, len));
        pages = λ some. omega (arith, size, len, count);
      };
      base = base;
      marked = marked;
      bytes =
          ap (λ (n : ℕ). take (512 * n) (drop (pages_at (block_of encoding).bins_size) encoding)) count
          ∙ ap (λ (n : ℕ). take (512 * dirty_count v) (drop (pages_at n) encoding)) size
          ∙ ap (take (512 * dirty_count v)) pages
          ∙ take_all (512 * dirty_count v) (pages_from image v 0) (omega (arith, pages_len));
    }
