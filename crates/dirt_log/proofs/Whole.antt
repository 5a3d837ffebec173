-- A log that is read is whole, and one that isn't whole is refused.
use Rattle.std.proofs.Common.{◌≡◌, ◌≤◌, ℕ, ◌*◌, ◌/◌, ◌%◌, Bool, true, cond, List, take, drop, sym, ap, subst, ◌∙◌, inl, inr, arith, Result, Ok, Err}
use Rattle.std.proofs.lemmas.Bool.{le-leb, eq-eqb, and_from}
use Rattle.refusals.specs.declared.refusal.Refusal.{Refusal}
use Rattle.refusals.specs.declared.refusal.Refusal.TheVariants.{NoMemory, TooLarge}
use Rattle.refusals.specs.Answers.{IsOrNoMemory}
use Rattle.base_block.specs.declared.block.BaseBlock.{BaseBlock}
use Rattle.base_block.specs.Judgements.{IsUsable, IsLog}
use Rattle.dirty_vector.specs.Marks.{is_marked_in_bitmap, marked_below}
use Rattle.dirty_vector.specs.Pages.{Pages, is_bins_size, dirty_count, read_pages}
use Rattle.dirt_log.specs.LogEncoding.{pages_at}
use Rattle.dirt_log.specs.WholeLog.{LogIsWhole, HasBitmap, HasPages, block_of, pages_in, page_bytes_in}

-- the bins size of a block that may be used is one
pub good_size : (b : BaseBlock) → IsUsable b → is_bins_size b.bins_size ≡ true
good_size b h =
    let least : 4096 ≤ b.bins_size = omega (arith, h.bins_size.0, h.bins_size.1) in
    and_from _ _ (and_from _ _ (eq-eqb (b.bins_size % 4096) 0 h.bins_size.0) (le-leb 4096 b.bins_size least)) (le-leb b.bins_size 67108864 h.within)

abbrev pub done : Pages → Result Pages Refusal
done v = Ok v

abbrev failed : Refusal → Result Pages Refusal
failed e = Err e

-- what reading a bitmap gives for a good size
pub read_good : (size : ℕ) (bitmap : List ℕ) → is_bins_size size ≡ true → read_pages size bitmap ≡ done (record { bins_size = size; dirty = marked_below (is_marked_in_bitmap bitmap) (size / 512) })
read_good size bitmap good = ap (λ (b : Bool). cond b (done (record { bins_size = size; dirty = marked_below (is_marked_in_bitmap bitmap) (size / 512) })) (failed TooLarge)) good

pub same_pages : (v w : Pages) → done v ≡ done w → v ≡ w
same_pages v w e = cc

-- for a good size only memory is refused
pub only_memory : (size : ℕ) (bitmap : List ℕ) (e : Refusal) → is_bins_size size ≡ true → IsOrNoMemory (failed e) (read_pages size bitmap) → e ≡ NoMemory
only_memory size bitmap e good (inl is) = let f : failed e ≡ done (record { bins_size = size; dirty = marked_below (is_marked_in_bitmap bitmap) (size / 512) }) = is ∙ read_good size bitmap good in absurd cc
only_memory size bitmap e good (inr is) = cc

-- the vector that is read has the pages that the log marks
pub marked_is : (bytes bitmap : List ℕ) (base : BaseBlock) (v : Pages) → base ≡ block_of bytes → IsLog base → bitmap ≡ take (base.bins_size / 4096) (drop 516 bytes)
    → IsOrNoMemory (done v) (read_pages base.bins_size bitmap) → v ≡ pages_in bytes
marked_is bytes bitmap base v is log at (inl e) =
    let read : v ≡ record { bins_size = base.bins_size; dirty = marked_below (is_marked_in_bitmap bitmap) (base.bins_size / 512) } = same_pages v _ (e ∙ read_good base.bins_size bitmap (good_size base log.0)) in
    read
    ∙ ap (λ (xs : List ℕ). pages base.bins_size xs) at
    ∙ ap (λ (b : BaseBlock). pages b.bins_size (take (b.bins_size / 4096) (drop 516 bytes))) is
  where
    pages : ℕ → List ℕ → Pages
    pages size bitmap = record { bins_size = size; dirty = marked_below (is_marked_in_bitmap bitmap) (size / 512) }
marked_is bytes bitmap base v is log at (inr e) = absurd cc

-- all parts make a whole log
pub made_whole : (bytes : List ℕ) (base : BaseBlock) (v : Pages) (start len : ℕ) → base ≡ block_of bytes → IsLog base → HasBitmap bytes base.bins_size → v ≡ pages_in bytes
    → start ≡ pages_at base.bins_size → len ≡ 512 * dirty_count v → HasPages bytes start len → LogIsWhole bytes
made_whole bytes base v start len is log bitmap marked at size pages =
    record {
      block = subst (λ (b : BaseBlock). IsLog b) is log;
      bitmap = subst (λ (b : BaseBlock). HasBitmap bytes b.bins_size) is bitmap;
      pages = subst (λ (n : ℕ). HasPages bytes n (512 * dirty_count (pages_in bytes))) (at ∙ ap (λ (b : BaseBlock). pages_at b.bins_size) is)
          (subst (λ (n : ℕ). HasPages bytes start n) (size ∙ ap (λ (u : Pages). 512 * dirty_count u) marked) pages);
    }

-- a whole log has its pages
pub has_pages : (bytes : List ℕ) (base : BaseBlock) (v : Pages) (start len : ℕ) → base ≡ block_of bytes → v ≡ pages_in bytes → start ≡ pages_at base.bins_size → len ≡ 512 * dirty_count v → LogIsWhole bytes → HasPages bytes start len
has_pages bytes base v start len is marked at size whole =
    subst (λ (n : ℕ). HasPages bytes n len) (sym (at ∙ ap (λ (b : BaseBlock). pages_at b.bins_size) is))
    (subst (λ (n : ℕ). HasPages bytes (pages_at (block_of bytes).bins_size) n) (sym (size ∙ ap (λ (u : Pages). 512 * dirty_count u) marked)) whole.pages)

pub bytes_are : (bytes : List ℕ) (base : BaseBlock) (v : Pages) (start len : ℕ) → base ≡ block_of bytes → v ≡ pages_in bytes → start ≡ pages_at base.bins_size → len ≡ 512 * dirty_count v → take len (drop start bytes) ≡ page_bytes_in bytes
bytes_are bytes base v start len is marked at size =
    ap (λ (n : ℕ). take n (drop start bytes)) (size ∙ ap (λ (u : Pages). 512 * dirty_count u) marked)
    ∙ ap (λ (n : ℕ). take (512 * dirty_count (pages_in bytes)) (drop n bytes)) (at ∙ ap (λ (b : BaseBlock). pages_at b.bins_size) is)
