-- Logs of pages as they are read.
use Rattle.std.proofs.Common.{◌≡◌, ◌≤◌, ℕ, ◌+◌, ◌*◌, ◌==◌, Bool, true, false, List, ◌++◌, length, take, drop, Some, None, Result, Ok, Err, refl, sym, ◌∙◌, ap, append_assoc, subst, if◌then◌else◌, not}
use Rattle.std.specs.Prelude.{nat_lt}
use Rattle.std.proofs.lemmas.Bool.{le-ltb}
use Rattle.std.proofs.lemmas.List.{take_at}
use Rattle.base_block.specs.Layout.{block_at}
use Rattle.base_block.specs.declared.block.BaseBlock.{BaseBlock}
use Rattle.dirt_log.specs.WholeLog.{block_of}
use Rattle.dirty_vector.specs.Pages.{Pages, dirty_count, is_bins_size}
use Rattle.hive_recovery.specs.Logs.{is_read_version}
use Rattle.hive_page_logs.specs.PageLogs.{PagesSeen, block_fault, bitmap_end, bitmap_at, marked_by, pages_start, pages_of, pages_at_letters, pages_behind, page_log_of, letters_at}
use Rattle.hive_page_logs.specs.declared.page_log.PageFault.{PageFault}
use Rattle.hive_page_logs.specs.declared.page_log.PageFault.TheVariants as fault

three : (a b c : Bool) (x y z : PageFault) → (if not a then Some x else (if not b then Some y else (if not c then Some z else None))) ≡ None → c ≡ true
three true true true x y z none = refl
three true true false x y z none = cc
three true false c x y z none = cc
three false b c x y z none = cc

-- nothing is wrong with a block, so its size of bins data is one
pub size_right : (block : BaseBlock) → block_fault block ≡ None → is_bins_size block.bins_size ≡ true
size_right block none = three (is_read_version block) (block.primary.0 == block.secondary.0) (is_bins_size block.bins_size) fault.OtherVersion (fault.Numbers block.primary block.secondary) fault.WrongBinsSize none

-- the log of pages of a file with such a block
pub log_behind : (bytes : List ℕ) (block : BaseBlock) → block ≡ block_at (take 512 bytes) → 512 ≤ length bytes → block_fault block ≡ None → pages_at_letters bytes block (letters_at bytes) ≡ page_log_of bytes
unfolding page_log_of
log_behind bytes block read long sound =
    let own = block_at (take 512 bytes) in
    let shown : (if nat_lt (length bytes) 512 then Err fault.BitmapCut else pages_behind bytes own (block_fault own)) ≡ pages_behind bytes own (block_fault own) = rw (le-ltb (length bytes) 512 long) refl in
    ap (pages_behind bytes block) (sym sound) ∙ ap (λ (b : BaseBlock). pages_behind bytes b (block_fault b)) read ∙ sym shown

-- all pages that are marked are there
pub pages_whole : (bytes : List ℕ) (block : BaseBlock) (at : ℕ) (sector : List ℕ) (marked : Pages) (pages : List ℕ) → bitmap_end at block.bins_size ≤ length bytes → sector ≡ take 512 bytes → marked ≡ marked_by block.bins_size (bitmap_at bytes at block.bins_size) →
    pages_start at block.bins_size + 512 * dirty_count marked ≤ length bytes → pages ≡ take (512 * dirty_count marked) (drop (pages_start at block.bins_size) bytes) → pages_of bytes block at ≡ Ok (record { sector = sector; block = block; marked = marked; bytes = pages })
unfolding pages_of
pages_whole bytes block at sector marked pages long first mark there part =
    let size = block.bins_size in
    let start = pages_start at size in
    let own = marked_by size (bitmap_at bytes at size) in
    let Made : Pages → PagesSeen = λ m. record { sector = take 512 bytes; block = block; marked = m; bytes = take (512 * dirty_count m) (drop start bytes) } in
    let Within : Pages → Type 0 = λ m. start + 512 * dirty_count m ≤ length bytes in
    let inside : start + 512 * dirty_count own ≤ length bytes = subst Within mark there in
    let shown : (if nat_lt (length bytes) (bitmap_end at size) then Err fault.BitmapCut else (if nat_lt (length bytes) (start + 512 * dirty_count own) then Err fault.PagesCut else Ok (Made own))) ≡ Ok (Made own) =
    rw (le-ltb (length bytes) (bitmap_end at size) long) (rw (le-ltb (length bytes) (start + 512 * dirty_count own) inside) refl) in
    let Ending : List ℕ → Result PagesSeen PageFault = λ s. Ok (record { sector = s; block = block; marked = marked; bytes = take (512 * dirty_count marked) (drop start bytes) }) in
    let Paged : List ℕ → Result PagesSeen PageFault = λ l. Ok (record { sector = sector; block = block; marked = marked; bytes = l }) in
    shown ∙ ap (λ (m : Pages). Ok (Made m)) (sym mark) ∙ ap Ending (sym first) ∙ ap Paged (sym part)

-- the block of a file that begins with a sector is the sector's
pub block_first : (sector rest bins out : List ℕ) → length sector ≡ 512 → out ≡ sector ++ rest ++ bins → block_of out ≡ block_at sector
block_first sector rest bins out long is = ap block_at (ap (take 512) (is ∙ append_assoc sector rest bins) ∙ take_at sector (rest ++ bins) 512 long)
