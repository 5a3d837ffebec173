-- What two files hold, as a function: the same as the relation `FilesHoldTree`.
use Rattle.std.specs.Prelude.{ℕ, zero, suc, ◌+◌, ◌*◌, ◌/◌, ◌%◌, Bool, true, ◌&&◌, ◌||◌, ◌==◌, not, nat_le, nat_eq, if◌then◌else◌, List, length, take, drop, codes, Option, None, option_map}
use Rattle.std.specs.Cmp.Lexicographic.{pointwise}
use Rattle.refusals.specs.declared.limits.TheConstants.{MOST_BINS_BYTES}
use Rattle.base_block.specs.declared.block.BaseBlock.{BaseBlock}
use Rattle.base_block.specs.declared.block.TheConstants.{MINOR_VERSION, OLDEST_MINOR_VERSION}
use Rattle.base_block.specs.Layout.{is_clean_block}
use Rattle.dirty_vector.specs.Pages.{Pages, is_dirty, dirty_count}
use Rattle.dirt_log.specs.LogEncoding.{bitmap_end, pages_at}
use Rattle.dirt_log.specs.WholeLog.{block_of, pages_in, page_bytes_in, repaired}
use Rattle.dirt_log.specs.FileContents.{is_clean_file}
use Rattle.hive_flush_model.specs.StoredTrees.{TreeDecoder, tree_under}

-- what every block that is used has
abbrev pub is_usable : BaseBlock → Bool
is_usable b = (b.signature.0 == 0x6667_6572) && ((b.bins_size % 4096 == 0) && (not (b.bins_size == 0) && nat_le b.bins_size MOST_BINS_BYTES))

-- version 1.3 to 1.5, format 1
abbrev pub is_primary_version : BaseBlock → Bool
is_primary_version b = (b.major == 1) && (nat_le OLDEST_MINOR_VERSION b.minor && (nat_le b.minor MINOR_VERSION && (b.format == 1)))

-- version 1.5, format 1
abbrev pub is_log_version : BaseBlock → Bool
is_log_version b = (b.major == 1) && ((b.minor == MINOR_VERSION) && (b.format == 1))

-- a block of a primary file that may be used
abbrev pub is_primary : BaseBlock → Bool
is_primary b = is_usable b && (is_primary_version b && (b.file_type.0 == 0))

-- a block of a whole log
abbrev pub is_log : BaseBlock → Bool
is_log b = is_usable b && (is_clean_block b && (is_log_version b && ((b.file_type.0 == 1) || (b.file_type.0 == 2))))

-- a whole log
abbrev pub is_whole : List ℕ → Bool
is_whole log =
    let size = (block_of log).bins_size in
    let len = 512 * dirty_count (pages_in log) in
    is_log (block_of log) && ((pointwise nat_eq (take 4 (drop 512 log)) (codes "DIRT") && nat_le (bitmap_end size) (length log))
    && ((len == 0) || nat_le (pages_at size + len) (length log)))

-- each of the first n pages is dirty, or lies in the first bytes whole
unfoldable pub covers_below : ℕ → Pages → ℕ → Bool
covers_below len pages zero = true
covers_below len pages (suc n) = covers_below len pages n && (is_dirty pages n || nat_le (512 * (n + 1)) len)

abbrev pub with_number : {T : Type 0} → ℕ → Option T → Option (T × ℕ)
with_number k tree = option_map (λ t. (t, k)) tree

-- what a clean primary file holds
abbrev pub held_by_clean : {T : Type 0} → TreeDecoder T → List ℕ → Option (T × ℕ)
held_by_clean decode primary =
    let block = block_of primary in
    if is_primary block && nat_le (4096 + block.bins_size) (length primary)
    then with_number block.applied.0 (tree_under decode block (take block.bins_size (drop 4096 primary)))
    else None

-- what an unclean one holds by its log
abbrev pub held_by_log : {T : Type 0} → TreeDecoder T → List ℕ → List ℕ → Option (T × ℕ)
held_by_log decode primary log =
    let block = block_of log in
    let bins = drop 4096 primary in
    if nat_le 512 (length primary) && (is_whole log && covers_below (length bins) (pages_in log) (block.bins_size / 512))
    then with_number block.applied.0 (tree_under decode block (repaired bins (pages_in log) (page_bytes_in log)))
    else None

-- what a primary file and its log hold
unfoldable pub held : {T : Type 0} → TreeDecoder T → List ℕ → List ℕ → Option (T × ℕ)
held decode primary log = if is_clean_file primary then held_by_clean decode primary else held_by_log decode primary log
