-- What a primary file and its log hold together.
use Rattle.std.specs.Prelude.{◌≡◌, ◌⊎◌, ◌≤◌, ◌<◌, ◌/◌, false, slice_index, ℕ, ◌+◌, nat_le, Bool, ◌&&◌, List, take, drop, length, MatchBool}
use Rattle.refusals.specs.declared.refusal.Refusal.{Refusal}
use Rattle.refusals.specs.declared.refusal.Refusal.TheVariants.{HiveDamaged}
use Rattle.refusals.specs.declared.refusal.Cause.TheVariants.{Truncated}
use Rattle.base_block.specs.declared.block.BaseBlock.{BaseBlock}
use Rattle.base_block.specs.Judgements.{IsPrimary, PrimaryRefused}
use Rattle.base_block.specs.Layout.{is_clean_block}
use Rattle.dirty_vector.specs.Pages.{Pages, is_dirty}
use Rattle.dirt_log.specs.WholeLog.{LogIsWhole, IsCovered, block_of, pages_in, page_bytes_in, repaired}

-- a primary file is clean when its first sector is there and its block is clean
abbrev pub is_clean_file : List ℕ → Bool
is_clean_file primary = nat_le 512 (length primary) && is_clean_block (block_of primary)

-- the block and the bins data of a clean primary file: its own, whatever its log is
pub record PrimaryDecodesTo (primary : List ℕ) (block : BaseBlock) (bins : List ℕ) : Type 0 where
  pub read : block ≡ block_of primary
  pub long : 4096 + block.bins_size ≤ length primary
  pub part : bins ≡ take block.bins_size (drop 4096 primary)

-- why a clean primary file with this block and this many bytes may not be used. The block is
-- refused, or the file ends before its bins data do
abbrev pub PrimaryFileRefused : BaseBlock → ℕ → Refusal → Type 0
PrimaryFileRefused block long why = PrimaryRefused block why ⊎ ((why ≡ HiveDamaged 0 Truncated) × IsPrimary block × (long < 4096 + block.bins_size))

-- the block and the bins data of an unclean primary file: those that its log repairs
pub record LogRepairsTo (primary log : List ℕ) (block : BaseBlock) (bins : List ℕ) : Type 0 where
  pub whole : LogIsWhole log
  pub read : block ≡ block_of log
  pub covered : IsCovered (length (drop 4096 primary)) (pages_in log)
  pub image : bins ≡ repaired (drop 4096 primary) (pages_in log) (page_bytes_in log)

-- the block and the bins data that are in use
abbrev pub FilesDecodeTo : List ℕ → List ℕ → BaseBlock → List ℕ → Type 0
FilesDecodeTo primary log block bins = MatchBool (is_clean_file primary) (PrimaryDecodesTo primary block bins) (LogRepairsTo primary log block bins)

-- the primary file's bins data have the image's bytes in each page that isn't dirty
abbrev pub SameWhereClean : List ℕ → List ℕ → Pages → Type 0
SameWhereClean image primary v = (i : ℕ) → i < v.bins_size → is_dirty v (i / 512) ≡ false → slice_index primary i ≡ slice_index image i
