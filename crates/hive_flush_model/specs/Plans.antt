-- What a flush writes, and what it may rest on: the pages in which a primary file differs from an image.
use Rattle.std.specs.Prelude.{◌≡◌, ℕ, ◌/◌, ◌<◌, ◌≤◌, true, false, List, length, drop, Some}
use Rattle.base_block.specs.declared.block.BaseBlock.{BaseBlock}
use Rattle.base_block.specs.Judgements.{IsPrimary}
use Rattle.base_block.specs.Layout.{block_at, is_clean_block}
use Rattle.base_block.specs.Numbers.{number_after}
use Rattle.dirty_vector.specs.Pages.{Pages, is_dirty}
use Rattle.dirt_log.specs.WholeLog.{LogIsWhole, IsCovered, block_of, pages_in, page_bytes_in, repaired}
use Rattle.dirt_log.specs.FileContents.{SameWhereClean}
use Rattle.hive_flush_model.specs.StoredTrees.{TreeDecoder, tree_under}

-- A primary file is behind an image: it has the image's bytes in each page that isn't dirty, and each such page is
-- there. So a log of the dirty pages repairs it. Pages may be marked without need, and none may lack its mark.
pub record IsBehind (image : List ℕ) (pages : Pages) (primary : List ℕ) : Type 0 where
  pub same : SameWhereClean image (drop 4096 primary) pages
  pub covered : IsCovered (length (drop 4096 primary)) pages

-- a base block with the raised primary number
abbrev pub marked_block : BaseBlock → BaseBlock
marked_block block = record block { primary = record { 0 = number_after block.secondary.0 } }

-- What a flush writes, made when it begins. It is the base block as it will be, the first sector with the raised
-- primary number, the first sector as it will be, and the log's encoding.
pub record FlushPlan : Type 0 where
  pub block : BaseBlock
  pub raised : List ℕ
  pub final : List ℕ
  pub encoding : List ℕ

-- A plan fits an image: image and root encode the tree in memory; the raised sector is unclean; the last one reads as
-- the block. The log's encoding is whole, has the block's root, version, store and number, marks these pages, and
-- repairs whatever is behind the image to it.
pub record PlanFitsImage {T : Type 0} (decode : TreeDecoder T) (memory : T × ℕ) (image : List ℕ) (pages : Pages) (plan : FlushPlan) : Type 0 where
  pub size : length image ≡ pages.bins_size
  pub own : IsPrimary plan.block
  pub equal : plan.block.primary.0 ≡ plan.block.secondary.0
  pub bins : plan.block.bins_size ≡ pages.bins_size
  pub tree : tree_under decode plan.block image ≡ Some memory.0
  pub number : plan.block.applied.0 ≡ memory.1
  pub raised_long : length plan.raised ≡ 512
  pub raised_unclean : is_clean_block (block_at plan.raised) ≡ false
  pub final_long : length plan.final ≡ 512
  pub final_reads : block_at plan.final ≡ record plan.block { sum_is_right = true }
  pub log_whole : LogIsWhole plan.encoding
  pub log_root : (block_of plan.encoding).root ≡ plan.block.root
  pub log_minor : (block_of plan.encoding).minor ≡ plan.block.minor
  pub log_store : (block_of plan.encoding).store ≡ plan.block.store
  pub log_number : (block_of plan.encoding).applied.0 ≡ plan.block.applied.0
  pub log_pages : pages_in plan.encoding ≡ pages
  pub log_repairs : (bins : List ℕ) → SameWhereClean image bins pages → repaired bins pages (page_bytes_in plan.encoding) ≡ image

-- no byte from one offset up to another is in a dirty page
abbrev pub AreClean : Pages → ℕ → ℕ → Type 0
AreClean pages from end = (i : ℕ) → from ≤ i → i < end → is_dirty pages (i / 512) ≡ false

-- all of them are
abbrev pub AreDirty : Pages → ℕ → ℕ → Type 0
AreDirty pages from end = (i : ℕ) → from ≤ i → i < end → is_dirty pages (i / 512) ≡ true
