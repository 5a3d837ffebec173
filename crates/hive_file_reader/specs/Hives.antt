-- Which bins data and which tree the bytes of a hive's primary file hold, if they are read without a log, and why they
-- hold none.
use Rattle.std.specs.Prelude.{◌≡◌, ◌≢◌, ◌⊎◌, ℕ, ◌+◌, ◌≤◌, ◌<◌, true, false, List, [], ◌++◌, length}
use Rattle.refusals.specs.declared.refusal.Refusal.{Refusal}
use Rattle.refusals.specs.declared.refusal.Refusal.TheVariants as refusal
use Rattle.refusals.specs.declared.refusal.Cause.TheVariants as cause
use Rattle.base_block.specs.declared.block.BaseBlock.{BaseBlock}
use Rattle.base_block.specs.Judgements.{IsPrimary}
use Rattle.base_block.specs.Layout.{is_clean_block}
use Rattle.dirt_log.specs.WholeLog.{block_of}
use Rattle.dirt_log.specs.FileContents.{is_clean_file, PrimaryDecodesTo, PrimaryFileRefused}
use Rattle.reg_tree.specs.Maps.{TreeMap}
use Rattle.hive_cells.specs.Tiles.{DataRefused}
use Rattle.hive_load.specs.Limits.{BinsEncodeTreeInLimits, BinsEncodeShallowTree, LoadRefused, ShallowLoadRefused}

-- the file is clean, and its base block, which is this, is a block of a primary file of the profile
pub record FileHasBlock (file : List ℕ) (block : BaseBlock) : Type 0 where
  pub clean : is_clean_file file ≡ true
  pub read : block ≡ block_of file
  pub judged : IsPrimary block

-- the file has this block; the bins data are there, whatever follows them; and they encode the tree, which is within
-- the limits
pub record FileHoldsHive (file : List ℕ) (tree : TreeMap) : Type 0 where
  pub block : BaseBlock
  pub bins : List ℕ
  pub has : FileHasBlock file block
  pub own : PrimaryDecodesTo file block bins
  pub tree_is : BinsEncodeTreeInLimits bins block.root block.minor tree

-- the same of a tree of any weight: no path in it is too long
pub record FileHoldsShallowTree (file : List ℕ) (tree : TreeMap) : Type 0 where
  pub block : BaseBlock
  pub bins : List ℕ
  pub has : FileHasBlock file block
  pub own : PrimaryDecodesTo file block bins
  pub tree_is : BinsEncodeShallowTree bins block.root block.minor tree

-- the file has this block, and these are its bins data, whatever follows them
abbrev pub FileHasBins : List ℕ → BaseBlock → List ℕ → Type 0
FileHasBins file block bins = FileHasBlock file block × PrimaryDecodesTo file block bins

-- why a file has no bins data, by what is in its bytes
pub data FileLacksBins (file : List ℕ) : Refusal → Type 0 where
  -- it has no first sector
  no_sector : length file < 512 → FileLacksBins file (refusal.HiveDamaged 0 cause.Truncated)
  -- it isn't a hive by its signature, whether its sum and its numbers are right or not
  no_signature : 512 ≤ length file → (block_of file).signature.0 ≢ 0x6667_6572 → FileLacksBins file (refusal.HiveDamaged 0 cause.BadBase)
  -- the sum is wrong, or the two numbers differ
  not_clean : 512 ≤ length file → is_clean_block (block_of file) ≡ false → FileLacksBins file (refusal.HiveDamaged 0 cause.NotClean)
  -- it is clean, and its base block is outside the profile, or it ends before its bins data do
  not_usable : (why : Refusal) → is_clean_file file ≡ true → PrimaryFileRefused (block_of file) (length file) why → FileLacksBins file why

-- why a file has no bins data that tile
pub data FileHasNoBins (file : List ℕ) : Refusal → Type 0 where
  -- it has none at all
  lacks_bins : (why : Refusal) → FileLacksBins file why → FileHasNoBins file why
  -- bins and cells don't tile the bins data, or memory to know it was not given
  not_tiled : (why : Refusal) (block : BaseBlock) (bins : List ℕ) → FileHasBins file block bins → DataRefused bins why → FileHasNoBins file why

-- why a file holds no tree, by what is in its bytes
pub data FileHoldsNoHive (file : List ℕ) : Refusal → Type 0 where
  -- it has no bins data that tile
  no_bins : (why : Refusal) → FileHasNoBins file why → FileHoldsNoHive file why
  -- the bins data encode no tree within the limits, or memory for them was not given
  not_loaded : (why : Refusal) (block : BaseBlock) (bins : List ℕ) → FileHasBins file block bins → LoadRefused bins block.root block.minor why → FileHoldsNoHive file why

-- why a file holds no tree of any weight
pub data FileHoldsNoShallowTree (file : List ℕ) : Refusal → Type 0 where
  -- it has no bins data that tile
  lacks_tiled : (why : Refusal) → FileHasNoBins file why → FileHoldsNoShallowTree file why
  -- the bins data encode no tree that isn't too deep, or memory for them was not given
  unloaded : (why : Refusal) (block : BaseBlock) (bins : List ℕ) → FileHasBins file block bins → ShallowLoadRefused bins block.root block.minor why → FileHoldsNoShallowTree file why

-- bytes are the first of a file, and all of it if they are fewer than 4,096
abbrev pub IsFilePrefix : List ℕ → List ℕ → Type 0
IsFilePrefix front file = (rest : List ℕ) × (file ≡ front ++ rest) × (length front < 4096 → rest ≡ [])

-- bytes are the first of a file, and enough of it to decide which hive it holds: all of them, or a base block's and the
-- bins data, if the block is that of a clean hive
pub record IsEnoughOf (front file : List ℕ) : Type 0 where
  pub rest : List ℕ
  pub begins : file ≡ front ++ rest
  pub enough : (rest ≡ []) ⊎ ((4096 ≤ length front) × ((block : BaseBlock) → FileHasBlock front block → 4096 + block.bins_size ≤ length front))

-- bytes go no further than a base block, or than the bins data, if the block is one of a clean hive
abbrev pub EndsWithinHive : List ℕ → Type 0
EndsWithinHive front = (length front ≤ 4096) ⊎ ((block : BaseBlock) × FileHasBlock front block × (length front ≤ 4096 + block.bins_size))
