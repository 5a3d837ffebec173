-- What a hive's two files hold in a store.
use Rattle.std.specs.Prelude.{◌≡◌, ◌≢◌, ◌⊎◌, ◌<◌, ℕ, ◌≤◌, nat_eq, ◌&&◌, ◌==◌, if◌then◌else◌, true, false, List, length, Some, None}
use Rattle.std.specs.Cmp.Lexicographic.{pointwise}
use Rattle.refusals.specs.declared.refusal.Refusal.{Refusal}
use Rattle.refusals.specs.declared.refusal.Refusal.TheVariants as refusal
use Rattle.refusals.specs.declared.refusal.Cause.TheVariants.{BadStore, TooLarge}
use Rattle.refusals.specs.declared.limits.TheConstants.{MOST_WEIGHT}
use Rattle.reg_tree.specs.Maps.{TreeMap}
use Rattle.base_block.specs.declared.block.BaseBlock.{BaseBlock}
use Rattle.base_block.specs.Judgements.{IsPrimary}
use Rattle.dirt_log.specs.FileContents.{is_clean_file, FilesDecodeTo}
use Rattle.hive_files.specs.Contents.{FilesHaveHive, FilesAreUnusable}
use Rattle.hive_load.specs.Limits.{BinsRefused, BinsEncodeTreeInLimits}
use Rattle.hive_flush_model.specs.StoredTrees.{TreeDecoder}

-- A primary file and its log hold a tree and a number, as a hive of this store. The block that is in use is of the
-- store and has the number. If it is the primary file's own, it is a block of a primary file. The bins data that are in
-- use encode the tree. An unclean primary file without a first sector holds nothing.
pub record HiveFilesHold (store primary log : List ℕ) (held : TreeMap × ℕ) : Type 0 where
  pub block : BaseBlock
  pub bins : List ℕ
  pub in_use : FilesDecodeTo primary log block bins
  pub own : is_clean_file primary ≡ true → IsPrimary block
  pub sector : is_clean_file primary ≡ false → 512 ≤ length primary
  pub store_is : block.store ≡ store
  pub tree : BinsEncodeTreeInLimits bins block.root block.minor held.0
  pub number : block.applied.0 ≡ held.1

-- A rule for images is right in a store. The tree that it gives for bins data of this store is a tree that they encode.
-- For others it gives none.
abbrev pub DecoderIsSound : List ℕ → TreeDecoder TreeMap → Type 0
DecoderIsSound store stands = (bytes : List ℕ) (root minor : ℕ) (id : List ℕ) (tree : TreeMap) → stands bytes root minor id ≡ Some tree
    → (id ≡ store) × BinsEncodeTreeInLimits bytes root minor tree

-- The rule that gives this tree for these bins data, root, minor version and store, and is as another for all else.
abbrev pub decoder_with : TreeDecoder TreeMap → List ℕ → ℕ → ℕ → List ℕ → TreeMap → TreeDecoder TreeMap
decoder_with stands bytes root minor store tree b r m s =
    if pointwise nat_eq b bytes && (pointwise nat_eq s store && ((r == root) && (m == minor))) then Some tree else stands b r m s

-- the rule that gives none
abbrev pub empty_decoder : TreeDecoder TreeMap
empty_decoder b r m s = None

-- why a tree of a weight is refused: memory was not given, or it is over the limit
abbrev pub IsRefusedFor : ℕ → Refusal → Type 0
IsRefusedFor weight why = (why ≡ refusal.NoMemory) ⊎ ((why ≡ refusal.TooLarge) × (MOST_WEIGHT < weight))

-- a refusal names a hive by its number, or a version that isn't known
abbrev pub RefusalNamesHive : ℕ → Refusal → Type 0
RefusalNamesHive hive (refusal.HiveDamaged of cause) = of ≡ hive
RefusalNamesHive hive refusal.Unsupported = Unit {0}
RefusalNamesHive hive _ = ⊥

-- A refusal, reported of a hive of a store. Damage gets the hive's number, and so does what is over a limit, with the
-- cause TooLarge. Any other refusal that comes of a hive's bytes names a version, a type or a flag that isn't known.
abbrev pub as_hive_refusal : ℕ → Refusal → Refusal
as_hive_refusal hive refusal.NoMemory = refusal.NoMemory
as_hive_refusal hive (refusal.HiveDamaged of cause) = refusal.HiveDamaged hive cause
as_hive_refusal hive refusal.TooLarge = refusal.HiveDamaged hive TooLarge
as_hive_refusal hive _ = refusal.Unsupported

-- Why two files hold nothing as a hive of a store, by what is in their bytes.
pub data FilesRefusedFor (hive : ℕ) (store primary log : List ℕ) (hive_refusal : Refusal) : Type 0 where
  -- they have nothing that may be used: a clean primary file for its own block or its length, an unclean one for its
  -- log, or since it has no first sector
  unusable : (why : Refusal) → hive_refusal ≡ as_hive_refusal hive why → FilesAreUnusable primary log why → FilesRefusedFor hive store primary log hive_refusal
  -- the block in use is a block of another store
  of_another : hive_refusal ≡ refusal.HiveDamaged hive BadStore → (has : FilesHaveHive primary log) → has.block.store ≢ store → FilesRefusedFor hive store primary log hive_refusal
  -- the bins data in use encode no tree within the limits
  not_loaded : (why : Refusal) → hive_refusal ≡ as_hive_refusal hive why → why ≢ refusal.NoMemory → (has : FilesHaveHive primary log) → BinsRefused has.bins has.block.root has.block.minor why
      → FilesRefusedFor hive store primary log hive_refusal

-- two files hold nothing as a hive of a store, and a refusal says why
pub record FilesHoldNone (hive : ℕ) (store primary log : List ℕ) (why : Refusal) : Type 0 where
  pub none : (held : TreeMap × ℕ) → HiveFilesHold store primary log held → ⊥
  pub tells : FilesRefusedFor hive store primary log why

-- why two files are refused as a hive of a store. The refusal names the hive. They hold nothing for the reported cause,
-- if the device has answered as it should
abbrev pub RefusesHiveFiles : Type 0 → ℕ → List ℕ → List ℕ → List ℕ → Refusal → Type 0
RefusesHiveFiles faithful hive store primary log why = RefusalNamesHive hive why × (faithful → FilesHoldNone hive store primary log why)
