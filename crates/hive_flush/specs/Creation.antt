-- A hive's two files as they are made for a store.
use Rattle.std.specs.Prelude.{◌≡◌, ℕ, List, length}
use Rattle.reg_tree.specs.Maps.{TreeMap}
use Rattle.base_block.specs.declared.block.BaseBlock.{BaseBlock}
use Rattle.base_block.specs.Layout.{fresh_primary}
use Rattle.disk_model.specs.FileState.{FileState}
use Rattle.hive_files.specs.FreshFiles.{FilesAreMade}
use Rattle.base_block.specs.declared.block.TheConstants.{MINOR_VERSION}
use Rattle.hive_file_reader.specs.Hives.{FileHasBins}
use Rattle.hive_load.specs.Limits.{BinsEncodeTreeInLimits}
use Rattle.hive_flush.specs.Decoders.{HiveFilesHold}
use Rattle.hive_flush.specs.declared.image.HiveImage.{HiveImage}

-- the base block of a hive's primary file as it is made, with the changes up to a number applied
abbrev pub block_as_made : List ℕ → ℕ → ℕ → ℕ → ℕ → BaseBlock
block_as_made store number minor root size = record (fresh_primary 1 minor root size store) { applied = record { 0 = number } }

-- Two files are made for a store, of a minor version, a root and bins data. The primary file has a clean base block with
-- both sequence numbers 1, and the bins data after it. The block was never written before, and has the changes up to this
-- number applied. The log is empty. All of both is on the disk.
abbrev pub AreMadeFor : List ℕ → ℕ → ℕ → ℕ → List ℕ → FileState → FileState → Type 0
AreMadeFor store number minor root bins primary log = FilesAreMade (block_as_made store number minor root (length bins)) bins primary log

-- Two files are made of a tree for a store, in the minor version that is written. They hold the tree at this number as a
-- hive of the store.
pub record AreCreated (store : List ℕ) (tree : TreeMap) (number : ℕ) (primary log : FileState) : Type 0 where
  pub root : ℕ
  pub bins : List ℕ
  pub made : AreMadeFor store number MINOR_VERSION root bins primary log
  pub holds : HiveFilesHold store primary.synced log.synced (tree, number)

-- Two files are made of a hive's file for a store: with its bins data, its root and its minor version. They hold the
-- tree that it holds, at number 0, as a hive of the store.
pub record AreCreatedFrom (store file : List ℕ) (tree : TreeMap) (primary log : FileState) : Type 0 where
  pub block : BaseBlock
  pub bins : List ℕ
  pub has : FileHasBins file block bins
  pub made : AreMadeFor store 0 block.minor block.root bins primary log
  pub holds : HiveFilesHold store primary.synced log.synced (tree, 0)

-- An image in memory is one of a tree at a number for a store: its bins data encode the tree from its root on.
pub record IsImageOf (store : List ℕ) (tree : TreeMap) (number : ℕ) (image : HiveImage) : Type 0 where
  pub store_is : image.store ≡ store
  pub number_is : image.number ≡ number
  pub minor_is : image.minor ≡ MINOR_VERSION
  pub stands : BinsEncodeTreeInLimits image.bins.items image.root MINOR_VERSION tree

-- An image in memory is the one of a hive's file for a store, at number 0: it has the file's bins data, root and minor
-- version, and the tree that they encode.
pub record IsImageOfFile (store file : List ℕ) (tree : TreeMap) (image : HiveImage) : Type 0 where
  pub store_is : image.store ≡ store
  pub number_is : image.number ≡ 0
  pub block : BaseBlock
  pub has : FileHasBins file block image.bins.items
  pub root_is : image.root ≡ block.root
  pub minor_is : image.minor ≡ block.minor
  pub stands : BinsEncodeTreeInLimits image.bins.items image.root image.minor tree
