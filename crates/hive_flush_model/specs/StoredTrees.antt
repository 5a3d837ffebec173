-- What a hive's two files hold together (regf format, base block and transaction log). Which tree an image encodes is
-- given from outside: the definitions and laws here are of any such rule.
use Rattle.std.specs.Prelude.{◌≡◌, ℕ, ◌+◌, ◌≤◌, true, false, List, length, take, drop, Option, Some}
use Rattle.base_block.specs.declared.block.BaseBlock.{BaseBlock}
use Rattle.base_block.specs.Judgements.{IsPrimary}
use Rattle.dirt_log.specs.WholeLog.{block_of}
use Rattle.dirt_log.specs.FileContents.{is_clean_file, FilesDecodeTo}

-- A rule for images. It gives the tree, if any, that bins data encode. It is given the offset of their root cell, the
-- minor version by which they are read, and the store that their hive belongs to.
abbrev pub TreeDecoder : Type 0 → Type 0
TreeDecoder T = List ℕ → ℕ → ℕ → List ℕ → Option T

-- the tree that bins data encode under a base block
abbrev pub tree_under : {T : Type 0} → TreeDecoder T → BaseBlock → List ℕ → Option T
tree_under decode block bins = decode bins block.root block.minor block.store

-- A primary file and its log hold a tree and a number. The block that is in use names the number, and the bins data
-- that are in use encode the tree. The block in use is the primary file's own if the file is clean, and then it is a
-- block of a primary file. Otherwise it is the log's, which repairs the bins data. An unclean primary file is repaired
-- only if its first sector is there. In a shorter file a write of a page puts zeros, which could make the first sector
-- clean before the repair is done.
pub record FilesHoldTree {T : Type 0} (decode : TreeDecoder T) (primary log : List ℕ) (held : T × ℕ) : Type 0 where
  pub block : BaseBlock
  pub bins : List ℕ
  pub in_use : FilesDecodeTo primary log block bins
  pub own : is_clean_file primary ≡ true → IsPrimary block
  pub sector : is_clean_file primary ≡ false → 512 ≤ length primary
  pub tree : tree_under decode block bins ≡ Some held.0
  pub number : block.applied.0 ≡ held.1

-- A primary file that is clean and holds this alone, whatever its log is.
pub record CleanPrimaryHolds {T : Type 0} (decode : TreeDecoder T) (primary : List ℕ) (held : T × ℕ) : Type 0 where
  pub clean : is_clean_file primary ≡ true
  pub own : IsPrimary (block_of primary)
  pub long : 4096 + (block_of primary).bins_size ≤ length primary
  pub tree : tree_under decode (block_of primary) (take (block_of primary).bins_size (drop 4096 primary)) ≡ Some held.0
  pub number : (block_of primary).applied.0 ≡ held.1
