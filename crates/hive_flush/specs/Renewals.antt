-- An image in the minor version that is written.
use Rattle.std.specs.Prelude.{◌≡◌, ◌≢◌, ◌≤◌, ℕ, List, length}
use Rattle.base_block.specs.declared.block.BaseBlock.{BaseBlock}
use Rattle.base_block.specs.declared.block.TheConstants.{MINOR_VERSION}
use Rattle.dirty_vector.specs.Changes.{ChangesAreMarked}
use Rattle.dirty_vector.specs.Pages.{Pages}
use Rattle.reg_tree.specs.Maps.{TreeMap}
use Rattle.hive_emit.specs.Forms.{IsFormed}
use Rattle.hive_load.specs.Limits.{BinsEncodeTreeInLimits}

-- Bytes, a root and pages are those of an image in the version that is written, of the tree that an old image encodes
-- under a block. The pages in which it may differ from the old image are marked. It is the old image if the block is of
-- that version. Otherwise it is made anew of the tree, and is no shorter.
pub record IsInWrittenVersion (block : BaseBlock) (old : List ℕ) (old_pages : Pages) (tree : TreeMap) (bytes : List ℕ) (root : ℕ) (pages : Pages) : Type 0 where
  pub stands : BinsEncodeTreeInLimits bytes root MINOR_VERSION tree
  pub size : length bytes ≡ pages.bins_size
  pub marks : ChangesAreMarked old old_pages bytes pages
  pub kept : block.minor ≡ MINOR_VERSION → (bytes ≡ old) × (root ≡ block.root) × (pages ≡ old_pages)
  pub renewed : block.minor ≢ MINOR_VERSION → (length old ≤ length bytes) × IsFormed bytes root tree
