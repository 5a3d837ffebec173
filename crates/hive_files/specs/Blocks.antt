-- Base blocks that go with pages.
use Rattle.std.specs.Prelude.{◌≡◌}
use Rattle.base_block.specs.declared.block.BaseBlock.{BaseBlock}
use Rattle.base_block.specs.declared.block.TheConstants.{MINOR_VERSION}
use Rattle.base_block.specs.Judgements.{IsPrimary}
use Rattle.dirty_vector.specs.Pages.{Pages}

-- A block of a primary file for pages: it has equal numbers, and is for bins data of their size.
pub record IsBlockFor (block : BaseBlock) (pages : Pages) : Type 0 where
  pub own : IsPrimary block
  pub equal : block.primary.0 ≡ block.secondary.0
  pub size : block.bins_size ≡ pages.bins_size

-- A block with which a flush or a repair of pages ends: a block of a primary file for them, of the minor version that is
-- written.
pub record IsPlanned (block : BaseBlock) (pages : Pages) : Type 0 where
  pub own : IsPrimary block
  pub equal : block.primary.0 ≡ block.secondary.0
  pub size : block.bins_size ≡ pages.bins_size
  pub version : block.minor ≡ MINOR_VERSION
