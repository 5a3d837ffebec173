-- Base blocks with which flushes end.
use Rattle.std.specs.Prelude.{◌≡◌, ℕ, List, false}
use Rattle.base_block.specs.Layout.{sector_of}
use Rattle.dirt_log.specs.WholeLog.{block_of}
use Rattle.hive_files.specs.Contents.{as_primary}
use Rattle.hive_flush_model.specs.Plans.{FlushPlan, marked_block}
use Rattle.hive_writer.specs.declared.stage.Purpose.TheVariants as purpose
use Rattle.hive_writer.specs.declared.stage.FlushStage.TheVariants as stage
use Rattle.reg_tree.specs.Maps.{TreeMap}
use Rattle.hive_writer.specs.declared.writer.HiveWriter.{HiveWriter}
use Rattle.hive_writer.specs.WriterSteps.{IsFlushing}
use Rattle.base_block.specs.declared.block.BaseBlock.{BaseBlock}
use Rattle.base_block.specs.declared.block.TheConstants.{MINOR_VERSION}
use Rattle.base_block.specs.Numbers.{number_after}

-- the block with which the flush after one ends: the numbers are one more, the minor version is the one that is written,
-- and it is for this root, size, time and number
abbrev pub block_after : BaseBlock → ℕ → ℕ → ℕ → ℕ → BaseBlock
block_after base root bins_size time applied = record base {
  primary = record { 0 = number_after base.secondary.0 };
  secondary = record { 0 = number_after base.secondary.0 };
  minor = MINOR_VERSION;
  last_written = time;
  root = root;
  bins_size = bins_size;
  applied = record { 0 = applied };
}

-- the same root, size, time and number with the next numbers
abbrev pub block_again : BaseBlock → BaseBlock
block_again block = block_after block block.root block.bins_size block.last_written block.applied.0

-- if it isn't a flush that may be on its way, what is repaired is what is in memory
abbrev pub IsSteady : HiveWriter → TreeMap → TreeMap → Type 0
IsSteady writer held tree = (IsFlushing writer.stage → ⊥) → (writer.base ≡ writer.block) × (held ≡ tree)

-- the writer of a clean primary file with this block, for an image of a size with a root; and that of an unclean one
-- whose log has the block
abbrev pub clean_writer : ℕ → BaseBlock → ℕ → ℕ → HiveWriter
clean_writer hive block root size = record {
  hive = hive;
  base = block;
  block = block_after block root size block.last_written block.applied.0;
  stage = stage.AtRest;
  failed = false;
}

abbrev pub unclean_writer : ℕ → BaseBlock → HiveWriter
unclean_writer hive block = record { hive = hive; base = block; block = block; stage = stage.WritingPages purpose.Repair 0; failed = false }

-- what a repair by a log writes
abbrev pub repair_plan : BaseBlock → List ℕ → FlushPlan
repair_plan block log = record { block = as_primary (block_of log); raised = sector_of (marked_block block); final = sector_of block; encoding = log }

-- the block for another image: this root, size, time and number
abbrev pub block_for : BaseBlock → ℕ → ℕ → ℕ → ℕ → BaseBlock
block_for block root bins_size time applied = record block { last_written = time; root = root; bins_size = bins_size; applied = record { 0 = applied } }
