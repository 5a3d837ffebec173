-- A flush of what is in memory, ready to be written.
use Rattle.std.proofs.Common.{◌≡◌, ℕ, List, sym, ap, ◌∙◌, true}
use Rattle.base_block.specs.declared.block.BaseBlock.{BaseBlock}
use Rattle.base_block.specs.declared.fields.SequenceNumber.{SequenceNumber}
use Rattle.base_block.specs.Layout.{block_at, sector_of}
use Rattle.base_block.specs.Numbers.{number_after}
use Rattle.hive_flush_model.specs.Plans.{marked_block}

numbered : BaseBlock → ℕ → BaseBlock
numbered b n = record b { primary = record { 0 = n }; sum_is_right = true }

-- the raised sector reads as the raised block
pub raised_reads : (b : BaseBlock) (next : SequenceNumber) (sector : List ℕ) → sector ≡ sector_of (marked_block b) → next.0 ≡ number_after b.secondary.0
    → block_at sector ≡ record b { primary = next; sum_is_right = true } → block_at (sector_of (marked_block b)) ≡ record (marked_block b) { sum_is_right = true }
unfolding numbered
raised_reads b next sector is n reads = ap block_at (sym is) ∙ reads ∙ ap (numbered b) n

unfoldable pub right_sum : BaseBlock → BaseBlock
right_sum b = record b { sum_is_right = true }
