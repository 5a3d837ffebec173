-- Each field is the number that was read at its offset.
use Rattle.std.proofs.Common.{◌∙◌}
use Rattle.base_block.proofs.Sectors.{read_as}
use Rattle.base_block.proofs.block.BaseBlock.read.Goals as goal

pub returns : goal.returns
returns c =
    read_as c.args.sector.now _ _ _ _ _ _ _ _ _ _ _ _ _ _
    c.u32_at.ensures c.u32_at-2.ensures c.u32_at-3.ensures c.u64_at.ensures c.u32_at-4.ensures
    c.u32_at-5.ensures c.u32_at-6.ensures c.u32_at-7.ensures c.u32_at-8.ensures c.u32_at-9.ensures
    (c.from_bytes.ensures ∙ c.copy_from_slice.ensures.after) c.u64_at-2.ensures c.u32_at-10.ensures c.sum_of_prefix.ensures
