use Rattle.std.proofs.Common.{◌≡◌, true, refl, arith}
use Rattle.hive_cells.specs.Tiles.{is_allocated}
use Rattle.hive_cells.proofs.Walk.{cell_walked}
use Rattle.hive_cells.proofs.tiling.walk_cell.Goals as goal

pub returns-then-not-is_allocated : goal.returns-then-not-is_allocated
returns-then-not-is_allocated c =
    cell_walked _ _ _ _ _ _ _ _ c.requires.walk c.requires.before c.in_ok-behind.ensures.0 c.in_ok-behind.ensures.1 c.set_start_bit.ensures
    c.note.ensures.len c.note.ensures.more (λ _. omega (arith, c.note.ensures.here, c.cell_size.ensures.size))

pub returns-else-not-is_allocated : goal.returns-else-not-is_allocated
returns-else-not-is_allocated c =
    cell_walked _ _ _ _ _ _ _ _ c.requires.walk c.requires.before c.in_ok-behind.ensures.0 c.in_ok-behind.ensures.1 c.set_start_bit.ensures
    refl (λ k. omega arith) (λ free. absurd (let allocated : true ≡ is_allocated c.args.bytes.now c.args.at = c.if-not-is_allocated.ensures in let no : ⊥ = cc in no))
