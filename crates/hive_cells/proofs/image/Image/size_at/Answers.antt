use Rattle.std.proofs.Common.{sym, subst, arith}
use Rattle.hive_cells.specs.Bins.{Bins}
use Rattle.hive_cells.specs.Tiles.{BeginsCell}
use Rattle.hive_cells.specs.Marks.{IsWholeCell}
use Rattle.hive_cells.proofs.CellChanges.{cell_within}
use Rattle.hive_cells.proofs.image.Image.size_at.Goals as goal

pub cell_size-requires : goal.cell_size-requires
cell_size-requires c =
    let w : IsWholeCell c.self.inside.bytes.items c.args.at = cell_within _ _ _ c.self.invariant.indexed.cells (subst (λ (b : Bins). BeginsCell b.bytes c.args.at) (sym c.self.view_is) c.requires) in
    rw c.deref.ensures.value (omega (arith, w.least, w.within))

pub returns-clause-whole : goal.returns-clause-whole
returns-clause-whole c = rw (← c.self.view_is) (cell_within _ _ _ c.self.invariant.indexed.cells (subst (λ (b : Bins). BeginsCell b.bytes c.args.at) (sym c.self.view_is) c.requires))
