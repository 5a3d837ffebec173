use Rattle.std.proofs.Common.{sym, subst, arith}
use Rattle.hive_cells.specs.Bins.{Bins}
use Rattle.hive_cells.specs.Tiles.{BeginsCell}
use Rattle.hive_cells.specs.Marks.{IsWholeCell}
use Rattle.hive_cells.proofs.CellChanges.{cell_within}
use Rattle.hive_cells.proofs.image.Image.data_at.Goals as goal

pub overflow_add-result : goal.overflow_add-result
overflow_add-result c =
    let w : IsWholeCell c.self.inside.bytes.items c.args.at = cell_within _ _ _ c.self.invariant.indexed.cells (subst (λ (b : Bins). BeginsCell b.bytes c.args.at) (sym c.self.view_is) c.requires) in
    omega (arith, w.least, w.within, c.self.inside.bytes.ok.0, c.self.inside.bytes.small)
