use Rattle.std.proofs.Common.{ℕ, List, ◌+◌, ◌*◌, ◌++◌, take, slice_range, ap, ◌∙◌}
use Rattle.hive_cells.specs.Tiles.{cell_data}
use Rattle.hive_edit.proofs.LeafInserts.{elements_long}
use Rattle.hive_edit.proofs.LeafHalves.{back_is}
use Rattle.hive_edit.proofs.leaf_split.back_text.Goals as goal

pub returns-clause-text : goal.returns-clause-text
returns-clause-text c =
    let old = cell_data c.args.image.now.bytes c.args.leaf in
    let cell = c.in-Ok.cell.now in
    back_is old (take 2 cell) c.u16_bytes.result (slice_range cell (4 + c.args.shape.stride * c.args.half) (4 + c.args.shape.stride * c.args.shape.count)) c.extend_from_slice-3.new.self.items c.args.shape.stride c.args.shape.count c.args.half
    (ap (take 2) c.in-Ok.ensures.found.1) c.u16_bytes.ensures.len c.u16_bytes.ensures.is
    (ap (λ (z : List ℕ). slice_range z (4 + c.args.shape.stride * c.args.half) (4 + c.args.shape.stride * c.args.shape.count)) c.in-Ok.ensures.found.1)
    (elements_long c.args.image.now.bytes c.args.leaf c.args.shape c.tiles.ensures.tiles c.requires.shape) c.requires.within
    (c.in_ok-extend_from_slice-3.ensures.items ∙ ap (λ (z : List ℕ). z ++ slice_range cell (4 + c.args.shape.stride * c.args.half) (4 + c.args.shape.stride * c.args.shape.count)) (c.in_ok-extend_from_slice-2.ensures.items ∙ ap (λ (z : List ℕ). z ++ c.u16_bytes.result) (c.in_ok-extend_from_slice.ensures.items ∙ ap (λ (z : List ℕ). z ++ take 2 cell) c.new-text.ensures.items)))
