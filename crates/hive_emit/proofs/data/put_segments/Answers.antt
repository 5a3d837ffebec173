use Rattle.std.proofs.Common.{◌≡◌, ◌<◌, ◌≤◌, ◌+◌, ◌*◌, ◌-◌, ◌/◌, [], ◌∷◌, ◌++◌, List, ℕ, length, take, drop, sym, ap, subst, arith, length-take, length-drop, length-append}
use Rattle.std.specs.Prelude.{slice_range}
use Rattle.hive_emit.specs.CellWrites.{Makes, cell_cost}
use Rattle.hive_emit.specs.Values.{InSegments}
use Rattle.hive_records.specs.BigDataEncodings.{AreFull}
use Rattle.hive_emit.proofs.Datas.{AllFull, no_segments, full_more, last_more, full_piece, last_piece}
use Rattle.hive_emit.specs.CellCosts.{segments_cost}
use Rattle.hive_emit.proofs.NewCells.{none_used, uses_more, both_used, lands_used, stops_later}
use Rattle.hive_emit.proofs.data.put_segments.Goals as goal

pub loop-index-init : goal.loop-index-init
loop-index-init c = record { made = subst (λ ps. Makes c.args.image.now.bytes c.args.image.now.bytes (InSegments AllFull ps [])) (sym c.new-cell_offsets.ensures.items) (no_segments c.args.image.now.bytes); uses = none_used c.args.image.now.bytes; count = ap length c.new-cell_offsets.ensures.items }

pub loop-index-preserved : goal.loop-index-preserved
loop-index-preserved c =
    let long : length (slice_range c.args.content.now (c.loop-index.index * 16_344) (c.loop-index.index * 16_344 + 16_344)) ≡ 16_344 =
    omega (arith, length-take (c.loop-index.index * 16_344 + 16_344 - c.loop-index.index * 16_344) (drop (c.loop-index.index * 16_344) c.args.content.now), length-drop (c.loop-index.index * 16_344) c.args.content.now) in
    record {
      made = subst (λ ps. Makes c.args.image.now.bytes c.put_cell.new.image.bytes (InSegments AllFull ps (take (16_344 * (c.loop-index.index + 1)) c.args.content.now))) (sym c.in_ok-push.ensures.items)
          (subst (λ t. Makes c.args.image.now.bytes c.put_cell.new.image.bytes (InSegments AllFull (c.loop-index.cell_offsets.items ++ c.in-Ok.at ∷ []) t)) (full_piece c.args.content.now c.loop-index.index)
          (full_more c.args.image.now.bytes c.loop-index.image.bytes c.put_cell.new.image.bytes c.loop-index.cell_offsets.items (take (16_344 * c.loop-index.index) c.args.content.now) c.in-Ok.at (slice_range c.args.content.now (c.loop-index.index * 16_344) (c.loop-index.index * 16_344 + 16_344)) long c.loop-index.invariant.made c.in-Ok.ensures.0));
      uses = uses_more c.args.image.now.bytes c.put_cell.new.image.bytes (16_352 * c.loop-index.index + cell_cost 16_344) (16_352 * (c.loop-index.index + 1)) (omega arith) (both_used c.args.image.now.bytes c.loop-index.image.bytes c.put_cell.new.image.bytes (16_352 * c.loop-index.index) (cell_cost 16_344) c.loop-index.invariant.uses (lands_used c.loop-index.image.bytes c.put_cell.new.image.bytes c.in-Ok.at (cell_cost 16_344) c.in-Ok.ensures.1));
      count = omega (arith, ap length c.in_ok-push.ensures.items, length-append c.loop-index.cell_offsets.items (c.in-Ok.at ∷ []), c.loop-index.invariant.count);
    }

pub returns-clause-made : goal.returns-clause-made
returns-clause-made c =
    let from : ℕ = (length c.args.content.now - 1) / 16_344 * 16_344 in
    let last : List ℕ = take (length c.args.content.now - from) (drop from c.args.content.now) in
    let long : length last ≡ length c.args.content.now - from = omega (arith, length-take (length c.args.content.now - from) (drop from c.args.content.now), length-drop from c.args.content.now) in
    let index : c.loop-index.index ≡ (length c.args.content.now - 1) / 16_344 = omega arith in
    let from_is : from ≡ 16_344 * c.loop-index.index = omega (arith, index) in
    subst (λ ps. Makes c.args.image.now.bytes c.put_cell-2.new.image.bytes (InSegments AreFull ps c.args.content.now)) (sym c.in_ok-push-2.ensures.items)
    (subst (λ t. Makes c.args.image.now.bytes c.put_cell-2.new.image.bytes (InSegments AreFull (c.loop-index.cell_offsets.items ++ c.in-Ok-put_cell.at ∷ []) t)) (last_piece c.args.content.now c.loop-index.index from from_is)
    (last_more c.args.image.now.bytes c.loop-index.image.bytes c.put_cell-2.new.image.bytes c.loop-index.cell_offsets.items (take (16_344 * c.loop-index.index) c.args.content.now) c.in-Ok-put_cell.at last (omega (arith, long)) (omega (arith, long)) c.loop-index.invariant.made c.in-Ok-put_cell.ensures.0))

pub returns-in-Err-clause-stops : goal.returns-in-Err-clause-stops
returns-in-Err-clause-stops c = stops_later c.args.image.now.bytes c.loop-index.image.bytes (16_352 * c.loop-index.index) (cell_cost 16_344) (segments_cost (length c.args.content.now)) c.in-Err.why (omega (arith, c.loop-index-test.true)) c.loop-index.invariant.uses c.in-Err.ensures

-- the last segment
last_most : (len full last : ℕ) → 0 < len → full ≡ (len - 1) / 16_344 → last ≡ len - full * 16_344 → 16_352 * full + cell_cost (last + 4) ≤ segments_cost len
last_most len full last some full_is last_is = omega (arith, some, full_is, last_is)

pub returns-in-Err-put_cell-clause-stops : goal.returns-in-Err-put_cell-clause-stops
returns-in-Err-put_cell-clause-stops c =
    let from : ℕ = (length c.args.content.now - 1) / 16_344 * 16_344 in
    let last : List ℕ = take (length c.args.content.now - from) (drop from c.args.content.now) in
    let long : length last ≡ length c.args.content.now - from = omega (arith, length-take (length c.args.content.now - from) (drop from c.args.content.now), length-drop from c.args.content.now) in
    let index : c.loop-index.index ≡ (length c.args.content.now - 1) / 16_344 = omega arith in
    stops_later c.args.image.now.bytes c.loop-index.image.bytes (16_352 * c.loop-index.index) (cell_cost (length last + 4)) (segments_cost (length c.args.content.now)) c.in-Err-put_cell.why (last_most (length c.args.content.now) c.loop-index.index (length last) c.requires index (omega (arith, long, index))) c.loop-index.invariant.uses c.in-Err-put_cell.ensures

pub returns-clause-uses : goal.returns-clause-uses
returns-clause-uses c =
    let from : ℕ = (length c.args.content.now - 1) / 16_344 * 16_344 in
    let last : List ℕ = take (length c.args.content.now - from) (drop from c.args.content.now) in
    let long : length last ≡ length c.args.content.now - from = omega (arith, length-take (length c.args.content.now - from) (drop from c.args.content.now), length-drop from c.args.content.now) in
    let index : c.loop-index.index ≡ (length c.args.content.now - 1) / 16_344 = omega arith in
    uses_more c.args.image.now.bytes c.put_cell-2.new.image.bytes (16_352 * c.loop-index.index + cell_cost (length last + 4)) (segments_cost (length c.args.content.now)) (last_most (length c.args.content.now) c.loop-index.index (length last) c.requires index (omega (arith, long, index)))
    (both_used c.args.image.now.bytes c.loop-index.image.bytes c.put_cell-2.new.image.bytes (16_352 * c.loop-index.index) (cell_cost (length last + 4)) c.loop-index.invariant.uses (lands_used c.loop-index.image.bytes c.put_cell-2.new.image.bytes c.in-Ok-put_cell.at (cell_cost (length last + 4)) c.in-Ok-put_cell.ensures.1))
