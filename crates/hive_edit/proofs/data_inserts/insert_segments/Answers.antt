use Rattle.std.proofs.Common.{◌≡◌, ◌<◌, ◌+◌, ◌*◌, ◌-◌, ◌/◌, ◌^◌, [], ◌∷◌, ◌++◌, List, ℕ, length, take, drop, refl, sym, ap, subst, ◌∙◌, arith, length-take, length-drop, length-append}
use Rattle.std.specs.Prelude.{slice_range}
use Rattle.hive_emit.specs.Values.{InSegments}
use Rattle.hive_emit.proofs.Datas.{AllFull, full_piece, last_piece}
use Rattle.hive_records.specs.BigDataEncodings.{AreFull}
use Rattle.hive_savepoint.specs.Puts.{AddsCell}
use Rattle.hive_edit.specs.DataInserts.{Inserts}
use Rattle.hive_edit.proofs.CellChanges.{some_says}
use Rattle.hive_edit.proofs.DataInserts.{none_inserted, full_inserted, last_inserted}
use Rattle.hive_edit.proofs.data_inserts.insert_segments.Goals as goal

pub loop-index-init : goal.loop-index-init
loop-index-init c = record {
  added = subst (λ ps. Inserts c.args.image.now.bytes c.args.image.now.bytes (InSegments AllFull ps [])) (sym c.new-offsets.ensures.items) (none_inserted c.args.image.now.bytes);
  count = ap length c.new-offsets.ensures.items;
  sizes = λ cell len has. has;
  saved = refl;
}

pub loop-index-preserved : goal.loop-index-preserved
loop-index-preserved c =
    let text = c.args.data.now in
    let index = c.loop-index.index in
    let old = c.args.image.now.bytes in
    let mid = c.loop-index.image.bytes in
    let new = c.insert_cell.new.image.bytes in
    let at = c.in-Some.at in
    let piece : List ℕ = slice_range text (index * 16_344) (index * 16_344 + 16_344) in
    let long : length piece ≡ 16_344 = omega (arith, length-take (index * 16_344 + 16_344 - index * 16_344) (drop (index * 16_344) text), length-drop (index * 16_344) text) in
    record {
      added = subst (λ ps. Inserts old new (InSegments AllFull ps (take (16_344 * (index + 1)) text))) (sym c.in_ok-push.ensures.items)
          (subst (λ t. Inserts old new (InSegments AllFull (c.loop-index.offsets.items ++ at ∷ []) t)) (full_piece text index)
          (full_inserted old mid new c.loop-index.offsets.items (take (16_344 * index) text) at piece long
          (some_says c.in_ok-at.field-0 at (λ (at : ℕ). at < 2 ^ 32) c.in-Some.is c.in_ok-at.ensures.near) c.loop-index.invariant.added
          (some_says c.in_ok-at.field-0 at (λ (at : ℕ). AddsCell mid new at piece) c.in-Some.is c.in_ok-at.ensures.added)));
      count = omega (arith, ap length c.in_ok-push.ensures.items, length-append c.loop-index.offsets.items (at ∷ []), c.loop-index.invariant.count);
      sizes = λ cell len has. c.in_ok-at.ensures.sizes cell len (c.loop-index.invariant.sizes cell len has);
      saved = c.in_ok-at.ensures.saved ∙ c.loop-index.invariant.saved;
    }

pub returns-in_default-clause-sizes : goal.returns-in_default-clause-sizes
returns-in_default-clause-sizes c = λ cell len has. c.in_ok-at.ensures.sizes cell len (c.loop-index.invariant.sizes cell len has)

pub returns-in_default-2-clause-sizes : goal.returns-in_default-2-clause-sizes
returns-in_default-2-clause-sizes c = λ cell len has. c.in_ok-at-2.ensures.sizes cell len (c.loop-index.invariant.sizes cell len has)

pub returns-clause-sizes : goal.returns-clause-sizes
returns-clause-sizes c = λ cell len has. c.in_ok-at-2.ensures.sizes cell len (c.loop-index.invariant.sizes cell len has)

pub returns-clause-added : goal.returns-clause-added
returns-clause-added c =
    let text = c.args.data.now in
    let index = c.loop-index.index in
    let old = c.args.image.now.bytes in
    let mid = c.loop-index.image.bytes in
    let new = c.insert_cell-2.new.image.bytes in
    let at = c.in-Some-2.at in
    let from : ℕ = (length text - 1) / 16_344 * 16_344 in
    let last : List ℕ = take (length text - from) (drop from text) in
    let long : length last ≡ length text - from = omega (arith, length-take (length text - from) (drop from text), length-drop from text) in
    let index_is : index ≡ (length text - 1) / 16_344 = omega arith in
    let from_is : from ≡ 16_344 * index = omega (arith, index_is) in
    subst (λ ps. Inserts old new (InSegments AreFull ps text)) (sym c.in_ok-push-2.ensures.items)
    (subst (λ t. Inserts old new (InSegments AreFull (c.loop-index.offsets.items ++ at ∷ []) t)) (last_piece text index from from_is)
    (last_inserted old mid new c.loop-index.offsets.items (take (16_344 * index) text) at last (omega (arith, long)) (omega (arith, long))
    (some_says c.in_ok-at-2.field-0 at (λ (at : ℕ). at < 2 ^ 32) c.in-Some-2.is c.in_ok-at-2.ensures.near) c.loop-index.invariant.added
    (some_says c.in_ok-at-2.field-0 at (λ (at : ℕ). AddsCell mid new at last) c.in-Some-2.is c.in_ok-at-2.ensures.added)))
