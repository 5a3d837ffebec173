use Rattle.std.proofs.Common.{◌+◌, ◌++◌, ◌∷◌, [], ℕ, List, drop, get_or, sym, ap, ◌∙◌, refl, add-one, drop-cons}
use Rattle.std.specs.List.{flat_map}
use Rattle.std.proofs.lemmas.List.{append-nil}
use Rattle.std.proofs.Math.ListN.{drop_of_length-le}
use Rattle.key_walk.proofs.Rows.{on_ok}
use Rattle.reg_export.specs.RegTexts.{next_byte, at_columns}
use Rattle.reg_export.specs.SinkLaws.{prints_both, prints_nothing}
use Rattle.reg_export.proofs.Blocks.{gathered}
use Rattle.reg_export.proofs.reg_data.write_next_bytes.Goals as goal

pub loop-byte-init : goal.loop-byte-init
loop-byte-init g c = (
  [],
  prints_nothing c.args.encoding (g.W.Write.contents c.args.writer.now),
  ap (λ (items : List ℕ). items ++ flat_map next_byte (at_columns c.args.column c.args.bytes.now)) c.new-block.ensures,
)

pub loop-byte-preserved : goal.loop-byte-preserved
loop-byte-preserved g c =
    let before = c.loop-byte.invariant in
    let i = c.loop-byte.byte-index in
    let bytes = c.args.bytes.now in
    let byte = get_or bytes i 0 in
    let column = c.loop-byte.column in
    let text = next_byte (column, byte) in
    let rest : List ℕ → ℕ → List ℕ = λ left next. flat_map next_byte (at_columns next left) in
    let made = c.in_ok-make_room.ensures.printed in
    let after = c.column_after-column.result in (
      before.0 ++ made.0,
      prints_both c.args.encoding _ _ _ _ _ _ before.1 made.1 refl,
      ap (λ (items : List ℕ). (before.0 ++ made.0) ++ (items ++ rest (drop (i + 1) bytes) after)) c.add_next_byte.ensures
          ∙ gathered before.0 made.0 c.make_room.new.block.items text (rest (drop (i + 1) bytes) after) c.loop-byte.block.items (rest (drop i bytes) column) made.2
          (ap (λ next. text ++ rest (drop (i + 1) bytes) next) c.column_after-column.ensures ∙ ap (λ (left : List ℕ). rest left column) (ap (λ k. byte ∷ drop k bytes) (add-one i) ∙ sym (drop-cons bytes i 0 c.loop-byte-test.true)))
          ∙ before.2,
    )

pub returns : goal.returns
returns g c =
    let before = c.loop-byte.invariant in
    let bytes = c.args.bytes.now in
    on_ok c.write_text.result (λ last. prints_both c.args.encoding _ _ _ _ _ _ before.1 last
    (ap (λ (t : List ℕ). before.0 ++ t) (c.as_slice.ensures.value ∙ sym (append-nil c.loop-byte.block.items))
    ∙ ap (λ (left : List ℕ). before.0 ++ (c.loop-byte.block.items ++ flat_map next_byte (at_columns c.loop-byte.column left))) (sym (drop_of_length-le bytes {i = c.loop-byte.byte-index} c.loop-byte-test.false)) ∙ before.2)) c.write_text.ensures
