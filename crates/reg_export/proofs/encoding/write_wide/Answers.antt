use Rattle.std.proofs.Common.{◌+◌, ◌++◌, ◌∷◌, [], ℕ, List, drop, get_or, sym, ap, ◌∙◌, refl, add-one, drop-cons}
use Rattle.std.specs.List.{flat_map}
use Rattle.std.specs.Int.{w16, to_le_bytes}
use Rattle.std.proofs.lemmas.List.{append-nil}
use Rattle.std.proofs.Math.ListN.{drop_of_length-le}
use Rattle.reply_lines.proofs.Written.{appends_both, appends_nothing}
use Rattle.key_walk.proofs.Rows.{on_ok}
use Rattle.reg_export.proofs.Blocks.{gathered}
use Rattle.reg_export.proofs.encoding.write_wide.Goals as goal

pub loop-byte-init : goal.loop-byte-init
loop-byte-init g c = (
  [],
  appends_nothing (g.W.Write.contents c.args.writer.now),
  ap (λ (items : List ℕ). items ++ flat_map (to_le_bytes w16) c.args.text.now) c.new-block.ensures,
)

pub loop-byte-preserved : goal.loop-byte-preserved
loop-byte-preserved g c =
    let before = c.loop-byte.invariant in
    let i = c.loop-byte.byte-index in
    let text = c.args.text.now in
    let byte = get_or text i 0 in
    let rest : List ℕ → List ℕ = flat_map (to_le_bytes w16) in
    let made = c.in_ok-make_room.ensures.written in (
      before.0 ++ made.0,
      appends_both _ _ _ before.0 made.0 (before.0 ++ made.0) before.1 made.1 refl,
      ap (λ (items : List ℕ). (before.0 ++ made.0) ++ (items ++ rest (drop (i + 1) text))) (c.add.ensures ∙ ap (λ (two : List ℕ). c.make_room.new.block.items ++ two) (c.to_le_bytes.ensures ∙ ap (to_le_bytes w16) c.from.ensures))
          ∙ gathered before.0 made.0 c.make_room.new.block.items (to_le_bytes w16 byte) (rest (drop (i + 1) text)) c.loop-byte.block.items (rest (drop i text)) made.2
          (ap rest (ap (λ k. byte ∷ drop k text) (add-one i) ∙ sym (drop-cons text i 0 c.loop-byte-test.true)))
          ∙ before.2,
    )

pub returns : goal.returns
returns g c =
    let before = c.loop-byte.invariant in
    let text = c.args.text.now in
    on_ok c.write_all.result (λ last. appends_both _ _ _ before.0 c.as_slice.result.now _ before.1 last
    (ap (λ (t : List ℕ). before.0 ++ t) (c.as_slice.ensures.value ∙ sym (append-nil c.loop-byte.block.items))
    ∙ ap (λ (left : List ℕ). before.0 ++ (c.loop-byte.block.items ++ flat_map (to_le_bytes w16) left)) (sym (drop_of_length-le text {i = c.loop-byte.byte-index} c.loop-byte-test.false)) ∙ before.2)) c.write_all.ensures.bytes
