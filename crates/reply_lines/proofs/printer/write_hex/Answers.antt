use Rattle.std.proofs.Common.{[], ◌++◌, ◌≡◌, ◌∙◌, ap, refl, append_assoc, rules}
use Rattle.std.proofs.lemmas.List.{take-append-drop}
use Rattle.hex.specs.Hex.{encode_lower}
use Rattle.reply_lines.proofs.Written.{appends_no_digits, appends_both, encoded_in_parts}
use Rattle.reply_lines.proofs.printer.write_hex.Goals as goal

pub loop-rest-init : goal.loop-rest-init
loop-rest-init g c = ([], appends_no_digits (g.W.Write.contents c.args.writer.now), refl)

pub loop-rest-preserved : goal.loop-rest-preserved
loop-rest-preserved g c =
    let before = c.loop-rest.invariant in
    let piece = c.split_at.result.0.now in
    let cut : piece ++ c.split_at.result.1.now ≡ c.loop-rest.rest.now = search (rules, c.split_at.ensures.front, c.split_at.ensures.back, take-append-drop) in (
      before.0 ++ piece,
      appends_both (g.W.Write.contents c.args.writer.now) (g.W.Write.contents c.loop-rest.writer) (g.W.Write.contents c.write_piece.new.writer) (encode_lower before.0) (encode_lower piece) (encode_lower (before.0 ++ piece)) before.1 c.in_ok-write_piece.ensures (encoded_in_parts before.0 piece),
      append_assoc before.0 piece c.split_at.result.1.now ∙ ap (λ rest. before.0 ++ rest) cut ∙ before.2,
    )
