use Rattle.std.proofs.Common.{ℕ, ◌++◌, codes, length, subst}
use Rattle.std.proofs.lemmas.Result.{on_ok_weaker}
use Rattle.std.specs.List.{filter, flat_map}
use Rattle.std.specs.Io.KnownBytes.{Appends}
use Rattle.reply_lines.proofs.Written.{appends_more}
use Rattle.served_replies.specs.ServedReplies.{head_text, is_named, line_in, unit_in, unit_text}
use Rattle.served_replies.proofs.changes.write_ops.Goals as goal

pub returns : goal.returns
returns g c =
    let ops = c.args.ops.now in
    let head = head_text c.args.number c.args.moment (length (filter (is_named c.args.named) ops)) in
    let unit = unit_text (unit_in c.args.named ops) in
    let front : Appends (g.W.Write.contents c.args.writer.now) (g.W.Write.contents c.write_head.new.writer) head =
    subst (λ (n : ℕ). Appends (g.W.Write.contents c.args.writer.now) (g.W.Write.contents c.write_head.new.writer) (head_text c.args.number c.args.moment n)) c.count_named.ensures c.in_ok-write_head.ensures in
    on_ok_weaker c.write_lines.result (λ last.
    appends_more _ _ _ (head ++ unit ++ codes "\n") (flat_map (line_in c.args.named) ops)
    (appends_more _ _ _ (head ++ unit) (codes "\n")
    (appends_more _ _ _ head unit front c.in_ok-write_unit.ensures)
    c.in_ok-write_all.ensures.bytes) last)
    c.write_lines.ensures
