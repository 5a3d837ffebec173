use Rattle.std.proofs.Common.{◌++◌, codes}
use Rattle.std.proofs.lemmas.Result.{on_ok_weaker}
use Rattle.std.specs.Fmt.{decimal}
use Rattle.reply_lines.specs.Replies.{data_text}
use Rattle.reply_lines.proofs.Written.{appends_more}
use Rattle.served_replies.specs.ServedReplies.{value_text}
use Rattle.served_replies.proofs.changes.write_set.Goals as goal

pub returns : goal.returns
returns g c =
    let head = value_text c.args.hive c.args.path.now c.args.name.now in
    let kind = decimal c.args.kind in
    let contents = data_text c.args.bytes.now in
    on_ok_weaker c.write_all-2.result (λ last.
    appends_more _ _ _ (head ++ kind ++ codes " " ++ contents) (codes "\n")
    (appends_more _ _ _ (head ++ kind ++ codes " ") contents
    (appends_more _ _ _ (head ++ kind) (codes " ")
    (appends_more _ _ _ head kind c.in_ok-write_value.ensures c.in_ok-write.ensures.bytes)
    c.in_ok-write_all.ensures.bytes) c.in_ok-write_data.ensures) last)
    c.write_all-2.ensures.bytes
