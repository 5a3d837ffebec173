use Rattle.std.proofs.Common.{◌≡◌, ◌∷◌, [], List, Option, None, Some, ℕ, inl, refl, subst}
use Rattle.std.specs.Prelude.{IfNone, IfSome, OnOk}
use Rattle.std.specs.Io.KnownBytes.{Appends}
use Rattle.reply_lines.specs.declared.reply.ReplyLine.{ReplyLine}
use Rattle.script_runner.specs.Scripts.{line_asked}
use Rattle.registry_lines.specs.Interpreters.{script_of}
use Rattle.registry_lines.specs.Scripts.{Script}
use Rattle.served_replies.specs.ServedReplies.{served_texts}
use Rattle.served_replies.specs.declared.reply.ServedReply.{ServedReply}
use Rattle.served_replies.specs.declared.reply.ServedReply.TheVariants as told
use Rattle.store_server.specs.OwnLines.{AnswersTold}
use Rattle.store_server.specs.Served.{AnswersBytes}
use Rattle.store_server.specs.declared.served_lines.LinesServed.TheVariants.{OutOfMemory, Over}
use Rattle.store_server.proofs.Serving.{serves_nothing, serves_unwritten}
use Rattle.store_server.proofs.Texts.{append_one}
use Rattle.store_server.proofs.served_lines.serve_line.Goals as goal

pub returns-in-Err-OutOfMemory-clause-ended : goal.returns-in-Err-OutOfMemory-clause-ended
returns-in-Err-OutOfMemory-clause-ended g c =
    let O = g.O.Origin in
    let S = g.O.Start in
    let saves = g.B.BackupFolder.holds in
    let old = script_of c.args.session.now.script in
    let was = g.W.Write.contents c.args.writer.now in
    serves_nothing saves S.store S.sole S.start O.trees O.number O.hives old old was OutOfMemory refl

pub returns-in-Err : goal.returns-in-Err
returns-in-Err g c =
    let O = g.O.Origin in
    let S = g.O.Start in
    let saves = g.B.BackupFolder.holds in
    let old = script_of c.args.session.now.script in
    let was = g.W.Write.contents c.args.writer.now in
    record { served = tt; ended = serves_nothing saves S.store S.sole S.start O.trees O.number O.hives old old was Over refl }

pub returns-in-Ok-Some-clause-ended : goal.returns-in-Ok-Some-clause-ended
returns-in-Ok-Some-clause-ended g c =
    let O = g.O.Origin in
    let S = g.O.Start in
    let saves = g.B.BackupFolder.holds in
    let old = script_of c.args.session.now.script in
    let was = g.W.Write.contents c.args.writer.now in
    let new = script_of c.reply_to.new.self.script in
    let is : c.in-Ok-Some.field-0 ≡ Some c.in-Ok-Some.reply = cc (c.in-Ok-Some.field-0-is, c.in-Ok-Some.reply-is) in
    let answers = subst (λ made. IfSome made (λ reported. AnswersBytes S.sole S.start O.trees O.number O.hives old c.bytes.result.now reported new)) is c.in-Ok-Some.ensures.some in
    serves_unwritten saves S.store S.sole S.start O.trees O.number O.hives old new was (g.W.Write.contents c.write_reply.new.writer) c.bytes.result.now (told.Line c.in-Ok-Some.reply ∷ []) (inl (c.in-Ok-Some.reply, answers, refl))

pub returns-clause-ended : goal.returns-clause-ended
returns-clause-ended g c =
    let O = g.O.Origin in
    let S = g.O.Start in
    let saves = g.B.BackupFolder.holds in
    let old = script_of c.args.session.now.script in
    let was = g.W.Write.contents c.args.writer.now in
    serves_nothing saves S.store S.sole S.start O.trees O.number O.hives old (script_of c.reply_to.new.self.script) was OutOfMemory c.in-Err-reply_to.ensures.err

pub returns-in-Ok-write_reply-clause-served : goal.returns-in-Ok-write_reply-clause-served
returns-in-Ok-write_reply-clause-served g c =
    let O = g.O.Origin in
    let S = g.O.Start in
    let old = script_of c.args.session.now.script in
    let new = script_of c.reply_to.new.self.script in
    let reply = told.Line c.in-Ok-Some.reply in
    let is : c.in-Ok-Some.field-0 ≡ Some c.in-Ok-Some.reply = cc (c.in-Ok-Some.field-0-is, c.in-Ok-Some.reply-is) in
    let answers = subst (λ made. IfSome made (λ reported. AnswersBytes S.sole S.start O.trees O.number O.hives old c.bytes.result.now reported new)) is c.in-Ok-Some.ensures.some in
    (c.bytes.result.now, reply ∷ [], inl (c.in-Ok-Some.reply, answers, refl), append_one O.hives (g.W.Write.contents c.args.writer.now) (g.W.Write.contents c.write_reply.new.writer) reply c.in-Ok-write_reply.ensures)

pub returns-in-Ok-None-clause-served : goal.returns-in-Ok-None-clause-served
returns-in-Ok-None-clause-served g c =
    let O = g.O.Origin in
    let S = g.O.Start in
    let saves = g.B.BackupFolder.holds in
    let old = script_of c.args.session.now.script in
    let new = script_of c.reply_to.new.self.script in
    let same = (subst (λ (made : Option ReplyLine). IfNone made ((line_asked c.bytes.result.now ≡ None) × (new ≡ old))) c.in-Ok-None.field-0-is c.in-Ok-None.ensures.none).1 in
    subst (λ (s : Script). OnOk c.serve_own_line.result ((bytes : List ℕ) × (replies : List ServedReply) × AnswersTold saves S.store S.sole S.start O.trees O.number O.hives s bytes replies (script_of c.serve_own_line.new.session.script)
    × Appends (g.W.Write.contents c.args.writer.now) (g.W.Write.contents c.serve_own_line.new.writer) (served_texts O.hives replies))) same c.serve_own_line.ensures.served
