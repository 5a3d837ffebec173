use Rattle.std.proofs.Common.{◌≡◌, ◌∷◌, [], List, subst, sym}
use Rattle.std.proofs.lemmas.Result.{IfErr-weaker, on_ok_weaker}
use Rattle.refusals.specs.declared.refusal.Refusal.TheVariants.{NoMemory}
use Rattle.reply_lines.specs.declared.reply.ReplyLine.TheVariants.{Refused}
use Rattle.script_syntax.specs.declared.served_line.ServedLine.{ServedLine}
use Rattle.served_replies.specs.declared.reply.ServedReply.{ServedReply}
use Rattle.served_replies.specs.declared.reply.ServedReply.TheVariants as told
use Rattle.registry_lines.specs.Interpreters.{script_of}
use Rattle.store_server.specs.Following.{MayFlush}
use Rattle.store_server.specs.OwnLines.{AnswersOwn, Watches}
use Rattle.store_server.specs.declared.served_lines.LinesServed.{LinesServed}
use Rattle.store_server.specs.declared.served_lines.LinesServed.TheVariants.{Unwritten}
use Rattle.store_server.specs.declared.subject.Subject.TheVariants.{All}
use Rattle.store_server.proofs.Followers.{follows_none}
use Rattle.store_server.proofs.own_lines.answer_own.Goals as goal

pub returns-in-Backup-clause-told : goal.returns-in-Backup-clause-told
returns-in-Backup-clause-told g c =
    let O = g.O.Origin in
    let S = g.O.Start in
    let saves = g.B.BackupFolder.holds in
    let replies = c.back_up-reply.result ∷ [] in
    let own = subst (λ (l : ServedLine). AnswersOwn saves S.store S.sole S.start O.trees O.number O.hives (script_of c.args.script.now) l replies (script_of c.back_up-reply.new.script)) (sym c.in-Backup.is) c.back_up-reply.ensures in
    on_ok_weaker c.tell.result (λ wrote. (replies, own, wrote)) c.tell.ensures.told

pub returns-in-Backup-clause-unwritten : goal.returns-in-Backup-clause-unwritten
returns-in-Backup-clause-unwritten g c =
    let O = g.O.Origin in
    let S = g.O.Start in
    let saves = g.B.BackupFolder.holds in
    let replies = c.back_up-reply.result ∷ [] in
    let old = script_of c.args.script.now in
    let new = script_of c.back_up-reply.new.script in
    let own = subst (λ (l : ServedLine). AnswersOwn saves S.store S.sole S.start O.trees O.number O.hives old l replies new) (sym c.in-Backup.is) c.back_up-reply.ensures in
    IfErr-weaker c.tell.result (λ (end : LinesServed). end ≡ Unwritten) (λ (end : LinesServed). (end ≡ Unwritten) × (told : List ServedReply) × AnswersOwn saves S.store S.sole S.start O.trees O.number O.hives old c.args.line told new) (λ end e. (e, replies, own)) c.tell.ensures.unwritten

pub returns-in-Follow-clause-unwritten : goal.returns-in-Follow-clause-unwritten
returns-in-Follow-clause-unwritten g c =
    let O = g.O.Origin in
    let S = g.O.Start in
    let saves = g.B.BackupFolder.holds in
    let old = script_of c.args.script.now in
    let new = script_of c.follow.new.script in
    let answers = λ (l : ServedLine) (replies : List ServedReply). AnswersOwn saves S.store S.sole S.start O.trees O.number O.hives old l replies new in
    let none = told.Line (Refused NoMemory) ∷ [] in
    IfErr-weaker c.follow.result (λ (end : LinesServed). (end ≡ Unwritten) × MayFlush S.sole S.start O.trees O.number O.hives old new) (λ (end : LinesServed). (end ≡ Unwritten) × (replies : List ServedReply) × answers c.args.line replies) (λ end e. (e.0, none, subst (λ (l : ServedLine). answers l none) (sym c.in-Follow.is) ([], follows_none S.sole S.start O.trees O.number O.hives All old c.in-Follow.number new e.1))) c.follow.ensures.unwritten

pub returns-in-Watch-clause-unwritten : goal.returns-in-Watch-clause-unwritten
returns-in-Watch-clause-unwritten g c =
    let O = g.O.Origin in
    let S = g.O.Start in
    let saves = g.B.BackupFolder.holds in
    let old = script_of c.args.script.now in
    let new = script_of c.watch.new.script in
    let answers = λ (l : ServedLine) (replies : List ServedReply). AnswersOwn saves S.store S.sole S.start O.trees O.number O.hives old l replies new in
    IfErr-weaker c.watch.result (λ (end : LinesServed). (end ≡ Unwritten) × (replies : List ServedReply) × Watches S.sole S.start O.trees O.number O.hives old c.in-Watch.key_ref replies new) (λ (end : LinesServed). (end ≡ Unwritten) × (replies : List ServedReply) × answers c.args.line replies) (λ end e. (e.0, e.1, subst (λ (l : ServedLine). answers l e.1) (sym c.in-Watch.is) e.2)) c.watch.ensures.unwritten

pub returns-in-Stats-clause-told : goal.returns-in-Stats-clause-told
returns-in-Stats-clause-told g c =
    let O = g.O.Origin in
    let S = g.O.Start in
    let saves = g.B.BackupFolder.holds in
    let replies = c.stats-reply.result ∷ [] in
    let own = subst (λ (l : ServedLine). AnswersOwn saves S.store S.sole S.start O.trees O.number O.hives (script_of c.args.script.now) l replies (script_of c.stats-reply.new.script)) (sym c.in-Stats.is) c.stats-reply.ensures in
    on_ok_weaker c.tell-in-Stats.result (λ wrote. (replies, own, wrote)) c.tell-in-Stats.ensures.told

pub returns-in-Stats-clause-unwritten : goal.returns-in-Stats-clause-unwritten
returns-in-Stats-clause-unwritten g c =
    let O = g.O.Origin in
    let S = g.O.Start in
    let saves = g.B.BackupFolder.holds in
    let replies = c.stats-reply.result ∷ [] in
    let old = script_of c.args.script.now in
    let new = script_of c.stats-reply.new.script in
    let own = subst (λ (l : ServedLine). AnswersOwn saves S.store S.sole S.start O.trees O.number O.hives old l replies new) (sym c.in-Stats.is) c.stats-reply.ensures in
    IfErr-weaker c.tell-in-Stats.result (λ (end : LinesServed). end ≡ Unwritten) (λ (end : LinesServed). (end ≡ Unwritten) × (told : List ServedReply) × AnswersOwn saves S.store S.sole S.start O.trees O.number O.hives old c.args.line told new) (λ end e. (e, replies, own)) c.tell-in-Stats.ensures.unwritten
