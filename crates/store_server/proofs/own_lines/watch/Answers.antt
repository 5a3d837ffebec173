use Rattle.std.proofs.Common.{◌≡◌, ◌∷◌, [], List, inl, inr, ap, subst, ℕ}
use Rattle.std.specs.Prelude.{◌<◌}
use Rattle.std.proofs.lemmas.Result.{IfErr-weaker, on_ok_weaker}
use Rattle.refusals.proofs.Refused.{handed_on}
use Rattle.refusals.specs.declared.refusal.Refusal.TheVariants.{NoMemory}
use Rattle.reply_lines.specs.declared.reply.ReplyLine.TheVariants.{Refused}
use Rattle.served_replies.specs.declared.reply.ServedReply.{ServedReply}
use Rattle.served_replies.specs.declared.reply.ServedReply.TheVariants as told
use Rattle.registry_lines.specs.Interpreters.{script_of}
use Rattle.store_server.specs.Following.{FollowsOn, MayFlush}
use Rattle.store_server.specs.OwnLines.{MayNotWatch, Watches, last_seen}
use Rattle.store_server.specs.declared.served_lines.LinesServed.{LinesServed}
use Rattle.store_server.specs.declared.served_lines.LinesServed.TheVariants.{Unwritten}
use Rattle.store_server.specs.declared.subject.Subject.{Subject}
use Rattle.store_server.specs.declared.subject.Subject.TheVariants.{Key}
use Rattle.store_server.proofs.Followers.{asks_nothing_self, no_flush, watches_none}
use Rattle.store_server.proofs.Texts.{append_texts}
use Rattle.store_server.proofs.own_lines.watch.Goals as goal

pub returns-in-Err-clause-told : goal.returns-in-Err-clause-told
returns-in-Err-clause-told g c =
    let why = c.in-Err.refusal in
    let may_not = subst (λ (n : ℕ). MayNotWatch n c.args.key_ref why) c.hives.ensures c.in-Err.ensures.refused in
    let reply = c.refused.result in
    on_ok_weaker c.tell.result (λ wrote. (reply ∷ [], inl (why, may_not, asks_nothing_self (script_of c.args.script.now), ap (λ (r : ServedReply). r ∷ []) c.refused.ensures), wrote)) c.tell.ensures.told

pub returns-in-Err-snapshot-clause-told : goal.returns-in-Err-snapshot-clause-told
returns-in-Err-snapshot-clause-told g c =
    let reply = c.refused-in-Err-snapshot.result in
    let ensures = c.in-Err-snapshot.ensures in
    on_ok_weaker c.tell-in-Err-snapshot.result (λ wrote. (reply ∷ [], inl (c.in-Err-snapshot.refusal, inl ensures.refused, ensures.quiet, ap (λ (r : ServedReply). r ∷ []) c.refused-in-Err-snapshot.ensures), wrote)) c.tell-in-Err-snapshot.ensures.told

pub returns-in-Err-clause-unwritten : goal.returns-in-Err-clause-unwritten
returns-in-Err-clause-unwritten g c =
    let O = g.O.Origin in
    let S = g.O.Start in
    let old = script_of c.args.script.now in
    let why = c.in-Err.refusal in
    let may_not = subst (λ (n : ℕ). MayNotWatch n c.args.key_ref why) c.hives.ensures c.in-Err.ensures.refused in
    let reply = c.refused.result in
    IfErr-weaker c.tell.result (λ (end : LinesServed). end ≡ Unwritten) (λ (end : LinesServed). (end ≡ Unwritten) × (told : List ServedReply) × Watches S.sole S.start O.trees O.number O.hives old c.args.key_ref told old) (λ end e. (e, reply ∷ [], inl (why, may_not, asks_nothing_self old, ap (λ (r : ServedReply). r ∷ []) c.refused.ensures))) c.tell.ensures.unwritten

pub returns-in-Err-snapshot-clause-unwritten : goal.returns-in-Err-snapshot-clause-unwritten
returns-in-Err-snapshot-clause-unwritten g c =
    let O = g.O.Origin in
    let S = g.O.Start in
    let old = script_of c.args.script.now in
    let new = script_of c.snapshot.new.self in
    let reply = c.refused-in-Err-snapshot.result in
    let ensures = c.in-Err-snapshot.ensures in
    IfErr-weaker c.tell-in-Err-snapshot.result (λ (end : LinesServed). end ≡ Unwritten) (λ (end : LinesServed). (end ≡ Unwritten) × (told : List ServedReply) × Watches S.sole S.start O.trees O.number O.hives old c.args.key_ref told new) (λ end e. (e, reply ∷ [], inl (c.in-Err-snapshot.refusal, inl ensures.refused, ensures.quiet, ap (λ (r : ServedReply). r ∷ []) c.refused-in-Err-snapshot.ensures))) c.tell-in-Err-snapshot.ensures.unwritten

pub returns-clause-told : goal.returns-clause-told
returns-clause-told g c =
    let O = g.O.Origin in
    let S = g.O.Start in
    let contents = g.W.Write.contents in
    let mid = script_of c.snapshot.new.self in
    let new = script_of c.follow.new.script in
    let number = c.in-Ok-snapshot.snapshot.number in
    let last = c.in-Ok-snapshot.ensures.snapshot.number_is in
    let key = c.in-Ok.ensures.subject in
    let within = subst (λ (n : ℕ). c.args.key_ref.hive < n) c.hives.ensures key.3 in
    on_ok_weaker c.follow.result (λ f. (
      told.Watching number ∷ f.1,
      inr (
        key.0,
        mid,
        f.0,
        f.1,
        key.1,
        within,
        c.in-Ok-snapshot.ensures.quiet,
        subst (λ (n : ℕ). FollowsOn S.sole S.start O.trees O.number O.hives (Key c.args.key_ref.hive key.0) mid n f.0 f.1 new) last (subst (λ (s : Subject). FollowsOn S.sole S.start O.trees O.number O.hives s mid number f.0 f.1 new) key.2 f.2),
        ap (λ (n : ℕ). told.Watching n ∷ f.1) last,
      ),
      append_texts O.hives (contents c.args.writer.now) (contents c.tell-2.new.writer) (contents c.follow.new.writer) (told.Watching number ∷ []) f.1 c.in_ok-tell.ensures.told f.3,
    )) c.follow.ensures.told

pub returns-clause-unwritten : goal.returns-clause-unwritten
returns-clause-unwritten g c =
    let O = g.O.Origin in
    let S = g.O.Start in
    let old = script_of c.args.script.now in
    let mid = script_of c.snapshot.new.self in
    let new = script_of c.follow.new.script in
    let key = c.in-Ok.ensures.subject in
    let within = subst (λ (n : ℕ). c.args.key_ref.hive < n) c.hives.ensures key.3 in
    IfErr-weaker c.follow.result (λ (end : LinesServed). (end ≡ Unwritten) × MayFlush S.sole S.start O.trees O.number O.hives mid new) (λ (end : LinesServed). (end ≡ Unwritten) × (told : List ServedReply) × Watches S.sole S.start O.trees O.number O.hives old c.args.key_ref told new) (λ end e. (e.0, told.Watching (last_seen O.number mid) ∷ told.Line (Refused NoMemory) ∷ [], watches_none S.sole S.start O.trees O.number O.hives old mid new c.args.key_ref key.0 key.1 within c.in-Ok-snapshot.ensures.quiet e.1)) c.follow.ensures.unwritten

pub returns-in_err-tell-clause-unwritten : goal.returns-in_err-tell-clause-unwritten
returns-in_err-tell-clause-unwritten g c =
    let O = g.O.Origin in
    let S = g.O.Start in
    let old = script_of c.args.script.now in
    let mid = script_of c.snapshot.new.self in
    let key = c.in-Ok.ensures.subject in
    let within = subst (λ (n : ℕ). c.args.key_ref.hive < n) c.hives.ensures key.3 in
    let none = told.Watching (last_seen O.number mid) ∷ told.Line (Refused NoMemory) ∷ [] in
    let watches = watches_none S.sole S.start O.trees O.number O.hives old mid mid c.args.key_ref key.0 key.1 within c.in-Ok-snapshot.ensures.quiet (no_flush S.sole S.start O.trees O.number O.hives mid mid (asks_nothing_self mid)) in
    handed_on c.from_residual.result c.in_err-tell.field-0.0 (λ (end : LinesServed). (end ≡ Unwritten) × (replies : List ServedReply) × Watches S.sole S.start O.trees O.number O.hives old c.args.key_ref replies mid) c.from_residual.ensures.1 (c.in_err-tell.ensures.unwritten, none, watches)
