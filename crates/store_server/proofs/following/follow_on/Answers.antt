use Rattle.std.proofs.Common.{◌≡◌, Option, subst}
use Rattle.std.specs.Prelude.{IfNone}
use Rattle.std.proofs.lemmas.Result.{IfErr-weaker, on_ok_weaker}
use Rattle.refusals.proofs.Refused.{handed_on}
use Rattle.registry_lines.specs.Interpreters.{script_of}
use Rattle.store_server.specs.Following.{MayFlush}
use Rattle.store_server.specs.Steps.{IsFollowStep}
use Rattle.store_server.specs.declared.following.Stage.{Stage}
use Rattle.store_server.specs.declared.served_lines.LinesServed.{LinesServed}
use Rattle.store_server.specs.declared.served_lines.LinesServed.TheVariants.{Unwritten}
use Rattle.store_server.proofs.Followers.{may_flush_twice, no_flush, told_all, told_last, told_later, told_more}
use Rattle.store_server.proofs.following.follow_on.Goals as goal

pub loop-preserved-in-Told : goal.loop-preserved-in-Told
loop-preserved-in-Told g c =
    let O = g.O.Origin in
    let S = g.O.Start in
    let contents = g.W.Write.contents in
    let subject = c.args.subject.now in
    let l = c.loop in
    let i = l.invariant in
    let start = script_of c.args.script.now in
    let old = script_of l.script in
    let mid = script_of c.follow_step.new.script in
    let was = contents l.writer in
    let then = contents c.follow_step.new.writer in
    let quiet = c.follow_step.ensures.quiet in
    let one = subst (IsFollowStep S.start O.number O.hives subject l.at mid.session.seen was then) c.in-Told.is c.in_ok-next.ensures.told in (
      may_flush_twice S.sole S.start O.trees O.number O.hives start old mid i.0 (no_flush S.sole S.start O.trees O.number O.hives old mid quiet),
      λ new is t. i.1 new is (told_more S.sole S.start O.trees O.number O.hives subject old mid l.at c.in-Told.next was then quiet one new is t),
    )

pub returns-in-Ended-clause-told : goal.returns-in-Ended-clause-told
returns-in-Ended-clause-told g c =
    let O = g.O.Origin in
    let S = g.O.Start in
    let contents = g.W.Write.contents in
    let subject = c.args.subject.now in
    let l = c.loop in
    let i = l.invariant in
    let old = script_of l.script in
    let mid = script_of c.follow_step.new.script in
    let was = contents l.writer in
    let then = contents c.follow_step.new.writer in
    let quiet = c.follow_step.ensures.quiet in
    let one = subst (IsFollowStep S.start O.number O.hives subject l.at mid.session.seen was then) c.in-Ended.is c.in_ok-next.ensures.told in
    let is = contents c.tell.new.writer in
    on_ok_weaker c.tell.result (λ wrote. i.1 mid is (told_last S.sole S.start O.trees O.number O.hives subject old mid l.at was then c.in-Ended.last quiet one is wrote)) c.tell.ensures.told

pub returns-in_err-next-clause-unwritten : goal.returns-in_err-next-clause-unwritten
returns-in_err-next-clause-unwritten g c =
    let O = g.O.Origin in
    let S = g.O.Start in
    let l = c.loop in
    let i = l.invariant in
    let start = script_of c.args.script.now in
    let old = script_of l.script in
    let mid = script_of c.follow_step.new.script in
    let why = c.in_err-next.field-0.0 in
    let asked = may_flush_twice S.sole S.start O.trees O.number O.hives start old mid i.0 (no_flush S.sole S.start O.trees O.number O.hives old mid c.follow_step.ensures.quiet) in
    handed_on c.from_residual.result why (λ (end : LinesServed). (end ≡ Unwritten) × MayFlush S.sole S.start O.trees O.number O.hives start mid) c.from_residual.ensures.1 (c.in_err-next.ensures.unwritten, asked)

pub returns-in-Ended-clause-unwritten : goal.returns-in-Ended-clause-unwritten
returns-in-Ended-clause-unwritten g c =
    let O = g.O.Origin in
    let S = g.O.Start in
    let l = c.loop in
    let i = l.invariant in
    let start = script_of c.args.script.now in
    let old = script_of l.script in
    let mid = script_of c.follow_step.new.script in
    let asked = may_flush_twice S.sole S.start O.trees O.number O.hives start old mid i.0 (no_flush S.sole S.start O.trees O.number O.hives old mid c.follow_step.ensures.quiet) in
    IfErr-weaker c.tell.result (λ (end : LinesServed). end ≡ Unwritten) (λ (end : LinesServed). (end ≡ Unwritten) × MayFlush S.sole S.start O.trees O.number O.hives start mid) (λ end e. (e, asked)) c.tell.ensures.unwritten

pub returns-in_err-next-in-UpToDate-clause-unwritten : goal.returns-in_err-next-in-UpToDate-clause-unwritten
returns-in_err-next-in-UpToDate-clause-unwritten g c =
    let O = g.O.Origin in
    let S = g.O.Start in
    let l = c.loop in
    let i = l.invariant in
    let start = script_of c.args.script.now in
    let old = script_of l.script in
    let mid = script_of c.follow_step.new.script in
    let then = script_of c.next_stage.new.script in
    let why = c.in_err-next-in-UpToDate.field-0.0 in
    let asked = may_flush_twice S.sole S.start O.trees O.number O.hives start old mid i.0 (no_flush S.sole S.start O.trees O.number O.hives old mid c.follow_step.ensures.quiet) in
    let all = may_flush_twice S.sole S.start O.trees O.number O.hives start mid then asked c.next_stage.ensures.asks in
    handed_on c.from_residual-in_err-next-in-UpToDate.result why (λ (end : LinesServed). (end ≡ Unwritten) × MayFlush S.sole S.start O.trees O.number O.hives start then) c.from_residual-in_err-next-in-UpToDate.ensures.1 (c.in_err-next-in-UpToDate.ensures.unwritten, all)

pub loop-preserved : goal.loop-preserved
loop-preserved g c =
    let O = g.O.Origin in
    let S = g.O.Start in
    let l = c.loop in
    let i = l.invariant in
    let start = script_of c.args.script.now in
    let old = script_of l.script in
    let mid = script_of c.follow_step.new.script in
    let contents = g.W.Write.contents in
    let subject = c.args.subject.now in
    let then = script_of c.next_stage.new.script in
    let was = contents l.writer in
    let there = contents c.follow_step.new.writer in
    let flushed = contents c.next_stage.new.writer in
    let quiet = c.follow_step.ensures.quiet in
    let one = subst (IsFollowStep S.start O.number O.hives subject l.at mid.session.seen was there) c.in-UpToDate.is c.in_ok-next.ensures.told in
    let asked = may_flush_twice S.sole S.start O.trees O.number O.hives start old mid i.0 (no_flush S.sole S.start O.trees O.number O.hives old mid c.follow_step.ensures.quiet) in (
      may_flush_twice S.sole S.start O.trees O.number O.hives start mid then asked c.next_stage.ensures.asks,
      λ new is t. i.1 new is (told_later S.sole S.start O.trees O.number O.hives subject old mid then l.at was there flushed quiet one c.next_stage.ensures.asks c.in_ok-next-in-UpToDate.ensures.keeps new is t),
    )

pub returns-in-None-2-clause-told : goal.returns-in-None-2-clause-told
returns-in-None-2-clause-told g c =
    let O = g.O.Origin in
    let S = g.O.Start in
    let l = c.loop in
    let i = l.invariant in
    let start = script_of c.args.script.now in
    let old = script_of l.script in
    let mid = script_of c.follow_step.new.script in
    let contents = g.W.Write.contents in
    let subject = c.args.subject.now in
    let then = script_of c.next_stage.new.script in
    let was = contents l.writer in
    let there = contents c.follow_step.new.writer in
    let flushed = contents c.next_stage.new.writer in
    let quiet = c.follow_step.ensures.quiet in
    let one = subst (IsFollowStep S.start O.number O.hives subject l.at mid.session.seen was there) c.in-UpToDate.is c.in_ok-next.ensures.told in
    let same = subst (λ (next : Option Stage). IfNone next (then ≡ mid)) c.in-None-2.is c.in_ok-next-in-UpToDate.ensures.same in
    let last = c.tell-in-None-2 in
    let is = contents last.new.writer in
    on_ok_weaker last.result (λ wrote. i.1 then is (told_all S.sole S.start O.trees O.number O.hives subject old mid then l.at was there flushed quiet one same c.in_ok-next-in-UpToDate.ensures.keeps is wrote)) last.ensures.told

pub returns-in-None-2-clause-unwritten : goal.returns-in-None-2-clause-unwritten
returns-in-None-2-clause-unwritten g c =
    let O = g.O.Origin in
    let S = g.O.Start in
    let l = c.loop in
    let i = l.invariant in
    let start = script_of c.args.script.now in
    let old = script_of l.script in
    let mid = script_of c.follow_step.new.script in
    let then = script_of c.next_stage.new.script in
    let asked = may_flush_twice S.sole S.start O.trees O.number O.hives start old mid i.0 (no_flush S.sole S.start O.trees O.number O.hives old mid c.follow_step.ensures.quiet) in
    let all = may_flush_twice S.sole S.start O.trees O.number O.hives start mid then asked c.next_stage.ensures.asks in
    IfErr-weaker c.tell-in-None-2.result (λ (end : LinesServed). end ≡ Unwritten) (λ (end : LinesServed). (end ≡ Unwritten) × MayFlush S.sole S.start O.trees O.number O.hives start then) (λ end e. (e, all)) c.tell-in-None-2.ensures.unwritten
