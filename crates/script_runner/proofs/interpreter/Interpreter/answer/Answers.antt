use Rattle.std.proofs.Common.{Ok, refl, ap, sym, subst}
use Rattle.script_syntax.specs.declared.line.Line.TheVariants.{At, Session, End, Plain, Inside, Begin, Commit, Rollback, Close, Outcome, Kept, Flush, Fold}
use Rattle.reply_lines.specs.declared.reply.ReplyLine.TheVariants.{Done}
use Rattle.script_runner.proofs.Answered.{carried}
use Rattle.store_driver.proofs.Later.{later_same}
use Rattle.store_driver.specs.Later.{IsLater}
use Rattle.script_runner.specs.declared.interpreter.Interpreter.{Interpreter}
use Rattle.script_runner.specs.Interpreters.{script_of}
use Rattle.script_runner.proofs.interpreter.Interpreter.answer.Goals.{in-At, in-Session, in-End, in-Plain, in-Inside, in-Begin, in-Commit, in-Rollback, in-Close, in-Outcome, in-Kept, in-Flush, in-Fold}
use Rattle.script_runner.proofs.interpreter.Interpreter.answer.Goals as goal

pub returns-in-Ok-clause-reported : goal.returns-in-Ok-clause-reported
returns-in-Ok-clause-reported g c =
    let line = c.args.line in
    let reported = c.match-line.reported in
    let then = script_of c.match-line.self in
    let old = script_of c.args.self.now in
    elim c.match-line.branch [
      | in-At w ↦ carried old (record old { moment = w.in-At.moment }) then line (At w.in-At.moment) (Ok Done) reported c.in-Ok.reported w.in-At.is refl w.reported-is c.in-Ok.is (ap script_of w.self-is) (refl, refl)
      | in-Session w ↦ carried old (script_of w.enter.new.self) then line (Session w.in-Session.number) (Ok w.enter.result) reported c.in-Ok.reported w.in-Session.is refl w.reported-is c.in-Ok.is (ap script_of w.self-is) w.enter.ensures.reported
      | in-End w ↦ carried old (script_of w.ask.new.self) then line (End w.in-End.number) (Ok w.ask.result) reported c.in-Ok.reported w.in-End.is refl w.reported-is c.in-Ok.is (ap script_of w.self-is) w.ask.ensures.reported
      | in-Plain w ↦ carried old (script_of w.alone-reported.new.self) then line (Plain w.in-Plain.request) w.alone-reported.result reported c.in-Ok.reported w.in-Plain.is refl w.reported-is c.in-Ok.is (ap script_of w.self-is) w.alone-reported.ensures.ok
      | in-Inside w ↦ carried old (script_of w.inside-reported.new.self) then line (Inside w.in-Inside.label w.in-Inside.request) w.inside-reported.result reported c.in-Ok.reported w.in-Inside.is refl w.reported-is c.in-Ok.is (ap script_of w.self-is) w.inside-reported.ensures.ok
      | in-Begin w ↦ carried old (script_of w.begin_as-reported.new.self) then line (Begin w.in-Begin.label w.in-Begin.id) w.begin_as-reported.result reported c.in-Ok.reported w.in-Begin.is refl w.reported-is c.in-Ok.is (ap script_of w.self-is) w.begin_as-reported.ensures.ok
      | in-Commit w ↦ carried old (script_of w.commit-reported.new.self) then line (Commit w.in-Commit.label) w.commit-reported.result reported c.in-Ok.reported w.in-Commit.is refl w.reported-is c.in-Ok.is (ap script_of w.self-is) w.commit-reported.ensures.ok
      | in-Rollback w ↦ carried old (script_of w.rollback-reported.new.self) then line (Rollback w.in-Rollback.label) w.rollback-reported.result reported c.in-Ok.reported w.in-Rollback.is refl w.reported-is c.in-Ok.is (ap script_of w.self-is) w.rollback-reported.ensures.ok
      | in-Close w ↦ carried old (script_of w.close-reported.new.self) then line (Close w.in-Close.label) w.close-reported.result reported c.in-Ok.reported w.in-Close.is refl w.reported-is c.in-Ok.is (ap script_of w.self-is) w.close-reported.ensures.ok
      | in-Outcome w ↦ carried old (script_of w.outcome-reported.new.self) then line (Outcome w.in-Outcome.label) w.outcome-reported.result reported c.in-Ok.reported w.in-Outcome.is refl w.reported-is c.in-Ok.is (ap script_of w.self-is) w.outcome-reported.ensures.ok
      | in-Kept w ↦ carried old (script_of w.ask-in-Kept.new.self) then line (Kept w.in-Kept.id) (Ok w.ask-in-Kept.result) reported c.in-Ok.reported w.in-Kept.is refl w.reported-is c.in-Ok.is (ap script_of w.self-is) w.ask-in-Kept.ensures.reported
      | in-Flush w ↦ carried old (script_of w.flush.new.self) then line Flush (Ok w.flush.result) reported c.in-Ok.reported w.in-Flush.is refl w.reported-is c.in-Ok.is (ap script_of w.self-is) w.flush.ensures.reported
      | in-Fold w ↦ carried old (script_of w.ask-in-Fold.new.self) then line Fold (Ok w.ask-in-Fold.result) reported c.in-Ok.reported w.in-Fold.is refl w.reported-is c.in-Ok.is (ap script_of w.self-is) w.ask-in-Fold.ensures.reported
    ]

pub returns-in-Ok-clause-later : goal.returns-in-Ok-clause-later
returns-in-Ok-clause-later g c =
    let D = g.D.Disk in
    let old = c.args.self.now in
    elim c.match-line.branch [
      | in-At w ↦ subst (λ (p : Interpreter _). IsLater D.faithful D.failures old.engine p.engine) (sym w.self-is) (later_same D.faithful D.failures old.engine)
      | in-Session w ↦ subst (λ (p : Interpreter _). IsLater D.faithful D.failures old.engine p.engine) (sym w.self-is) w.enter.ensures.later
      | in-End w ↦ subst (λ (p : Interpreter _). IsLater D.faithful D.failures old.engine p.engine) (sym w.self-is) w.ask.ensures.later
      | in-Plain w ↦ subst (λ (p : Interpreter _). IsLater D.faithful D.failures old.engine p.engine) (sym w.self-is) w.alone-reported.ensures.later
      | in-Inside w ↦ subst (λ (p : Interpreter _). IsLater D.faithful D.failures old.engine p.engine) (sym w.self-is) w.inside-reported.ensures.later
      | in-Begin w ↦ subst (λ (p : Interpreter _). IsLater D.faithful D.failures old.engine p.engine) (sym w.self-is) w.begin_as-reported.ensures.later
      | in-Commit w ↦ subst (λ (p : Interpreter _). IsLater D.faithful D.failures old.engine p.engine) (sym w.self-is) w.commit-reported.ensures.later
      | in-Rollback w ↦ subst (λ (p : Interpreter _). IsLater D.faithful D.failures old.engine p.engine) (sym w.self-is) w.rollback-reported.ensures.later
      | in-Close w ↦ subst (λ (p : Interpreter _). IsLater D.faithful D.failures old.engine p.engine) (sym w.self-is) w.close-reported.ensures.later
      | in-Outcome w ↦ subst (λ (p : Interpreter _). IsLater D.faithful D.failures old.engine p.engine) (sym w.self-is) w.outcome-reported.ensures.later
      | in-Kept w ↦ subst (λ (p : Interpreter _). IsLater D.faithful D.failures old.engine p.engine) (sym w.self-is) w.ask-in-Kept.ensures.later
      | in-Flush w ↦ subst (λ (p : Interpreter _). IsLater D.faithful D.failures old.engine p.engine) (sym w.self-is) w.flush.ensures.later
      | in-Fold w ↦ subst (λ (p : Interpreter _). IsLater D.faithful D.failures old.engine p.engine) (sym w.self-is) w.ask-in-Fold.ensures.later
    ]

pub returns-in-Err-clause-later : goal.returns-in-Err-clause-later
returns-in-Err-clause-later g c =
    let D = g.D.Disk in
    let old = c.args.self.now in
    elim c.match-line.branch [
      | in-At w ↦ subst (λ (p : Interpreter _). IsLater D.faithful D.failures old.engine p.engine) (sym w.self-is) (later_same D.faithful D.failures old.engine)
      | in-Session w ↦ subst (λ (p : Interpreter _). IsLater D.faithful D.failures old.engine p.engine) (sym w.self-is) w.enter.ensures.later
      | in-End w ↦ subst (λ (p : Interpreter _). IsLater D.faithful D.failures old.engine p.engine) (sym w.self-is) w.ask.ensures.later
      | in-Plain w ↦ subst (λ (p : Interpreter _). IsLater D.faithful D.failures old.engine p.engine) (sym w.self-is) w.alone-reported.ensures.later
      | in-Inside w ↦ subst (λ (p : Interpreter _). IsLater D.faithful D.failures old.engine p.engine) (sym w.self-is) w.inside-reported.ensures.later
      | in-Begin w ↦ subst (λ (p : Interpreter _). IsLater D.faithful D.failures old.engine p.engine) (sym w.self-is) w.begin_as-reported.ensures.later
      | in-Commit w ↦ subst (λ (p : Interpreter _). IsLater D.faithful D.failures old.engine p.engine) (sym w.self-is) w.commit-reported.ensures.later
      | in-Rollback w ↦ subst (λ (p : Interpreter _). IsLater D.faithful D.failures old.engine p.engine) (sym w.self-is) w.rollback-reported.ensures.later
      | in-Close w ↦ subst (λ (p : Interpreter _). IsLater D.faithful D.failures old.engine p.engine) (sym w.self-is) w.close-reported.ensures.later
      | in-Outcome w ↦ subst (λ (p : Interpreter _). IsLater D.faithful D.failures old.engine p.engine) (sym w.self-is) w.outcome-reported.ensures.later
      | in-Kept w ↦ subst (λ (p : Interpreter _). IsLater D.faithful D.failures old.engine p.engine) (sym w.self-is) w.ask-in-Kept.ensures.later
      | in-Flush w ↦ subst (λ (p : Interpreter _). IsLater D.faithful D.failures old.engine p.engine) (sym w.self-is) w.flush.ensures.later
      | in-Fold w ↦ subst (λ (p : Interpreter _). IsLater D.faithful D.failures old.engine p.engine) (sym w.self-is) w.ask-in-Fold.ensures.later
    ]

pub returns-in-Hives-clause-later : goal.returns-in-Hives-clause-later
returns-in-Hives-clause-later g c = let D = g.D.Disk in later_same D.faithful D.failures c.args.self.now.engine
