use Rattle.std.proofs.Common.{Ok, refl, ap}
use Rattle.script_syntax.specs.declared.line.Line.TheVariants.{At, Session, End, Plain, Inside, Begin, Commit, Rollback, Close, Outcome, Kept, Flush}
use Rattle.reply_lines.specs.declared.reply.ReplyLine.TheVariants.{Done}
use Rattle.registry_lines.specs.Interpreters.{script_of}
use Rattle.registry_lines.proofs.Answered.{carried, carried_refusal}
use Rattle.registry_lines.proofs.script.Script.answer.Goals.{in-At, in-Session, in-End, in-Plain, in-Inside, in-Begin, in-Commit, in-Rollback, in-Close, in-Outcome, in-Kept, in-Flush}
use Rattle.registry_lines.proofs.script.Script.answer.Goals as goal

pub returns-in-Ok : goal.returns-in-Ok
returns-in-Ok g c =
    let sole = g.O.Start.sole in
    let origin = g.O.Start.start in
    let trees = g.O.Origin.trees in
    let number = g.O.Origin.number in
    let hives = g.O.Origin.hives in
    let line = c.args.line in
    let answered = c.match-line.answered in
    let then = script_of c.match-line.self in
    let old = script_of c.args.self.now in
    record {
      answered = elim c.match-line.branch [
        | in-At w ↦ carried sole origin trees number hives old (record old { moment = w.in-At.moment }) then line (At w.in-At.moment) (Ok Done) answered c.in-Ok.reply w.in-At.is refl w.answered-is c.in-Ok.is (ap script_of w.self-is) (refl, refl)
        | in-Session w ↦ carried sole origin trees number hives old (script_of w.enter-answered.new.self) then line (Session w.in-Session.number) w.enter-answered.result answered c.in-Ok.reply w.in-Session.is refl w.answered-is c.in-Ok.is (ap script_of w.self-is) w.enter-answered.ensures.ok
        | in-End w ↦ carried sole origin trees number hives old (script_of w.end-answered.new.self) then line (End w.in-End.number) w.end-answered.result answered c.in-Ok.reply w.in-End.is refl w.answered-is c.in-Ok.is (ap script_of w.self-is) w.end-answered.ensures.ok
        | in-Plain w ↦ carried sole origin trees number hives old (script_of w.alone-answered.new.self) then line (Plain w.in-Plain.request) w.alone-answered.result answered c.in-Ok.reply w.in-Plain.is refl w.answered-is c.in-Ok.is (ap script_of w.self-is) w.alone-answered.ensures.ok
        | in-Inside w ↦ carried sole origin trees number hives old (script_of w.inside-answered.new.self) then line (Inside w.in-Inside.label w.in-Inside.request) w.inside-answered.result answered c.in-Ok.reply w.in-Inside.is refl w.answered-is c.in-Ok.is (ap script_of w.self-is) w.inside-answered.ensures.ok
        | in-Begin w ↦ carried sole origin trees number hives old (script_of w.begin_as-answered.new.self) then line (Begin w.in-Begin.label w.in-Begin.id) w.begin_as-answered.result answered c.in-Ok.reply w.in-Begin.is refl w.answered-is c.in-Ok.is (ap script_of w.self-is) w.begin_as-answered.ensures.ok
        | in-Commit w ↦ carried sole origin trees number hives old (script_of w.commit-answered.new.self) then line (Commit w.in-Commit.label) w.commit-answered.result answered c.in-Ok.reply w.in-Commit.is refl w.answered-is c.in-Ok.is (ap script_of w.self-is) w.commit-answered.ensures.ok
        | in-Rollback w ↦ carried sole origin trees number hives old (script_of w.rollback-answered.new.self) then line (Rollback w.in-Rollback.label) w.rollback-answered.result answered c.in-Ok.reply w.in-Rollback.is refl w.answered-is c.in-Ok.is (ap script_of w.self-is) w.rollback-answered.ensures.ok
        | in-Close w ↦ carried sole origin trees number hives old (script_of w.close-answered.new.self) then line (Close w.in-Close.label) w.close-answered.result answered c.in-Ok.reply w.in-Close.is refl w.answered-is c.in-Ok.is (ap script_of w.self-is) w.close-answered.ensures.ok
        | in-Outcome w ↦ carried sole origin trees number hives old (script_of w.outcome-answered.new.self) then line (Outcome w.in-Outcome.label) w.outcome-answered.result answered c.in-Ok.reply w.in-Outcome.is refl w.answered-is c.in-Ok.is (ap script_of w.self-is) w.outcome-answered.ensures.ok
        | in-Kept w ↦ carried sole origin trees number hives old (script_of w.kept.new.self) then line (Kept w.in-Kept.id) (Ok w.kept.result) answered c.in-Ok.reply w.in-Kept.is refl w.answered-is c.in-Ok.is (ap script_of w.self-is) w.kept.ensures
        | in-Flush w ↦ carried sole origin trees number hives old (script_of w.flush.new.self) then line Flush (Ok w.flush.result) answered c.in-Ok.reply w.in-Flush.is refl w.answered-is c.in-Ok.is (ap script_of w.self-is) w.flush.ensures
      ];
    }

pub returns-in-Err : goal.returns-in-Err
returns-in-Err g c =
    let sole = g.O.Start.sole in
    let origin = g.O.Start.start in
    let trees = g.O.Origin.trees in
    let number = g.O.Origin.number in
    let hives = g.O.Origin.hives in
    let line = c.args.line in
    let answered = c.match-line.answered in
    let then = script_of c.match-line.self in
    let old = script_of c.args.self.now in
    let why = c.in-Err.refusal in
    record {
      answered = elim c.match-line.branch [
        | in-At w ↦ carried_refusal sole origin trees number hives old (record old { moment = w.in-At.moment }) then line (At w.in-At.moment) (Ok Done) answered why w.in-At.is refl w.answered-is c.in-Err.is (ap script_of w.self-is) tt
        | in-Session w ↦ carried_refusal sole origin trees number hives old (script_of w.enter-answered.new.self) then line (Session w.in-Session.number) w.enter-answered.result answered why w.in-Session.is refl w.answered-is c.in-Err.is (ap script_of w.self-is) w.enter-answered.ensures.refused
        | in-End w ↦ carried_refusal sole origin trees number hives old (script_of w.end-answered.new.self) then line (End w.in-End.number) w.end-answered.result answered why w.in-End.is refl w.answered-is c.in-Err.is (ap script_of w.self-is) w.end-answered.ensures.refused
        | in-Plain w ↦ carried_refusal sole origin trees number hives old (script_of w.alone-answered.new.self) then line (Plain w.in-Plain.request) w.alone-answered.result answered why w.in-Plain.is refl w.answered-is c.in-Err.is (ap script_of w.self-is) w.alone-answered.ensures.refused
        | in-Inside w ↦ carried_refusal sole origin trees number hives old (script_of w.inside-answered.new.self) then line (Inside w.in-Inside.label w.in-Inside.request) w.inside-answered.result answered why w.in-Inside.is refl w.answered-is c.in-Err.is (ap script_of w.self-is) w.inside-answered.ensures.refused
        | in-Begin w ↦ carried_refusal sole origin trees number hives old (script_of w.begin_as-answered.new.self) then line (Begin w.in-Begin.label w.in-Begin.id) w.begin_as-answered.result answered why w.in-Begin.is refl w.answered-is c.in-Err.is (ap script_of w.self-is) w.begin_as-answered.ensures.refused
        | in-Commit w ↦ carried_refusal sole origin trees number hives old (script_of w.commit-answered.new.self) then line (Commit w.in-Commit.label) w.commit-answered.result answered why w.in-Commit.is refl w.answered-is c.in-Err.is (ap script_of w.self-is) w.commit-answered.ensures.refused
        | in-Rollback w ↦ carried_refusal sole origin trees number hives old (script_of w.rollback-answered.new.self) then line (Rollback w.in-Rollback.label) w.rollback-answered.result answered why w.in-Rollback.is refl w.answered-is c.in-Err.is (ap script_of w.self-is) w.rollback-answered.ensures.refused
        | in-Close w ↦ carried_refusal sole origin trees number hives old (script_of w.close-answered.new.self) then line (Close w.in-Close.label) w.close-answered.result answered why w.in-Close.is refl w.answered-is c.in-Err.is (ap script_of w.self-is) w.close-answered.ensures.refused
        | in-Outcome w ↦ carried_refusal sole origin trees number hives old (script_of w.outcome-answered.new.self) then line (Outcome w.in-Outcome.label) w.outcome-answered.result answered why w.in-Outcome.is refl w.answered-is c.in-Err.is (ap script_of w.self-is) w.outcome-answered.ensures.refused
        | in-Kept w ↦ carried_refusal sole origin trees number hives old (script_of w.kept.new.self) then line (Kept w.in-Kept.id) (Ok w.kept.result) answered why w.in-Kept.is refl w.answered-is c.in-Err.is (ap script_of w.self-is) tt
        | in-Flush w ↦ carried_refusal sole origin trees number hives old (script_of w.flush.new.self) then line Flush (Ok w.flush.result) answered why w.in-Flush.is refl w.answered-is c.in-Err.is (ap script_of w.self-is) tt
      ];
    }
