use Rattle.std.proofs.Common.{[], refl}
use Rattle.reply_lines.specs.Replies.{reply_line}
use Rattle.reply_lines.proofs.Written.{appends_nothing}
use Rattle.script_loop.proofs.Texts.{appends_kept, kept_appends}
use Rattle.registry_lines.specs.Interpreters.{script_of}
use Rattle.registry_runner.specs.declared.lines.BetweenLines.TheVariants.{GoOn, ToFold}
use Rattle.registry_runner.proofs.LineProofs.{answered_then, folds_line}
use Rattle.registry_runner.proofs.lines.PartLinesAnswererCaller.answer.Goals as goal

-- the script goes on
pub returns-in-GoOn : goal.returns-in-GoOn
returns-in-GoOn g c =
    let O = g.O.Origin in
    let contents = g.W.Write.contents in
    let arm = c.in-Ok-Some-Reply in
    let written = c.in_ok-is_refusal-in-Ok-Some-Reply in
    let worked = c.in_ok-has_failed-in-Ok-Some-Reply in
    let before = contents c.args.writer.now in
    let out = contents c.write_out.new.writer in
    let reported = contents c.write_reply.new.writer in
    let text = reply_line arm.reply in (
      text,
      (
        c.work_between_lines.ensures.same.0,
        c.work_between_lines.ensures.same.1,
        λ begins past. answered_then past c.args.self.now.history.limit g.O.Start.sole g.O.Start.start O.trees O.number O.hives (script_of c.args.self.now.script) (script_of c.reply_to.new.self) (script_of c.work_between_lines.new.script) c.args.line.now
            arm.field-0 arm.reply written.is_refusal c.number_told-told.result worked.field-0 (GoOn c.in-GoOn.has_failed) (cc (arm.field-0-is, arm.field-0-0-is)) arm.ensures.some written.ensures.0 c.number_told-told.ensures c.in-GoOn.is (worked.ensures.between past begins),
      ),
      appends_kept before reported (contents c.work_between_lines.new.writer) text (kept_appends before out reported text c.in_ok-write_out.ensures written.ensures.1) worked.ensures.kept,
    )

-- the history is to be folded
pub returns-in-Ok-Some-Reply : goal.returns-in-Ok-Some-Reply
returns-in-Ok-Some-Reply g c =
    let O = g.O.Origin in
    let contents = g.W.Write.contents in
    let arm = c.in-Ok-Some-Reply in
    let written = c.in_ok-is_refusal-in-Ok-Some-Reply in
    let worked = c.in_ok-has_failed-in-Ok-Some-Reply in
    let before = contents c.args.writer.now in
    let out = contents c.write_out.new.writer in
    let reported = contents c.write_reply.new.writer in
    let text = reply_line arm.reply in (
      text,
      (
        c.work_between_lines.ensures.same.0,
        c.work_between_lines.ensures.same.1,
        λ begins past. answered_then past c.args.self.now.history.limit g.O.Start.sole g.O.Start.start O.trees O.number O.hives (script_of c.args.self.now.script) (script_of c.reply_to.new.self) (script_of c.work_between_lines.new.script) c.args.line.now
            arm.field-0 arm.reply written.is_refusal c.number_told-told.result worked.field-0 ToFold (cc (arm.field-0-is, arm.field-0-0-is)) arm.ensures.some written.ensures.0 c.number_told-told.ensures c.in-ToFold.is (worked.ensures.between past begins),
      ),
      appends_kept before reported (contents c.work_between_lines.new.writer) text (kept_appends before out reported text c.in_ok-write_out.ensures written.ensures.1) worked.ensures.kept,
    )

-- a line asks for that
pub returns-in-Ok-Some-ToFold : goal.returns-in-Ok-Some-ToFold
returns-in-Ok-Some-ToFold g c =
    let O = g.O.Origin in
    let contents = g.W.Write.contents in
    let arm = c.in-Ok-Some-ToFold in
    let out = contents c.write_out.new.writer in (
      [],
      (
        refl,
        refl,
        λ begins past. folds_line past c.args.self.now.history.limit g.O.Start.sole g.O.Start.start O.trees O.number O.hives (script_of c.args.self.now.script) (script_of c.reply_to.new.self) c.args.line.now arm.field-0 (cc (arm.field-0-is, arm.field-0-0-is)) arm.ensures.some,
      ),
      kept_appends (contents c.args.writer.now) out out [] c.in_ok-write_out.ensures (appends_nothing out),
    )
