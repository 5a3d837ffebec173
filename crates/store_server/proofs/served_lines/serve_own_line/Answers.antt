use Rattle.std.proofs.Common.{◌≡◌, Option, Some, inr, subst, sym}
use Rattle.std.specs.Prelude.{IfSome}
use Rattle.refusals.proofs.Refused.{handed_on}
use Rattle.script_syntax.specs.Lines.{line_of}
use Rattle.script_syntax.specs.declared.line.Line.TheVariants as line
use Rattle.script_syntax.specs.declared.served_line.ServedLine.{ServedLine}
use Rattle.registry_lines.specs.Interpreters.{script_of}
use Rattle.served_replies.specs.ServedReplies.{served_texts}
use Rattle.store_server.specs.Visits.{ServesLines}
use Rattle.store_server.specs.declared.served_lines.LinesServed.{LinesServed}
use Rattle.store_server.proofs.Serving.{serves_unwritten}
use Rattle.store_server.proofs.Texts.{kept_after}
use Rattle.store_server.proofs.served_lines.serve_own_line.Goals as goal

pub returns-in_err-answer_own-in-Ok-Some-clause-ended : goal.returns-in_err-answer_own-in-Ok-Some-clause-ended
returns-in_err-answer_own-in-Ok-Some-clause-ended g c =
    let O = g.O.Origin in
    let S = g.O.Start in
    let saves = g.B.BackupFolder.holds in
    let is : c.in-Ok-Some.field-0 ≡ Some c.in-Ok-Some.line = cc (c.in-Ok-Some.field-0-is, c.in-Ok-Some.line-is) in
    let known = subst (λ (made : Option ServedLine). IfSome made (λ own. line_of c.bytes.result.now ≡ Some (line.Served own))) is c.in-Ok-Some.ensures in
    let old = script_of c.args.session.now.script in
    let new = script_of c.answer_own.new.script in
    let was = g.W.Write.contents c.args.writer.now in
    let mid = g.W.Write.contents c.answer_own.new.writer in
    let why = c.in_err-answer_own-in-Ok-Some.field-0.0 in
    let end = c.in_err-answer_own-in-Ok-Some.ensures.unwritten in
    let serves = λ (e : LinesServed). ServesLines saves S.store S.sole S.start O.trees O.number O.hives old was e new mid in
    handed_on c.from_residual.result why serves c.from_residual.ensures.1
    (subst serves (sym end.0) (serves_unwritten saves S.store S.sole S.start O.trees O.number O.hives old new was mid c.bytes.result.now end.1 (inr (c.in-Ok-Some.line, known, end.2))))

pub returns-in-Ok-clause-served : goal.returns-in-Ok-clause-served
returns-in-Ok-clause-served g c =
    let O = g.O.Origin in
    let S = g.O.Start in
    let saves = g.B.BackupFolder.holds in
    let is : c.in-Ok-Some.field-0 ≡ Some c.in-Ok-Some.line = cc (c.in-Ok-Some.field-0-is, c.in-Ok-Some.line-is) in
    let known = subst (λ (made : Option ServedLine). IfSome made (λ own. line_of c.bytes.result.now ≡ Some (line.Served own))) is c.in-Ok-Some.ensures in
    let old = script_of c.args.session.now.script in
    let new = script_of c.answer_own.new.script in
    let was = g.W.Write.contents c.args.writer.now in
    let mid = g.W.Write.contents c.answer_own.new.writer in
    let one = c.in_ok-answer_own-in-Ok-Some.ensures.told in
    (c.bytes.result.now, one.0, inr (c.in-Ok-Some.line, known, one.1), kept_after was mid (g.W.Write.contents c.flush_unless_followed.new.writer) (served_texts O.hives one.0) one.2 c.flush_unless_followed.ensures)

pub returns-in-Err-flush_unless_followed-clause-ended : goal.returns-in-Err-flush_unless_followed-clause-ended
returns-in-Err-flush_unless_followed-clause-ended g c =
    let O = g.O.Origin in
    let S = g.O.Start in
    let saves = g.B.BackupFolder.holds in
    let is : c.in-Ok-Some.field-0 ≡ Some c.in-Ok-Some.line = cc (c.in-Ok-Some.field-0-is, c.in-Ok-Some.line-is) in
    let known = subst (λ (made : Option ServedLine). IfSome made (λ own. line_of c.bytes.result.now ≡ Some (line.Served own))) is c.in-Ok-Some.ensures in
    let old = script_of c.args.session.now.script in
    let new = script_of c.answer_own.new.script in
    let was = g.W.Write.contents c.args.writer.now in
    let mid = g.W.Write.contents c.answer_own.new.writer in
    let one = c.in_ok-answer_own-in-Ok-Some.ensures.told in
    serves_unwritten saves S.store S.sole S.start O.trees O.number O.hives old new was (g.W.Write.contents c.flush_unless_followed.new.writer) c.bytes.result.now one.0 (inr (c.in-Ok-Some.line, known, one.1))
