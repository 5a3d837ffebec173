use Rattle.std.proofs.Common.{sym, subst}
use Rattle.script_loop.specs.Lines.{TakesLine}
use Rattle.script_loop.specs.Runs.{AnswersReadLine, TakesNext}
use Rattle.script_loop.proofs.Running.{ends_here, taken_so}
use Rattle.script_loop.proofs.Texts.{if_ok}
use Rattle.script_loop.proofs.line_loop.take_next.Goals as goal

pub returns : goal.returns
returns g c =
    let A = g.A.Answerer in
    let contents = g.W.Write.contents in
    let old = c.args.answerer.now in
    let new = c.answer_line.new.answerer in
    let known = g.R.Read.remaining c.args.reader.now in
    let rest = g.R.Read.remaining c.next_line.new.reader in
    let before = contents c.args.writer.now in
    let after = contents c.answer_line.new.writer in
    let line = c.deref.result.now in
    let taken = subst (TakesLine known rest) (sym c.deref.ensures.value) c.in_default.ensures.line in
    if_ok (λ outcome. AnswersReadLine A.answers A.stops A.is_none A.unanswered old c.args.number line before outcome new after) (λ outcome. TakesNext A.answers A.stops A.is_none A.unanswered old c.args.number known before outcome new rest after) c.answer_line.result
    (λ outcome told. taken_so A.answers A.stops A.is_none A.unanswered old new c.args.number known rest before after line outcome taken told)
    c.answer_line.ensures

-- there is no further line
pub returns-in-Err : goal.returns-in-Err
returns-in-Err g c =
    let A = g.A.Answerer in
    let said = c.in_ok-status.ensures in
    ends_here A.answers A.stops A.is_none A.unanswered c.args.answerer.now c.args.number (g.R.Read.remaining c.args.reader.now) (g.W.Write.contents c.args.writer.now) (g.W.Write.contents c.end.new.writer)
    c.in-Err.end_of_script said.0 c.in_ok-status.status c.in-Err.ensures.none said.1 said.2
