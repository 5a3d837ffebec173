use Rattle.std.proofs.Common.{◌≡◌, ◌∙◌, List, ℕ, None, ap, sym, subst}
use Rattle.std.specs.Io.KnownBytes.{Appends}
use Rattle.script_loop.specs.Ends.{EndsScript}
use Rattle.script_loop.specs.FirstLines.{history_asked}
use Rattle.script_loop.specs.Lines.{TakesLine}
use Rattle.script_loop.specs.NewStores.{IsRunOverNew}
use Rattle.script_loop.specs.Runs.{AnswersReadLine, EndsLoop}
use Rattle.script_loop.specs.Turns.{IsLeft}
use Rattle.script_loop.specs.declared.end_of_script.EndOfScript.TheVariants.{OutOfMemory}
use Rattle.script_loop.specs.declared.line_loop.LineOutcome.TheVariants as outcome
use Rattle.script_loop.proofs.NewRuns.{limits, no_second, second_answered, second_ends}
use Rattle.script_loop.proofs.Reading.{is_end, none_read}
use Rattle.script_loop.proofs.Texts.{if_ok}
use Rattle.script_loop.proofs.new_store.run_over_new.Goals as goal

-- the line is `history`
pub returns-in_ok-run_lines-in-Ok-Some : goal.returns-in_ok-run_lines-in-Ok-Some
returns-in_ok-run_lines-in-Ok-Some g c =
    let S = g.S.ScriptedStore in
    let A = g.S.Answerer in
    let contents = g.W.Write.contents in
    let old = c.args.store.now in
    let new = c.limit_history.new.self in
    let last = c.run_lines.new.answerer in
    let known = g.R.Read.remaining c.args.reader.now in
    let rest = g.R.Read.remaining c.next_line.new.reader in
    let left = g.R.Read.remaining c.run_lines.new.reader in
    let before = contents c.args.writer.now in
    let mid = contents c.write.new.writer in
    let after = contents c.run_lines.new.writer in
    let line = c.deref.result.now in
    let taken = subst (TakesLine known rest) (sym c.deref.ensures.value) c.in_default.ensures.line in
    let on = subst (λ e. EndsLoop A.answers A.stops A.is_none A.unanswered new 3 rest mid e last left after) c.status_of.ensures c.in_ok-run_lines-in-Ok-Some.ensures in
    limits S.is_made S.is_limited A.answers A.is_none old new (IsLeft A.unanswered last) known rest before mid after line c.in-Ok-Some.limit c.status_of.result taken (sym c.in-Ok-Some.ensures ∙ c.in-Ok-Some.field-0-is) c.limit_history.ensures c.in_ok-write-in-Ok-Some.ensures on

-- it isn't, and is answered
pub returns-in_ok-ended-in-Replied : goal.returns-in_ok-ended-in-Replied
returns-in_ok-ended-in-Replied g c =
    let S = g.S.ScriptedStore in
    let A = g.S.Answerer in
    let contents = g.W.Write.contents in
    let old = c.args.store.now in
    let new = c.answer_line.new.answerer in
    let last = c.run_lines-in-Replied.new.answerer in
    let known = g.R.Read.remaining c.args.reader.now in
    let rest = g.R.Read.remaining c.next_line.new.reader in
    let left = g.R.Read.remaining c.run_lines-in-Replied.new.reader in
    let before = contents c.args.writer.now in
    let mid = contents c.answer_line.new.writer in
    let after = contents c.run_lines-in-Replied.new.writer in
    let line = c.next_line.new.line.items in
    let refused = c.in-Replied.is_refusal in
    let status = c.status_of-in-Replied.result in
    let other : history_asked line ≡ None = ap history_asked (sym c.deref.ensures.value) ∙ (sym c.in-Ok-None.ensures ∙ c.in-Ok-None.field-0-is) in
    let answered = subst (λ o. AnswersReadLine A.answers A.stops A.is_none A.unanswered old 2 c.deref-in-Ok-None.result.now before o new mid) c.in-Replied.is c.in_ok-is_refusal-in-Ok-None.ensures in
    let told = subst (λ line. AnswersReadLine A.answers A.stops A.is_none A.unanswered old 2 line before (outcome.Replied refused) new mid) c.deref-in-Ok-None.ensures.value answered in
    let on = subst (λ e. EndsLoop A.answers A.stops A.is_none A.unanswered new 3 rest mid e last left after) c.status_of-in-Replied.ensures c.in_ok-ended-in-Replied.ensures in
    subst (IsRunOverNew S.is_limited A.answers A.is_none old known before after) (sym c.after.ensures)
    (second_answered S.is_made S.is_limited A.answers A.is_none old new (IsLeft A.unanswered last) known rest before mid after line told.0 refused status c.in_default.ensures.line other told.1 told.2 on)

-- it ends the run
pub returns-in-Over : goal.returns-in-Over
returns-in-Over g c =
    let S = g.S.ScriptedStore in
    let A = g.S.Answerer in
    let contents = g.W.Write.contents in
    let old = c.args.store.now in
    let new = c.answer_line.new.answerer in
    let known = g.R.Read.remaining c.args.reader.now in
    let rest = g.R.Read.remaining c.next_line.new.reader in
    let before = contents c.args.writer.now in
    let after = contents c.answer_line.new.writer in
    let line = c.next_line.new.line.items in
    let status = c.status_of-in-Over.result in
    let other : history_asked line ≡ None = ap history_asked (sym c.deref.ensures.value) ∙ (sym c.in-Ok-None.ensures ∙ c.in-Ok-None.field-0-is) in
    let answered = subst (λ o. AnswersReadLine A.answers A.stops A.is_none A.unanswered old 2 c.deref-in-Ok-None.result.now before o new after) c.in-Over.is c.in_ok-is_refusal-in-Ok-None.ensures in
    let read = subst (λ line. AnswersReadLine A.answers A.stops A.is_none A.unanswered old 2 line before (outcome.Over c.in-Over.ended) new after) c.deref-in-Ok-None.ensures.value answered in
    let told = subst (λ e. AnswersReadLine A.answers A.stops A.is_none A.unanswered old 2 line before (outcome.Over e) new after) c.status_of-in-Over.ensures read in
    second_ends S.is_made S.is_limited A.answers A.is_none A.stops A.unanswered old new known rest before after line status c.in_default.ensures.line other told

-- there is no memory for reading it
pub returns-in-Err-read_history_limit : goal.returns-in-Err-read_history_limit
returns-in-Err-read_history_limit g c =
    let S = g.S.ScriptedStore in
    let A = g.S.Answerer in
    let contents = g.W.Write.contents in
    let old = c.args.store.now in
    let known = g.R.Read.remaining c.args.reader.now in
    let before = contents c.args.writer.now in
    let after = contents c.end-in-Err-read_history_limit.new.writer in
    if_ok (λ status. (text : List ℕ) × EndsScript OutOfMemory text status × Appends before after text) (IsRunOverNew S.is_limited A.answers A.is_none old known before after) c.end-in-Err-read_history_limit.result
    (λ status said. no_second S.is_made S.is_limited A.answers A.is_none old known before after OutOfMemory said.0 status (none_read known OutOfMemory is_end) said.1 said.2)
    c.end-in-Err-read_history_limit.ensures
