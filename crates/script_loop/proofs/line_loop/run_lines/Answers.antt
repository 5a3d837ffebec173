use Rattle.std.proofs.Common.{sym, subst}
use Rattle.script_loop.specs.Runs.{EndsLoop, IsRunOn, TakesNext, end_after}
use Rattle.script_loop.specs.Turns.{IsLeft}
use Rattle.script_loop.specs.declared.end_of_script.EndOfScript.TheVariants.{Broken}
use Rattle.script_loop.specs.declared.line_loop.LoopEnd.TheVariants.{Over}
use Rattle.script_loop.proofs.Reading.{broken_is_no_end, none_read}
use Rattle.script_loop.proofs.Running.{end_alone, ends_here, ends_join, goes_on}
use Rattle.script_loop.proofs.line_loop.run_lines.Goals as goal

pub loop-number-init : goal.loop-number-init
loop-number-init g c = λ ended new rest after on.
    let A = g.A.Answerer in
    subst (λ e. EndsLoop A.answers A.stops A.is_none A.unanswered c.args.answerer.now c.args.first (g.R.Read.remaining c.args.reader.now) (g.W.Write.contents c.args.writer.now) e new rest after) (sym (end_alone ended)) on

pub loop-number-preserved : goal.loop-number-preserved
loop-number-preserved g c = λ ended last left after on.
    let A = g.A.Answerer in
    let remaining = g.R.Read.remaining in
    let contents = g.W.Write.contents in
    let old = c.loop-number.answerer in
    let new = c.take_next.new.answerer in
    let number = c.loop-number.number in
    let known = remaining c.loop-number.reader in
    let rest = remaining c.take_next.new.reader in
    let before = contents c.loop-number.writer in
    let mid = contents c.take_next.new.writer in
    let now = c.in-Replied.is_refusal in
    let turn = subst (λ o. TakesNext A.answers A.stops A.is_none A.unanswered old number known before o new rest mid) c.in-Replied.is c.in_ok-is_refusal.ensures in
    subst (λ e. EndsLoop A.answers A.stops A.is_none A.unanswered c.args.answerer.now c.args.first (remaining c.args.reader.now) (contents c.args.writer.now) e last left after) (ends_join c.loop-number.has_refusal now ended)
    (c.loop-number.invariant (end_after now ended) last left after (goes_on A.answers A.stops A.is_none A.unanswered old new last number known rest left before mid after now ended turn on))

pub returns-in-Over : goal.returns-in-Over
returns-in-Over g c =
    let A = g.A.Answerer in
    let remaining = g.R.Read.remaining in
    let contents = g.W.Write.contents in
    let new = c.take_next.new.answerer in
    let rest = remaining c.take_next.new.reader in
    let after = contents c.take_next.new.writer in
    let on = subst (λ o. TakesNext A.answers A.stops A.is_none A.unanswered c.loop-number.answerer c.loop-number.number (remaining c.loop-number.reader) (contents c.loop-number.writer) o new rest after) c.in-Over.is c.in_ok-is_refusal.ensures in
    subst (λ e. EndsLoop A.answers A.stops A.is_none A.unanswered c.args.answerer.now c.args.first (remaining c.args.reader.now) (contents c.args.writer.now) e new rest after) (sym c.after.ensures)
    (c.loop-number.invariant c.in-Over.ended new rest after on)

pub returns : goal.returns
returns g c =
    let A = g.A.Answerer in
    let remaining = g.R.Read.remaining in
    let contents = g.W.Write.contents in
    let last = c.loop-number.answerer in
    let number = c.loop-number.number in
    let known = remaining c.loop-number.reader in
    let before = contents c.loop-number.writer in
    let after = contents c.end.new.writer in
    let said = c.in_ok-end.ensures in
    subst (λ s. IsRunOn A.answers A.is_none (IsLeft A.unanswered last) c.args.answerer.now c.args.first (remaining c.args.reader.now) (contents c.args.writer.now) after s) (sym c.after-status.ensures)
    (c.loop-number.invariant (Over c.in_ok-end.field-0) last known after (ends_here A.answers A.stops A.is_none A.unanswered last number known before after Broken said.0 c.in_ok-end.field-0 (none_read known Broken broken_is_no_end) said.1 said.2))
