use Rattle.std.proofs.Common.{◌≡◌, None, subst}
use Rattle.script_loop.specs.Runs.{EndsLoop}
use Rattle.script_runner.specs.Scripts.{line_asked}
use Rattle.registry_lines.specs.Interpreters.{script_of}
use Rattle.registry_lines.specs.Scripts.{Script}
use Rattle.registry_runner.specs.declared.history_use.HistoryUse.{HistoryUse}
use Rattle.registry_runner.specs.declared.lines.PartLines.{PartLines}
use Rattle.registry_runner.proofs.LineProofs.{Answering, Stopping, Unanswered, ends_so, folds_so}
use Rattle.registry_runner.proofs.lines.PartLines.read.Goals as goal

pub returns-in-Over : goal.returns-in-Over
returns-in-Over g c whole past =
    let O = g.O.Origin in
    let start = c.args.start in
    let view : PartLines _ → Script = λ lines. script_of lines.script in
    let use_of : PartLines _ → HistoryUse = λ lines. lines.history in
    let old = c.args.self.now in
    let last = c.run_lines.new.answerer in
    let known = g.B.Read.remaining c.args.reader.now in
    let rest = g.B.Read.remaining c.run_lines.new.reader in
    let was = g.W.Write.contents c.args.writer.now in
    let is = g.W.Write.contents c.run_lines.new.writer in
    let run = subst (λ e. EndsLoop (Answering whole past start.limit g.O.Start.sole g.O.Start.start O.trees O.number O.hives view use_of) (Stopping whole past start.limit g.O.Start.sole g.O.Start.start O.trees O.number O.hives view use_of) (λ line. line_asked line ≡ None) (Unanswered whole past start.limit g.O.Start.sole g.O.Start.start O.trees O.number O.hives view use_of) old start.line known was e last rest is) c.in-Over.is c.in_ok-status.ensures in
    ends_so whole past start.limit g.O.Start.sole g.O.Start.start O.trees O.number O.hives view use_of old last start.line known was rest is c.requires.first c.requires.limit c.in-Over.status run

pub returns : goal.returns
returns g c whole past =
    let O = g.O.Origin in
    let start = c.args.start in
    let view : PartLines _ → Script = λ lines. script_of lines.script in
    let use_of : PartLines _ → HistoryUse = λ lines. lines.history in
    let old = c.args.self.now in
    let last = c.run_lines.new.answerer in
    let known = g.B.Read.remaining c.args.reader.now in
    let rest = g.B.Read.remaining c.run_lines.new.reader in
    let was = g.W.Write.contents c.args.writer.now in
    let is = g.W.Write.contents c.run_lines.new.writer in
    let at = c.in-Stopped in
    let run = subst (λ e. EndsLoop (Answering whole past start.limit g.O.Start.sole g.O.Start.start O.trees O.number O.hives view use_of) (Stopping whole past start.limit g.O.Start.sole g.O.Start.start O.trees O.number O.hives view use_of) (λ line. line_asked line ≡ None) (Unanswered whole past start.limit g.O.Start.sole g.O.Start.start O.trees O.number O.hives view use_of) old start.line known was e last rest is) at.is c.in_ok-status.ensures in
    folds_so whole past start.limit g.O.Start.sole g.O.Start.start O.trees O.number O.hives view use_of old last start.line known was rest is c.requires.first c.requires.limit at.why at.next at.has_refusal c.next_part-next.result run c.next_part-next.ensures
