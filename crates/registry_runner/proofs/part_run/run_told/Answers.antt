use Rattle.std.proofs.Common.{subst}
use Rattle.std.specs.Io.KnownBytes.{Appends}
use Rattle.registry_lines.specs.Interpreters.{script_of}
use Rattle.registry_runner.specs.Parts.{kind_text}
use Rattle.registry_runner.specs.Plays.{PartComes}
use Rattle.registry_runner.proofs.Ending.{folds_from, ran}
use Rattle.registry_runner.proofs.Playing.{part}
use Rattle.registry_runner.proofs.part_run.run_told.Goals as goal

pub returns-in-ToFold : goal.returns-in-ToFold
returns-in-ToFold g c whole past =
    let O = g.O.Origin in
    let contents = g.W.Write.contents in
    let remaining = g.B.Read.remaining in
    let start = c.args.start in
    let before = contents c.args.writer.now in
    let opened = contents c.write_start.new.writer in
    let known = remaining c.args.reader.now in
    let script = script_of c.args.lines.now.script in
    let call = c.read_beside_flusher-ended in
    let last = script_of call.new.lines.script in
    let rest = remaining call.new.reader in
    let mid = contents call.new.writer in
    let told = subst (λ n. Appends before opened (kind_text start.kind n)) c.requires.number c.in_default.ensures in
    folds_from whole past start g.O.Start.sole g.O.Start.start O.trees O.number O.hives known before opened script c.requires.begun told c.in-ToFold.next last rest mid
    (subst (λ e. PartComes whole start.limit start.can_read (part past g.O.Start.sole g.O.Start.start O.trees O.number O.hives script) start.line known opened e last rest mid) c.in-ToFold.is (call.ensures.ended whole past))

pub returns-in-AtEnd : goal.returns-in-AtEnd
returns-in-AtEnd g c whole past stands =
    let O = g.O.Origin in
    let contents = g.W.Write.contents in
    let remaining = g.B.Read.remaining in
    let start = c.args.start in
    let before = contents c.args.writer.now in
    let opened = contents c.write_start.new.writer in
    let known = remaining c.args.reader.now in
    let script = script_of c.args.lines.now.script in
    let call = c.read_beside_flusher-ended in
    let last = script_of call.new.lines.script in
    let mid = contents call.new.writer in
    let told = subst (λ n. Appends before opened (kind_text start.kind n)) c.requires.number c.in_default.ensures in
    let at = c.in-AtEnd in
    ran whole past start g.O.Start.sole g.O.Start.start O.trees O.number O.hives known before opened script c.requires.begun told mid (contents c.finish.new.writer) last at.flush
    (script_of c.left_undone-left.new.script).session.seen c.left_undone-left.result c.left_undone-left.ensures.later c.left_undone-left.ensures.probes c.left_undone-left.ensures.may stands c.finish.result at.played c.finish.ensures.played c.finish.ensures.reported
    (subst (λ e. PartComes whole start.limit start.can_read (part past g.O.Start.sole g.O.Start.start O.trees O.number O.hives script) start.line known opened e last (remaining call.new.reader) mid) at.is (call.ensures.ended whole past))
