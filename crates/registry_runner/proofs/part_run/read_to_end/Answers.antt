use Rattle.std.specs.Prelude.{IfOk}
use Rattle.registry_lines.specs.Interpreters.{script_of}
use Rattle.registry_runner.proofs.Ending.{ended}
use Rattle.registry_runner.proofs.PartProofs.{Plays, goes_on, if_err, plays}
use Rattle.registry_runner.proofs.part_run.read_to_end.Goals as goal
use Rattle.registry_runner.proofs.part_run.read_to_end.Goals.{in-Ok-Ended, in-Err}

pub returns : goal.returns
returns g c whole past =
    let O = g.O.Origin in
    let contents = g.W.Write.contents in
    let start = c.args.start in
    let known = g.B.Read.remaining c.args.reader.now in
    let was = contents c.args.writer.now in
    let old = script_of c.args.lines.now.script in
    let read = c.read_if-played in
    let end = script_of read.new.lines.script in
    let mid = contents read.new.writer in
    let rest = g.B.Read.remaining read.new.reader in
    let status = c.match-played.status in
    let on : IfOk status (Plays whole past start.limit start.can_read g.O.Start.sole g.O.Start.start O.trees O.number O.hives start.line known was old end rest mid) = elim c.match-played.branch [
      | in-Ok-Ended w ↦ plays whole past start.limit start.can_read g.O.Start.sole g.O.Start.start O.trees O.number O.hives start.line known was old end rest mid read.result w.in-Ok-Ended.field-0 w.in-Ok-Ended.status status w.in-Ok-Ended.is (rw w.in-Ok-Ended.is at w.in-Ok-Ended.field-0-is) w.status-is (read.ensures whole past)
      | in-Err w ↦ if_err (Plays whole past start.limit start.can_read g.O.Start.sole g.O.Start.start O.trees O.number O.hives start.line known was old end rest mid) w.in-Err.error status w.status-is
    ] in
    ended whole past start.limit start.can_read g.O.Start.sole g.O.Start.start O.trees O.number O.hives start.line known was old end (script_of c.flush-flush.new.self) mid (contents c.written_out-played.new.writer) c.flush-flush.result status c.written_out-played.result on c.written_out-played.ensures.same c.flush-flush.ensures

pub returns-in-Ok-ToFold : goal.returns-in-Ok-ToFold
returns-in-Ok-ToFold g c whole past =
    let O = g.O.Origin in
    let contents = g.W.Write.contents in
    let start = c.args.start in
    let read = c.read_if-played in
    let at = c.in-Ok-ToFold in
    goes_on whole past start.limit start.can_read g.O.Start.sole g.O.Start.start O.trees O.number O.hives start.line (g.B.Read.remaining c.args.reader.now) (contents c.args.writer.now) (script_of c.args.lines.now.script) (script_of read.new.lines.script) (g.B.Read.remaining read.new.reader) (contents read.new.writer)
    read.result at.field-0 at.next at.is (rw at.is at at.field-0-is) (read.ensures whole past)
