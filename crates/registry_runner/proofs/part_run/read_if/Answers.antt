use Rattle.registry_lines.specs.Interpreters.{script_of}
use Rattle.registry_runner.proofs.Ending.{read_all, read_none}
use Rattle.registry_runner.proofs.part_run.read_if.Goals as goal

pub returns-then-start : goal.returns-then-start
returns-then-start g c whole past =
    let O = g.O.Origin in
    let contents = g.W.Write.contents in
    let start = c.args.start in
    read_all whole past start.limit start.can_read g.O.Start.sole g.O.Start.start O.trees O.number O.hives start.line (g.B.Read.remaining c.args.reader.now) (contents c.args.writer.now) (script_of c.args.lines.now.script) (script_of c.read.new.self.script) (g.B.Read.remaining c.read.new.reader) (contents c.read.new.writer) c.read.result c.if-start.true (c.read.ensures whole past)

pub returns : goal.returns
returns g c whole past =
    let O = g.O.Origin in
    let contents = g.W.Write.contents in
    let start = c.args.start in
    let remaining = g.B.Read.remaining c.args.reader.now in
    read_none whole past start.limit start.can_read g.O.Start.sole g.O.Start.start O.trees O.number O.hives start.line remaining (contents c.args.writer.now) (script_of c.args.lines.now.script) remaining (contents c.unread.new.writer) c.unread.result c.if-start.false c.unread.ensures
