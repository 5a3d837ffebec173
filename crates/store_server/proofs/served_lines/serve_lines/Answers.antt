use Rattle.std.proofs.Common.{refl}
use Rattle.registry_lines.specs.Interpreters.{script_of}
use Rattle.store_server.specs.declared.served_lines.LinesServed.TheVariants.{Over}
use Rattle.store_server.proofs.Serving.{serves_more, serves_nothing}
use Rattle.store_server.proofs.served_lines.serve_lines.Goals as goal

pub loop-init : goal.loop-init
loop-init g c = λ end new is s. s

pub loop-preserved : goal.loop-preserved
loop-preserved g c = λ end new is s.
    let O = g.O.Origin in
    let S = g.O.Start in
    let saves = g.B.BackupFolder.holds in
    let contents = g.W.Write.contents in
    let one = c.in-Ok.ensures.served in
    c.loop.invariant end new is
    (serves_more saves S.store S.sole S.start O.trees O.number O.hives (script_of c.loop.session.script) (script_of c.serve_line.new.session.script) (contents c.loop.writer) (contents c.serve_line.new.writer) one.0 one.1 one.2 one.3 end new is s)

pub returns : goal.returns
returns g c =
    let O = g.O.Origin in
    let S = g.O.Start in
    let saves = g.B.BackupFolder.holds in
    let is = g.W.Write.contents c.loop.writer in
    let last = script_of c.loop.session.script in
    c.loop.invariant Over last is (serves_nothing saves S.store S.sole S.start O.trees O.number O.hives last last is Over refl)
