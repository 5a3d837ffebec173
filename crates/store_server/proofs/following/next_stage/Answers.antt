use Rattle.registry_lines.specs.Interpreters.{script_of}
use Rattle.store_server.proofs.Followers.{one_flush}
use Rattle.store_server.proofs.following.next_stage.Goals as goal

pub returns-in-Ending-clause-asks : goal.returns-in-Ending-clause-asks
returns-in-Ending-clause-asks g c =
    let O = g.O.Origin in
    let S = g.O.Start in
    one_flush S.sole S.start O.trees O.number O.hives (script_of c.args.script.now) (script_of c.flush.new.self) c.flush.result c.flush.ensures
