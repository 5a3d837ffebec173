use Rattle.std.proofs.Common.{inr, subst}
use Rattle.ktm_calls.specs.Moments.{Sight}
use Rattle.registry_lines.specs.Scripts.{MayNotEnter}
use Rattle.registry_runner.proofs.Ending.{begins_not}
use Rattle.registry_runner.proofs.part_run.run_by.Goals as goal

pub returns-in-Err : goal.returns-in-Err
returns-in-Err g c whole past stands =
    let O = g.O.Origin in
    let contents = g.W.Write.contents in
    begins_not whole past c.args.start g.O.Start.sole g.O.Start.start O.trees O.number O.hives (g.B.Read.remaining c.args.reader.now) (contents c.args.writer.now) (contents c.write_refusal-ran.new.writer) c.in-Err.why c.write_refusal-ran.result (inr (c.in-Err.asker, stands, subst (λ (s : Sight). MayNotEnter g.O.Start.sole g.O.Start.start O.trees O.number O.hives s c.in-Err.asker c.in-Err.why) c.requires.first c.in-Err.ensures.refused)) c.write_refusal-ran.ensures
