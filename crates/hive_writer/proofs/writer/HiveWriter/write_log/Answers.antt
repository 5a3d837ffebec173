use Rattle.std.proofs.Common.{◌≡◌, ℕ, ◌*◌, ◌≤◌, List, length, take, drop, ap, ◌∙◌, arith, length-take, length-drop}
use Rattle.hive_writer.specs.WriterSteps.{plan_of}
use Rattle.hive_writer.proofs.writer.HiveWriter.write_log.Goals as goal

-- no chunk: the log is all there
pub returns-then-count-eq0-clause-leads : goal.returns-then-count-eq0-clause-leads
returns-then-count-eq0-clause-leads g c = λ faithful decode.
    let encoding = (plan_of c.args.self.now c.args.image.now c.args.pages.now).encoding in
    let n = 65536 * c.args.index in
    let size : c.chunk-count.result ≡ length (take 65536 (drop n encoding)) = c.chunk-count.ensures.count ∙ ap (λ (t : List ℕ). length (take 65536 (drop n t))) c.write_steps.ensures.encoding in
    let all : length encoding ≤ n = omega (arith, size, c.if-count-eq0.true, length-take 65536 (drop n encoding), length-drop n encoding) in
    c.sync_log.ensures.leads faithful decode c.args.image.now c.requires.size all
