use Rattle.std.proofs.Common.{ℕ, refl, subst}
use Rattle.disk_model.specs.FileState.{FileState}
use Rattle.hive_flush_model.specs.Plans.{FlushPlan}
use Rattle.hive_writer.specs.WriterSteps.{plan_of, work_of, CallLeadsTo}
use Rattle.hive_writer.proofs.Stepped.{settled_on, settled_keeps, begun_on, begun_keeps, begun_plan, begun_says}
use Rattle.hive_writer.proofs.writer.HiveWriter.step.Goals as goal

pub returns-clause-on : goal.returns-clause-on
returns-clause-on g c = λ faithful decode now memory others size ready on.
    let old = c.args.self.now in
    let mid = c.begin.new.self in
    let image = c.args.image.now in
    let pages = c.args.pages.now in
    let plan = plan_of old image pages in
    let before : ℕ → FileState = g.D.Disk.state_at c.args.disk.now (g.D.Disk.clock c.args.disk.now) in
    let after : ℕ → FileState = g.D.Disk.state_at c.flush-called.new.disk (g.D.Disk.clock c.flush-called.new.disk) in
    let leads = subst (λ (q : FlushPlan). CallLeadsTo decode q image pages mid.hive mid.stage c.flush-called.result before after) (begun_plan old.stage old mid image pages c.begin.ensures.begins)
    (c.flush-called.ensures.leads faithful decode) in
    settled_on decode plan image pages before after c.flush-called.result c.finish_call.result mid c.finish_call.new.self c.finish_call.ensures leads now memory others size ready
    (begun_on decode (work_of plan image pages now memory) before old.stage old mid refl c.begin.ensures.begins ready on)

pub returns-clause-says : goal.returns-clause-says
returns-clause-says g c = λ now memory.
    begun_says now memory c.args.self.now.stage c.flush-called.result c.finish_call.result c.args.self.now c.begin.new.self c.finish_call.new.self refl c.requires.flushing c.begin.ensures.begins
    c.flush-called.ensures.next c.finish_call.ensures (c.begin.ensures.flushing c.requires.flushing) c.begin.ensures.not_idle

pub returns-clause-keeps : goal.returns-clause-keeps
returns-clause-keeps g c =
    begun_keeps c.args.self.now.stage c.args.self.now c.begin.new.self c.finish_call.new.self c.finish_call.result c.begin.ensures.begins
    (settled_keeps c.flush-called.result c.finish_call.result c.begin.new.self c.finish_call.new.self c.finish_call.ensures)
