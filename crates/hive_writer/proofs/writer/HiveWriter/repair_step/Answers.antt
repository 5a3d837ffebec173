use Rattle.std.proofs.Common.{ℕ}
use Rattle.disk_model.specs.FileState.{FileState}
use Rattle.hive_writer.proofs.Stepped.{settled_on, settled_falls}
use Rattle.hive_writer.proofs.writer.HiveWriter.repair_step.Goals as goal

pub returns-clause-on : goal.returns-clause-on
returns-clause-on g c = λ faithful decode plan ends now memory others size ready on.
    let before : ℕ → FileState = g.D.Disk.state_at c.args.disk.now (g.D.Disk.clock c.args.disk.now) in
    let after : ℕ → FileState = g.D.Disk.state_at c.write_repair-called.new.disk (g.D.Disk.clock c.write_repair-called.new.disk) in
    settled_on decode plan c.args.image.now c.args.pages.now before after c.write_repair-called.result c.finish_call.result c.args.self.now c.finish_call.new.self c.finish_call.ensures
    (c.write_repair-called.ensures.leads faithful decode plan ends) now memory others size ready on

pub returns-clause-falls : goal.returns-clause-falls
returns-clause-falls g c = λ total more.
    settled_falls total c.args.pages.now c.write_repair-called.result c.finish_call.result c.args.self.now c.finish_call.new.self (c.write_repair-called.ensures.falls total) c.finish_call.ensures more
