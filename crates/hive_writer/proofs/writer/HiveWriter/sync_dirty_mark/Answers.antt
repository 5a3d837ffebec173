use Rattle.std.proofs.Common.{arith}
use Rattle.disk_model.specs.StoreFiles.{primary_file, log_file}
use Rattle.hive_flush_model.specs.Phases.{FlushPhase.PrimaryMarkedDirty, FlushPhase.WritingPages, Purpose.Flush}
use Rattle.hive_flush_model.proofs.Moving.{raised_synced}
use Rattle.hive_writer.specs.WriterSteps.{plan_of, work_of}
use Rattle.hive_writer.proofs.Moved.{log_same, primary_same}
use Rattle.hive_writer.proofs.writer.HiveWriter.sync_dirty_mark.Goals as goal

pub returns-in-Ok-clause-leads : goal.returns-in-Ok-clause-leads
returns-in-Ok-clause-leads g c = λ faithful decode image pages now memory others size ready on.
    let w = work_of (plan_of c.args.self.now image pages) image pages now memory in
    let hive = c.args.self.now.hive in
    let p = g.D.Disk.state_at c.args.disk.now (g.D.Disk.clock c.args.disk.now) (primary_file hive) in
    let l = g.D.Disk.state_at c.args.disk.now (g.D.Disk.clock c.args.disk.now) (log_file hive) in
    let p2 = g.D.Disk.state_at c.sync_file.new.disk (g.D.Disk.clock c.sync_file.new.disk) (primary_file hive) in
    let l2 = g.D.Disk.state_at c.sync_file.new.disk (g.D.Disk.clock c.sync_file.new.disk) (log_file hive) in
    let sound = g.met.D.Disk.sound c.args.disk.now (g.D.Disk.clock c.args.disk.now) (primary_file hive) (c.sync_file.ensures.faithful faithful) (omega arith) in (
      log_same decode w (WritingPages Flush 0) p2 l l2 c.sync_file.ensures.other (raised_synced decode w p l p2 sound on (c.in-Ok.ensures.done faithful)),
      tt,
    )

pub returns-in-Err-clause-leads : goal.returns-in-Err-clause-leads
returns-in-Err-clause-leads g c = λ faithful decode image pages now memory others size ready on.
    let w = work_of (plan_of c.args.self.now image pages) image pages now memory in
    let hive = c.args.self.now.hive in
    let p = g.D.Disk.state_at c.args.disk.now (g.D.Disk.clock c.args.disk.now) (primary_file hive) in
    let l = g.D.Disk.state_at c.args.disk.now (g.D.Disk.clock c.args.disk.now) (log_file hive) in
    let p2 = g.D.Disk.state_at c.sync_file.new.disk (g.D.Disk.clock c.sync_file.new.disk) (primary_file hive) in
    let l2 = g.D.Disk.state_at c.sync_file.new.disk (g.D.Disk.clock c.sync_file.new.disk) (log_file hive) in
    log_same decode w PrimaryMarkedDirty p2 l l2 c.sync_file.ensures.other (primary_same decode w PrimaryMarkedDirty p p2 l (c.in-Err.ensures.failed faithful) on)
