use Rattle.std.proofs.Common.{ℕ, List, subst, arith}
use Rattle.disk_model.specs.FileState.{Writes, MayWrite}
use Rattle.disk_model.specs.StoreFiles.{primary_file, log_file}
use Rattle.hive_flush_model.specs.Phases.{FlushPhase.LogSynced, FlushPhase.PrimaryMarkedDirty}
use Rattle.hive_flush_model.proofs.Moving.{raised_written, raised_failed}
use Rattle.hive_writer.specs.WriterSteps.{plan_of, work_of}
use Rattle.hive_writer.proofs.Moved.{log_same, raised_is}
use Rattle.hive_writer.proofs.writer.HiveWriter.mark_primary_dirty.Goals as goal

pub returns-in-Ok-clause-leads : goal.returns-in-Ok-clause-leads
returns-in-Ok-clause-leads g c = λ faithful decode image pages now memory others size ready on.
    let w = work_of (plan_of c.args.self.now image pages) image pages now memory in
    let hive = c.args.self.now.hive in
    let p = g.D.Disk.state_at c.args.disk.now (g.D.Disk.clock c.args.disk.now) (primary_file hive) in
    let l = g.D.Disk.state_at c.args.disk.now (g.D.Disk.clock c.args.disk.now) (log_file hive) in
    let p2 = g.D.Disk.state_at c.write_file.new.disk (g.D.Disk.clock c.write_file.new.disk) (primary_file hive) in
    let l2 = g.D.Disk.state_at c.write_file.new.disk (g.D.Disk.clock c.write_file.new.disk) (log_file hive) in
    let sound = g.met.D.Disk.sound c.args.disk.now (g.D.Disk.clock c.args.disk.now) (primary_file hive) (c.write_file.ensures.faithful faithful) (omega arith) in
    let is = raised_is c.args.self.now.base c.next-raised.result c.write.result c.next-raised.ensures c.write.ensures.encoding in
    let done = subst (λ (s : List ℕ). Writes 0 s p p2) is (c.in-Ok.ensures.done faithful) in (
      log_same decode w PrimaryMarkedDirty p2 l l2 c.write_file.ensures.other (raised_written decode w p l p2 sound on done),
      tt,
    )

pub returns-in-Err-clause-leads : goal.returns-in-Err-clause-leads
returns-in-Err-clause-leads g c = λ faithful decode image pages now memory others size ready on.
    let w = work_of (plan_of c.args.self.now image pages) image pages now memory in
    let hive = c.args.self.now.hive in
    let p = g.D.Disk.state_at c.args.disk.now (g.D.Disk.clock c.args.disk.now) (primary_file hive) in
    let l = g.D.Disk.state_at c.args.disk.now (g.D.Disk.clock c.args.disk.now) (log_file hive) in
    let p2 = g.D.Disk.state_at c.write_file.new.disk (g.D.Disk.clock c.write_file.new.disk) (primary_file hive) in
    let l2 = g.D.Disk.state_at c.write_file.new.disk (g.D.Disk.clock c.write_file.new.disk) (log_file hive) in
    let sound = g.met.D.Disk.sound c.args.disk.now (g.D.Disk.clock c.args.disk.now) (primary_file hive) (c.write_file.ensures.faithful faithful) (omega arith) in
    let is = raised_is c.args.self.now.base c.next-raised.result c.write.result c.next-raised.ensures c.write.ensures.encoding in
    let part = subst (λ (s : List ℕ). MayWrite 0 s p p2) is (c.in-Err.ensures.failed faithful) in
    log_same decode w LogSynced p2 l l2 c.write_file.ensures.other (raised_failed decode w p l p2 sound on part)
