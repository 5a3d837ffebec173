use Rattle.std.proofs.Common.{arith}
use Rattle.disk_model.specs.StoreFiles.{primary_file, log_file}
use Rattle.hive_flush_model.specs.Phases.{FlushPhase.HeaderWritten}
use Rattle.hive_flush_model.proofs.Moving.{final_synced}
use Rattle.hive_writer.specs.WriterSteps.{work_of, purpose_in}
use Rattle.hive_writer.proofs.Moved.{log_same, primary_same}
use Rattle.hive_writer.proofs.writer.HiveWriter.sync_header.Goals as goal

pub returns-in-Ok-clause-leads : goal.returns-in-Ok-clause-leads
returns-in-Ok-clause-leads g c = λ faithful decode plan image pages ends now memory others size ready on.
    let w = work_of plan image pages now memory in
    let hive = c.args.self.now.hive in
    let p = g.D.Disk.state_at c.args.disk.now (g.D.Disk.clock c.args.disk.now) (primary_file hive) in
    let l = g.D.Disk.state_at c.args.disk.now (g.D.Disk.clock c.args.disk.now) (log_file hive) in
    let p2 = g.D.Disk.state_at c.sync_file.new.disk (g.D.Disk.clock c.sync_file.new.disk) (primary_file hive) in
    let l2 = g.D.Disk.state_at c.sync_file.new.disk (g.D.Disk.clock c.sync_file.new.disk) (log_file hive) in
    let sound = g.met.D.Disk.sound c.args.disk.now (g.D.Disk.clock c.args.disk.now) (primary_file hive) (c.sync_file.ensures.faithful faithful) (omega arith) in
    let quiet = final_synced decode w others (purpose_in c.args.purpose) p l p2 sound on size (c.in-Ok.ensures.done faithful) in (
      record { rest = quiet.rest; clean = quiet.clean; behind = quiet.behind },
      tt,
    )

pub returns-in-Err-clause-leads : goal.returns-in-Err-clause-leads
returns-in-Err-clause-leads g c = λ faithful decode plan image pages ends now memory others size ready on.
    let w = work_of plan image pages now memory in
    let hive = c.args.self.now.hive in
    let p = g.D.Disk.state_at c.args.disk.now (g.D.Disk.clock c.args.disk.now) (primary_file hive) in
    let l = g.D.Disk.state_at c.args.disk.now (g.D.Disk.clock c.args.disk.now) (log_file hive) in
    let p2 = g.D.Disk.state_at c.sync_file.new.disk (g.D.Disk.clock c.sync_file.new.disk) (primary_file hive) in
    let l2 = g.D.Disk.state_at c.sync_file.new.disk (g.D.Disk.clock c.sync_file.new.disk) (log_file hive) in
    let at = HeaderWritten (purpose_in c.args.purpose) in
    log_same decode w at p2 l l2 c.sync_file.ensures.other (primary_same decode w at p p2 l (c.in-Err.ensures.failed faithful) on)
