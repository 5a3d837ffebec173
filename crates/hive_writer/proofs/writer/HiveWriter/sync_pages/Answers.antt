use Rattle.std.proofs.Common.{◌*◌, ◌∙◌, ap, sym, arith}
use Rattle.disk_model.specs.FileState.{FileState, at_rest}
use Rattle.disk_model.specs.StoreFiles.{primary_file, log_file}
use Rattle.hive_flush_model.specs.Phases.{FlushPhase.WritingPages, FlushPhase.PagesSynced}
use Rattle.hive_writer.specs.WriterSteps.{work_of, purpose_in}
use Rattle.hive_writer.proofs.Moved.{log_same, primary_same, none_left}
use Rattle.hive_writer.proofs.writer.HiveWriter.sync_pages.Goals as goal

pub returns-in-Ok-clause-leads : goal.returns-in-Ok-clause-leads
returns-in-Ok-clause-leads g c = λ faithful decode plan image pages ends none now memory others size ready on.
    let w = work_of plan image pages now memory in
    let hive = c.args.self.now.hive in
    let p = g.D.Disk.state_at c.args.disk.now (g.D.Disk.clock c.args.disk.now) (primary_file hive) in
    let l = g.D.Disk.state_at c.args.disk.now (g.D.Disk.clock c.args.disk.now) (log_file hive) in
    let p2 = g.D.Disk.state_at c.sync_file.new.disk (g.D.Disk.clock c.sync_file.new.disk) (primary_file hive) in
    let l2 = g.D.Disk.state_at c.sync_file.new.disk (g.D.Disk.clock c.sync_file.new.disk) (log_file hive) in
    let sound = g.met.D.Disk.sound c.args.disk.now (g.D.Disk.clock c.args.disk.now) (primary_file hive) (c.sync_file.ensures.faithful faithful) (omega arith) in (
      log_same decode w (PagesSynced (purpose_in c.args.purpose)) p2 l l2 c.sync_file.ensures.other (none_left decode w c.args.from (purpose_in c.args.purpose) p l p2 sound none on (c.in-Ok.ensures.done faithful)),
      (let e = c.in-Ok.ensures.done faithful in e ∙ ap at_rest (sym (ap (λ (s : FileState). s.synced) e))),
    )

pub returns-in-Err-clause-leads : goal.returns-in-Err-clause-leads
returns-in-Err-clause-leads g c = λ faithful decode plan image pages ends none now memory others size ready on.
    let w = work_of plan image pages now memory in
    let hive = c.args.self.now.hive in
    let p = g.D.Disk.state_at c.args.disk.now (g.D.Disk.clock c.args.disk.now) (primary_file hive) in
    let l = g.D.Disk.state_at c.args.disk.now (g.D.Disk.clock c.args.disk.now) (log_file hive) in
    let p2 = g.D.Disk.state_at c.sync_file.new.disk (g.D.Disk.clock c.sync_file.new.disk) (primary_file hive) in
    let l2 = g.D.Disk.state_at c.sync_file.new.disk (g.D.Disk.clock c.sync_file.new.disk) (log_file hive) in
    let at = WritingPages (purpose_in c.args.purpose) (512 * c.args.from) in
    log_same decode w at p2 l l2 c.sync_file.ensures.other (primary_same decode w at p p2 l (c.in-Err.ensures.failed faithful) on)
