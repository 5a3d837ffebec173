use Rattle.std.proofs.Common.{◌≡◌, ◌*◌, ◌∙◌, length, min, sym, subst}
use Rattle.disk_model.specs.FileState.{at_rest}
use Rattle.disk_model.specs.StoreFiles.{primary_file, log_file}
use Rattle.dirty_vector.specs.Pages.{dirty_count}
use Rattle.hive_flush_model.specs.Phases.{Purpose.Flush, FlushPhase.WritingLog, FlushPhase.LogSynced, FlushPhase.PagesSynced}
use Rattle.hive_writer.specs.WriterSteps.{plan_of, work_of}
use Rattle.hive_writer.proofs.Moved.{log_same, primary_same, all_synced, alone_synced}
use Rattle.hive_writer.proofs.writer.HiveWriter.sync_log.Goals as goal

-- no page is dirty
pub returns-in-Ok-clause-leads : goal.returns-in-Ok-clause-leads
returns-in-Ok-clause-leads g c = λ faithful decode image long all now memory others size ready on.
    let w = work_of (plan_of c.args.self.now image c.args.pages.now) image c.args.pages.now now memory in
    let hive = c.args.self.now.hive in
    let p = g.D.Disk.state_at c.args.disk.now (g.D.Disk.clock c.args.disk.now) (primary_file hive) in
    let l = g.D.Disk.state_at c.args.disk.now (g.D.Disk.clock c.args.disk.now) (log_file hive) in
    let p2 = g.D.Disk.state_at c.sync_file.new.disk (g.D.Disk.clock c.sync_file.new.disk) (primary_file hive) in
    let l2 = g.D.Disk.state_at c.sync_file.new.disk (g.D.Disk.clock c.sync_file.new.disk) (log_file hive) in
    let none : dirty_count c.args.pages.now ≡ 0 = sym c.count.ensures.pages ∙ c.if-count-eq0.true in (
      primary_same decode w (PagesSynced Flush) p p2 l2 c.sync_file.ensures.other (alone_synced decode w c.args.index p l l2 long none all on (c.in-Ok.ensures.done faithful)),
      subst (λ s. s ≡ at_rest s.synced) (sym c.sync_file.ensures.other) on.quiet.rest,
    )

pub returns-in-Ok-2-clause-leads : goal.returns-in-Ok-2-clause-leads
returns-in-Ok-2-clause-leads g c = λ faithful decode image long all now memory others size ready on.
    let w = work_of (plan_of c.args.self.now image c.args.pages.now) image c.args.pages.now now memory in
    let hive = c.args.self.now.hive in
    let p = g.D.Disk.state_at c.args.disk.now (g.D.Disk.clock c.args.disk.now) (primary_file hive) in
    let l = g.D.Disk.state_at c.args.disk.now (g.D.Disk.clock c.args.disk.now) (log_file hive) in
    let p2 = g.D.Disk.state_at c.sync_file.new.disk (g.D.Disk.clock c.sync_file.new.disk) (primary_file hive) in
    let l2 = g.D.Disk.state_at c.sync_file.new.disk (g.D.Disk.clock c.sync_file.new.disk) (log_file hive) in (
      primary_same decode w LogSynced p p2 l2 c.sync_file.ensures.other (all_synced decode w c.args.index p l l2 all on (c.in-Ok-2.ensures.done faithful)),
      subst (λ s. s ≡ at_rest s.synced) (sym c.sync_file.ensures.other) on.quiet.rest,
    )

pub returns-in-Err-clause-leads : goal.returns-in-Err-clause-leads
returns-in-Err-clause-leads g c = λ faithful decode image long all now memory others size ready on.
    let w = work_of (plan_of c.args.self.now image c.args.pages.now) image c.args.pages.now now memory in
    let hive = c.args.self.now.hive in
    let p = g.D.Disk.state_at c.args.disk.now (g.D.Disk.clock c.args.disk.now) (primary_file hive) in
    let l = g.D.Disk.state_at c.args.disk.now (g.D.Disk.clock c.args.disk.now) (log_file hive) in
    let p2 = g.D.Disk.state_at c.sync_file.new.disk (g.D.Disk.clock c.sync_file.new.disk) (primary_file hive) in
    let l2 = g.D.Disk.state_at c.sync_file.new.disk (g.D.Disk.clock c.sync_file.new.disk) (log_file hive) in
    let at = WritingLog (min (65536 * c.args.index) (length w.plan.encoding)) in
    primary_same decode w at p p2 l2 c.sync_file.ensures.other (log_same decode w at p l l2 (c.in-Err.ensures.failed faithful) on)
