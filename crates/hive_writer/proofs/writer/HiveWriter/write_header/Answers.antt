use Rattle.std.proofs.Common.{ℕ, List, sym, ◌∙◌, subst, arith}
use Rattle.disk_model.specs.FileState.{Writes, MayWrite}
use Rattle.disk_model.specs.StoreFiles.{primary_file, log_file}
use Rattle.hive_flush_model.specs.Phases.{FlushPhase.PagesSynced, FlushPhase.HeaderWritten}
use Rattle.hive_flush_model.proofs.Moving.{final_written, final_failed}
use Rattle.hive_writer.specs.WriterSteps.{work_of, purpose_in}
use Rattle.hive_writer.proofs.Moved.{log_same}
use Rattle.hive_writer.proofs.writer.HiveWriter.write_header.Goals as goal

pub returns-in-Ok-clause-leads : goal.returns-in-Ok-clause-leads
returns-in-Ok-clause-leads g c = λ faithful decode plan image pages ends now memory others size ready on.
    let w = work_of plan image pages now memory in
    let hive = c.args.self.now.hive in
    let p = g.D.Disk.state_at c.args.disk.now (g.D.Disk.clock c.args.disk.now) (primary_file hive) in
    let l = g.D.Disk.state_at c.args.disk.now (g.D.Disk.clock c.args.disk.now) (log_file hive) in
    let p2 = g.D.Disk.state_at c.write_file.new.disk (g.D.Disk.clock c.write_file.new.disk) (primary_file hive) in
    let l2 = g.D.Disk.state_at c.write_file.new.disk (g.D.Disk.clock c.write_file.new.disk) (log_file hive) in
    let sound = g.met.D.Disk.sound c.args.disk.now (g.D.Disk.clock c.args.disk.now) (primary_file hive) (c.write_file.ensures.faithful faithful) (omega arith) in
    let done = subst (λ (s : List ℕ). Writes 0 s p p2) (c.write.ensures.encoding ∙ sym ends.final) (c.in-Ok.ensures.done faithful) in (
      log_same decode w (HeaderWritten (purpose_in c.args.purpose)) p2 l l2 c.write_file.ensures.other (final_written decode w (purpose_in c.args.purpose) p l p2 sound on done),
      tt,
    )

pub returns-in-Err-clause-leads : goal.returns-in-Err-clause-leads
returns-in-Err-clause-leads g c = λ faithful decode plan image pages ends now memory others size ready on.
    let w = work_of plan image pages now memory in
    let hive = c.args.self.now.hive in
    let p = g.D.Disk.state_at c.args.disk.now (g.D.Disk.clock c.args.disk.now) (primary_file hive) in
    let l = g.D.Disk.state_at c.args.disk.now (g.D.Disk.clock c.args.disk.now) (log_file hive) in
    let p2 = g.D.Disk.state_at c.write_file.new.disk (g.D.Disk.clock c.write_file.new.disk) (primary_file hive) in
    let l2 = g.D.Disk.state_at c.write_file.new.disk (g.D.Disk.clock c.write_file.new.disk) (log_file hive) in
    let sound = g.met.D.Disk.sound c.args.disk.now (g.D.Disk.clock c.args.disk.now) (primary_file hive) (c.write_file.ensures.faithful faithful) (omega arith) in
    let part = subst (λ (s : List ℕ). MayWrite 0 s p p2) (c.write.ensures.encoding ∙ sym ends.final) (c.in-Err.ensures.failed faithful) in
    log_same decode w (PagesSynced (purpose_in c.args.purpose)) p2 l l2 c.write_file.ensures.other (final_failed decode w (purpose_in c.args.purpose) p l p2 sound on part)
