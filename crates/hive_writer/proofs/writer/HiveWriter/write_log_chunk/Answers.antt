use Rattle.std.proofs.Common.{ℕ, ◌+◌, ◌*◌, List, length, drop, min, ap, subst, arith}
use Rattle.std.proofs.lemmas.List.{length-take}
use Rattle.disk_model.specs.FileState.{Writes, MayWrite}
use Rattle.disk_model.specs.StoreFiles.{primary_file, log_file}
use Rattle.hive_flush_model.specs.Phases.{FlushPhase.WritingLog}
use Rattle.hive_writer.specs.WriterSteps.{plan_of, work_of}
use Rattle.hive_writer.proofs.Moved.{primary_same, chunk_written, chunk_failed}
use Rattle.hive_writer.proofs.writer.HiveWriter.write_log_chunk.Goals as goal

pub write_file-requires : goal.write_file-requires
write_file-requires g c =
    let rest = drop (65536 * c.args.index) (plan_of c.args.self.now c.args.image.now c.args.pages.now).encoding in
    omega (arith, ap (λ (l : List ℕ). length l) c.requires.chunk, length-take 65536 rest)

pub returns-in-Ok-clause-leads : goal.returns-in-Ok-clause-leads
returns-in-Ok-clause-leads g c = λ faithful decode now memory others size ready on.
    let w = work_of (plan_of c.args.self.now c.args.image.now c.args.pages.now) c.args.image.now c.args.pages.now now memory in
    let hive = c.args.self.now.hive in
    let p = g.D.Disk.state_at c.args.disk.now (g.D.Disk.clock c.args.disk.now) (primary_file hive) in
    let l = g.D.Disk.state_at c.args.disk.now (g.D.Disk.clock c.args.disk.now) (log_file hive) in
    let p2 = g.D.Disk.state_at c.write_file.new.disk (g.D.Disk.clock c.write_file.new.disk) (primary_file hive) in
    let l2 = g.D.Disk.state_at c.write_file.new.disk (g.D.Disk.clock c.write_file.new.disk) (log_file hive) in (
      primary_same decode w (WritingLog (min (65536 * (c.args.index + 1)) (length w.plan.encoding))) p p2 l2 c.write_file.ensures.other
          (chunk_written decode w c.args.index c.args.chunk.now p l l2 c.requires.chunk c.requires.some on (subst (λ (n : ℕ). Writes (65536 * n) c.args.chunk.now l l2) c.from.ensures (c.in-Ok.ensures.done faithful))),
      tt,
    )

pub returns-in-Err-clause-leads : goal.returns-in-Err-clause-leads
returns-in-Err-clause-leads g c = λ faithful decode now memory others size ready on.
    let w = work_of (plan_of c.args.self.now c.args.image.now c.args.pages.now) c.args.image.now c.args.pages.now now memory in
    let hive = c.args.self.now.hive in
    let p = g.D.Disk.state_at c.args.disk.now (g.D.Disk.clock c.args.disk.now) (primary_file hive) in
    let l = g.D.Disk.state_at c.args.disk.now (g.D.Disk.clock c.args.disk.now) (log_file hive) in
    let p2 = g.D.Disk.state_at c.write_file.new.disk (g.D.Disk.clock c.write_file.new.disk) (primary_file hive) in
    let l2 = g.D.Disk.state_at c.write_file.new.disk (g.D.Disk.clock c.write_file.new.disk) (log_file hive) in
    let at = min (65536 * c.args.index) (length w.plan.encoding) in
    primary_same decode w (WritingLog at) p p2 l2 c.write_file.ensures.other (chunk_failed decode w c.args.index c.args.chunk.now p l l2 c.requires.chunk c.requires.some on (subst (λ (n : ℕ). MayWrite (65536 * n) c.args.chunk.now l l2) c.from.ensures (c.in-Err.ensures.failed faithful)))
