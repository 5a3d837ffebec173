use Rattle.std.proofs.Common.{inr, ◌<◌, ◌+◌, ◌*◌, ◌-◌, ◌≤◌, take, drop, refl, arith}
use Rattle.disk_model.specs.StoreFiles.{primary_file, log_file}
use Rattle.hive_flush_model.specs.Phases.{FlushPhase.WritingPages}
use Rattle.hive_writer.specs.WriterSteps.{work_of, purpose_in}
use Rattle.hive_writer.proofs.Moved.{log_same, run_written, run_failed, run_falls}
use Rattle.hive_writer.proofs.writer.HiveWriter.write_pages.Goals as goal

pub returns-in-Ok-clause-leads : goal.returns-in-Ok-clause-leads
returns-in-Ok-clause-leads g c = λ faithful decode plan ends now memory others size ready on.
    let w = work_of plan c.args.image.now c.args.pages.now now memory in
    let hive = c.args.self.now.hive in
    let p = g.D.Disk.state_at c.args.disk.now (g.D.Disk.clock c.args.disk.now) (primary_file hive) in
    let l = g.D.Disk.state_at c.args.disk.now (g.D.Disk.clock c.args.disk.now) (log_file hive) in
    let p2 = g.D.Disk.state_at c.write_file.new.disk (g.D.Disk.clock c.write_file.new.disk) (primary_file hive) in
    let l2 = g.D.Disk.state_at c.write_file.new.disk (g.D.Disk.clock c.write_file.new.disk) (log_file hive) in
    let sound = g.met.D.Disk.sound c.args.disk.now (g.D.Disk.clock c.args.disk.now) (primary_file hive) (c.write_file.ensures.faithful faithful) (omega arith) in
    let run = c.args.run in
    let last = run.start + c.min.result in
    let some : run.start ≤ last = omega arith in
    let le : last ≤ run.end = omega (arith, c.min.ensures, c.requires.run.some) in (
      log_same decode w (WritingPages (purpose_in c.args.purpose) (512 * last)) p2 l l2 c.write_file.ensures.other
          (run_written decode w c.args.from run.start run.end last p l p2 (take (512 * last - 512 * run.start) (drop (512 * run.start) c.args.image.now)) sound c.requires.size c.requires.run some le refl on (c.in-Ok.ensures.done faithful)),
      tt,
    )

pub returns-in-Err-clause-leads : goal.returns-in-Err-clause-leads
returns-in-Err-clause-leads g c = λ faithful decode plan ends now memory others size ready on.
    let w = work_of plan c.args.image.now c.args.pages.now now memory in
    let hive = c.args.self.now.hive in
    let p = g.D.Disk.state_at c.args.disk.now (g.D.Disk.clock c.args.disk.now) (primary_file hive) in
    let l = g.D.Disk.state_at c.args.disk.now (g.D.Disk.clock c.args.disk.now) (log_file hive) in
    let p2 = g.D.Disk.state_at c.write_file.new.disk (g.D.Disk.clock c.write_file.new.disk) (primary_file hive) in
    let l2 = g.D.Disk.state_at c.write_file.new.disk (g.D.Disk.clock c.write_file.new.disk) (log_file hive) in
    let run = c.args.run in
    let last = run.start + c.min.result in
    let some : run.start ≤ last = omega arith in
    let le : last ≤ run.end = omega (arith, c.min.ensures, c.requires.run.some) in
    log_same decode w (WritingPages (purpose_in c.args.purpose) (512 * c.args.from)) p2 l l2 c.write_file.ensures.other
    (run_failed decode w c.args.from run.start run.end last p l p2 (take (512 * last - 512 * run.start) (drop (512 * run.start) c.args.image.now)) c.requires.run some le refl on (c.in-Err.ensures.failed faithful))

pub returns-in-Ok-clause-falls : goal.returns-in-Ok-clause-falls
returns-in-Ok-clause-falls g c = λ total.
    let run = c.args.run in
    let last = run.start + c.min.result in
    let some : run.start < last = omega (arith, c.min.ensures, c.requires.run.some) in
    let le : last ≤ run.end = omega (arith, c.min.ensures, c.requires.run.some) in
    let fewer = run_falls c.args.pages.now c.args.from run.start run.end last c.requires.run some le in
    inr (omega (arith, fewer))
