use Rattle.std.proofs.Common.{◌≡◌, ℕ, Bool, true, false, length, refl}
use Rattle.disk_model.specs.FileState.{FileState}
use Rattle.hive_flush_model.specs.States.{PrimaryIsSyncedIn}
use Rattle.hive_writer.specs.WriterSteps.{phase_in, work_of}
use Rattle.hive_writer.specs.declared.stage.FlushStage.{FlushStage}
use Rattle.hive_writer.specs.declared.stage.FlushStage.TheVariants as stage
use Rattle.hive_flush.specs.HiveStates.{memory_of, durable_of}
use Rattle.hive_flush.proofs.laws.reads_are_honest.Goals as goal

-- a device that hasn't failed
works : (failed : Bool) → (failed ≡ true → ⊥) → failed ≡ false
works true not = absurd (not refl)
works false not = refl

-- if the primary file rests, how long the log is doesn't matter
rests : (total : ℕ) (at : FlushStage) (primary : FileState) → PrimaryIsSyncedIn (phase_in 0 at) primary → PrimaryIsSyncedIn (phase_in total at) primary
rests total stage.AtRest primary r = tt
rests total (stage.WritingLog chunks) primary r = tt
rests total stage.LogSynced primary r = r
rests total stage.PrimaryMarkedDirty primary r = tt
rests total (stage.WritingPages purpose page) primary r = tt
rests total (stage.PagesSynced purpose) primary r = r
rests total (stage.HeaderWritten purpose) primary r = tt

pub returns : goal.returns
returns c = λ file primary log sound whole on.
    c.reads_are_honest.ensures on.stands (work_of on.plan file.image.bytes file.pages (durable_of file) (memory_of file)) (phase_in (length on.plan.encoding) file.writer.stage) primary log sound on.on
    (rests (length on.plan.encoding) file.writer.stage primary (on.rests (works file.writer.failed whole)))
