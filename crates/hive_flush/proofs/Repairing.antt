-- How many calls of a repair are left.
use Rattle.std.proofs.Common.{◌≡◌, ℕ, ◌<◌, refl, arith}
use Rattle.dirty_vector.specs.Pages.{Pages}
use Rattle.hive_writer.specs.declared.stage.Purpose.TheVariants as purpose
use Rattle.hive_writer.specs.declared.stage.FlushStage.{FlushStage}
use Rattle.hive_writer.specs.declared.stage.FlushStage.TheVariants as stage
use Rattle.hive_writer.specs.WriterSteps.{IsFlushing, IsWritingFor, calls_left}
use Rattle.hive_flush.specs.HiveStates.{repairs_at}

-- of a stage of a repair those are all of its calls, whatever log a flush would write
pub repairs_are : (total : ℕ) (pages : Pages) (at : FlushStage) → IsWritingFor purpose.Repair at → repairs_at pages at ≡ calls_left total pages at
repairs_are total pages stage.AtRest r = elim r [ ]
repairs_are total pages (stage.WritingLog k) r = elim r [ ]
repairs_are total pages stage.LogSynced r = elim r [ ]
repairs_are total pages stage.PrimaryMarkedDirty r = elim r [ ]
repairs_are total pages (stage.WritingPages purpose.Repair page) r = refl
repairs_are total pages (stage.WritingPages purpose.Flush page) r = absurd cc
repairs_are total pages (stage.PagesSynced purpose.Repair) r = refl
repairs_are total pages (stage.PagesSynced purpose.Flush) r = absurd cc
repairs_are total pages (stage.HeaderWritten purpose.Repair) r = refl
repairs_are total pages (stage.HeaderWritten purpose.Flush) r = absurd cc

-- some call is left if the stage is none of a flush
pub some_left : (pages : Pages) (at : FlushStage) → (IsFlushing at → ⊥) → 0 < repairs_at pages at
some_left pages stage.AtRest not = absurd (not tt)
some_left pages (stage.WritingLog k) not = absurd (not tt)
some_left pages stage.LogSynced not = absurd (not tt)
some_left pages stage.PrimaryMarkedDirty not = absurd (not tt)
some_left pages (stage.WritingPages purpose.Repair page) not = omega arith
some_left pages (stage.WritingPages purpose.Flush page) not = absurd (not refl)
some_left pages (stage.PagesSynced purpose.Repair) not = omega arith
some_left pages (stage.PagesSynced purpose.Flush) not = absurd (not refl)
some_left pages (stage.HeaderWritten purpose.Repair) not = omega arith
some_left pages (stage.HeaderWritten purpose.Flush) not = absurd (not refl)

-- what is no stage of a flush is one of a repair
pub repairing : (at : FlushStage) → (IsFlushing at → ⊥) → IsWritingFor purpose.Repair at
repairing stage.AtRest not = absurd (not tt)
repairing (stage.WritingLog k) not = absurd (not tt)
repairing stage.LogSynced not = absurd (not tt)
repairing stage.PrimaryMarkedDirty not = absurd (not tt)
repairing (stage.WritingPages purpose.Repair page) not = refl
repairing (stage.WritingPages purpose.Flush page) not = absurd (not refl)
repairing (stage.PagesSynced purpose.Repair) not = refl
repairing (stage.PagesSynced purpose.Flush) not = absurd (not refl)
repairing (stage.HeaderWritten purpose.Repair) not = refl
repairing (stage.HeaderWritten purpose.Flush) not = absurd (not refl)

-- a call that isn't the last one leaves fewer
pub fewer : (total : ℕ) (pages : Pages) (old new : FlushStage) → IsWritingFor purpose.Repair old → IsWritingFor purpose.Repair new → calls_left total pages new < calls_left total pages old → repairs_at pages new < repairs_at pages old
fewer total pages old new was is falls = omega (arith, repairs_are total pages old was, repairs_are total pages new is, falls)
