-- Whether a repair is left, by a stage and by a count.
use Rattle.std.proofs.Common.{◌≡◌, ◌≢◌, Bool, true, false, refl, arith}
use Rattle.dirty_vector.specs.Pages.{Pages}
use Rattle.hive_writer.specs.WriterSteps.{IsFlushing}
use Rattle.hive_writer.specs.declared.stage.FlushStage.{FlushStage}
use Rattle.hive_writer.specs.declared.stage.FlushStage.TheVariants as stage
use Rattle.hive_writer.specs.declared.stage.Purpose.TheVariants as purpose
use Rattle.hive_flush.specs.HiveStates.{repairs_at}

pub none_left : (pages : Pages) (at : FlushStage) → IsFlushing at → repairs_at pages at ≡ 0
none_left pages stage.AtRest is = refl
none_left pages (stage.WritingLog chunks) is = refl
none_left pages stage.LogSynced is = refl
none_left pages stage.PrimaryMarkedDirty is = refl
none_left pages (stage.WritingPages purpose.Flush page) is = refl
none_left pages (stage.WritingPages purpose.Repair page) is = absurd cc
none_left pages (stage.PagesSynced purpose.Flush) is = refl
none_left pages (stage.PagesSynced purpose.Repair) is = absurd cc
none_left pages (stage.HeaderWritten purpose.Flush) is = refl
none_left pages (stage.HeaderWritten purpose.Repair) is = absurd cc

pub some_left : (pages : Pages) (at : FlushStage) → (IsFlushing at → ⊥) → repairs_at pages at ≢ 0
some_left pages stage.AtRest not e = not tt
some_left pages (stage.WritingLog chunks) not e = not tt
some_left pages stage.LogSynced not e = not tt
some_left pages stage.PrimaryMarkedDirty not e = not tt
some_left pages (stage.WritingPages purpose.Flush page) not e = not refl
some_left pages (stage.WritingPages purpose.Repair page) not e = omega (arith, e)
some_left pages (stage.PagesSynced purpose.Flush) not e = not refl
some_left pages (stage.PagesSynced purpose.Repair) not e = omega (arith, e)
some_left pages (stage.HeaderWritten purpose.Flush) not e = not refl
some_left pages (stage.HeaderWritten purpose.Repair) not e = omega (arith, e)

-- a test that failed did not hold
pub failed : (b : Bool) → b ≡ true → b ≡ false → ⊥
failed b holds not = absurd cc
