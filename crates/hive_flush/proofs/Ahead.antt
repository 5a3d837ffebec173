-- What is in memory is what is on its way, and its number isn't below the number of what is
-- durable.
use Rattle.std.proofs.Common.{◌<◌, inl, inr, ℕ, refl, arith}
use Rattle.reg_tree.specs.Maps.{TreeMap}
use Rattle.crash_model.specs.Memory.{IsOfMemory}
use Rattle.dirty_vector.specs.Pages.{Pages}
use Rattle.hive_writer.specs.declared.stage.FlushStage.{FlushStage}
use Rattle.hive_writer.specs.declared.stage.FlushStage.TheVariants as stage
use Rattle.hive_writer.specs.declared.stage.Purpose.TheVariants as purpose
use Rattle.hive_writer.specs.WriterSteps.{calls_left, choice_at}

pub of_memory : (at : FlushStage) (now memory : TreeMap × ℕ) → IsOfMemory (choice_at at now memory) memory
of_memory stage.AtRest now memory = inl refl
of_memory (stage.WritingLog k) now memory = inr refl
of_memory stage.LogSynced now memory = inr refl
of_memory stage.PrimaryMarkedDirty now memory = inr refl
of_memory (stage.WritingPages purpose.Flush page) now memory = inr refl
of_memory (stage.WritingPages purpose.Repair page) now memory = inl refl
of_memory (stage.PagesSynced purpose.Flush) now memory = inr refl
of_memory (stage.PagesSynced purpose.Repair) now memory = inl refl
of_memory (stage.HeaderWritten purpose.Flush) now memory = inr refl
of_memory (stage.HeaderWritten purpose.Repair) now memory = inl refl

-- some call is left at every stage
pub some_left : (total : ℕ) (pages : Pages) (at : FlushStage) → 0 < calls_left total pages at
some_left total pages stage.AtRest = omega arith
some_left total pages (stage.WritingLog k) = omega arith
some_left total pages stage.LogSynced = omega arith
some_left total pages stage.PrimaryMarkedDirty = omega arith
some_left total pages (stage.WritingPages whose page) = omega arith
some_left total pages (stage.PagesSynced whose) = omega arith
some_left total pages (stage.HeaderWritten whose) = omega arith
