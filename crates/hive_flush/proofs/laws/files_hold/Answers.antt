use Rattle.std.proofs.Common.{ℕ, length, subst}
use Rattle.crash_model.specs.Promises.{Choice, Leaves}
use Rattle.reg_tree.specs.Maps.{TreeMap}
use Rattle.hive_flush_model.specs.Phases.{Hive}
use Rattle.hive_writer.specs.WriterSteps.{phase_in, work_of}
use Rattle.hive_flush.specs.HiveStates.{memory_of, durable_of, store_of}
use Rattle.hive_flush.proofs.Going.{choice_is}
use Rattle.hive_flush.proofs.TreeDecoder.{held_under}
use Rattle.hive_flush.proofs.laws.files_hold.Goals as goal

pub returns : goal.returns
returns c = λ file primary log on p l primary_left log_left.
    let hive : Hive TreeMap = record { work = work_of on.plan file.image.bytes file.pages (durable_of file) (memory_of file); phase = phase_in (length on.plan.encoding) file.writer.stage } in
    let left = c.crash_leaves_choice.ensures.related on.stands hive primary log on.on p l primary_left log_left in (
      left.0,
      subst (λ (x : Choice (TreeMap × ℕ)). Leaves x left.0) (choice_is (length on.plan.encoding) file.writer.stage (durable_of file) (memory_of file)) left.1,
      held_under (store_of file) on.stands p l left.0 on.right left.2,
    )
