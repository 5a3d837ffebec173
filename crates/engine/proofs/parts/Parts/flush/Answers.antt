use Rattle.std.proofs.Common.{◌≡◌, Ok, Some, subst}
use Rattle.std.specs.Prelude.{slice_get}
use Rattle.disk_model.specs.declared.progress.Progress.{Progress}
use Rattle.hive_flush.specs.HiveStates.{memory_of}
use Rattle.engine_invariant.specs.Answers.{reply_to}
use Rattle.engine_invariant.specs.Prefixes.{view_of}
use Rattle.engine_invariant.specs.Progress.{FlushesOn, IsNotRefused, flush_of}
use Rattle.engine.specs.declared.parts.Parts.{Parts}
use Rattle.engine.proofs.parts.Parts.flush.Goals as goal

pub returns-in-Ok-Done-clause-flushes : goal.returns-in-Ok-Done-clause-flushes
returns-in-Ok-Done-clause-flushes g c = λ was is before after.
    subst (λ (p : Progress). IsNotRefused (reply_to (Ok p)) → FlushesOn (memory_of was).1 (reply_to (Ok p)) (view_of was) (view_of is) (flush_of was) (flush_of is)) c.in-Ok-Done.field-0-is
    (c.in-Ok-Done.ensures.flushes was is before (subst (λ (p : Parts _). slice_get p.hives.items c.args.place ≡ Some is) c.discard_flushed.ensures.rest after))
