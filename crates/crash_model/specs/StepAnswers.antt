-- What a step of the journal or of a hive's files answers, in the crash model's words.
use Rattle.std.specs.Prelude.{Result, Ok, Err}
use Rattle.refusals.specs.declared.refusal.Refusal.{Refusal}
use Rattle.refusals.specs.declared.refusal.Refusal.TheVariants as refusal
use Rattle.crash_model.specs.Promises.{Answer, Answer.Idle, Answer.More, Answer.Done, Answer.NoMemory, Answer.DiskFault, Answer.Faulted}
use Rattle.disk_model.specs.declared.progress.Progress.{Progress}
use Rattle.disk_model.specs.declared.progress.Progress.TheVariants as progress

-- What a step says, by its answer: how far it has come, or one of the three refusals that a step may have, and no
-- other.
abbrev pub Says : {X : Type 0} → (Answer → X → X → Type 0) → Result Progress Refusal → X → X → Type 0
Says says (Ok progress.Idle) old new = says Idle old new
Says says (Ok progress.More) old new = says More old new
Says says (Ok progress.Done) old new = says Done old new
Says says (Err refusal.NoMemory) old new = says NoMemory old new
Says says (Err refusal.DiskFault) old new = says DiskFault old new
Says says (Err refusal.Faulted) old new = says Faulted old new
Says says (Err _) old new = ⊥
