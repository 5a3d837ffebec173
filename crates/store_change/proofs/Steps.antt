-- Steps accept nothing.
use Rattle.std.proofs.Common.{inl, inr, ℕ, List, [], ◌∷◌, Option, ap}
use Rattle.std.specs.List.{AllByRecursion}
use Rattle.refusals.specs.declared.refusal.Refusal.{Refusal}
use Rattle.store_model.specs.Machine.{Machine}
use Rattle.store_model.specs.Steps.{Step, Run, StepFails}
use Rattle.store_model.specs.declared.event.Event.{Event}
use Rattle.store_model.specs.declared.event.Event.TheVariants.{JournalStep, FlusherStep, TrimStep}
use Rattle.store_model.specs.declared.event.Reply.{Reply}
use Rattle.store_model.specs.declared.event.Reply.TheVariants as reply
use Rattle.store_driver.specs.Work.{IsStep, MakesSteps}
use Rattle.store_change.specs.Commits.{KeepsAccepted}
use Rattle.store_change.proofs.Transacting.{keeps_on, keeps_same}

-- a step that is refused accepts nothing
fails_keep : (old new : Machine) (wanted : Option Refusal) (why : Refusal) → StepFails old wanted why new → KeepsAccepted old new
fails_keep old new wanted why (inl refuses) = keeps_same old new refuses.1
fails_keep old new wanted why (inr fails) = record { opened = ap (λ (m : Machine). m.opened) fails.1.next; before = ap (λ (m : Machine). m.before) fails.1.next; accepted = ap (λ (m : Machine). m.accepted) fails.1.next; bounds = ap (λ (m : Machine). m.bounds) fails.1.next }

journal_keeps : (old new : Machine) (answer : Reply) → Step old JournalStep answer new → KeepsAccepted old new
journal_keeps old new (reply.Stepped progress) step = record { opened = ap (λ (m : Machine). m.opened) step.next; before = ap (λ (m : Machine). m.before) step.next; accepted = ap (λ (m : Machine). m.accepted) step.next; bounds = ap (λ (m : Machine). m.bounds) step.next }
journal_keeps old new (reply.Refused why) step = fails_keep old new _ why step
journal_keeps old new _ step = absurd step

flusher_keeps : (old new : Machine) (hive : ℕ) (answer : Reply) → Step old (FlusherStep hive) answer new → KeepsAccepted old new
flusher_keeps old new hive (reply.Stepped progress) step = keeps_same old new step.next
flusher_keeps old new hive (reply.Refused why) step = fails_keep old new _ why step
flusher_keeps old new hive _ step = absurd step

trim_keeps : (old new : Machine) (answer : Reply) → Step old TrimStep answer new → KeepsAccepted old new
trim_keeps old new (reply.Stepped progress) step = record { opened = ap (λ (m : Machine). m.opened) step.next; before = ap (λ (m : Machine). m.before) step.next; accepted = ap (λ (m : Machine). m.accepted) step.next; bounds = ap (λ (m : Machine). m.bounds) step.next }
trim_keeps old new (reply.Refused why) step = fails_keep old new _ why step
trim_keeps old new _ step = absurd step

step_keeps : (old new : Machine) (event : Event) (answer : Reply) → IsStep event → Step old event answer new → KeepsAccepted old new
step_keeps old new JournalStep answer is step = journal_keeps old new answer step
step_keeps old new (FlusherStep hive) answer is step = flusher_keeps old new hive answer step
step_keeps old new TrimStep answer is step = trim_keeps old new answer step
step_keeps old new _ answer is step = absurd (let no : ⊥ = cc in no)

run_keeps : (events : List Event) (answers : List Reply) (old new : Machine) → AllByRecursion IsStep events → Run old events answers new → KeepsAccepted old new
run_keeps [] [] old new are run = keeps_same old new run
run_keeps (event ∷ events) (answer ∷ answers) old new are run = keeps_on old run.0 new (step_keeps old run.0 event answer are.0 run.1) (run_keeps events answers run.0 new are.1 run.2)
run_keeps [] (answer ∷ answers) old new are run = absurd run
run_keeps (event ∷ events) [] old new are run = absurd run

pub steps_keep : (ended : Option Refusal) (old new : Machine) → MakesSteps ended old new → KeepsAccepted old new
steps_keep ended old new makes = run_keeps makes.0 _ old new makes.2 makes.4
