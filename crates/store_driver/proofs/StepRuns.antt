-- Steps that a store makes between the lines.
use Rattle.std.proofs.Common.{[], ◌∷◌, Option, Some, None, refl}
use Rattle.store_model.specs.Machine.{Machine}
use Rattle.store_model.specs.Steps.{Step}
use Rattle.store_model.specs.declared.event.Event.{Event}
use Rattle.store_model.specs.declared.event.Reply.{Reply}
use Rattle.store_model.specs.declared.event.Reply.TheVariants.{Refused}
use Rattle.refusals.specs.declared.refusal.Refusal.{Refusal}
use Rattle.store_driver.specs.Work.{IsStep, WasMade, MakesSteps}

-- none
pub none_made : (machine : Machine) → MakesSteps None machine machine
none_made machine = ([], [], tt, tt, refl)

-- one more, before others
pub one_before : (old mid new : Machine) (event : Event) (answer : Reply) (ended : Option Refusal) → IsStep event → WasMade answer → Step old event answer mid → MakesSteps ended mid new → MakesSteps ended old new
one_before old mid new event answer ended is made step on = (event ∷ on.0, answer ∷ on.1, (is, on.2), (made, on.3), (mid, step, on.4))

-- one that is refused
pub one_refused : (old new : Machine) (event : Event) (why : Refusal) → IsStep event → Step old event (Refused why) new → MakesSteps (Some why) old new
one_refused old new event why is step = (event ∷ [], [], (is, tt), tt, (new, step, refl))
