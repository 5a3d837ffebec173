-- Steps that a store makes of its own accord: of the journal, of the hives' flush and of trims.
use Rattle.std.specs.Prelude.{◌≡◌, true, List, [], ◌∷◌, ◌++◌, Option, Some, None}
use Rattle.std.specs.List.{AllByRecursion}
use Rattle.store_model.specs.Machine.{Machine}
use Rattle.store_model.specs.Steps.{Run, is_step}
use Rattle.store_model.specs.declared.event.Event.{Event}
use Rattle.store_model.specs.declared.event.Reply.{Reply}
use Rattle.store_model.specs.declared.event.Reply.TheVariants.{Refused}
use Rattle.refusals.specs.declared.refusal.Refusal.{Refusal}

abbrev pub IsStep : Event → Type 0
IsStep event = is_step event ≡ true

-- an answer that is no refusal
abbrev pub WasMade : Reply → Type 0
WasMade answer = (why : Refusal) → ¬ (answer ≡ Refused why)

-- the answer of a step that was refused, if one was
abbrev pub refused_by : Option Refusal → List Reply
refused_by None = []
refused_by (Some why) = Refused why ∷ []

-- Some steps are made, one after another, or none; and then one is refused so, if one is.
abbrev pub MakesSteps : Option Refusal → Machine → Machine → Type 0
MakesSteps ended old new = (events : List Event) × (made : List Reply) × AllByRecursion IsStep events × AllByRecursion WasMade made × Run old events (made ++ refused_by ended) new
