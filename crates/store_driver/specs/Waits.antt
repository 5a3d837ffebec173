-- How a change is waited for: steps of the journal are made until there is a receipt of it.
use Rattle.std.specs.Prelude.{ℕ, Bool, true, false, List, [], ◌∷◌, Option, Some, None, ◌⊎◌}
use Rattle.refusals.specs.declared.refusal.Refusal.{Refusal}
use Rattle.store_model.specs.Machine.{Machine}
use Rattle.store_model.specs.Steps.{Step, Run}
use Rattle.disk_model.specs.declared.progress.Progress.{Progress}
use Rattle.store_model.specs.declared.event.Event.TheVariants.{Acked, JournalStep}
use Rattle.store_model.specs.declared.event.Reply.TheVariants.{Receipt, NotYet, Stepped, Refused}

-- The machine is asked whether the change of this number is durable, and while it isn't, one step of the journal is
-- made. It ends with a receipt, or with the first refusal of a question or of a step.
abbrev pub Waits : List Progress → Machine → ℕ → Option Refusal → Machine → Type 0
Waits (progress ∷ steps) old number ended new =
    (next : Machine) × Run old (Acked number ∷ JournalStep ∷ []) (NotYet ∷ Stepped progress ∷ []) next × Waits steps next number ended new
Waits [] old number None new = Run old (Acked number ∷ []) (Receipt number ∷ []) new
Waits [] old number (Some refusal) new =
    Run old (Acked number ∷ []) (Refused refusal ∷ []) new ⊎ Run old (Acked number ∷ JournalStep ∷ []) (NotYet ∷ Refused refusal ∷ []) new

-- this list of steps was made, or another one
abbrev pub IsWaited : Machine → ℕ → Option Refusal → Machine → Type 0
IsWaited old number ended new = (steps : List Progress) × Waits steps old number ended new

-- the machine is asked whether the change is durable: it gives a receipt, or it doesn't yet
abbrev pub IsAsked : Machine → ℕ → Bool → Machine → Type 0
IsAsked old number true new = Step old (Acked number) (Receipt number) new
IsAsked old number false new = Step old (Acked number) NotYet new

-- one step of the journal is made
abbrev pub IsStepped : Machine → Machine → Type 0
IsStepped old new = (progress : Progress) × Step old JournalStep (Stepped progress) new
