-- What a call answers if memory may be refused.
use Rattle.std.specs.Prelude.{◌≡◌, Result, Err, ◌⊎◌}
use Rattle.refusals.specs.declared.refusal.Refusal.{Refusal}
use Rattle.refusals.specs.declared.refusal.Refusal.TheVariants.{NoMemory}

-- the answer is the one wanted, or memory was refused
abbrev pub IsOrNoMemory : {T : Type 0} → Result T Refusal → Result T Refusal → Type 0
IsOrNoMemory answer wanted = (answer ≡ wanted) ⊎ (answer ≡ Err NoMemory)

-- the refusal comes for this reason, or since there is no memory
abbrev pub RefusedFor : Refusal → Type 0 → Refusal → Type 0
RefusedFor wanted reason refusal = ((refusal ≡ wanted) × reason) ⊎ (refusal ≡ NoMemory)
