-- The units of work that are active, and the places that have entered them.
use Rattle.std.specs.Prelude.{◌≡◌, ◌≢◌, ◌⊎◌, ℕ, List, ◌∷◌, ◌++◌}
use Rattle.std.specs.List.{Any, Contains}
use Rattle.client_desks.specs.declared.unit_table.ActiveUnit.{ActiveUnit}

-- a unit has one place
pub record HaveOnePlace (active : List ActiveUnit) : Type 0 where
  pub one : (entry other : ActiveUnit) → Contains active entry → Contains active other → entry.unit ≡ other.unit → entry.place ≡ other.place

-- another place has entered the unit
abbrev pub IsElsewhere : List ActiveUnit → ℕ → List ℕ → Type 0
IsElsewhere active place unit = Any (λ entry. (entry.unit ≡ unit) × (entry.place ≢ place)) active

-- an entry was taken out once, if it was there
abbrev pub LosesOnce : ActiveUnit → List ActiveUnit → List ActiveUnit → Type 0
LosesOnce entry old new =
    ((before : List ActiveUnit) × (rest : List ActiveUnit) × (old ≡ before ++ entry ∷ rest) × (new ≡ before ++ rest))
    ⊎ (¬ (Contains old entry) × (new ≡ old))
