-- A client's visit.
use Rattle.std.proofs.Common.{◌≡◌, List, ℕ, ◌++◌, sym, ◌∙◌, ap, subst, inl, inr, true, false}
use Rattle.std.specs.Prelude.{Bool, IsTrue, ◌↔◌}
use Rattle.std.specs.List.{Contains}
use Rattle.std.proofs.lemmas.List.Elements.{Contains-append_right, Contains-append_cases}
use Rattle.client_desks.specs.Lines.{LineRest}
use Rattle.client_desks.specs.Visits.{StepsTo}
use Rattle.client_desks.specs.declared.visit.Step.{Step}
use Rattle.client_desks.specs.declared.visit.Visit.{Visit}

-- a byte that isn't in the front is in all exactly if it is in the back
pub in_back : (front back : List ℕ) (first second : Bool) → IsTrue first ↔ Contains front 10 → IsTrue second ↔ Contains back 10 → first ≡ false → IsTrue second ↔ Contains (front ++ back) 10
in_back front back first second f s isnt = (
  (λ t. Contains-append_right front back 10 (s.0 t)),
  λ h. elim (Contains-append_cases front back 10 h) [
    | inl l ↦ let is : first ≡ true = f.1 l in let bad : false ≡ true = sym isnt ∙ is in cc
    | inr r ↦ s.1 r
  ],
)

-- a step from the lines that are there
pub from_same : (step : Step) (visit : Visit) (lines : List ℕ) (line : LineRest) (new : Visit) → lines ≡ visit.lines → StepsTo step (record visit { lines = lines }) line new → StepsTo step visit line new
from_same step visit lines line new e h =
    subst (λ (v : Visit). StepsTo step v line new) (ap (λ (l : List ℕ). record visit { lines = l }) e) h
