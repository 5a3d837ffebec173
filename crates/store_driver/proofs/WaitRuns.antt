-- A wait, step by step.
use Rattle.std.proofs.Common.{◌≡◌, ℕ, ◌≤◌, false, [], ◌∷◌, Option, Some, refl, sym, ◌∙◌, ap, subst, inl, inr, ◌<◌, arith}
use Rattle.std.specs.Prelude.{MatchResult, Result, Ok, Err}
use Rattle.std.specs.Result.{IsErrAnd}
use Rattle.refusals.specs.declared.refusal.Refusal.{Refusal}
use Rattle.store_model.specs.Machine.{Machine, last_number}
use Rattle.engine_invariant.specs.Progress.{steps_to_all}
use Rattle.store_model.specs.Steps.{Step}
use Rattle.store_model.specs.declared.event.Event.TheVariants.{Acked, JournalStep}
use Rattle.store_model.specs.declared.event.Reply.TheVariants.{Refused}
use Rattle.store_driver.specs.Waits.{IsWaited, IsAsked, IsStepped}

-- the question is refused
pub question_refused : (old new : Machine) (number : ℕ) (refusal : Refusal) → Step old (Acked number) (Refused refusal) new → IsWaited old number (Some refusal) new
question_refused old new number refusal asked = ([], inl (new, asked, refl))

-- a step is refused
pub step_refused : (old mid new : Machine) (number : ℕ) (refusal : Refusal) → IsAsked old number false mid → Step mid JournalStep (Refused refusal) new → IsWaited old number (Some refusal) new
step_refused old mid new number refusal asked stepped = ([], inr (mid, asked, (new, stepped, refl)))

-- one more step
pub one_step_more : (old mid next : Machine) (number : ℕ) (ended : Option Refusal) (new : Machine) → IsAsked old number false mid → IsStepped mid next → IsWaited next number ended new → IsWaited old number ended new
one_step_more old mid next number ended new asked stepped waited = (stepped.0 ∷ waited.0, (next, (mid, asked, (next, stepped.1, refl)), waited.1))

-- a step keeps the number of the last change
pub number_stays : (old new : Machine) → IsStepped old new → last_number new ≡ last_number old
number_stays old new stepped = ap last_number stepped.1.next

-- a step that is made while a change is waited for leaves fewer steps
pub fewer_left : (old mid new : Machine) (number left mid_left new_left : ℕ) → number ≤ last_number old → IsAsked old number false mid → mid_left ≡ left → (mid.durable < last_number mid → steps_to_all new new_left < steps_to_all mid mid_left) → steps_to_all new new_left < steps_to_all old left
fewer_left old mid new number left mid_left new_left accepted asked same nears_durable =
    let waits : old.durable < last_number old = omega (arith, asked.0, accepted) in
    let fewer = nears_durable (subst (λ m. m.durable < last_number m) (sym asked.2) waits) in
    subst (λ m. steps_to_all new new_left < steps_to_all m left) asked.2 (subst (λ l. steps_to_all new new_left < steps_to_all mid l) same fewer)

pub still_accepted : (old mid new : Machine) (number : ℕ) → IsAsked old number false mid → IsStepped mid new → number ≤ last_number old → number ≤ last_number new
still_accepted old mid new number asked stepped h = subst (λ last. number ≤ last) (sym (number_stays mid new stepped ∙ ap last_number asked.2)) h

-- a refusal that was handed on
pub handed_on : {A : Type 0} (P : A → Type 0) (Q : Refusal → Type 0) (result : Result A Refusal) (refusal : Refusal) → IsErrAnd result (λ x. x ≡ refusal) → Q refusal → MatchResult result P Q
handed_on P Q (Ok a) refusal same q = absurd same
handed_on P Q (Err x) refusal same q = subst Q (sym same) q
