-- What the steps between two registries leave of a machine.
use Rattle.std.proofs.Common.{◌≡◌, ◌+◌, ℕ, List, [], ◌∷◌, ◌++◌, length, Bool, true, false, Option, Some, refl, sym, ap, subst, ◌∙◌, inl, inr, arith}
use Rattle.std.specs.Prelude.{IfSome}
use Rattle.std.proofs.lemmas.List.{length-append}
use Rattle.refusals.specs.declared.refusal.Refusal.{Refusal}
use Rattle.refusals.specs.declared.refusal.Refusal.TheVariants.{Faulted}
use Rattle.reg_tree.specs.Maps.{TreeMap}
use Rattle.reg_tree.specs.Judgement.{applied}
use Rattle.reg_tree.specs.Sequences.{after_elements}
use Rattle.reg_tree.specs.declared.element.Element.{Element}
use Rattle.store_model.specs.Machine.{Machine, fault, is_of_device, refused_if}
use Rattle.store_model.specs.Steps.{Step, Refuses}
use Rattle.store_model.specs.declared.bounds.StoreBounds.{StoreBounds}
use Rattle.store_model.specs.declared.event.Event.TheVariants as event
use Rattle.store_model.specs.declared.event.Reply.{Reply}
use Rattle.store_model.specs.declared.event.Reply.TheVariants as reply
use Rattle.ktm_calls.specs.Moments.{IsOf}
use Rattle.registry_runner.specs.Folding.{HistoryStays, IsFoldedAt, IsIdle}
use Rattle.registry_runner.specs.Parts.{MayNotFold}
use Rattle.histories.specs.Asked.{asked_in}
use Rattle.histories.specs.Histories.{HasLedWith}
use Rattle.engine_invariant.specs.Engines.{EngineView}
use Rattle.histories.specs.Points.{HistoryEntry}
use Rattle.histories.proofs.Asked.{asked_append}
use Rattle.histories.proofs.Leading.{leads_join}
use Rattle.registry_runner.specs.Running.{IsOfStore, IsUnasked}

-- The steps

pub stays_same : (old new : Machine) → new ≡ old → HistoryStays old new
stays_same old new e = record { opened = ap (λ (m : Machine). m.opened) e; before = ap (λ (m : Machine). m.before) e; accepted = ap (λ (m : Machine). m.accepted) e; sessions = ap (λ (m : Machine). m.sessions) e; bounds = ap (λ (m : Machine). m.bounds) e }

pub stays_again : (old mid new : Machine) → HistoryStays old mid → HistoryStays mid new → HistoryStays old new
stays_again old mid new a b = record { opened = b.opened ∙ a.opened; before = b.before ∙ a.before; accepted = b.accepted ∙ a.accepted; sessions = b.sessions ∙ a.sessions; bounds = b.bounds ∙ a.bounds }

-- a machine that is refused for being faulted
faulted_so : (b : Bool) (why : Refusal) → refused_if b Faulted ≡ Some why → MayNotFold why
faulted_so true why e = inr (subst (λ (o : Option Refusal). IfSome o (λ w. is_of_device w ≡ true)) e refl)
faulted_so false why e = absurd cc

pub may_not_fold : (old new : Machine) (why : Refusal) → Refuses old (fault old) why new → MayNotFold why
may_not_fold old new why (inl faulted, same) = faulted_so old.faulted why faulted
may_not_fold old new why (inr no_memory, same) = inl no_memory

-- a step of the journal that is refused
pub step_may_not_fold : (old new : Machine) (why : Refusal) → Step old event.JournalStep (reply.Refused why) new → MayNotFold why
step_may_not_fold old new why (inl refuses) = may_not_fold old new why refuses
step_may_not_fold old new why (inr fails) = inr (subst (λ (w : Refusal). is_of_device w ≡ true) (sym fails.1.told) refl)

-- a step of the journal leaves the history
pub step_stays : (old new : Machine) (answer : Reply) → Step old event.JournalStep answer new → HistoryStays old new
step_stays old new (reply.Stepped progress) step =
    record { opened = ap (λ (m : Machine). m.opened) step.next; before = ap (λ (m : Machine). m.before) step.next; accepted = ap (λ (m : Machine). m.accepted) step.next; sessions = ap (λ (m : Machine). m.sessions) step.next; bounds = ap (λ (m : Machine). m.bounds) step.next }
step_stays old new (reply.Refused why) (inl refuses) = stays_same old new refuses.1
step_stays old new (reply.Refused why) (inr fails) =
    record { opened = ap (λ (m : Machine). m.opened) fails.1.next; before = ap (λ (m : Machine). m.before) fails.1.next; accepted = ap (λ (m : Machine). m.accepted) fails.1.next; sessions = ap (λ (m : Machine). m.sessions) fails.1.next; bounds = ap (λ (m : Machine). m.bounds) fails.1.next }
step_stays old new _ step = absurd step

-- a fold leaves a machine of which a registry may be made
pub folded_at : (old mid new : Machine) (number : ℕ) → HistoryStays old mid → old.sessions ≡ [] → Step mid event.Fold (reply.Folded number) new → IsFoldedAt old new number
folded_at old mid new number stays sessions step =
    let opened = ap (λ (m : Machine). m.opened) step.next in
    let bounds = ap (λ (m : Machine). m.bounds) step.next ∙ stays.bounds in
    record {
      idle = (
        ap (λ (m : Machine). m.accepted) step.next,
        ap (λ (m : Machine). m.sessions) step.next ∙ stays.sessions ∙ sessions,
      );
      opened = opened ∙ ap (after_elements mid.opened) stays.accepted ∙ ap (λ (trees : List TreeMap). after_elements trees old.accepted) stays.opened;
      before = ap (λ (m : Machine). m.before) step.next ∙ ap (λ (list : List Element). mid.before + length list) stays.accepted ∙ ap (λ n. n + length old.accepted) stays.before;
      hives = ap (λ (b : StoreBounds). b.hives) bounds;
      number = step.told ∙ ap (λ (list : List Element). mid.before + length list) stays.accepted ∙ ap (λ n. n + length old.accepted) stays.before;
    }

-- Machines of a store

after_both : (trees : List TreeMap) (front back : List Element) → after_elements (after_elements trees front) back ≡ after_elements trees (front ++ back)
after_both trees [] back = refl
after_both trees (element ∷ front) back = after_both (applied trees element.ops element.moment) front back

-- the machine of a registry whose part began at these trees and this number is of the store
pub of_store : (trees : List TreeMap) (number hives : ℕ) (folded : List Element) (start last : Machine) → IsOf (after_elements trees folded) (number + length folded) hives start → IsOf start.opened start.before start.bounds.hives last → IsOfStore trees number hives last
of_store trees number hives folded start last was is = (folded, record { opened = is.opened ∙ was.opened; before = is.before ∙ was.before; hives = is.hives ∙ was.hives })

-- and so is the machine after a fold
pub folded_of_store : (trees : List TreeMap) (number hives told : ℕ) (old new : Machine) → IsOfStore trees number hives old → IsFoldedAt old new told → IsOfStore trees number hives new
folded_of_store trees number hives told old new was is =
    let front = was.0 in
    let opens = is.opened ∙ ap (λ (t : List TreeMap). after_elements t old.accepted) was.1.opened ∙ after_both trees front old.accepted in
    let counts : number + length front + length old.accepted ≡ number + length (front ++ old.accepted) = omega (arith, length-append front old.accepted) in (
      front ++ old.accepted,
      record {
        opened = opens;
        before = is.before ∙ ap (λ n. n + length old.accepted) was.1.before ∙ counts;
        hives = is.hives ∙ was.1.hives;
      },
    )

pub is_own : (machine : Machine) → IsIdle machine → IsOf machine.opened machine.before machine.bounds.hives machine × (machine.accepted ≡ []) × (machine.sessions ≡ [])
is_own machine idle = (record { opened = refl; before = refl; hives = refl }, idle.0, idle.1)

-- Histories for which nobody asks, one after another.
pub unasked_on : (from mid now : EngineView) (s t u : ℕ → Machine → Type 0) (f g h : Type 0) → HasLedWith from s f t g mid IsUnasked → HasLedWith mid t g u h now IsUnasked → HasLedWith from s f u h now IsUnasked
unasked_on from mid now s t u f g h a b = (a.0 ++ b.0, leads_join from mid now s t u f g h a.0 b.0 a.1 b.1, asked_append a.0 b.0 ∙ (ap (λ (w : List HistoryEntry). w ++ asked_in b.0) a.2 ∙ b.2))
