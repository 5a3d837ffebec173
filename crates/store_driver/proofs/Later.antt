-- How a store continues beneath a script, one part after another.
use Rattle.std.proofs.Common.{◌≡◌, ◌⊎◌, inl, inr, ℕ, ◌<◌, ◌≤◌, List, [], ◌∷◌, ◌++◌, refl, sym, ◌∙◌, subst, arith}
use Rattle.std.specs.Prelude.{true}
use Rattle.refusals.specs.declared.refusal.Refusal.TheVariants.{DiskFault}
use Rattle.store_model.specs.Machine.{Machine}
use Rattle.store_model.specs.Steps.{Step, Run}
use Rattle.store_model.specs.declared.event.Event.{Event}
use Rattle.store_model.specs.declared.event.Reply.{Reply}
use Rattle.store_model.specs.declared.event.Reply.TheVariants.{Refused}
use Rattle.engine_invariant.specs.Engines.{EngineAnswers}
use Rattle.engine.specs.Shown.{Shown, engine_view}
use Rattle.store_driver.specs.Later.{ReachedByEvents}
use Rattle.store_driver.specs.Later.{IsLater}
use Rattle.store_model.proofs.Failing.{faults, run_stays_faulted}

-- Runs

run_join : (old mid new : Machine) (es fs : List Event) (rs ss : List Reply) → Run old es rs mid → Run mid fs ss new → Run old (es ++ fs) (rs ++ ss) new
run_join old mid new [] fs [] ss first later = subst (λ m. Run m fs ss new) first later
run_join old mid new [] fs (r ∷ rs) ss first later = absurd first
run_join old mid new (e ∷ es) fs [] ss first later = absurd first
run_join old mid new (e ∷ es) fs (r ∷ rs) ss (next, step, rest) later = (next, step, run_join next mid new es fs rs ss rest later)

pub comes_same : (old new : Machine) → new ≡ old → ReachedByEvents old new
comes_same old new same = ([], [], same)

pub comes_by : (old new : Machine) (e : Event) (r : Reply) → Step old e r new → ReachedByEvents old new
comes_by old new e r step = (e ∷ [], r ∷ [], (new, step, refl))

pub advances : (old mid new : Machine) → ReachedByEvents old mid → ReachedByEvents mid new → ReachedByEvents old new
advances old mid new first later = (first.0 ++ later.0, first.1 ++ later.1, run_join old mid new first.0 later.0 first.1 later.1 first.2 later.2)

-- a store that is faulted stays so
pub stays_so : (old new : Machine) → ReachedByEvents old new → old.faulted ≡ true → new.faulted ≡ true
stays_so old new came = run_stays_faulted old new came.0 came.1 came.2

-- Stores

-- whether an answer reports that the device failed in the event
told_fault : (r : Reply) → (r ≡ Refused DiskFault) ⊎ (r ≡ Refused DiskFault → ⊥)
told_fault (Refused DiskFault) = inl refl
told_fault (Refused _) = inr (λ e. cc)
told_fault _ = inr (λ e. cc)

module _ {D : Type 0} (is_faithful : D → Type 0) (failures : D → ℕ) where
  pub later_same : (engine : Shown D) → IsLater is_faithful failures engine engine
  later_same engine = record { comes = comes_same engine.machine engine.machine refl; store = refl; counts = omega arith; faulted = λ t. inl t; faithful = λ f. f }

  pub later_on : (old mid new : Shown D) → IsLater is_faithful failures old mid → IsLater is_faithful failures mid new → IsLater is_faithful failures old new
  later_on old mid new first later = record {
    comes = advances old.machine mid.machine new.machine first.comes later.comes;
    store = later.store ∙ first.store;
    counts = omega (arith, first.counts, later.counts);
    faulted = λ t. elim (later.faulted t) [
      | inl was ↦ elim (first.faulted was) [
        | inl before ↦ inl before
        | inr rose ↦ inr (let more : failures old.disk < failures new.disk = omega (arith, rose, later.counts) in more)
      ]
      | inr rose ↦ inr (let more : failures old.disk < failures new.disk = omega (arith, rose, first.counts) in more)
    ];
    faithful = λ f. first.faithful (later.faithful f);
  }

  -- one event
  pub later_by : (clock : D → ℕ) (event : Event) (answer : Reply) (old new : Shown D) → EngineAnswers event answer (engine_view clock failures old) (engine_view clock failures new) → new.store ≡ old.store → (is_faithful new.disk → is_faithful old.disk) → IsLater is_faithful failures old new
  later_by clock event answer old new reported store faithful = record {
    comes = comes_by old.machine new.machine event answer reported.step;
    store = store;
    counts = elim (told_fault answer) [
      | inl is ↦ (let rose : failures old.disk < failures new.disk = reported.failed is in let le : failures old.disk ≤ failures new.disk = omega (arith, rose) in le)
      | inr other ↦ (let no_change : failures new.disk ≡ failures old.disk = reported.works other in let le : failures old.disk ≤ failures new.disk = omega (arith, no_change) in le)
    ];
    faulted = λ t. elim (faults old.machine new.machine event answer reported.step) [
      | inl no_change ↦ inl (sym no_change ∙ t)
      | inr broke ↦ inr (reported.failed broke.0)
    ];
    faithful = faithful;
  }
