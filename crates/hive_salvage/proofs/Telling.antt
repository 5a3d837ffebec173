-- What a sink was told, step by step.
use Rattle.std.proofs.Common.{◌≡◌, ◌⊎◌, inl, inr, ◌+◌, ℕ, List, [], ◌++◌, refl, subst}
use Rattle.std.proofs.Math.Numerals.{suc-eq-add-one}
use Rattle.refusals.specs.declared.refusal.Refusal.{Refusal}
use Rattle.refusals.specs.declared.refusal.Refusal.TheVariants.{NoMemory}
use Rattle.hive_cells.specs.Bins.{Cells, Shows}
use Rattle.hive_salvage.specs.Events.{Event, Steps, Tells}

-- nothing was told
pub silent : {S : Type 0} (Took : S → S → List Event → Type 0) (now : S) (bytes : List ℕ) (said : Cells → List Event → Type 0) → Took now now [] → ((cells : Cells) → Shows bytes cells → said cells []) → Tells Took now now bytes said
silent Took now bytes said none so = record { events = []; took = none; so = so }

-- some events were told
pub told : {S : Type 0} (Took : S → S → List Event → Type 0) (old new : S) (bytes : List ℕ) (said : Cells → List Event → Type 0) (events : List Event) → Took old new events → ((cells : Cells) → Shows bytes cells → said cells events) → Tells Took old new bytes said
told Took old new bytes said events took so = record { events = events; took = took; so = so }

-- the same, and more is so
pub so_too : {S : Type 0} (Took : S → S → List Event → Type 0) (old new : S) (bytes : List ℕ) (said other : Cells → List Event → Type 0) → Tells Took old new bytes said → ((cells : Cells) → Shows bytes cells → (events : List Event) → said cells events → other cells events) → Tells Took old new bytes other
so_too Took old new bytes said other t f = record { events = t.events; took = t.took; so = λ cells shows. f cells shows t.events (t.so cells shows) }

-- one was told after the other
pub both : {S : Type 0} (Took : S → S → List Event → Type 0) → ((a b c : S) (front rest : List Event) → Took a b front → Took b c rest → Took a c (front ++ rest)) → (old mid new : S) (bytes : List ℕ) (one other whole : Cells → List Event → Type 0) →
    Tells Took old mid bytes one → Tells Took mid new bytes other → ((cells : Cells) → Shows bytes cells → (first rest : List Event) → one cells first → other cells rest → whole cells (first ++ rest)) → Tells Took old new bytes whole
both Took more old mid new bytes one other whole t u f = record { events = t.events ++ u.events; took = more old mid new t.events u.events t.took u.took; so = λ cells shows. f cells shows t.events u.events (t.so cells shows) (u.so cells shows) }

-- one step more
pub steps_next : {S : Type 0} (step : ℕ → S → S → List Event → Type 0) (n : ℕ) (old mid new : S) (first last : List Event) → Steps step n old mid first → step n mid new last → Steps step (n + 1) old new (first ++ last)
steps_next step n old mid new first last before here = subst (λ (k : ℕ). Steps step k old new (first ++ last)) (suc-eq-add-one n) (mid, first, last, before, here, refl)

-- what is told is no want of memory
pub unless_memory : {A : Type 0} (why : Refusal) → (why ≡ NoMemory → ⊥) → (why ≡ NoMemory) ⊎ A → A
unless_memory why n (inl e) = absurd (n e)
unless_memory why n (inr a) = a
