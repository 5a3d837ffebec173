-- Runs continue by one event; and what holds at each moment of a run.
use Rattle.std.proofs.Common.{◌≡◌, inl, inr, ℕ, suc, ◌≤◌, List, [], ◌∷◌, ◌++◌, length, refl, sym, ap, subst, arith}
use Rattle.std.specs.Prelude.{⊤}
use Rattle.std.proofs.lemmas.Bool.{cases_eq}
use Rattle.store_model.specs.Machine.{Machine}
use Rattle.store_model.specs.Steps.{Run}
use Rattle.store_model.specs.declared.event.Event.{Event}
use Rattle.store_model.specs.declared.event.Reply.{Reply}
use Rattle.engine_invariant.specs.Engines.{EngineAnswers, EngineView}
use Rattle.engine_invariant.specs.Runs.{AnswersInTurn, RunsSafely, IsBoundary}

-- a run ends no earlier than it starts, and what is safe in other states of the disk is so in these
pub ends_later : (safe : ℕ → Machine → Type 0) (old new : EngineView) (es : List Event) (rs : List Reply) → RunsSafely safe old es rs new → old.clock ≤ new.clock
ends_later safe old new [] [] run = omega (arith, ap (λ (v : EngineView). v.clock) run.0)
ends_later safe old new [] (r ∷ rs) run = absurd run
ends_later safe old new (e ∷ es) [] run = absurd run
ends_later safe old new (e ∷ es) (r ∷ rs) (here, (mid, told, rest)) = omega (arith, told.later, ends_later safe mid new es rs rest)

pub safe_in : (safe then : ℕ → Machine → Type 0) (old new : EngineView) (es : List Event) (rs : List Reply) → ((k : ℕ) (m : Machine) → k ≤ new.clock → safe k m → then k m) → RunsSafely safe old es rs new → RunsSafely then old es rs new
safe_in safe then old new [] [] moves run = (run.0, moves old.clock old.machine (omega (arith, ap (λ (v : EngineView). v.clock) run.0)) run.1)
safe_in safe then old new [] (r ∷ rs) moves run = absurd run
safe_in safe then old new (e ∷ es) [] moves run = absurd run
safe_in safe then old new (e ∷ es) (r ∷ rs) moves (here, (mid, told, rest)) =
    let le = ends_later safe mid new es rs rest in
    (moves old.clock old.machine (omega (arith, told.later, le)) here, (mid, told, safe_in safe then mid new es rs moves rest))

-- a safe run answers events in turn
pub in_turn : (safe : ℕ → Machine → Type 0) (old new : EngineView) (es : List Event) (rs : List Reply) → RunsSafely safe old es rs new → AnswersInTurn old es rs new
in_turn safe old new es rs run = safe_in safe (λ k m. ⊤) old new es rs (λ k m le there. tt) run

-- one event more
pub runs_on : (safe : ℕ → Machine → Type 0) (old mid new : EngineView) (es : List Event) (rs : List Reply) (e : Event) (r : Reply) → RunsSafely safe old es rs mid → EngineAnswers e r mid new → safe new.clock new.machine
    → RunsSafely safe old (es ++ e ∷ []) (rs ++ r ∷ []) new
runs_on safe old mid new [] [] e r run told there = (run.1, (new, subst (λ (v : EngineView). EngineAnswers e r v new) run.0 told, (refl, there)))
runs_on safe old mid new [] (x ∷ rs) e r run told there = absurd run
runs_on safe old mid new (x ∷ es) [] e r run told there = absurd run
runs_on safe old mid new (x ∷ es) (y ∷ rs) e r (here, (v, first, rest)) told there = (here, (v, first, runs_on safe v mid new es rs e r rest told there))

-- a run that is safe is a run of the machine
pub is_run : (safe : ℕ → Machine → Type 0) (old new : EngineView) (es : List Event) (rs : List Reply) → RunsSafely safe old es rs new → Run old.machine es rs new.machine
is_run safe old new [] [] run = ap (λ (v : EngineView). v.machine) run.0
is_run safe old new [] (r ∷ rs) run = absurd run
is_run safe old new (e ∷ es) [] run = absurd run
is_run safe old new (e ∷ es) (r ∷ rs) (here, (mid, told, rest)) = (mid.machine, told.step, is_run safe mid new es rs rest)

-- as many answers as events
pub run_long : (safe : ℕ → Machine → Type 0) (old new : EngineView) (es : List Event) (rs : List Reply) → RunsSafely safe old es rs new → length rs ≡ length es
run_long safe old new [] [] run = refl
run_long safe old new [] (x ∷ rs) run = absurd run
run_long safe old new (x ∷ es) [] run = absurd run
run_long safe old new (x ∷ es) (y ∷ rs) (here, (mid, told, rest)) = ap suc (run_long safe mid new es rs rest)

-- at each moment of a safe run what is left is a prefix at a boundary of that moment
pub at_moment : (safe : ℕ → Machine → Type 0) (old new : EngineView) (es : List Event) (rs : List Reply) → RunsSafely safe old es rs new → (k : ℕ) → old.clock ≤ k → k ≤ new.clock → IsBoundary safe old es rs new k
at_moment safe old new [] [] run k low high =
    let same : old.clock ≡ k = omega (arith, low, high, ap (λ (v : EngineView). v.clock) run.0) in
    record { answered = 0; some = omega arith; engine = old; then_at = same; so_far = (refl, tt); then_on = (run.0, tt); holds = subst (λ n. safe n old.machine) same run.1 }
at_moment safe old new [] (r ∷ rs) run k low high = absurd run
at_moment safe old new (e ∷ es) [] run k low high = absurd run
at_moment safe old new (e ∷ es) (r ∷ rs) (here, (mid, told, rest)) k low high = elim (cases_eq k old.clock) as (λ z. IsBoundary safe old (e ∷ es) (r ∷ rs) new k) [
  | inl is ↦ record { answered = 0; some = omega arith; engine = old; then_at = sym is; so_far = (refl, tt); then_on = (tt, (mid, told, in_turn safe mid new es rs rest)); holds = subst (λ n. safe n old.machine) (sym is) here }
  | inr ne ↦ let on = at_moment safe mid new es rs rest k (omega (arith, low, ne, told.one)) high in
      record { answered = suc on.answered; some = omega (arith, on.some); engine = on.engine; then_at = on.then_at; so_far = (tt, (mid, told, on.so_far)); then_on = on.then_on; holds = on.holds }
]
