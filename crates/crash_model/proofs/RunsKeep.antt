-- Any list of steps, calls with memory and openings keeps the invariant.
use Rattle.std.proofs.Common.{◌⊎◌, inl, inr, ℕ, ◌≤◌, List, [], ◌∷◌, ap, sym, subst, arith, ◌∙◌}
use Rattle.std.specs.List.{AllByRecursion}
use Rattle.crash_model.specs.Changes.{Rules}
use Rattle.crash_model.specs.Promises.{Content, Choice, top}
use Rattle.crash_model.specs.Invariant.{State, InvariantHolds, IsSafe}
use Rattle.crash_model.specs.Steps.{Step}
use Rattle.crash_model.specs.Lives.{Moves, Reopens, LifeContinues, Runs, OpeningsContinue, OnlyRises}
use Rattle.crash_model.proofs.KeepSteps.{step_keeps, safe, reopens_keeps, reopens_goes}
use Rattle.crash_model.proofs.MemoryCounts.{remembered, memory_absorbs, memory_flushes}

module _ {T Op : Type 0} (r : Rules T Op) (most hives : ℕ) where
  -- a step or an opening keeps it
  one_keeps : (s t : State T Op) → InvariantHolds r most hives s → Moves r most hives s t ⊎ Reopens r most hives s t → InvariantHolds r most hives t
  one_keeps s t engine (inl (inl step)) = step_keeps r most hives s t engine step
  one_keeps s t engine (inl (inr (inl step))) = remembered r most hives step.0 s t engine step.1
  one_keeps s t engine (inl (inr (inr (inl step)))) = memory_absorbs r most hives s t engine step
  one_keeps s t engine (inl (inr (inr (inr (inl step))))) = memory_flushes r most hives step.0 s t engine step.1
  one_keeps s t engine (inl (inr (inr (inr (inr step))))) = subst (InvariantHolds r most hives) (sym step) engine
  one_keeps s t engine (inr step) = reopens_keeps r most hives s t engine step

  -- and so does any list of them
  pub runs_keep : (s : State T Op) → InvariantHolds r most hives s → (ts : List (State T Op)) → Runs r most hives s ts
      → AllByRecursion (InvariantHolds r most hives) (s ∷ ts)
  runs_keep s engine [] run = (engine, tt)
  runs_keep s engine (t ∷ ts) run = (engine, runs_keep t (one_keeps s t engine run.0) ts run.1)

  pub runs_safe : (s : State T Op) → InvariantHolds r most hives s → (ts : List (State T Op)) → Runs r most hives s ts
      → AllByRecursion (IsSafe r most hives) (s ∷ ts)
  runs_safe s engine [] run = (safe r most hives s engine, tt)
  runs_safe s engine (t ∷ ts) run = (safe r most hives s engine, runs_safe t (one_keeps s t engine run.0) ts run.1)

  pub runs_go_on : (s : State T Op) → InvariantHolds r most hives s → (ts : List (State T Op)) → Runs r most hives s ts → OpeningsContinue r most hives s ts
  runs_go_on s engine [] run = tt
  runs_go_on s engine (t ∷ ts) run = (
    elim (run.0) as (λ z. Moves r most hives s t ⊎ LifeContinues r hives s t) [ inl a ↦ inl a | inr b ↦ inr (reopens_goes r most hives s t engine b) ],
    runs_go_on t (one_keeps s t engine run.0) ts run.1,
  )

  step_rises : (old new : State T Op) → InvariantHolds r most hives old → Step r most hives old new → old.durable ≤ new.durable
  step_rises old new engine (inl step) = omega (arith, step.durable)
  step_rises old new engine (inr (inl step)) = omega (arith, step.durable)
  step_rises old new engine (inr (inr (inl step))) = let b = step.journal in omega (arith, (engine.journal_fits b.0 (inr b.1)).holds_durable, step.durable ∙ ap (λ (c : Choice (Content Op)). top old.durable c.now) b.2)
  step_rises old new engine (inr (inr (inr (inl step)))) = omega (arith, step.durable)
  step_rises old new engine (inr (inr (inr (inr (inl step))))) = omega (arith, step.durable)
  step_rises old new engine (inr (inr (inr (inr (inr (inl step)))))) = omega (arith, step.durable)
  step_rises old new engine (inr (inr (inr (inr (inr (inr step)))))) = omega (arith, step.durable)

  moves_rise : (old new : State T Op) → InvariantHolds r most hives old → Moves r most hives old new → old.durable ≤ new.durable
  moves_rise old new engine (inl step) = step_rises old new engine step
  moves_rise old new engine (inr (inl step)) = omega (arith, step.1.durable)
  moves_rise old new engine (inr (inr (inl step))) = omega (arith, step.durable)
  moves_rise old new engine (inr (inr (inr (inl step)))) = omega (arith, step.1.durable)
  moves_rise old new engine (inr (inr (inr (inr step)))) = let e = ap (λ (x : State T Op). x.durable) step in omega (arith, e)

  all_above : (a b : ℕ) → a ≤ b → (ts : List (State T Op)) → AllByRecursion (λ t. b ≤ t.durable) ts → AllByRecursion (λ t. a ≤ t.durable) ts
  all_above a b le [] h = tt
  all_above a b le (t ∷ ts) h = (omega (arith, le, h.0), all_above a b le ts h.1)

  pub runs_rise : (s : State T Op) → InvariantHolds r most hives s → (ts : List (State T Op)) → Runs r most hives s ts → OnlyRises (s ∷ ts)
  runs_rise s engine [] run = (tt, tt)
  runs_rise s engine (t ∷ ts) run =
      let rest = runs_rise t (one_keeps s t engine run.0) ts run.1 in
      let le : s.durable ≤ t.durable = elim (run.0) as (λ z. s.durable ≤ t.durable) [ inl a ↦ moves_rise s t engine a | inr b ↦ (reopens_goes r most hives s t engine b).no_loss ] in
      ((le, all_above s.durable t.durable le ts rest.0), rest)
