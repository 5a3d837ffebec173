-- A run as it is seen in states of another kind.
use Rattle.std.proofs.Common.{ℕ, ◌+◌, Bool, List, [], ◌∷◌, Option, Some, None, inl, inr}
use Rattle.std.specs.Prelude.{⊤}
use Rattle.reply_lines.specs.declared.status.Status.{Status}
use Rattle.script_loop.specs.NewStores.{IsScriptRun, RunsOverNew, RunsScript}
use Rattle.script_loop.specs.Runs.{RunsOn}
use Rattle.script_loop.specs.declared.end_of_script.EndOfScript.{EndOfScript}
use Rattle.script_loop.specs.declared.end_of_script.EndOfScript.TheVariants.{Ended, Broken, OutOfMemory}

module _ {S V : Type 0} (answers : S → List ℕ → List ℕ → Bool → S → Type 0) (seen : V → List ℕ → List ℕ → Bool → V → Type 0) (is_none not_seen : List ℕ → Type 0) (view : S → V)
    (answers_so : (old : S) (line text : List ℕ) (refused : Bool) (new : S) → answers old line text refused new → seen (view old) line text refused (view new)) (none_so : (line : List ℕ) → is_none line → not_seen line) where
  -- the lines of a run
  pub runs_seen : (is_last : S → Type 0) (was_last : V → Type 0) → ((last : S) → is_last last → was_last (view last)) → (old : S) (number : ℕ) (lines : List (List ℕ)) (end_of_script : Option EndOfScript) (text : List ℕ) (status : Status) → RunsOn answers is_none is_last old number lines end_of_script text status
      → RunsOn seen not_seen was_last (view old) number lines end_of_script text status
  runs_seen is_last was_last last_so old number [] end_of_script text status runs = (runs.0, last_so old runs.1)
  runs_seen is_last was_last last_so old number (line ∷ lines) end_of_script text status (inl wrong) = inl (none_so line wrong.0, wrong.1, last_so old wrong.2)
  runs_seen is_last was_last last_so old number (line ∷ lines) end_of_script text status (inr on) =
      inr (view on.0, on.1, on.2, on.3, on.4, answers_so old line on.1 on.2 on.0 on.5, runs_seen is_last was_last last_so on.0 (number + 1) lines end_of_script on.3 on.4 on.6, on.7, on.8)

  -- and of those over a new store
  module _ (is_made : ℕ → S → Type 0) (was_made : ℕ → V → Type 0) (is_limited : ℕ → S → S → Type 0) (was_limited : ℕ → V → V → Type 0) (made_so : (hives : ℕ) (new : S) → is_made hives new → was_made hives (view new)) (limited_so : (limit : ℕ) (old new : S) → is_limited limit old new → was_limited limit (view old) (view new)) where
    over_new_seen : (old : S) (lines : List (List ℕ)) (end_of_script : Option EndOfScript) (text : List ℕ) (status : Status) → RunsOverNew is_limited answers is_none old lines end_of_script text status → RunsOverNew was_limited seen not_seen (view old) lines end_of_script text status
    over_new_seen old [] end_of_script text status runs = runs
    over_new_seen old (line ∷ lines) end_of_script text status (inl other) = inl (other.0, runs_seen (λ last. ⊤) (λ last. ⊤) (λ last any. tt) old 2 (line ∷ lines) end_of_script text status other.1)
    over_new_seen old (line ∷ lines) end_of_script text status (inr limits) =
        inr (limits.0, view limits.1, limits.2, limits.3, limited_so limits.0 old limits.1 limits.4, runs_seen (λ last. ⊤) (λ last. ⊤) (λ last any. tt) limits.1 3 lines end_of_script limits.2 status limits.5, limits.6)

    script_of : (lines : List (List ℕ)) (end_of_script : Option EndOfScript) (text : List ℕ) (status : Status) → RunsScript is_made is_limited answers is_none lines end_of_script text status → RunsScript was_made was_limited seen not_seen lines end_of_script text status
    script_of [] (Some Ended) text status runs = runs
    script_of [] (Some Broken) text status runs = runs
    script_of [] (Some OutOfMemory) text status runs = runs
    script_of [] None text status runs = absurd runs
    script_of (line ∷ lines) end_of_script text status (inl wrong) = inl wrong
    script_of (line ∷ lines) end_of_script text status (inr on) = inr (on.0, view on.1, on.2, on.3, made_so on.0 on.1 on.4, over_new_seen on.1 lines end_of_script on.2 status on.5, on.6)

    pub script_seen : (known before after : Option (List ℕ)) (status : Status) → IsScriptRun is_made is_limited answers is_none known before after status → IsScriptRun was_made was_limited seen not_seen known before after status
    script_seen known before after status run = (run.0, run.1, run.2, run.3, script_of run.0 run.1 run.2 status run.4, run.5)

-- any state may be the last
pub any_last : {S : Type 0} (answers : S → List ℕ → List ℕ → Bool → S → Type 0) (is_none : List ℕ → Type 0) (is_last : S → Type 0) (old : S) (number : ℕ) (lines : List (List ℕ)) (end_of_script : Option EndOfScript) (text : List ℕ) (status : Status) → RunsOn answers is_none is_last old number lines end_of_script text status
    → RunsOn answers is_none (λ last. ⊤) old number lines end_of_script text status
any_last answers is_none is_last old number lines end_of_script text status runs =
    runs_seen answers answers is_none is_none (λ state. state) (λ old line text refused new answered. answered) (λ line none. none) is_last (λ last. ⊤) (λ last any. tt) old number lines end_of_script text status runs
