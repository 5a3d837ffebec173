-- What a creation leaves, and what is reported of it.
use Rattle.std.proofs.Common.{ℕ, ◌+◌, List, [], ◌∷◌, ◌++◌, length, Option, Result, Ok, Err, OnOk, IfOk, IfErr, MatchResult, inl, inr}
use Rattle.std.proofs.lemmas.Result.{IfOk-weaker}
use Rattle.refusals.specs.declared.refusal.Refusal.{Refusal}
use Rattle.reply_lines.specs.declared.status.Status.{Status}
use Rattle.reg_tree.specs.Fresh.{fresh_tree}
use Rattle.reg_tree.specs.Maps.{TreeMap}
use Rattle.disk_model.specs.FileState.{FileState}
use Rattle.disk_model.specs.Crash.{LeavesHonest}
use Rattle.commit_journal.specs.declared.store_layout.Layout.TheVariants.{WithOutcomes}
use Rattle.engine_invariant.specs.Prefixes.{IsPrimaryOf}
use Rattle.recovery.specs.Created.{StoreIsCreated, new_store}
use Rattle.recovery.specs.Recovered.{IsRecovered, seen_in}
use Rattle.store_create.specs.Creations.{IsNewStore, IsNotMade, OutcomeIsWritten}

-- what was made, what a crash leaves of it and what a read gives are those of a new store
pub new_where_made : {T E : Type 0} (result : Result T E) (faithful : Type 0) (id : List ℕ) (trees : List TreeMap) (state : ℕ → FileState) → OnOk result (faithful → StoreIsCreated id WithOutcomes trees state)
    → OnOk result (faithful → (files : ℕ → List ℕ) → LeavesHonest (IsPrimaryOf (length trees + 1)) state files → IsRecovered files (new_store id WithOutcomes (length trees)) 0 (trees ++ fresh_tree ∷ []))
    → OnOk result (faithful → IsRecovered (seen_in state) (new_store id WithOutcomes (length trees)) 0 (trees ++ fresh_tree ∷ []))
    → OnOk result (faithful → IsNewStore id trees state)
new_where_made (Ok x) faithful id trees state made recovers seen = λ f. record { made = made f; recovers = recovers f; seen = seen f }
new_where_made (Err e) faithful id trees state made recovers seen = tt

-- no store is made for another reason
pub not_made_as : {T : Type 0} (result : Result T Refusal) (failed same : Type 0) (reason other : Refusal → Type 0) → ((why : Refusal) → reason why → other why) → IfErr result (IsNotMade failed same reason) → IfErr result (IsNotMade failed same other)
not_made_as (Ok x) failed same reason other f h = tt
not_made_as (Err why) failed same reason other f (inl fault) = inl fault
not_made_as (Err why) failed same reason other f (inr refused) = inr (f why refused.0, refused.1)

-- what is reported of a creation of trees
pub told_of : {E : Type 0} (result : Result Status E) (made : Result (Unit {0}) Refusal) (before after : Option (List ℕ)) (stands : List TreeMap → Type 0) (not : Refusal → Type 0)
    → IfOk result (λ status. MatchResult made (λ _. (any : List TreeMap) → OutcomeIsWritten before after (Ok any) status) (λ why. OutcomeIsWritten before after (Err why) status)) → OnOk made ((trees : List TreeMap) × stands trees) → IfErr made not
    → (outcome : Result (List TreeMap) Refusal) × IfOk result (OutcomeIsWritten before after outcome) × MatchResult outcome stands not
told_of result (Ok x) before after stands not outcome made refused = (Ok made.0, IfOk-weaker result _ _ (λ status told. told made.0) outcome, made.1)
told_of result (Err why) before after stands not outcome made refused = (Err why, outcome, refused)
