-- The service of a store, over one opening after another.
use Rattle.std.specs.Prelude.{◌≡◌, ◌⊎◌, ◌<◌, ℕ, List, [], ◌∷◌, Some, None, Result, Ok, Err, IfErr, IfOk, ⊤}
use Rattle.std.specs.List.{All}
use Rattle.refusals.specs.declared.refusal.Refusal.{Refusal}
use Rattle.refusals.specs.declared.refusal.Refusal.TheVariants.{NoMemory}
use Rattle.commit_journal.specs.Store.{Store}
use Rattle.disk_model.specs.FileState.{FileState}
use Rattle.reg_tree.specs.Maps.{TreeMap}
use Rattle.recovery.specs.Recovered.{seen_in}
use Rattle.store_driver.specs.Openings.{LeavesLife}
use Rattle.shared_store.specs.Serving.{KeepsStore, MayNotServe}
use Rattle.shared_store.specs.declared.service.Served.{Served}
use Rattle.store_server.specs.Visits.{ReportsVisits}
use Rattle.store_server.specs.declared.session_ends.SessionEnds.{SessionEnds}
use Rattle.store_server.specs.declared.session_ends.SessionEnds.TheVariants.{Granted}

-- A store was opened and served, and this was told of it: clients were served in one history, which leads to the disk that
-- comes back; or it was refused. What is left is what a life of the store leaves.
pub record ServesOnce {D : Type 0} (saves : Store → ℕ → List TreeMap → Type 0) (is_faithful : D → Type 0) (states_of : D → ℕ → ℕ → FileState) (clock_of failures_of : D → ℕ) (old new : D) (told : Result (Served SessionEnds) Refusal) : Type 0 where
  pub threads : ℕ
  pub kept : IfOk told (KeepsStore is_faithful states_of clock_of failures_of (ReportsVisits saves) (seen_in (states_of old (clock_of old))) new threads)
  pub life : LeavesLife (failures_of old < failures_of new) (is_faithful new) (states_of old (clock_of old)) (states_of new (clock_of new))
  pub refused : IfErr told (MayNotServe (failures_of old < failures_of new) (is_faithful new) (seen_in (states_of old (clock_of old))))

-- each session ended that was opened for a client
abbrev pub AllEnded : Served SessionEnds → Type 0
AllEnded served = All (λ account. account.report ≡ Granted) served.accounts.items

-- It was opened and served several times, with these disks between each two. Of the last time this was told.
abbrev pub ServesInGenerations : {D : Type 0} → (Store → ℕ → List TreeMap → Type 0) → (D → Type 0) → (D → ℕ → ℕ → FileState) → (D → ℕ) → (D → ℕ) → D → List D → D → Result (Served SessionEnds) Refusal → Type 0
ServesInGenerations saves is_faithful states_of clock_of failures_of old [] new told = ServesOnce saves is_faithful states_of clock_of failures_of old new told
ServesInGenerations saves is_faithful states_of clock_of failures_of old (mid ∷ more) new told =
    ((served : Served SessionEnds) × ServesOnce saves is_faithful states_of clock_of failures_of old mid (Ok served) × (served.undone ≡ None) × AllEnded served) × ServesInGenerations saves is_faithful states_of clock_of failures_of mid more new told

-- How the service ends by what was told of the last time: all that was accepted is in the hives, and each client's session
-- ended; or why it isn't so.
abbrev pub EndsService : Result (Served SessionEnds) Refusal → Result ⊤ Refusal → Type 0
EndsService (Ok served) (Ok done) = (served.undone ≡ None) × AllEnded served
EndsService (Ok served) (Err why) = (served.undone ≡ Some why) ⊎ ((served.undone ≡ None) × ¬ (AllEnded served) × (why ≡ NoMemory))
EndsService (Err refused) (Ok done) = ⊥
EndsService (Err refused) (Err why) = refused ≡ why
