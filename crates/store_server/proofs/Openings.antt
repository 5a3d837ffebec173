-- One opening of a store after another.
use Rattle.std.proofs.Common.{◌≡◌, ℕ, List, None, Result, Ok, Err}
use Rattle.std.specs.Prelude.{⊤}
use Rattle.refusals.specs.declared.refusal.Refusal.{Refusal}
use Rattle.reg_tree.specs.Maps.{TreeMap}
use Rattle.commit_journal.specs.Store.{Store}
use Rattle.disk_model.specs.FileState.{FileState}
use Rattle.shared_store.specs.declared.service.Served.{Served}
use Rattle.store_server.specs.Generations.{AllEnded, EndsService, ServesOnce}
use Rattle.store_server.specs.declared.session_ends.SessionEnds.{SessionEnds}

-- a service that ended well told so
pub ended_well : {D : Type 0} (saves : Store → ℕ → List TreeMap → Type 0) (is_faithful : D → Type 0) (states_of : D → ℕ → ℕ → FileState) (clock_of failures_of : D → ℕ) (old new : D) (told : Result (Served SessionEnds) Refusal) (done : ⊤) → EndsService told (Ok done) → ServesOnce saves is_faithful states_of clock_of failures_of old new told
    → (served : Served SessionEnds) × ServesOnce saves is_faithful states_of clock_of failures_of old new (Ok served) × (served.undone ≡ None) × AllEnded served
ended_well saves is_faithful states_of clock_of failures_of old new (Ok served) done ends serves = (served, serves, ends.0, ends.1)
ended_well saves is_faithful states_of clock_of failures_of old new (Err why) done ends serves = absurd ends
