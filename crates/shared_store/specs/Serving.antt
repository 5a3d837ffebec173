-- What is left of a store that was shared.
use Rattle.std.specs.Prelude.{◌≡◌, ◌⊎◌, ℕ, Bool, false, List, [], length, None}
use Rattle.std.specs.List.{All}
use mathlib.Core.List.{IsPrefix}
use Rattle.refusals.specs.declared.refusal.Refusal.{Refusal}
use Rattle.refusals.specs.declared.refusal.Refusal.TheVariants.{NoSeat}
use Rattle.disk_model.specs.FileState.{FileState}
use Rattle.commit_journal.specs.Store.{Store}
use Rattle.engine_invariant.specs.Engines.{EngineView}
use Rattle.histories.specs.Histories.{end_of}
use Rattle.histories.specs.Leaving.{LeavesHistory}
use Rattle.histories.specs.Points.{HistoryEntry}
use Rattle.reg_tree.specs.Maps.{TreeMap}
use Rattle.ktm_calls.specs.Ends.{IsAllAsked}
use Rattle.ktm_calls.specs.Moments.{IsOf, Sight}
use Rattle.ktm_calls.specs.Waiting.{HasNoWork}
use Rattle.store_driver.specs.Openings.{IsOpenedOn, MayNotOpen}
use Rattle.shared_store.specs.Accounts.{AskTogether}
use Rattle.shared_store.specs.declared.service.Served.{Served}

-- What is told of a service whose history began here and led there: the number up to which all is durable; an account of
-- each thread, by what it had seen of the history; and if nothing was left undone, then no step of the flusher had anything
-- to do at some moment of it. The threads asked for all that was asked for, beside the ends of the sessions that were still
-- open at the close.
pub record TellsOf {T : Type 0} (reports : Bool → EngineView → List TreeMap → ℕ → ℕ → Sight → T → Type 0) (sole : Bool) (begun : EngineView) (trees : List TreeMap) (number hives : ℕ) (history : List HistoryEntry) (last : EngineView) (threads : ℕ) (served : Served T) : Type 0 where
  pub durable : served.durable ≡ last.machine.durable
  pub count : length served.accounts.items ≡ threads
  pub asked : ℕ
  pub together : AskTogether reports sole begun trees number hives served.accounts.items asked
  pub all : IsAllAsked [] asked history
  pub within : All (λ account. IsPrefix account.seen.log history) served.accounts.items
  pub done : served.undone ≡ None → (past : List HistoryEntry) × IsPrefix past history × HasNoWork (end_of begun past)

-- A store was opened on these files, and its registry was shared. One history leads from there to the engine as it was
-- last, and to the disk that is handed back. What is told is so of it.
pub record KeepsStore {D T : Type 0} (is_faithful : D → Type 0) (states_of : D → ℕ → ℕ → FileState) (clock_of failures_of : D → ℕ) (reports : Store → Bool → EngineView → List TreeMap → ℕ → ℕ → Sight → T → Type 0) (files : ℕ → List ℕ) (disk : D) (threads : ℕ) (served : Served T) : Type 0 where
  pub first : D
  pub store : Store
  pub begun : EngineView
  pub opened : IsOpenedOn (is_faithful first) files store served.opened [] begun.machine
  pub history : List HistoryEntry
  pub last : EngineView
  pub owner : IsOf begun.machine.opened begun.machine.before begun.machine.bounds.hives last.machine
  pub left : LeavesHistory is_faithful states_of clock_of failures_of store first begun disk history last
  pub told : TellsOf (reports store) false begun begun.machine.opened begun.machine.before begun.machine.bounds.hives history last threads served

-- why a store can't be shared: it can't be opened, or the library of readers denies one
abbrev pub MayNotServe : Type 0 → Type 0 → (ℕ → List ℕ) → Refusal → Type 0
MayNotServe failed faithful files why = MayNotOpen failed faithful files why ⊎ (why ≡ NoSeat)
