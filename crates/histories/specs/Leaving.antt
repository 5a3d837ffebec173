-- What is left of a store as its engine hands the disk back.
use Rattle.std.specs.Prelude.{◌≡◌, ℕ, false, List, length}
use Rattle.disk_model.specs.FileState.{FileState}
use Rattle.commit_journal.specs.Store.{Store}
use Rattle.engine_invariant.specs.Engines.{EngineView}
use Rattle.engine_invariant.specs.Prefixes.{IsPrefix, IsSafeAt}
use Rattle.recovery.specs.Recovered.{seen_in}
use Rattle.engine.specs.Lives.{ReadsSafely}
use Rattle.histories.specs.Histories.{LeadsTo}
use Rattle.histories.specs.Points.{HistoryEntry}

-- this engine is over this disk: so many calls of it were made, and so many of them failed
pub record IsOver {D : Type 0} (clock_of failures_of : D → ℕ) (disk : D) (engine : EngineView) : Type 0 where
  pub calls : engine.clock ≡ clock_of disk
  pub failures : engine.failures ≡ failures_of disk

-- A store's engine began on one disk, and hands back another. One history leads from there to the engine as it was last.
-- If the disk is faithful then, the first one was. At each moment of the history whatever a crash leaves is a prefix of
-- the changes accepted up to there. What a read gives at the end is such a prefix too, unless the store is faulted.
pub record LeavesHistory {D : Type 0} (is_faithful : D → Type 0) (states_of : D → ℕ → ℕ → FileState) (clock_of failures_of : D → ℕ) (store : Store) (first : D) (begun : EngineView) (disk : D) (history : List HistoryEntry) (last : EngineView) : Type 0 where
  pub began : IsOver clock_of failures_of first begun
  pub ended : IsOver clock_of failures_of disk last
  pub leads : LeadsTo begun (IsSafeAt store (states_of first)) (is_faithful first) (IsSafeAt store (states_of disk)) (is_faithful disk) history last
  pub honest : is_faithful disk → last.machine.faulted ≡ false → ReadsSafely (length last.machine.opened) (states_of disk (clock_of disk))
  pub prefix : is_faithful disk → last.machine.faulted ≡ false → IsPrefix store last.machine (seen_in (states_of disk (clock_of disk)))
