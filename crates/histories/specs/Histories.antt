-- Histories: events one after another, and what a crash at each moment of them leaves.
use Rattle.std.specs.Prelude.{◌≡◌, ℕ, ◌≤◌, List, [], ◌∷◌, ◌++◌, ⊤}
use Rattle.store_model.specs.Machine.{Machine}
use Rattle.engine_invariant.specs.Engines.{EngineAnswers, EngineView}
use Rattle.histories.specs.Points.{HistoryEntry}

-- the engine answers an event so, and is so then
abbrev pub Continues : EngineView → HistoryEntry → Type 0
Continues from entry = EngineAnswers entry.event entry.reply from entry.after

-- events one after another, from a state of the engine on
abbrev pub IsHistory : EngineView → List HistoryEntry → Type 0
IsHistory from [] = ⊤
IsHistory from (entry ∷ rest) = Continues from entry × IsHistory entry.after rest

-- the engine after these events
abbrev pub end_of : EngineView → List HistoryEntry → EngineView
end_of from [] = from
end_of from (entry ∷ rest) = end_of entry.after rest

-- each boundary between two events is safe at its moment
abbrev pub AreSafe : (ℕ → Machine → Type 0) → EngineView → List HistoryEntry → Type 0
AreSafe safe from [] = safe from.clock from.machine
AreSafe safe from (entry ∷ rest) = safe from.clock from.machine × AreSafe safe entry.after rest

-- A boundary of a history, not before some of its events, is that of a moment, and safe then.
pub record HasBoundary (safe : ℕ → Machine → Type 0) (from : EngineView) (first history : List HistoryEntry) (moment : ℕ) : Type 0 where
  pub more : List HistoryEntry
  pub rest : List HistoryEntry
  pub there : history ≡ (first ++ more) ++ rest
  pub at : (end_of from (first ++ more)).clock ≡ moment
  pub holds : safe moment (end_of from (first ++ more)).machine

-- From a start this history has led to the store of now. If the device is faithful now, it was so at the start, what
-- was safe then at some moment up to then is safe now, and each boundary of the history is safe at its moment.
pub record LeadsTo (start : EngineView) (was_safe : ℕ → Machine → Type 0) (was_faithful : Type 0) (safe : ℕ → Machine → Type 0) (faithful : Type 0) (history : List HistoryEntry) (now : EngineView) : Type 0 where
  pub run : IsHistory start history
  pub now_is : end_of start history ≡ now
  pub back : faithful → was_faithful
  pub past : faithful → (moment : ℕ) (machine : Machine) → moment ≤ start.clock → was_safe moment machine → safe moment machine
  pub crashes : faithful → AreSafe safe start history

-- one history has led there, and this is so of it
abbrev pub HasLedWith : EngineView → (ℕ → Machine → Type 0) → Type 0 → (ℕ → Machine → Type 0) → Type 0 → EngineView → (List HistoryEntry → Type 0) → Type 0
HasLedWith start was_safe was_faithful safe faithful now so = (history : List HistoryEntry) × LeadsTo start was_safe was_faithful safe faithful history now × so history
