-- That room is made in the journal before a change is accepted.
use Rattle.std.specs.Prelude.{◌≡◌, ◌<◌, ◌⊎◌, true, List, [], ◌∷◌, ◌++◌}
use mathlib.Core.List.{IsPrefix}
use Rattle.refusals.specs.declared.refusal.Refusal.{Refusal}
use Rattle.store_model.specs.Steps.{may_accept}
use Rattle.store_model.specs.declared.event.Reply.TheVariants as reply
use Rattle.engine_invariant.specs.Engines.{EngineView}
use Rattle.histories.specs.Histories.{end_of}
use Rattle.histories.specs.Points.{HistoryEntry}
use Rattle.ktm_calls.specs.Kinds.{kind_of}
use Rattle.ktm_calls.specs.Waiting.{HasNoWork, is_step_kind}
use Rattle.ktm_calls.specs.declared.registry.TheConstants.{BUSY_ROOM}
use Rattle.ktm_calls.specs.declared.waiting.TurnResult.{TurnResult}
use Rattle.ktm_calls.specs.declared.waiting.TurnResult.TheVariants as turned

-- the last event of a history is a step of the flusher that was refused
pub record EndsRefused (history : List HistoryEntry) : Type 0 where
  pub past : List HistoryEntry
  pub step : HistoryEntry
  pub there : history ≡ past ++ step ∷ []
  pub kind : is_step_kind (kind_of step.event) ≡ true
  pub why : Refusal
  pub refused : step.reply ≡ reply.Refused why

-- no step can free any room: none has anything to do at the end of this history, or its last event is one that was refused
abbrev pub IsStuck : EngineView → List HistoryEntry → Type 0
IsStuck start history = HasNoWork (end_of start history) ⊎ EndsRefused history

-- the history after a turn of the flusher, if no step can free any room
abbrev pub MayBeStuck : EngineView → List HistoryEntry → TurnResult → Type 0
MayBeStuck start history (turned.Step told) = (why : Refusal) → told.reply ≡ reply.Refused why → EndsRefused history
MayBeStuck start history turned.NoMemory = EndsRefused history
MayBeStuck start history turned.Wait = HasNoWork (end_of start history)
MayBeStuck start history (turned.Stopped stopped) = HasNoWork (end_of start history)

-- Less than half of the journal's room is used at the end of a history. Or it was tried to free some, until no step could.
abbrev pub HasMadeRoom : EngineView → List HistoryEntry → Type 0
HasMadeRoom start history = ((end_of start history).machine.room < BUSY_ROOM) ⊎ ((tried : List HistoryEntry) × IsPrefix tried history × IsStuck start tried)

-- so it was before each event of a history that may accept a change
abbrev pub MakesRoom : EngineView → List HistoryEntry → Type 0
MakesRoom start history = (past rest : List HistoryEntry) (entry : HistoryEntry) → history ≡ past ++ entry ∷ rest → may_accept entry.event ≡ true → HasMadeRoom start past
