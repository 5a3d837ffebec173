-- The events of a history that somebody asked for.
use Rattle.std.specs.Prelude.{Bool, true, false, List, ⊤}
use Rattle.std.specs.List.{All, filter}
use Rattle.store_model.specs.declared.event.Event.{Event}
use Rattle.store_model.specs.declared.event.Event.TheVariants as event
use Rattle.histories.specs.Points.{HistoryEntry}

-- whether somebody asks for an event: it is no step, no question whether a number is durable, and no fold
abbrev pub is_asked : Event → Bool
is_asked event.JournalStep = false
is_asked (event.FlusherStep hive) = false
is_asked event.TrimStep = false
is_asked (event.Acked number) = false
is_asked event.Fold = false
is_asked _ = true

-- the events that somebody asked for, in their order
abbrev pub asked_in : List HistoryEntry → List HistoryEntry
asked_in history = filter (λ entry. is_asked entry.event) history

-- an event ends a session
abbrev pub EndsSession : Event → Type 0
EndsSession (event.EndSession session) = ⊤
EndsSession _ = ⊥

-- each of these events ends a session
abbrev pub EndSessions : List HistoryEntry → Type 0
EndSessions history = All (λ entry. EndsSession entry.event) history
