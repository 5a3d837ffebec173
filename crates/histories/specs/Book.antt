-- The rule of the book of a history, and what its steps tell.
use Rattle.std.specs.Prelude.{ℕ, ◌≡◌, ◌==◌, true, List, [], ◌∷◌, ◌++◌, length, MatchBool, ⊤}
use Rattle.logbook.specs.Pages.{Cell, Step, View}
use Rattle.histories.specs.Points.{HistoryEntry}

-- the first word is the length of the history. A book has two words, of which this one leaves the second at 0
abbrev pub CountsEvents : List Cell → List HistoryEntry → Type 0
CountsEvents cells log = cells ≡ (length log, true) ∷ (0, true) ∷ []

-- the event was added after all that had been seen, which was the whole history
abbrev pub AddsEvent : Step HistoryEntry → View HistoryEntry ℕ → ℕ → View HistoryEntry ℕ → Type 0
AddsEvent step view found next = MatchBool (found == step.old) ((next.0 ≡ view.0 ++ step.ask ∷ []) × (length view.0 ≡ found)) ⊤

-- the history has as many events as were found, and all of them are seen
abbrev pub SeesAllEvents : Step HistoryEntry → View HistoryEntry ℕ → ℕ → View HistoryEntry ℕ → Type 0
SeesAllEvents step view found next = length next.0 ≡ found
