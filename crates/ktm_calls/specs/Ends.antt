-- What was asked for in a history that ended.
use Rattle.std.specs.Prelude.{◌≡◌, ℕ, List, ◌++◌, length}
use mathlib.Core.List.{IsPrefix}
use Rattle.histories.specs.Asked.{EndSessions, asked_in}
use Rattle.histories.specs.Points.{HistoryEntry}

-- So many events were asked for in a history, one of whose beginnings was seen. Beside them it has at its end those of the
-- sessions that were still open as the registry closed.
pub record IsAllAsked (seen : List HistoryEntry) (asked : ℕ) (history : List HistoryEntry) : Type 0 where
  pub past : List HistoryEntry
  pub ends : List HistoryEntry
  pub whole : history ≡ past ++ ends
  pub closing : EndSessions ends
  pub begins : IsPrefix seen past
  pub count : length (asked_in past) ≡ asked
