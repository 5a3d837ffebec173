-- What contracts see of what is under the lock.
use Rattle.std.specs.Prelude.{Bool, List, refl}
use Rattle.std.specs.Coded.{Coded, code_by, coded×, coded_bool, coded_list}
use Rattle.histories.specs.Points.{HistoryEntry, entry_code}

-- the engine, its history, and whether the flusher is to stop
pub record Held (E : Type 0) : Type 0 where
  pub engine : E
  pub history : List HistoryEntry
  pub stopped : Bool

abbrev pub held_code : {E : Type 0} → Coded E → Coded (Held E)
held_code {E = E} code = code_by (E × (List HistoryEntry × Bool)) (coded× code (coded× (coded_list entry_code) coded_bool)) (λ s. (s.engine, (s.history, s.stopped))) (λ p. record { engine = p.0; history = p.1.0; stopped = p.1.1 }) (λ _. refl)
