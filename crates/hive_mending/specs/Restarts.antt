-- Where cells go on, for each 8 bytes of a bin from an offset on.
use Rattle.std.specs.Prelude.{◌≡◌, ℕ, ◌+◌, ◌*◌, ◌-◌, ◌/◌, ◌≤◌, List, length, slice_index}
use Rattle.hive_mending.specs.Breaks.{Chain, GoesOnAt}

-- what is kept of a place: the cells of the chain from there, no more than there are places left, and where cells go on
pub record IsRestart (bytes : List ℕ) (end first place count next : ℕ) : Type 0 where
  pub chain : Chain bytes end (first + 8 * place) count
  pub few : 8 * count ≤ end - (first + 8 * place)
  pub goes_on : GoesOnAt bytes end (first + 8 * place) next

-- this is kept of each place from one on, the bin's end too
pub record AreRestarts (bytes : List ℕ) (end first : ℕ) (counts next : List ℕ) (from : ℕ) : Type 0 where
  pub counts_len : length counts ≡ (end - first) / 8 + 1
  pub next_len : length next ≡ (end - first) / 8 + 1
  pub each : (place : ℕ) → from ≤ place → first + 8 * place ≤ end → IsRestart bytes end first place (slice_index counts place) (slice_index next place)

-- where cells go on is known of each place of a bin from an offset on
pub record HaveRestarts (bytes : List ℕ) (end first : ℕ) (next : List ℕ) : Type 0 where
  pub len : length next ≡ (end - first) / 8 + 1
  pub each : (place : ℕ) → first + 8 * place ≤ end → GoesOnAt bytes end (first + 8 * place) (slice_index next place)
