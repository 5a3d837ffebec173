use Rattle.std.proofs.Common.{◌≢◌, ℕ, ◌<◌, get_or}
use Rattle.hive_records.specs.Heads.{units_in}
use Rattle.hive_records.proofs.stored_name.StoredName.contains.Given as goal

abbrev pub invariant-loop-place : goal.invariant-loop-place
invariant-loop-place l = (k : ℕ) → k < l.place → get_or (units_in l.self.latin l.self.bytes.now) k 0 ≢ l.unit
