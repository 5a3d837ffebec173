use Rattle.std.proofs.Common.{◌≡◌, ◌<◌, ℕ, get_or}
use Rattle.reg_names.specs.Names.{fold_unit}
use Rattle.hive_records.specs.RecordReaders.{units_of}
use Rattle.hive_edit.proofs.search.name_order.Given as goal

abbrev pub invariant-loop-place : goal.invariant-loop-place
invariant-loop-place l = (k : ℕ) → k < l.place → fold_unit (get_or (units_of l.stored) k 0) ≡ fold_unit (get_or l.name k 0)
