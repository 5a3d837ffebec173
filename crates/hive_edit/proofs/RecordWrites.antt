-- Records after bytes were written
use Rattle.std.proofs.Common.{◌≡◌, ℕ, List, length, arith}
use Rattle.hive_records.specs.Numbers.{u64_at}
use Rattle.hive_edit_laws.specs.RecordEdits.{NodeTimeChanges}
use Rattle.hive_edit_laws.proofs.CellWrites.{time_over, bounds_over}
use Rattle.hive_savepoint.specs.Puts.{Overlays}

-- a node's time, and then the bytes of its largest data, were written
pub time_put : (old half new stamp most : List ℕ) (moment : ℕ) → Overlays old half 4 stamp → Overlays half new 64 most → length stamp ≡ 8 → u64_at stamp 0 ≡ moment → length most ≡ 4 → NodeTimeChanges old new moment
time_put old half new stamp most moment o p eight is four =
    bounds_over old half new most moment 64 (time_over old half stamp moment o eight is) p (omega arith) (omega (arith, four))
