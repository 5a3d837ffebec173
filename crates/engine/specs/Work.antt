-- Which hives of an engine have something to flush.
use Rattle.std.specs.Prelude.{◌≡◌, ◌⊎◌, ℕ, ◌<◌, ◌≤◌, false, List, length, slice_get, Some, None}
use Rattle.reg_tree.specs.declared.element.Element.{Element}
use Rattle.store_model.specs.Machine.{Machine}
use Rattle.engine_invariant.specs.Idle.{HiveIsFlushed}
use Rattle.engine_invariant.specs.States.{HiveView}

-- no flush of a hive is under way
abbrev pub AreAtRest : List HiveView → Type 0
AreAtRest hives = (i : ℕ) (hive : HiveView) → slice_get hives i ≡ Some hive → hive.files.next ≡ None

-- What a read gives may be left by a crash: the device hasn't failed, or no flush is under way.
abbrev pub IsReadable : Machine → List HiveView → Type 0
IsReadable machine hives = (machine.faulted ≡ false) ⊎ AreAtRest hives

-- none of the hives from `from` to before `to` has anything to flush
abbrev pub AreFlushed : Machine → ℕ → List Element → List HiveView → ℕ → ℕ → Type 0
AreFlushed machine base opened hives from to = (i : ℕ) → from ≤ i → i < to → HiveIsFlushed machine base opened hives i

-- Going round all hives from after `after` on, j comes before i.
abbrev pub ComesBefore : ℕ → ℕ → ℕ → Type 0
ComesBefore after j i = ((after < j) × (j < i)) ⊎ ((i ≤ after) × ((after < j) ⊎ (j < i)))

-- Hive i has something to flush, and is the first such hive going round from after `after` on.
pub record IsNextAround (machine : Machine) (base : ℕ) (opened : List Element) (hives : List HiveView) (after i : ℕ) : Type 0 where
  pub there : i < length hives
  pub works : ¬ (HiveIsFlushed machine base opened hives i)
  pub first : (j : ℕ) → j < length hives → ComesBefore after j i → HiveIsFlushed machine base opened hives j
