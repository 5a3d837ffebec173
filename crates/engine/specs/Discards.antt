-- Which accepted changes an engine no longer retains.
use Rattle.std.specs.Prelude.{◌≡◌, ◌⊎◌, ℕ, ◌<◌, ◌≤◌, List, [], slice_get, Some}
use Rattle.reg_tree.specs.declared.element.Element.{Element}
use Rattle.crash_model.specs.Life.{ops_in}
use Rattle.store_model.specs.Machine.{Machine, last_number}
use Rattle.engine_invariant.specs.States.{HiveView, life_of}

-- The changes up to this number are durable, and no hive's memory lacks one of them.
pub record AreHeld (machine : Machine) (base : ℕ) (opened : List Element) (hives : List HiveView) (number : ℕ) : Type 0 where
  pub durable : number ≤ machine.durable
  pub held : (i : ℕ) (hive : HiveView) → slice_get hives i ≡ Some hive → ops_in (life_of machine base opened) i hive.memory.1 number ≡ []

-- Changes are retained after `from` alone, which is above a number: the history begins there, or all up to there are held
-- by the hives.
pub record AreRetainedAfter (machine : Machine) (base : ℕ) (opened : List Element) (hives : List HiveView) (number from : ℕ) : Type 0 where
  pub above : number < from
  pub there : from ≤ last_number machine
  pub why : (from ≡ machine.before) ⊎ AreHeld machine base opened hives from
