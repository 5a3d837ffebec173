-- The last durable change that names a hive.
use Rattle.std.specs.Prelude.{◌≡◌, ℕ, List, slice_get, Some}
use Rattle.crash_model.specs.Life.{IsLastNaming}
use Rattle.reg_tree.specs.declared.element.Element.{Element}
use Rattle.store_model.specs.Machine.{Machine}
use Rattle.engine_invariant.specs.States.{life_of}

-- For each hive, in their order, this is the number of the last durable change that names it, or 0 if there is none.
abbrev pub AreLastNaming : Machine → ℕ → List Element → List ℕ → Type 0
AreLastNaming machine base opened numbers = (i m : ℕ) → slice_get numbers i ≡ Some m → IsLastNaming (life_of machine base opened) i machine.durable m
