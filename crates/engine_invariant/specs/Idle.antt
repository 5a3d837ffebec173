-- When a step has nothing to do.
use Rattle.std.specs.Prelude.{◌≡◌, ◌⊎◌, ◌↔◌, ℕ, ⊤, List, [], slice_get, Some, None}
use Rattle.reg_tree.specs.declared.element.Element.{Element}
use Rattle.crash_model.specs.Life.{ops_in}
use Rattle.crash_model.specs.Promises.{Choice, Content, nothing}
use Rattle.change_codec.specs.ModelChanges.{TimedOp}
use Rattle.store_model.specs.Machine.{Machine, last_number}
use Rattle.store_model.specs.declared.event.Event.{Event}
use Rattle.store_model.specs.declared.event.Event.TheVariants as event
use Rattle.disk_model.specs.declared.progress.Progress.TheVariants.{Idle}
use Rattle.store_model.specs.declared.event.Reply.{Reply}
use Rattle.store_model.specs.declared.event.Reply.TheVariants.{Stepped}
use Rattle.engine_invariant.specs.States.{HiveView, life_of}

-- The durable content of hive i has each durable change that names it.
abbrev pub HasAll : Machine → ℕ → List Element → ℕ → HiveView → Type 0
HasAll machine base opened i hive = ops_in (life_of machine base opened) i hive.files.now.1 machine.durable ≡ []

-- The journal has nothing to do: all accepted changes are durable, and nothing is under way.
pub record JournalIsIdle (machine : Machine) (journal : Choice (Content TimedOp)) : Type 0 where
  pub durable : machine.durable ≡ last_number machine
  pub rests : journal.next ≡ None

-- Hive i has nothing to flush: it is there, nothing is under way to its files, and they have each durable change that
-- names it.
pub record HiveIsFlushed (machine : Machine) (base : ℕ) (opened : List Element) (hives : List HiveView) (i : ℕ) : Type 0 where
  pub hive : HiveView
  pub there : slice_get hives i ≡ Some hive
  pub rests : hive.files.next ≡ None
  pub has : HasAll machine base opened i hive

-- The durable content of some hive lacks a durable change that names it.
abbrev pub SomeLacks : Machine → ℕ → List Element → List HiveView → Type 0
SomeLacks machine base opened hives = (i : ℕ) × (hive : HiveView) × (slice_get hives i ≡ Some hive) × ¬ (HasAll machine base opened i hive)

-- There is nothing to trim: no trim is under way; and a batch is, or the journal decodes to no change, or some hive
-- lacks one.
pub record IsTrimmed (machine : Machine) (base : ℕ) (opened : List Element) (journal : Choice (Content TimedOp)) (hives : List HiveView) : Type 0 where
  pub no_trim : ¬ (journal.next ≡ Some nothing)
  pub why : (¬ (journal.next ≡ None)) ⊎ ((journal.now.elements ≡ []) ⊎ SomeLacks machine base opened hives)

-- A step that is made is answered idle exactly if there is nothing to do.
abbrev pub IdlesExactly : Event → Reply → Machine → ℕ → List Element → Choice (Content TimedOp) → List HiveView → Type 0
IdlesExactly event.JournalStep answer machine base opened journal hives = (answer ≡ Stepped Idle) ↔ JournalIsIdle machine journal
IdlesExactly (event.FlusherStep i) answer machine base opened journal hives = (answer ≡ Stepped Idle) ↔ HiveIsFlushed machine base opened hives i
IdlesExactly event.TrimStep answer machine base opened journal hives = (answer ≡ Stepped Idle) ↔ IsTrimmed machine base opened journal hives
IdlesExactly _ answer machine base opened journal hives = ⊤
