-- Which changes an engine retains.
use Rattle.std.specs.Prelude.{◌≡◌, ◌⊎◌, ℕ, ◌≤◌, max, List, [], get_or, slice_get, Some}
use Rattle.std.specs.List.{filter}
use Rattle.reg_tree.specs.declared.element.Element.{Element}
use Rattle.crash_model.specs.Life.{ops_in}
use Rattle.transactions.specs.Stores.{StoreView}
use Rattle.hive_flush.specs.HiveStates.{memory_of}
use Rattle.hive_flush.specs.declared.hive.HiveFile.{HiveFile}
use Rattle.engine_invariant.specs.States.{life_of}
use Rattle.commit_journal.specs.Numbered.{NumberedChange, numbered}
use Rattle.recovery.specs.Retained.{above_number, is_lacked}

-- Up to some number, which is not above the durable one, changes were discarded, since no hive's memory lacks any of
-- them. Above it these are retained: of the changes before the history, those that some hive lacked at the opening, by
-- the hives' own numbers of then; and all of the history. No hive's own number of then is above the number of the
-- machine's opening, nor above the hive's number in memory.
pub record RetainsWhatHivesLack (store : StoreView) (base : ℕ) (decoded : List Element) (opened : List NumberedChange) (hives : List HiveFile) : Type 0 where
  pub gone : ℕ
  pub own : List ℕ
  pub high : gone ≤ store.machine.durable
  pub opened_are : opened ≡ above_number gone (filter (is_lacked own) (numbered base decoded))
  pub accepted_are : store.retained ≡ max store.machine.before gone
  pub early : (i : ℕ) → get_or own i 0 ≤ store.machine.before
  pub since : (i : ℕ) (hive : HiveFile) → slice_get hives i ≡ Some hive → get_or own i 0 ≤ (memory_of hive).1
  pub lacked : (i : ℕ) (hive : HiveFile) → slice_get hives i ≡ Some hive → ops_in (life_of store.machine base decoded) i (memory_of hive).1 gone ≡ []

-- Each hive has in memory the last change that names it, or no number below this.
abbrev pub HaveUpTo : ℕ → List ℕ → List HiveFile → Type 0
HaveUpTo number numbers hives = (i m : ℕ) (hive : HiveFile) → slice_get hives i ≡ Some hive → slice_get numbers i ≡ Some m
    → (m ≤ (memory_of hive).1) ⊎ (number ≤ (memory_of hive).1)
