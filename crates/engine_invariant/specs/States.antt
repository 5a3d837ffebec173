-- The engine's state as the crash model sees it, and what an engine keeps.
use Rattle.std.specs.Prelude.{◌≡◌, ◌⊎◌, ℕ, ◌+◌, ◌<◌, ◌≤◌, List, ◌++◌, length, take, slice_get, slice_index_or, Option, Some, None}
use Rattle.refusals.specs.declared.limits.TheConstants.{GREATEST_NUMBER, MOST_JOURNAL_BYTES}
use Rattle.reg_tree.specs.Maps.{TreeMap}
use Rattle.reg_tree.specs.Fresh.{fresh_tree}
use Rattle.reg_tree.specs.declared.element.Element.{Element}
use Rattle.crash_model.specs.Promises.{Choice, Content, nothing, floor, settled}
use Rattle.crash_model.specs.Life.{Life}
use Rattle.crash_model.specs.Invariant.{State}
use Rattle.crash_model.specs.Invariant as law
use Rattle.crash_model.specs.Memory.{with_memory, IsOfMemory}
use Rattle.change_codec.specs.ModelChanges.{TimedOp, timed_elements}
use Rattle.engine_invariant.specs.Rules.{rules}
use Rattle.commit_journal.specs.Store.{room_of}
use Rattle.store_model.specs.Machine.{Machine, pending}
use Rattle.store_model.specs.Invariant.{InvariantHolds}

-- a hive's files, and its tree and number in memory
pub record HiveView : Type 0 where
  pub files : Choice (TreeMap × ℕ)
  pub memory : TreeMap × ℕ

-- the i-th tree
abbrev pub tree_of : List TreeMap → ℕ → TreeMap
tree_of trees i = slice_index_or trees i fresh_tree

-- what a crash may leave of a hive, its memory counted
abbrev pub counted : Option HiveView → Choice (TreeMap × ℕ)
counted None = settled (fresh_tree, 0)
counted (Some hive) = with_memory hive.files hive.memory

abbrev pub files_in : List HiveView → ℕ → Choice (TreeMap × ℕ)
files_in hives i = counted (slice_get hives i)

-- the life: the machine's opened trees and accepted changes, and the changes that the journal decoded to at the
-- opening, which are numbered from `base` + 1 on
abbrev pub life_of : Machine → ℕ → List Element → Life TreeMap TimedOp
life_of machine base opened = record {
  trees = tree_of machine.opened;
  base = base;
  opened = timed_elements opened;
  accepted = timed_elements machine.accepted;
}

abbrev pub state_of : Machine → ℕ → List Element → Choice (Content TimedOp) → List HiveView → State TreeMap TimedOp
state_of machine base opened journal hives = record {
  life = life_of machine base opened;
  durable = machine.durable;
  journal = journal;
  files = files_in hives;
}

-- A batch of the pending changes: the first `count` of them, after what the journal decodes to.
abbrev pub IsBatch : Machine → Content TimedOp → Content TimedOp → Type 0
IsBatch machine now next = (count : ℕ) × (1 ≤ count) × (count ≤ length (pending machine))
    × (next ≡ record { below = floor machine.durable now; elements = now.elements ++ take count (timed_elements (pending machine)) })

-- The invariant of an engine, without the disk. The machine has its invariant. Its room is within the limit if a change
-- is pending, while a journal that was opened may have used more. The crash model's invariant holds, with the hives'
-- memory counted as under way. The life begins where the machine does. There are as many hives as trees, and at most
-- one beside those that calls name. What is under way to a hive's files is its memory. What is under way to the journal is
-- the content without elements, by a trim, or a batch of the pending changes. The machine's room is that of the changes
-- that the journal decodes to and of the pending ones.
pub record IsConsistent (machine : Machine) (base : ℕ) (opened : List Element) (journal : Choice (Content TimedOp))
    (hives : List HiveView) : Type 0 where
  pub kept : InvariantHolds machine
  pub fits : 0 < length (pending machine) → machine.room ≤ MOST_JOURNAL_BYTES
  pub law : law.InvariantHolds (rules machine.bounds.hives) GREATEST_NUMBER (length machine.opened) (state_of machine base opened journal hives)
  pub begun : machine.before ≡ base + length opened
  pub all : length hives ≡ length machine.opened
  pub one_more : length machine.opened ≤ machine.bounds.hives + 1
  pub own : (i : ℕ) (hive : HiveView) → slice_get hives i ≡ Some hive → IsOfMemory hive.files hive.memory
  pub onward : (next : Content TimedOp) → journal.next ≡ Some next → (next ≡ nothing) ⊎ IsBatch machine journal.now next
  pub room : machine.room ≡ 65 + room_of journal.now.elements + room_of (timed_elements (pending machine))
