-- What a scan of the journal makes of a store's hives.
use Rattle.std.specs.Prelude.{◌≡◌, ◌⊎◌, ℕ, ◌+◌, List, [], ◌∷◌, ◌++◌, length, get_or, slice_get, Some, None}
use Rattle.std.specs.List.{filter}
use Rattle.refusals.specs.declared.refusal.Refusal.{Refusal}
use Rattle.refusals.specs.declared.refusal.Refusal.TheVariants.{NoMemory, JournalDamaged}
use Rattle.reg_tree.specs.Maps.{TreeMap}
use Rattle.reg_tree.specs.Sequences.{AreTrees}
use Rattle.reg_tree.specs.declared.element.Element.{Element}
use Rattle.crash_model.specs.Changes as law
use Rattle.crash_model.specs.Changes.{ops_on, replay}
use Rattle.change_codec.specs.ModelChanges.{TimedOp, tree_rules, timed_elements}
use Rattle.commit_journal.specs.LastChangePerHive.{AreLastIn}
use Rattle.commit_journal.specs.Numbered.{NumberedChange, numbered, changes_in}
use Rattle.recovery.specs.Retained.{above_number, is_lacked, numbered_changes}
use Rattle.recovery.specs.declared.replay.Replay.{Replay}

-- of changes the operations on a hive that it lacks, by its own number
abbrev pub ops_lacked : ℕ → ℕ → List NumberedChange → List TimedOp
ops_lacked hive number changes = ops_on hive (timed_elements (changes_in (above_number number changes)))

-- Each hive's tree has those of the changes applied that the hive lacks. Each is legal in its turn.
pub record TreesFollow (numbers : List ℕ) (changes : List NumberedChange) (old new : List TreeMap) : Type 0 where
  pub many : length new ≡ length old
  pub each : (i : ℕ) (was is : TreeMap) → slice_get old i ≡ Some was → slice_get new i ≡ Some is
      → replay tree_rules (ops_lacked i (get_or numbers i 0) changes) was ≡ Some is

-- If these were for each hive the last of some changes that names it, they are now the last of those and of these, which
-- follow.
pub record NamesFollow (changes : List NumberedChange) (old new : List ℕ) : Type 0 where
  pub many : length new ≡ length old
  pub each : (base : ℕ) (known : List (law.Element TimedOp)) (es : List Element) → changes ≡ numbered (base + length known) es
      → AreLastIn base known old → AreLastIn base (known ++ timed_elements es) new

-- changes were replayed, one after another
pub record Replays (before after : Replay) (changes : List NumberedChange) : Type 0 where
  pub numbers : after.numbers ≡ before.numbers
  pub trees : TreesFollow before.numbers.items changes before.trees.items after.trees.items
  pub are : AreTrees before.trees.items → AreTrees after.trees.items
  pub retained : numbered_changes after.retained ≡ numbered_changes before.retained ++ filter (is_lacked before.numbers.items) changes
  pub names : NamesFollow changes before.last_changes.last.items after.last_changes.last.items

-- a change isn't legal on the tree of some hive that lacks it
abbrev pub SomeIllegal : List ℕ → List TreeMap → NumberedChange → Type 0
SomeIllegal numbers trees change = (i : ℕ) × (tree : TreeMap) × (slice_get trees i ≡ Some tree) × (replay tree_rules (ops_lacked i (get_or numbers i 0) (change ∷ [])) tree ≡ None)

-- why a change is not replayed
abbrev pub NotReplayed : Replay → NumberedChange → Refusal → Type 0
NotReplayed replay change why = (why ≡ NoMemory) ⊎ ((why ≡ JournalDamaged) × SomeIllegal replay.numbers.items replay.trees.items change)
