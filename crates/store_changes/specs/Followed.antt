-- The changes that the journal of a store at rest holds, and what is told of those after a number.
use Rattle.std.specs.Prelude.{◌≡◌, ◌⊎◌, ℕ, ◌+◌, ◌<◌, ◌≤◌, nat_le, nat_lt, ◌&&◌, List, [], ◌∷◌, ◌++◌, length, map, take, Some}
use Rattle.std.specs.List.{AllByRecursion, filter}
use Rattle.refusals.specs.declared.refusal.Refusal.TheVariants.{NoMemory}
use Rattle.reg_tree.specs.Maps.{TreeMap}
use Rattle.reg_tree.specs.declared.element.Element.{Element}
use Rattle.crash_model.specs.Changes.{ops_on, replay}
use Rattle.crash_model.specs.Promises.{Content}
use Rattle.disk_model.specs.StoreFiles.{primary_file, log_file, journal_file}
use Rattle.change_codec.specs.Encoding.{Fits}
use Rattle.change_codec.specs.ModelChanges.{TimedOp, tree_rules, timed_elements}
use Rattle.commit_journal.specs.Numbered.{NumberedChange, changes_in, numbered}
use Rattle.commit_journal.specs.Store.{Store, all_hives}
use Rattle.engine_invariant.specs.Prefixes.{Holds, JournalDecodesTo}
use Rattle.engine_invariant.specs.States.{tree_of}
use Rattle.recovery.specs.Recovered.{IsRecovered}
use Rattle.recovery.specs.Retained.{above_number}
use Rattle.reply_lines.specs.declared.reply.ReplyLine.TheVariants.{Refused}
use Rattle.reply_lines.specs.declared.status.Status.{Status}
use Rattle.reply_lines.specs.declared.status.Status.TheVariants as status
use Rattle.served_replies.specs.declared.reply.ServedReply.{ServedReply}
use Rattle.served_replies.specs.declared.reply.ServedReply.TheVariants.{Change, Followed, Line, NotFound}

-- ---- changes

-- of changes that are numbered from `base` + 1 on, those after a number, each with its own
abbrev pub changes_after : ℕ → ℕ → List Element → List NumberedChange
changes_after after base changes = above_number after (numbered base changes)

-- and those after one number, up to another
abbrev pub changes_up_to : ℕ → ℕ → ℕ → List Element → List NumberedChange
changes_up_to last after base changes = filter (λ (c : NumberedChange). nat_lt after c.0 && nat_le c.0 last) (numbered base changes)

-- the operations of changes on a hive
abbrev pub ops_of : ℕ → List NumberedChange → List TimedOp
ops_of hive changes = ops_on hive (timed_elements (changes_in changes))

-- ---- what a store at rest holds

-- A hive's files hold a tree and its number. If the number isn't above another one, the hive's tree as of that one is this
-- tree with the changes up to there, each legal; and the changes after it lead from there to the given tree, each legal.
pub record ChangesLeadTo (store : Store) (files : ℕ → List ℕ) (base : ℕ) (changes : List Element) (after hive : ℕ) (tree : TreeMap) : Type 0 where
  pub held : TreeMap × ℕ
  pub holds : Holds store (files (primary_file hive)) (files (log_file hive)) held
  pub lead : held.1 ≤ after → (as_of : TreeMap) × (replay tree_rules (ops_of hive (changes_up_to after held.1 base changes)) held.0 ≡ Some as_of)
      × (replay tree_rules (ops_of hive (changes_after after base changes)) as_of ≡ Some tree)

-- The files are those of a store, and recover trees. The journal holds these changes, with numbers from `base` + 1 on: the
-- last one has the recovered number. If there is none, `base` is that number. From the trees as of any number from `base`
-- on, the changes after it lead to the recovered trees.
pub record JournalHolds (files : ℕ → List ℕ) (store : Store) (base : ℕ) (changes : List Element) : Type 0 where
  pub trees : List TreeMap
  pub recovered : IsRecovered files store (base + length changes) trees
  pub below : ℕ
  pub decodes : JournalDecodesTo store (files journal_file) (record { below = below; elements = timed_elements changes })
  pub first : 0 < length changes → base ≡ below
  pub fit : AllByRecursion (Fits (all_hives store)) changes
  pub lead : (after hive : ℕ) → base ≤ after → hive < all_hives store → ChangesLeadTo store files base changes after hive (tree_of trees hive)

-- ---- what is told

abbrev pub told_change : NumberedChange → ServedReply
told_change change = Change change.0 change.1

-- what is told of changes, in their order
abbrev pub told_changes : List NumberedChange → List ServedReply
told_changes changes = map told_change changes

-- All changes after a number are told, each once and in order, and then the number of the last one; if the number isn't
-- below the first of all, and not above the last.
abbrev pub TellsAll : ℕ → List Element → ℕ → List ServedReply → Type 0
TellsAll base changes after replies =
    (base ≤ after) × (after ≤ base + length changes) × (replies ≡ told_changes (changes_after after base changes) ++ Followed (base + length changes) ∷ [])

-- Some of the changes after a number aren't held, or it is above the last one's: it is told after which they are.
abbrev pub TellsFromWhere : ℕ → List Element → ℕ → List ServedReply → Type 0
TellsFromWhere base changes after replies =
    ((after < base) × (replies ≡ NotFound base ∷ [])) ⊎ ((base + length changes < after) × (replies ≡ NotFound (base + length changes) ∷ []))

-- The first of them were told, then memory was wanting for one.
abbrev pub TellsSome : ℕ → List Element → ℕ → List ServedReply → Type 0
TellsSome base changes after replies =
    (base ≤ after) × (count : ℕ) × (after + count < base + length changes)
    × (replies ≡ told_changes (take count (changes_after after base changes)) ++ Line (Refused NoMemory) ∷ [])

-- What is told to one who asks for the changes after a number, by the status.
abbrev pub TellsChanges : ℕ → List Element → ℕ → List ServedReply → Status → Type 0
TellsChanges base changes after replies status.Clean = TellsAll base changes after replies
TellsChanges base changes after replies status.Refused = TellsFromWhere base changes after replies ⊎ TellsSome base changes after replies
TellsChanges base changes after replies status.Wrong = ⊥
