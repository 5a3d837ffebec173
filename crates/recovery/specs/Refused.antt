-- What is wrong with a store's files, by an opening's refusal.
use Rattle.std.specs.Prelude.{◌≡◌, ◌⊎◌, ◌<◌, ◌≤◌, ℕ, List, [], Some, None, false}
use Rattle.refusals.specs.declared.limits.TheConstants.{GREATEST_NUMBER}
use Rattle.refusals.specs.declared.refusal.Cause.TheVariants.{BadStore}
use Rattle.refusals.specs.declared.refusal.Refusal.{Refusal}
use Rattle.refusals.specs.declared.refusal.Refusal.TheVariants as refusal
use Rattle.reg_tree.specs.Maps.{TreeMap}
use Rattle.crash_model.specs.Promises.{Content, top}
use Rattle.disk_model.specs.StoreFiles.{primary_file, log_file, journal_file}
use Rattle.change_codec.specs.ModelChanges.{TimedOp}
use Rattle.commit_journal.specs.Store.{Store, IsStore, IsNoJournal, all_hives}
use Rattle.commit_outcomes.specs.Trees.{are_outcomes}
use Rattle.hive_flush.specs.Decoders.{FilesHoldNone}
use Rattle.engine_invariant.specs.Prefixes.{Holds, JournalDecodesTo}
use Rattle.recovery.specs.Reading.{replayed_on}

-- The journal is that of a store, which has this hive, and decodes to changes.
pub record IsInStore (files : ℕ → List ℕ) (hive : ℕ) : Type 0 where
  pub store : Store
  pub journal : Content TimedOp
  pub store_is : IsStore store
  pub decodes : JournalDecodesTo store (files journal_file) journal
  pub there : hive < all_hives store

-- the hive's two files decode to a tree and a number in that store
abbrev pub HoldsIn : (files : ℕ → List ℕ) (hive : ℕ) → IsInStore files hive → TreeMap × ℕ → Type 0
HoldsIn files hive of = Holds of.store (files (primary_file hive)) (files (log_file hive))

-- The hive's two files decode to nothing in the store that the journal names, and a refusal says why: by the hive's
-- number and a cause in the files, or by a version, a type or a flag that isn't known.
abbrev pub HoldsNothing : (ℕ → List ℕ) → ℕ → Refusal → Type 0
HoldsNothing files hive why = (of : IsInStore files hive) × FilesHoldNone hive of.store.id (files (primary_file hive)) (files (log_file hive)) why

-- The hive has a number above that of the last change that the journal decodes to; if it decodes to none, above the
-- greatest number.
abbrev pub IsAhead : (ℕ → List ℕ) → ℕ → Type 0
IsAhead files hive = (of : IsInStore files hive) × (held : TreeMap × ℕ) × HoldsIn files hive of held × (top GREATEST_NUMBER of.journal < held.1)

-- One of the changes above the hive's own number isn't legal on the hive's tree in its turn.
abbrev pub LeadsNowhere : (ℕ → List ℕ) → ℕ → Type 0
LeadsNowhere files hive = (of : IsInStore files hive) × (held : TreeMap × ℕ) × HoldsIn files hive of held × (replayed_on of.journal hive held ≡ None)

-- The hive is not one that calls name, and the journal leads from its tree to one that is not of outcomes of commits up
-- to the number of the last change that the journal decodes to; if it decodes to none, up to the greatest number.
pub record OutcomesAreWrong (files : ℕ → List ℕ) (hive : ℕ) : Type 0 where
  pub of : IsInStore files hive
  pub unnamed : of.store.hives ≤ hive
  pub held : TreeMap × ℕ
  pub holds : HoldsIn files hive of held
  pub tree : TreeMap
  pub leads : replayed_on of.journal hive held ≡ Some tree
  pub wrong : are_outcomes (top GREATEST_NUMBER of.journal) tree ≡ false

-- The number is the greatest that the files of a store's hives hold: those of some hive hold it, and none holds more.
pub record IsGreatestHeld (files : ℕ → List ℕ) (store : Store) (number : ℕ) : Type 0 where
  pub hive : ℕ
  pub there : hive < all_hives store
  pub tree : TreeMap
  pub holds : Holds store (files (primary_file hive)) (files (log_file hive)) (tree, number)
  pub greatest : (i : ℕ) (held : TreeMap × ℕ) → i < all_hives store → Holds store (files (primary_file i)) (files (log_file i)) held → held.1 ≤ number

-- The journal decodes to no change, and the hive is not one that calls name. Its tree is not of outcomes of commits up
-- to the greatest number that the hives' files hold.
pub record OutcomesAreAhead (files : ℕ → List ℕ) (hive : ℕ) : Type 0 where
  pub of : IsInStore files hive
  pub unnamed : of.store.hives ≤ hive
  pub empty : of.journal.elements ≡ []
  pub held : TreeMap × ℕ
  pub holds : HoldsIn files hive of held
  pub number : ℕ
  pub is_number : IsGreatestHeld files of.store number
  pub ahead : are_outcomes number held.0 ≡ false

-- The files are wrong as a refusal says. The files of a damaged hive decode to nothing in the journal's store for the
-- reported cause; or the cause is `BadStore`, and the hive is ahead, or its outcomes are wrong or ahead. If something
-- isn't supported, the files of some hive decode to nothing for that. A damaged journal is no store's, or leads nowhere
-- from some hive's tree.
abbrev pub IsWrong : (ℕ → List ℕ) → Refusal → Type 0
IsWrong files (refusal.HiveDamaged hive cause) =
    HoldsNothing files hive (refusal.HiveDamaged hive cause) ⊎ ((cause ≡ BadStore) × (IsAhead files hive ⊎ (OutcomesAreWrong files hive ⊎ OutcomesAreAhead files hive)))
IsWrong files refusal.Unsupported = (hive : ℕ) × HoldsNothing files hive refusal.Unsupported
IsWrong files refusal.JournalDamaged = IsNoJournal (files journal_file) ⊎ ((hive : ℕ) × LeadsNowhere files hive)
IsWrong files _ = ⊥

-- Files are like others in what concerns one hive: the journal, and the hive's two files.
pub record AreAlike (files others : ℕ → List ℕ) (hive : ℕ) : Type 0 where
  pub journal : others journal_file ≡ files journal_file
  pub primary : others (primary_file hive) ≡ files (primary_file hive)
  pub log : others (log_file hive) ≡ files (log_file hive)
