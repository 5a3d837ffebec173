-- Why the files of a store recover no tree of one hive.
use Rattle.std.specs.Prelude.{◌≡◌, ◌⊎◌, ℕ, ◌≤◌, List}
use Rattle.refusals.specs.declared.refusal.Cause.TheVariants.{BadStore}
use Rattle.refusals.specs.declared.refusal.Refusal.{Refusal}
use Rattle.refusals.specs.declared.refusal.Refusal.TheVariants as refusal
use Rattle.crash_model.specs.Promises.{Content}
use Rattle.disk_model.specs.StoreFiles.{journal_file}
use Rattle.change_codec.specs.ModelChanges.{TimedOp}
use Rattle.commit_journal.specs.Store.{Store, IsStore, IsNoJournal}
use Rattle.commit_journal.specs.declared.store_layout.Layout.TheVariants.{HivesAlone}
use Rattle.engine_invariant.specs.Prefixes.{JournalDecodesTo}
use Rattle.recovery.specs.Recovered.{IsFileRefusal}
use Rattle.recovery.specs.Refused.{HoldsNothing, IsAhead, LeadsNowhere, OutcomesAreWrong}

-- Files are wrong in what concerns one hive, as a refusal says. Damage is that of this hive: its files decode to nothing
-- in the journal's store for the reported cause; or the cause is `BadStore`, and the hive is ahead of the journal, or its
-- outcomes are wrong. If something isn't supported, the hive's files decode to nothing for that. A damaged journal is no
-- store's, or leads nowhere from this hive's tree.
abbrev pub HiveIsWrong : (ℕ → List ℕ) → ℕ → Refusal → Type 0
HiveIsWrong files hive (refusal.HiveDamaged of cause) =
    (of ≡ hive) × (HoldsNothing files hive (refusal.HiveDamaged hive cause) ⊎ ((cause ≡ BadStore) × (IsAhead files hive ⊎ OutcomesAreWrong files hive)))
HiveIsWrong files hive refusal.Unsupported = HoldsNothing files hive refusal.Unsupported
HiveIsWrong files hive refusal.JournalDamaged = IsNoJournal (files journal_file) ⊎ LeadsNowhere files hive
HiveIsWrong files hive _ = ⊥

-- why the files recover no tree of a hive: the refusal is one of files, and they are wrong as it says, if the device has
-- answered as it should
abbrev pub RecoversNoTree : Type 0 → (ℕ → List ℕ) → ℕ → Refusal → Type 0
RecoversNoTree faithful files hive why = IsFileRefusal why × (faithful → HiveIsWrong files hive why)

-- The journal is that of a store and decodes to changes, and calls don't name this hive.
pub record CallsNameNone (files : ℕ → List ℕ) (hive : ℕ) : Type 0 where
  pub store : Store
  pub journal : Content TimedOp
  pub store_is : IsStore store
  pub decodes : JournalDecodesTo store (files journal_file) journal
  pub beyond : store.hives ≤ hive

-- why the files recover no tree of a hive that calls name: as of any hive, or calls name no such hive
abbrev pub RecoversNoNamedTree : Type 0 → (ℕ → List ℕ) → ℕ → Refusal → Type 0
RecoversNoNamedTree faithful files hive why = RecoversNoTree faithful files hive why ⊎ ((why ≡ refusal.NotFound) × (faithful → CallsNameNone files hive))

-- The journal is that of a store and decodes to changes, and the store keeps no outcomes.
pub record KeepsNoOutcomes (files : ℕ → List ℕ) : Type 0 where
  pub store : Store
  pub journal : Content TimedOp
  pub store_is : IsStore store
  pub decodes : JournalDecodesTo store (files journal_file) journal
  pub alone : store.layout ≡ HivesAlone

-- if the journal is that of a store, the hive is the one after those that calls name
abbrev pub IsAfterNamed : (ℕ → List ℕ) → ℕ → Type 0
IsAfterNamed files hive = (store : Store) (journal : Content TimedOp) → IsStore store → JournalDecodesTo store (files journal_file) journal → store.hives ≡ hive

-- why the files recover no tree of outcomes: as of the hive after those that calls name, or the store keeps none
abbrev pub RecoversNoOutcomes : Type 0 → (ℕ → List ℕ) → Refusal → Type 0
RecoversNoOutcomes faithful files why =
    ((hive : ℕ) × (faithful → IsAfterNamed files hive) × RecoversNoTree faithful files hive why)
    ⊎ ((why ≡ refusal.Unsupported) × (faithful → KeepsNoOutcomes files))
