-- A store with outcomes that is made of what a store without them recovers.
use Rattle.std.specs.Prelude.{◌≡◌, ◌⊎◌, ℕ, List}
use Rattle.refusals.specs.declared.refusal.Refusal.{Refusal}
use Rattle.refusals.specs.declared.refusal.Refusal.TheVariants.{TooLarge, Unsupported}
use Rattle.reg_tree.specs.Maps.{TreeMap}
use Rattle.disk_model.specs.FileState.{FileState}
use Rattle.disk_model.specs.ReadOnly.{IsSyncedOrSame}
use Rattle.commit_journal.specs.Store.{Store}
use Rattle.commit_journal.specs.declared.store_layout.Layout.TheVariants.{HivesAlone, WithOutcomes}
use Rattle.recovery.specs.Created.{SomeIsHeavy}
use Rattle.recovery.specs.Recovered.{IsNoStore, IsRecovered, seen_in}
use Rattle.store_driver.specs.Openings.{CrashesRecover}
use Rattle.store_create.specs.Creations.{IsNewStore}

-- What a call leaves of a store's files: each is as it was or synced. Or else whatever a crash leaves of them recovers
-- the number and the trees that what was read of them recovers.
abbrev pub UpgradeKeepsStore : (ℕ → FileState) → (ℕ → FileState) → Type 0
UpgradeKeepsStore first last = ((f : ℕ) → IsSyncedOrSame (first f) (last f))
    ⊎ ((store : Store) × (number : ℕ) × (trees : List TreeMap) × IsRecovered (seen_in first) store number trees × CrashesRecover store number trees last)

-- A store with outcomes is made of a store without them: `first` and `last` are the files of the old disk before and
-- after, and `made` those of the new one. If the old disk has answered as it should, its files recover these trees, and
-- go on to do so, whether a crash comes or not. If the new disk has, a store of the same id has these trees on it, at
-- number 0.
pub record IsUpgraded (old_faithful : Type 0) (first last : ℕ → FileState) (new_faithful : Type 0) (made : ℕ → FileState) (trees : List TreeMap) : Type 0 where
  pub store : Store
  pub number : ℕ
  pub alone : store.layout ≡ HivesAlone
  pub recovered : old_faithful → IsRecovered (seen_in first) store number trees
  pub kept : old_faithful → CrashesRecover store number trees last
  pub seen : old_faithful → IsRecovered (seen_in last) store number trees
  pub created : new_faithful → IsNewStore store.id trees made

-- the files recover a store that has outcomes
abbrev pub HaveOutcomes : (ℕ → List ℕ) → Type 0
HaveOutcomes files = (store : Store) × (number : ℕ) × (trees : List TreeMap) × IsRecovered files store number trees × (store.layout ≡ WithOutcomes)

-- the files recover a tree that is over the weight
abbrev pub HaveHeavyTree : (ℕ → List ℕ) → Type 0
HaveHeavyTree files = (store : Store) × (number : ℕ) × (trees : List TreeMap) × IsRecovered files store number trees × SomeIsHeavy trees

-- Why no store is made of files, if neither the device nor memory is the reason. They recover nothing; or their store has
-- outcomes; or a tree is over the weight. That is so if the device has answered as it should.
abbrev pub AreNotUpgraded : Type 0 → (ℕ → List ℕ) → Refusal → Type 0
AreNotUpgraded faithful files why = IsNoStore faithful files why ⊎ (((why ≡ Unsupported) × (faithful → HaveOutcomes files)) ⊎ ((why ≡ TooLarge) × (faithful → HaveHeavyTree files)))
