-- A store as of a number, and the durable changes after one.
use Rattle.std.specs.Prelude.{◌≡◌, ◌+◌, ◌-◌, ◌<◌, ◌≤◌, ℕ, List, drop, length, take, ⊤}
use Rattle.refusals.specs.declared.limits.TheConstants.{GREATEST_NUMBER}
use Rattle.reg_tree.specs.Maps.{TreeMap}
use Rattle.reg_tree.specs.Sequences.{after_elements}
use Rattle.reg_tree.specs.declared.element.Element.{Element}
use Rattle.commit_journal.specs.Store.{Store}
use Rattle.engine.specs.Discards.{AreRetainedAfter}
use Rattle.engine_invariant.specs.Engines.{EngineView}
use Rattle.histories.specs.Histories.{end_of}
use Rattle.ktm_calls.specs.Moments.{Sight}
use Rattle.ktm_calls.specs.declared.durable_changes.FollowRefusal.{FollowRefusal}
use Rattle.ktm_calls.specs.declared.durable_changes.FollowRefusal.TheVariants.{Ahead, Discarded, NoMemory}
use Rattle.ktm_calls.specs.declared.store_snapshot.StoreSnapshot.{StoreSnapshot}
use Rattle.ktm_calls.specs.declared.store_stats.StoreStats.{StoreStats}

-- A snapshot is of this store after these changes, which are those since it was opened on trees at a number. Its calls name
-- so many hives.
pub record IsSnapshotOf (store : Store) (trees : List TreeMap) (number hives : ℕ) (list : List Element) (snapshot : StoreSnapshot) : Type 0 where
  pub id_is : snapshot.id ≡ store.id
  pub layout_is : snapshot.layout ≡ store.layout
  pub hives_are : snapshot.hives ≡ hives
  pub number_is : snapshot.number ≡ number + length list
  pub trees_are : snapshot.trees ≡ after_elements trees list
  pub limit : snapshot.number ≤ GREATEST_NUMBER

-- These are the changes after a number, each once, in their order, as one saw them whose list begins after `number`. The
-- last of them is durable then. There is none only if no change after the number is durable.
pub record AreDurableAfter (start : EngineView) (number after : ℕ) (seen : Sight) (changes : List Element) : Type 0 where
  pub since : number ≤ after
  pub there : after ≤ number + length seen.list
  pub are : changes ≡ take (length changes) (drop (after - number) seen.list)
  pub durable : 0 < length changes → after + length changes ≤ (end_of start seen.history).machine.durable
  pub all : length changes ≡ 0 → (end_of start seen.history).machine.durable ≤ after

-- How full a store is at the end of what one has seen, whose list begins after `number`: the numbers of the last change and
-- of the last durable one, and the used bytes of the journal's room.
pub record IsStatsOf (start : EngineView) (number : ℕ) (seen : Sight) (stats : StoreStats) : Type 0 where
  pub last : stats.number ≡ number + length seen.list
  pub durable_is : stats.durable ≡ (end_of start seen.history).machine.durable
  pub room_is : stats.room ≡ (end_of start seen.history).machine.room

-- Why the changes after a number aren't told: it is above the last one's, which is told; some of them aren't retained, and
-- it is told after which they are; or there is no memory.
abbrev pub MayNotFollow : EngineView → ℕ → ℕ → Sight → FollowRefusal → Type 0
MayNotFollow start number after seen (Ahead last) = (last ≡ number + length seen.list) × (last < after)
MayNotFollow start number after seen (Discarded from) =
    AreRetainedAfter (end_of start seen.history).machine (end_of start seen.history).base (end_of start seen.history).opened (end_of start seen.history).hives after from
MayNotFollow start number after seen NoMemory = ⊤
