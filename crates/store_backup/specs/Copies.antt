-- The store that a snapshot is of.
use Rattle.recovery.specs.Created.{new_store}
use Rattle.commit_journal.specs.Store.{Store}
use Rattle.ktm_calls.specs.declared.store_snapshot.StoreSnapshot.{StoreSnapshot}

-- its id, its layout, and how many hives calls name
abbrev pub store_in : StoreSnapshot → Store
store_in snapshot = new_store snapshot.id snapshot.layout snapshot.hives
