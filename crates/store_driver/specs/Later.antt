-- How a store continues from event to event.
use Rattle.std.specs.Prelude.{◌≡◌, ◌⊎◌, ℕ, ◌<◌, ◌≤◌, true, List}
use Rattle.store_model.specs.Machine.{Machine}
use Rattle.store_model.specs.Steps.{Run}
use Rattle.store_model.specs.declared.event.Event.{Event}
use Rattle.store_model.specs.declared.event.Reply.{Reply}
use Rattle.engine.specs.Shown.{Shown}

-- a machine was reached from another by some events and their answers
abbrev pub ReachedByEvents : Machine → Machine → Type 0
ReachedByEvents old new = (events : List Event) × (replies : List Reply) × Run old events replies new

-- Over disks of these failures, a store is another one later. Its machine was reached from the one before, and its
-- files are those of the same store. It is faulted only if it was before, or the device has failed since. A disk that
-- is faithful then was so before.
pub record IsLater {D : Type 0} (is_faithful : D → Type 0) (failures : D → ℕ) (old new : Shown D) : Type 0 where
  pub comes : ReachedByEvents old.machine new.machine
  pub store : new.store ≡ old.store
  pub counts : failures old.disk ≤ failures new.disk
  pub faulted : new.machine.faulted ≡ true → (old.machine.faulted ≡ true) ⊎ (failures old.disk < failures new.disk)
  pub faithful : is_faithful new.disk → is_faithful old.disk
