-- The places of all clients.
use Rattle.std.specs.Prelude.{◌≡◌, ℕ, ◌<◌, List, length}
use Rattle.std.specs.List.{slice_index_or}
use Rattle.client_desks.specs.declared.slot.Slot.{Slot}

-- each slot stands at the number of its place
pub record AreInOrder (slots : List Slot) : Type 0 where
  pub place : (i : ℕ) (slot : Slot) → i < length slots → slice_index_or slots i slot ≡ slot → slot.place ≡ i
