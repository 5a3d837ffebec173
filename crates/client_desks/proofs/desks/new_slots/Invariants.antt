use Rattle.std.proofs.Common.{◌≡◌, length}
use Rattle.client_desks.specs.Slots.{AreInOrder}
use Rattle.client_desks.proofs.desks.new_slots.Given as goal

-- as many slots are there as places were counted
abbrev pub invariant-loop-number : goal.invariant-loop-number
invariant-loop-number l = record {
  count : length l.slots.items ≡ l.number;
  order : AreInOrder l.slots.items;
}
