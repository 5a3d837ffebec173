use Rattle.std.proofs.Common.{◌≡◌, ◌+◌, ◌≤◌, length, Some}
use Rattle.std.specs.List.{All}
use Rattle.ktm_calls.specs.Moments.{no_sight}
use Rattle.shared_store.proofs.seat.new_seats.Given as goal

abbrev pub invariant-loop : goal.invariant-loop
invariant-loop g l = record {
  count : length l.seats.items ≡ l.counter;
  within : l.counter ≤ l.threads;
  left : l.permissions.left + l.counter ≡ l.fn.permissions.left;
  unused : l.permissions.asked ≡ 0;
  first : All (λ seat. seat.asker ≡ Some no_sight) l.seats.items;
}
