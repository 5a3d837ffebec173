use Rattle.std.proofs.Common.{◌≡◌, ◌+◌, ◌++◌, ◌≤◌, length, vec_capacity}
use Rattle.std.specs.List.{All}
use Rattle.shared_store.specs.Accounts.{AskTogether, HasFinished}
use Rattle.shared_store.proofs.seat.settle.Given as goal

abbrev pub invariant-loop-seat : goal.invariant-loop-seat
invariant-loop-seat g l = record {
  parts : l.yielded ++ l.seat-iterator.rest.items ≡ l.fn.seats.items;
  done : All (λ seat. HasFinished (g.C.Client.reports g.O.Start.store) g.O.Start.sole g.O.Start.start g.O.Origin.trees g.O.Origin.number g.O.Origin.hives seat.asker seat.report) l.seat-iterator.rest.items;
  left : l.permissions.left ≡ l.fn.permissions.left + length l.yielded;
  count : length l.accounts.items ≡ length l.yielded;
  room : length l.fn.seats.items ≤ vec_capacity l.accounts;
  book : All (λ account. account.seen.book ≡ g.O.Start.history) l.accounts.items;
  together : AskTogether (g.C.Client.reports g.O.Start.store) g.O.Start.sole g.O.Start.start g.O.Origin.trees g.O.Origin.number g.O.Origin.hives l.accounts.items l.permissions.asked;
}
