use Rattle.std.proofs.Common.{◌≡◌, ◌+◌, ℕ, List, [], ◌∷◌, ◌++◌, length, length-append, Some, None, ap, arith, subst, sym}
use Rattle.std.specs.List.{All}
use Rattle.std.proofs.lemmas.Bool.Decides.{nat_tests}
use Rattle.std.proofs.lemmas.List.Elements.{All-push}
use Rattle.ktm_calls.specs.Moments.{no_sight}
use Rattle.shared_store.specs.declared.seat.Seat.{Seat}
use Rattle.shared_store.proofs.seat.new_seats.Goals as goal

pub loop-preserved : goal.loop-preserved
loop-preserved g c =
    let was = c.loop.invariant in
    let items = c.in_ok-push.ensures.items in
    let seat : Seat g.row.O.Denot g.row.T.Denot = record { asker = Some c.first-asker.result; report = None } in
    record {
      count = omega (arith, ap (λ (l : List (Seat g.row.O.Denot g.row.T.Denot)). length l) items, length-append c.loop.seats.items (seat ∷ []), was.count);
      within = grind (arith, nat_tests, c.loop-test.true);
      left = omega (arith, c.take.ensures.left, was.left);
      unused = c.take.ensures.unused;
      first = subst (λ (l : List (Seat g.row.O.Denot g.row.T.Denot)). All (λ seat. seat.asker ≡ Some no_sight) l) (sym items)
          (All-push (λ (seat : Seat g.row.O.Denot g.row.T.Denot). seat.asker ≡ Some no_sight) c.loop.seats.items seat was.first (ap Some c.first-asker.ensures));
    }
