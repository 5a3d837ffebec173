use Rattle.std.proofs.Common.{◌≡◌, ◌∙◌, ◌+◌, ℕ, List, [], ◌∷◌, ◌++◌, length, length-append, append_assoc, Some, None, MatchOption, ap, arith, subst, sym}
use Rattle.std.specs.List.{All}
use Rattle.std.proofs.lemmas.List.Elements.{All-head, All-nil, All-push, All-tail}
use Rattle.histories.specs.Points.{SeenHistory}
use Rattle.ktm_calls.specs.Moments.{Sight}
use Rattle.shared_store.specs.Accounts.{AskTogether, HasFinished}
use Rattle.shared_store.specs.declared.account.Account.{Account}
use Rattle.shared_store.specs.declared.seat.Seat.{Seat}
use Rattle.shared_store.proofs.Accounts.{one_more}
use Rattle.shared_store.proofs.seat.settle.Goals as goal

pub loop-seat-init : goal.loop-seat-init
loop-seat-init g c =
    let O = g.O.Origin in
    let S = g.O.Start in
    let parts = c.into_iter-seat-iterator.ensures.into_iter_gives.0 in
    record {
      parts = parts;
      done = subst (λ (l : List (Seat g.row.O.Denot g.row.T.Denot)). All (λ seat. HasFinished (g.C.Client.reports S.store) S.sole S.start O.trees O.number O.hives seat.asker seat.report) l) (sym parts) c.requires.done;
      left = omega arith;
      count = ap (λ (l : List (Account g.row.T.Denot)). length l) c.requires.empty;
      room = c.requires.room;
      book = subst (λ (l : List (Account g.row.T.Denot)). All (λ account. account.seen.book ≡ S.history) l) (sym c.requires.empty) (All-nil (λ (account : Account g.row.T.Denot). account.seen.book ≡ S.history));
      together = subst (λ (l : List (Account g.row.T.Denot)). AskTogether (g.C.Client.reports S.store) S.sole S.start O.trees O.number O.hives l c.args.permissions.now.asked) (sym c.requires.empty) c.requires.unused;
    }

pub into_account-account-requires-clause-asked : goal.into_account-account-requires-clause-asked
into_account-account-requires-clause-asked g c none =
    let O = g.O.Origin in
    let S = g.O.Start in
    let P : Seat g.row.O.Denot g.row.T.Denot → Type 0 = λ seat. HasFinished (g.C.Client.reports S.store) S.sole S.start O.trees O.number O.hives seat.asker seat.report in
    let now = All-head P c.in-Some.seat c.next.new.self.rest.items (subst (λ (l : List (Seat g.row.O.Denot g.row.T.Denot)). All P l) c.in-Some.ensures.steps.0 c.loop-seat.invariant.done) in
    absurd (cc (sym none ∙ now.2))

pub into_account-account-requires-clause-done : goal.into_account-account-requires-clause-done
into_account-account-requires-clause-done g c none =
    let O = g.O.Origin in
    let S = g.O.Start in
    let P : Seat g.row.O.Denot g.row.T.Denot → Type 0 = λ seat. HasFinished (g.C.Client.reports S.store) S.sole S.start O.trees O.number O.hives seat.asker seat.report in
    let now = All-head P c.in-Some.seat c.next.new.self.rest.items (subst (λ (l : List (Seat g.row.O.Denot g.row.T.Denot)). All P l) c.in-Some.ensures.steps.0 c.loop-seat.invariant.done) in
    absurd (cc (sym none ∙ now.3))

pub loop-seat-preserved : goal.loop-seat-preserved
loop-seat-preserved g c =
    let O = g.O.Origin in
    let S = g.O.Start in
    let P : Seat g.row.O.Denot g.row.T.Denot → Type 0 = λ seat. HasFinished (g.C.Client.reports S.store) S.sole S.start O.trees O.number O.hives seat.asker seat.report in
    let was = c.loop-seat.invariant in
    let seat = c.in-Some.seat in
    let rest = c.next.new.self.rest.items in
    let step = c.in-Some.ensures.steps.0 in
    let all : All P (seat ∷ rest) = subst (λ (l : List (Seat g.row.O.Denot g.row.T.Denot)). All P l) step was.done in
    let now = All-head P seat rest all in
    let is : Sight = now.0 in
    let account = c.into_account-account.result in
    let made = c.into_account-account.ensures in
    let items = c.in-Ok.ensures.items in
    let seen : (account.seen ≡ record { book = S.history; log = is.history }) × (c.into_account-account.new.permissions.asked ≡ c.loop-seat.permissions.asked + is.asked) =
    subst (λ o. MatchOption o ⊥ (λ (s : Sight). (account.seen ≡ record { book = S.history; log = s.history }) × (c.into_account-account.new.permissions.asked ≡ c.loop-seat.permissions.asked + s.asked))) now.2 made.seen in
    let same : now.1 ≡ account.report = cc (sym now.3 ∙ made.report) in
    let did = subst (λ (r : g.row.T.Denot). (g.C.Client.reports S.store) S.sole S.start O.trees O.number O.hives is r) same now.4 in
    let joined = one_more (g.C.Client.reports S.store) S.sole S.start O.trees O.number O.hives c.loop-seat.accounts.items c.loop-seat.permissions.asked account is was.together (ap (λ (s : SeenHistory). s.log) seen.0, did) in
    record {
      parts = append_assoc c.loop-seat.yielded (seat ∷ []) rest ∙ (ap (λ (l : List (Seat g.row.O.Denot g.row.T.Denot)). c.loop-seat.yielded ++ l) (sym step) ∙ was.parts);
      done = All-tail P seat rest all;
      left = omega (arith, made.left, was.left, length-append c.loop-seat.yielded (seat ∷ []));
      count = omega (arith, ap (λ (l : List (Account g.row.T.Denot)). length l) items, length-append c.loop-seat.accounts.items (account ∷ []), length-append c.loop-seat.yielded (seat ∷ []), was.count);
      room = omega (arith, was.room, c.in-Ok.ensures.capacity);
      book = subst (λ (l : List (Account g.row.T.Denot)). All (λ account. account.seen.book ≡ S.history) l) (sym items)
          (All-push (λ (account : Account g.row.T.Denot). account.seen.book ≡ S.history) c.loop-seat.accounts.items account was.book (ap (λ (s : SeenHistory). s.book) seen.0));
      together = subst (λ (l : List (Account g.row.T.Denot)). AskTogether (g.C.Client.reports S.store) S.sole S.start O.trees O.number O.hives l c.into_account-account.new.permissions.asked) (sym items)
          (subst (λ (n : ℕ). AskTogether (g.C.Client.reports S.store) S.sole S.start O.trees O.number O.hives (c.loop-seat.accounts.items ++ account ∷ []) n) (sym seen.1) joined);
    }
