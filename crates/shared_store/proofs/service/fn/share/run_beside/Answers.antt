use Rattle.std.proofs.Common.{◌≡◌, ◌∙◌, ◌++◌, ◌<◌, ℕ, List, arith, drop, length, subst, sym, take}
use Rattle.std.specs.List.{All}
use Rattle.std.proofs.Math.Seq.{take-append_seam}
use denote.Param.{param}
use denote.Param.Send.{param_sync}
use mir.Syntax.{named}
use Rattle.registry_send.proofs.RegistryCrossing.{registry_sync}
use Rattle.shared_store.specs.Accounts.{HasFinished}
use Rattle.shared_store.specs.declared.seat.Seat.{Seat}
use Rattle.shared_store.proofs.Captured.{three_sync}
use Rattle.shared_store.proofs.service.fn.share.run_beside.Goals as goal

pub for_each_mut-requires-sync-F : goal.for_each_mut-requires-sync-F
for_each_mut-requires-sync-F g c κs within =
    let r = registry_sync (param 1 g.row.E) (param 0 g.row.O) g.E.StoreEngine g.O.Start g.O.Origin g.O.Ledger c.requires.0 in
    let s = param_sync 2 _ (three_sync (named 0) _ _ _ _ _ _ c.requires.2 r c.requires.1) in record { shared = s.shared }

pub returns : goal.returns
returns g c =
    let was = c.captures.seats.items in
    let is = c.for_each_mut.new.s in
    let behind = drop (length is) was in
    let count : c.captures.seats.len ≡ length is = sym (c.for_each_mut.auto.s ∙ c.deref_mut.ensures.len) in
    let whole : take c.captures.seats.len (is ++ behind) ≡ is = subst (λ (n : ℕ). take n (is ++ behind) ≡ is) (sym count) (take-append_seam is behind) in
    let inside : (k : ℕ) → k < length is → k < length c.deref_mut.result.now = λ k less. omega (arith, less, c.for_each_mut.auto.s) in
    subst (λ (items : List (Seat _ _)). (length items ≡ length was) × All (λ seat. HasFinished (g.C.Client.reports g.O.Start.store) g.O.Start.sole g.O.Start.start g.O.Origin.trees g.O.Origin.number g.O.Origin.hives seat.asker seat.report) items) (sym whole) (
      c.for_each_mut.auto.s ∙ (c.deref_mut.ensures.len ∙ c.captures.seats.ok.0),
      λ k d less. let made = (c.for_each_mut.ensures k d (inside k less)).1 in subst (λ (seat : Seat _ _). HasFinished (g.C.Client.reports g.O.Start.store) g.O.Start.sole g.O.Start.start g.O.Origin.trees g.O.Origin.number g.O.Origin.hives seat.asker seat.report) made.left made.call,
    )
