-- How many events were asked for, after one more.
use Rattle.std.proofs.Common.{◌≡◌, ◌∙◌, ◌+◌, ℕ, Bool, true, false, List, [], ◌∷◌, ◌++◌, length, ap, sym}
use Rattle.histories.specs.Asked.{asked_in, is_asked}
use Rattle.histories.specs.Permissions.{Right}
use Rattle.histories.specs.Points.{HistoryEntry}
use Rattle.histories.proofs.Asked.{count_goes_on, counts_alike}

-- an event was added to a history, and counted if it was asked for
module _ (b : Bool) (was is : List HistoryEntry) (x : HistoryEntry) (old new : ℕ) (had has : Right) (tells : b ≡ is_asked x.event) (added : is ≡ was ++ x ∷ [])
    (up : b ≡ true → (new ≡ old + 1) × (has.asked ≡ had.asked + 1)) (same : b ≡ false → (new ≡ old) × (has ≡ had)) where
  pub count_kept : old ≡ length (asked_in was) → new ≡ length (asked_in is)
  count_kept at = count_goes_on was x old new b (sym tells) (λ t. (up t).0) (λ f. (same f).0) at ∙ ap (λ (w : List HistoryEntry). length (asked_in w)) (sym added)

  pub counts_together : has.asked + length (asked_in was) ≡ had.asked + length (asked_in is)
  counts_together =
      counts_alike was x had.asked has.asked b (sym tells) (λ t. (up t).1) (λ f. ap (λ (r : Right). r.asked) (same f).1) ∙ ap (λ (w : List HistoryEntry). had.asked + length (asked_in w)) (sym added)
