-- The steps of the book keep its rule.
use Rattle.std.proofs.Common.{◌≡◌, ℕ, ◌+◌, ◌<◌, ◌≤◌, ◌==◌, Bool, true, false, List, [], ◌∷◌, ◌++◌, length, refl, ap, sym, subst, arith, inl, length-append, None}
use Rattle.std.proofs.lemmas.List.{append-nil}
use Rattle.std.proofs.lemmas.Bool.Decides.{nat_tests}
use mathlib.Core.List.{IsPrefix}
use prog.Atomic.{either}
use Rattle.logbook.specs.Pages.{Cell, cell, keeps, no_nib, step, Moves, Goes}
use Rattle.histories.specs.Points.{HistoryEntry}
use Rattle.histories.specs.Book.{AddsEvent, CountsEvents}
use Rattle.published_trees.proofs.Prefixes.{prefix_length, prefix_whole}

abbrev pub shown : List HistoryEntry → List HistoryEntry
shown log = []

abbrev pub moved : List HistoryEntry → List HistoryEntry → ℕ → Type 0
moved xs ys n = Unit {0}

extends_goes : (log v : List HistoryEntry) (e : HistoryEntry) (old : ℕ) → old ≤ length v → IsPrefix v log
    → (b : Bool) → (length log == old) ≡ b
    → Goes CountsEvents shown moved 0 (v, (no_nib, None)) (λ n. either (n == old) (old + 1) n) (AddsEvent (step 0 old (old + 1) e) (v, (no_nib, None))) ((length log, true) ∷ (0, true) ∷ []) log
extends_goes log v e old long pre true is =
    let here : length log ≡ old = grind (arith, nat_tests) in
    let less = prefix_length v log pre in
    let same : v ≡ log = prefix_whole v log pre (omega arith) in
    let n : either (length log == old) (old + 1) (length log) ≡ length (log ++ e ∷ []) = rw is (omega (arith, length-append log (e ∷ []))) in (
      keeps,
      e ∷ [],
      None,
      tt,
      ap (λ (k : ℕ). (k, true) ∷ (0, true) ∷ []) n,
      inl (refl, refl),
      rw is (ap (λ w. w ++ e ∷ []) (sym same), ap length same),
    )
extends_goes log v e old long pre false is =
    let all : log ++ [] ≡ log = append-nil log in
    let n : either (length log == old) (old + 1) (length log) ≡ length (log ++ []) = rw is (ap length (sym all)) in (
      keeps,
      [],
      None,
      tt,
      ap (λ (k : ℕ). (k, true) ∷ (0, true) ∷ []) n,
      inl (refl, refl),
      rw is tt,
    )

-- whatever the book is, the exchange adds the event to the whole history, which was seen, or adds nothing
pub extends_moves : (v : List HistoryEntry) (e : HistoryEntry) (old : ℕ) → old ≤ length v
    → Moves CountsEvents shown moved 0 (v, (no_nib, None)) (λ n. either (n == old) (old + 1) n) (AddsEvent (step 0 old (old + 1) e) (v, (no_nib, None)))
extends_moves v e old long cs log kept pre away =
    let P : List Cell → Type 0 = λ c. (0 < length c) × ((cell c 0).1 ≡ true) × Goes CountsEvents shown moved 0 (v, (no_nib, None)) (λ n. either (n == old) (old + 1) n) (AddsEvent (step 0 old (old + 1) e) (v, (no_nib, None))) c log in
    subst P (sym kept) (omega arith, refl, extends_goes log v e old long pre (length log == old) refl)
