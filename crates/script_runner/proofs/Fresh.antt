-- The machine of a store that is opened at number 0.
use Rattle.std.proofs.Common.{◌≡◌, ℕ, ◌+◌, List, [], ◌∷◌, length, map, refl, sym, ◌∙◌, ap, arith}
use Rattle.crash_model.specs.Changes as law
use Rattle.crash_model.specs.Recovery.{IsLastNumber}
use Rattle.change_codec.specs.ModelChanges.{TimedOp, timed_elements}
use Rattle.commit_journal.specs.Store.{room_of}
use Rattle.commit_journal.specs.Journals.{changes_of, choice_of, store_of}
use Rattle.engine_invariant.specs.Openings.{held_by}
use Rattle.engine_invariant.specs.Prefixes.{view_of}
use Rattle.recovery.specs.Invariant.{InvariantHolds}
use Rattle.recovery.specs.declared.found.RecoveredStore.{RecoveredStore}
use Rattle.store_model.specs.Machine.{Machine, bounds_for, opened_machine}

-- each change has a number from 1 on, so there is none if the last number is 0
none_numbered : (hives : ℕ) (numbers : ℕ → ℕ) (below : ℕ) (es : List (law.Element TimedOp)) (n : ℕ) → IsLastNumber hives numbers below es n → n ≡ 0 → es ≡ []
none_numbered hives numbers below [] n last zero = refl
none_numbered hives numbers below (e ∷ es) n last zero = absurd (omega (arith, sym last ∙ zero))

-- the journal of a store at number 0 decodes to no change
none_at_0 : (found : RecoveredStore) → InvariantHolds found → found.number ≡ 0 → (choice_of found.journal).now.elements ≡ []
none_at_0 found kept zero =
    let one = kept.recovers in
    ap (λ journal. journal.now.elements) one.journal_is
    ∙ none_numbered (length found.trees) (λ i. (held_by (map view_of found.hives.items) i).1) one.below (timed_elements (changes_of found.journal)) found.number one.recovers.last zero

-- so its machine has the room of an empty journal
pub is_at_0 : (machine : Machine) (found : RecoveredStore) → machine ≡ record (opened_machine (bounds_for (store_of found.journal).hives) found.trees found.number [] 0) { room = 65 + room_of (choice_of found.journal).now.elements } → InvariantHolds found → found.number ≡ 0 → machine ≡ opened_machine (bounds_for (store_of found.journal).hives) found.trees 0 [] 0
is_at_0 machine found is kept zero =
    is ∙ ap (λ es. record (opened_machine (bounds_for (store_of found.journal).hives) found.trees found.number [] 0) { room = 65 + room_of es }) (none_at_0 found kept zero)
    ∙ ap (λ n. record (opened_machine (bounds_for (store_of found.journal).hives) found.trees n [] 0) { room = 65 }) zero
