-- The operations of changes after a number, and what they lead to.
use Rattle.std.proofs.Common.{◌≡◌, ℕ, suc, ◌+◌, ◌-◌, ◌≤◌, ◌<◌, List, [], ◌∷◌, ◌++◌, length, drop, map, refl, sym, ◌∙◌, ap, arith}
use Rattle.std.proofs.lemmas.List.{map-append, drop-map}
use Rattle.reg_tree.specs.declared.element.Element.{Element}
use Rattle.crash_model.specs.Changes.{ops_on}
use Rattle.crash_model.specs.Changes as law
use Rattle.crash_model.proofs.Lists.{drop_nil}
use Rattle.crash_model.proofs.Replays.{ops_on-append}
use Rattle.change_codec.specs.ModelChanges.{TimedOp, timed_element, timed_elements}
use Rattle.commit_journal.specs.Numbered.{NumberedChange, changes_in}
use Rattle.store_changes.specs.Followed.{changes_after, changes_up_to, ops_of}
use Rattle.store_changes.proofs.Numbers.{after_parts, in_after}

ops_of-append : (hive : ℕ) (xs ys : List NumberedChange) → ops_of hive (xs ++ ys) ≡ ops_of hive xs ++ ops_of hive ys
ops_of-append hive xs ys =
    ap (λ (l : List Element). ops_on hive (timed_elements l)) (map-append (λ (c : NumberedChange). c.1) xs ys)
    ∙ ap (λ (l : List (law.Element TimedOp)). ops_on hive l) (map-append timed_element (changes_in xs) (changes_in ys))
    ∙ ops_on-append hive (timed_elements (changes_in xs)) (timed_elements (changes_in ys))

-- of changes after one number, those up to another come first
pub ops_in_parts : (hive last after base : ℕ) (changes : List Element) → after ≤ last → ops_of hive (changes_after after base changes) ≡ ops_of hive (changes_up_to last after base changes) ++ ops_of hive (changes_after last base changes)
ops_in_parts hive last after base changes le = ap (ops_of hive) (after_parts last after base changes le) ∙ ops_of-append hive (changes_up_to last after base changes) (changes_after last base changes)

-- those after a number are what a journal has above it, which begins after `below`
pub ops_above : (hive after base below : ℕ) (changes : List Element) → (0 < length changes → base ≡ below) → ops_of hive (changes_after after base changes) ≡ ops_on hive (drop (after - below) (timed_elements changes))
ops_above hive after base below [] first = ap (ops_on hive) (sym (drop_nil {A = law.Element TimedOp} (after - below)))
ops_above hive after base below (x ∷ xs) first =
    ap (λ (l : List Element). ops_on hive (timed_elements l)) (in_after after base (x ∷ xs))
    ∙ ap (ops_on hive) (sym (drop-map timed_element (after - base) (x ∷ xs)))
    ∙ ap (λ n. ops_on hive (drop (after - n) (timed_elements (x ∷ xs)))) (first (omega arith))
