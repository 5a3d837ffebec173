-- A whole batch in eight steps.
use Rattle.std.proofs.Common.{◌≡◌, ◌⊎◌, ⊎_elim, ℕ, zero, suc, ◌+◌, ◌-◌, ◌<◌, ◌≤◌, List, length, take, ◌++◌, refl, sym, ◌∙◌, ap, arith, Some, None, length-append, length-take}
use Rattle.std.proofs.lemmas.Option.{same_Some, none-some}
use Rattle.crash_model.specs.Changes as law
use Rattle.crash_model.specs.Promises.{Choice, Content, settled, floor, BeginsBatch, IsUnderway, JournalSays, Answer.More, Answer.Done}
use Rattle.change_codec.specs.ModelChanges.{TimedOp}
use Rattle.commit_journal.specs.Journals.{view_in_phase, choice_of, steps_in, steps_left, BatchIsDurable, IsStep, DurableGrows}
use Rattle.commit_journal.specs.declared.extent.Extent.{Extent}
use Rattle.commit_journal.specs.declared.journal.Phase.{Phase}
use Rattle.commit_journal.specs.declared.journal.Phase.TheVariants.{AtRest, BodyWritten, BodySynced, GateWritten, TrimWritten, Broken}
use Rattle.commit_journal.specs.declared.journal.Journal.{Journal}
use Rattle.commit_journal.proofs.Progress.{few_steps}

-- nothing is under way exactly if four steps are left
none_at_four : (now : Extent) (p : Phase) → steps_in (view_in_phase now p).phase ≡ 4 → (view_in_phase now p).choice.next ≡ None
none_at_four now AtRest four = refl
none_at_four now (BodyWritten batch) four = absurd (omega (arith, four))
none_at_four now (BodySynced batch) four = absurd (omega (arith, four))
none_at_four now (GateWritten batch) four = absurd (omega (arith, four))
none_at_four now TrimWritten four = absurd (omega (arith, four))
none_at_four now (Broken ahead) four = absurd (omega (arith, four))

four_at_none : (now : Extent) (p : Phase) → (view_in_phase now p).choice.next ≡ None → steps_in (view_in_phase now p).phase ≡ 4
four_at_none now AtRest none = refl
four_at_none now (BodyWritten batch) none = absurd (none-some _ (sym none))
four_at_none now (BodySynced batch) none = absurd (none-some _ (sym none))
four_at_none now (GateWritten batch) none = absurd (none-some _ (sym none))
four_at_none now TrimWritten none = absurd (none-some _ (sym none))
four_at_none now (Broken ahead) none = absurd (none-some _ (sym none))

-- n elements are durable, and more are under way
record Grows (n : ℕ) (c : Choice (Content TimedOp)) : Type 0 where
  now : length c.now.elements ≡ n
  then : Content TimedOp
  next : c.next ≡ Some then
  more : n < length then.elements

settled_is_quiet : (j : Journal) (x : Content TimedOp) → choice_of j ≡ settled x → steps_left j ≡ 4
settled_is_quiet j x e = four_at_none j.on_device j.phase (ap (λ (c : Choice (Content TimedOp)). c.next) e)

-- no step that isn't refused follows one with which none was left
dead : (old new : Journal) → IsStep old new → steps_left old ≡ 0 → ⊥
dead old new step none = ⊎_elim (λ (falls : steps_left new + 1 ≡ steps_left old). absurd (omega (arith, falls, none))) (λ (on_device : BatchIsDurable old new). absurd (omega (arith, none, on_device.0))) step.nearer

falls : (old new : Journal) (t : ℕ) → IsStep old new → steps_left old ≡ t + 2 → steps_left new ≡ t + 1
falls old new t step left = ⊎_elim (λ (e : steps_left new + 1 ≡ steps_left old). omega (arith, e, left)) (λ (on_device : BatchIsDurable old new). absurd (omega (arith, left, on_device.0))) step.nearer

-- the last step of a batch
last : (old new newer : Journal) → IsStep old new → IsStep new newer → steps_left old ≡ 1 → BatchIsDurable old new
last old new newer step next one = ⊎_elim (λ (e : steps_left new + 1 ≡ steps_left old). absurd (dead new newer next (omega (arith, e, one)))) (λ (on_device : BatchIsDurable old new). on_device) step.nearer

quiet_after : (old new newer : Journal) → IsStep old new → IsStep new newer → steps_left old ≡ 1 → steps_left new ≡ 4
quiet_after old new newer step next one = let on_device = last old new newer step next one in settled_is_quiet new on_device.1.0 on_device.1.2

-- a step begins a batch if nothing is under way
begun : (first : ℕ) (handed : List (law.Element TimedOp)) (old new : Choice (Content TimedOp)) → BeginsBatch first handed old new → Grows (length old.now.elements) new
begun first handed old new (m, some, few, none, is) = record {
  now = ap (λ (c : Choice (Content TimedOp)). length c.now.elements) is;
  then = record { below = floor (first - 1) old.now; elements = old.now.elements ++ take m handed };
  next = ap (λ (c : Choice (Content TimedOp)). c.next) is;
  more = omega (arith, some, few, length-append old.now.elements (take m handed), length-take m handed);
}

begins : (old new : Choice (Content TimedOp)) (first : ℕ) (handed : List (law.Element TimedOp)) → old.next ≡ None → JournalSays first handed More old new ⊎ JournalSays first handed Done old new
    → Grows (length old.now.elements) new
begins old new first handed none says = ⊎_elim
    (λ more. ⊎_elim (λ (b : BeginsBatch first handed old new). begun first handed old new b) (λ (u : IsUnderway old new). absurd (none-some u.0.0 (sym none ∙ u.0.1))) more)
    (λ done. absurd (none-some done.0 (sym none ∙ done.1)))
    says

-- a step in a batch that isn't its last
goes : (old new : Choice (Content TimedOp)) (n first : ℕ) (handed : List (law.Element TimedOp)) → Grows n old → ¬ (new.next ≡ None) → JournalSays first handed More old new ⊎ JournalSays first handed Done old new
    → Grows n new
goes old new n first handed grows halfway says = ⊎_elim
    (λ more. ⊎_elim (λ (b : BeginsBatch first handed old new). absurd (none-some grows.then (sym b.3 ∙ grows.next))) (λ (u : IsUnderway old new). record {
      now = ap (λ (c : Choice (Content TimedOp)). length c.now.elements) u.1 ∙ grows.now;
      then = grows.then;
      next = ap (λ (c : Choice (Content TimedOp)). c.next) u.1 ∙ grows.next;
      more = grows.more;
    }) more)
    (λ done. absurd (halfway (ap (λ (c : Choice (Content TimedOp)). c.next) done.2)))
    says

continues : (old new : Journal) (n t : ℕ) → IsStep old new → Grows n (choice_of old) → steps_left old ≡ t + 2 → t + 1 < 4 → Grows n (choice_of new)
continues old new n t step grows left few =
    let fallen = falls old new t step left in
    goes (choice_of old) (choice_of new) n step.first step.handed grows (λ none. absurd (omega (arith, fallen, few, four_at_none new.on_device new.phase none))) step.says

prefix_longer : (old new : Choice (Content TimedOp)) (n : ℕ) (x : Content TimedOp) → Grows n old → old.next ≡ Some x → new ≡ settled x → length old.now.elements < length new.now.elements
prefix_longer old new n x grows next is =
    let same : grows.then ≡ x = same_Some grows.then x (sym grows.next ∙ next) in
    omega (arith, grows.now, grows.more, ap (λ (s : Content TimedOp). length s.elements) same, ap (λ (c : Choice (Content TimedOp)). length c.now.elements) is)

module _ (journals : ℕ → Journal) (steps : (k : ℕ) → k < 8 → IsStep (journals k) (journals (k + 1))) where
  abbrev Found : Type 0
  Found = (k : ℕ) × (k < 8) × DurableGrows (journals k) (journals (k + 1))

  -- a batch that begins at a step is done with the fourth
  batch : (m : ℕ) → m + 4 < 8 → steps_left (journals m) ≡ 4 → Found
  batch m room quiet =
      let j = journals m in
      let a = steps m (omega (arith, room)) in
      let b = steps (m + 1) (omega (arith, room)) in
      let c = steps (m + 1 + 1) (omega (arith, room)) in
      let d = steps (m + 1 + 1 + 1) (omega (arith, room)) in
      let e = steps (m + 1 + 1 + 1 + 1) (omega (arith, room)) in
      let n = length (choice_of j).now.elements in
      let one = begins (choice_of j) (choice_of (journals (m + 1))) a.first a.handed (none_at_four j.on_device j.phase quiet) a.says in
      let three = falls j (journals (m + 1)) 2 a quiet in
      let two = continues (journals (m + 1)) (journals (m + 1 + 1)) n 1 b one three (omega arith) in
      let left_two = falls (journals (m + 1)) (journals (m + 1 + 1)) 1 b three in
      let grows = continues (journals (m + 1 + 1)) (journals (m + 1 + 1 + 1)) n 0 c two left_two (omega arith) in
      let left_one = falls (journals (m + 1 + 1)) (journals (m + 1 + 1 + 1)) 0 c left_two in
      let on_device = last (journals (m + 1 + 1 + 1)) (journals (m + 1 + 1 + 1 + 1)) (journals (m + 1 + 1 + 1 + 1 + 1)) d e left_one in
      (m + 1 + 1 + 1, omega (arith, room), prefix_longer (choice_of (journals (m + 1 + 1 + 1))) (choice_of (journals (m + 1 + 1 + 1 + 1))) n on_device.1.0 grows on_device.1.1 on_device.1.2)

  from : (n : ℕ) → steps_left (journals 0) ≡ n → n ≤ 5 → Found
  from zero left few = absurd (dead (journals 0) (journals 1) (steps 0 (omega arith)) left)
  from (suc zero) left few = batch 1 (omega arith) (quiet_after (journals 0) (journals 1) (journals 2) (steps 0 (omega arith)) (steps 1 (omega arith)) left)
  from (suc (suc zero)) left few = let one = falls (journals 0) (journals 1) 0 (steps 0 (omega arith)) left in
      batch 2 (omega arith) (quiet_after (journals 1) (journals 2) (journals 3) (steps 1 (omega arith)) (steps 2 (omega arith)) one)
  from (suc (suc (suc zero))) left few = let two = falls (journals 0) (journals 1) 1 (steps 0 (omega arith)) left in
      let one = falls (journals 1) (journals 2) 0 (steps 1 (omega arith)) two in
      batch 3 (omega arith) (quiet_after (journals 2) (journals 3) (journals 4) (steps 2 (omega arith)) (steps 3 (omega arith)) one)
  from (suc (suc (suc (suc zero)))) left few = batch 0 (omega arith) left
  from (suc (suc (suc (suc (suc zero))))) left few = batch 1 (omega arith) (falls (journals 0) (journals 1) 3 (steps 0 (omega arith)) left)
  from (suc (suc (suc (suc (suc (suc n)))))) left few = absurd (omega (arith, few))

  pub with_elements : Found
  with_elements = from (steps_left (journals 0)) refl (few_steps _)
