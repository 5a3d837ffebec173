-- What a hive says of its steps, and what it absorbs, is what the engine answers and keeps.
use Rattle.std.proofs.Common.{◌≡◌, ◌⊎◌, ◌↔◌, inl, inr, ℕ, ◌+◌, ◌-◌, ◌≤◌, max, false, List, ◌++◌, map, take, drop, sym, ◌∙◌, ap, subst, arith, Some, None, Result, Ok, Err, slice_get, refl}
use Rattle.std.specs.Prelude.{slice_set, OnOk, OnErr}
use Rattle.std.specs.List.{filter}
use Rattle.std.proofs.lemmas.List.{drop-take, map-append}
use Rattle.refusals.specs.declared.refusal.Refusal.{Refusal}
use Rattle.refusals.specs.declared.refusal.Refusal.TheVariants.{Faulted, NoMemory}
use Rattle.reg_tree.specs.Maps.{TreeMap}
use Rattle.reg_tree.specs.declared.element.Element.{Element}
use Rattle.crash_model.specs.Changes.{AreLegal, applied, ops_on}
use Rattle.crash_model.specs.Promises.{Choice, Content, HiveSays}
use Rattle.crash_model.specs.Life.{ops_in}
use Rattle.crash_model.proofs.Lists.{le_or_le}
use Rattle.crash_model.proofs.Replays.{ops_on-append}
use Rattle.crash_model.proofs.OnePrefix.{ops_split}
use Rattle.store_model.specs.Machine.{Machine}
use Rattle.store_model.specs.Steps.{Step}
use Rattle.store_model.specs.declared.event.Event.TheVariants as event
use Rattle.transactions.specs.Stores.{StoreView}
use Rattle.change_codec.specs.ModelChanges.{TimedOp, tree_rules, timed_element, timed_elements}
use Rattle.crash_model.specs.StepAnswers.{Says}
use Rattle.disk_model.specs.declared.progress.Progress.{Progress}
use Rattle.commit_journal.specs.Journals.{choice_of}
use Rattle.commit_journal.specs.declared.journal.Journal.{Journal}
use Rattle.hive_flush.specs.HiveStates.{IsBroken, HiveIsRepaired, ChangesAreLegalOn, tree_after_changes, file_choice, memory_of, hive_number}
use Rattle.hive_flush.specs.HiveStates as states
use Rattle.hive_flush.specs.declared.hive.HiveFile.{HiveFile}
use Rattle.engine_invariant.specs.States.{HiveView, IsConsistent, life_of}
use Rattle.engine_invariant.specs.Answers.{reply_to, after_flush, opened_above, accepted_above, absorbed}
use Rattle.engine_invariant.specs.Prefixes.{view_of}
use Rattle.commit_journal.specs.Numbered.{NumberedChange, numbered, changes_in}
use Rattle.recovery.specs.Retained.{above_number, is_lacked}
use Rattle.recovery.proofs.NumberedChanges.{above_above, lacked_are}
use Rattle.engine.specs.RetainedChanges.{RetainsWhatHivesLack}
use Rattle.engine.specs.Parts.{AreSound}
use Rattle.engine_invariant.proofs.HiveLists.{view_at}
use Rattle.engine.proofs.Sound.{hive_sound}

-- The laws that are used

abbrev pub Lacks : Type 0
Lacks = (machine : Machine) (base : ℕ) (opened : List Element) (journal : Choice (Content TimedOp)) (hives : List HiveView) (i : ℕ) (old : HiveView) → IsConsistent machine base opened journal hives → slice_get hives i ≡ Some old
    → (old.memory.1 ≤ machine.durable) × ChangesAreLegalOn i (opened_above base opened old.memory.1 ++ accepted_above machine old.memory.1) old.memory.0

abbrev pub Above : Type 0
Above = (machine : Machine) (base : ℕ) (opened : List Element) (journal : Choice (Content TimedOp)) (hives : List HiveView) (i number : ℕ) → IsConsistent machine base opened journal hives
    → ops_in (life_of machine base opened) i number machine.durable ≡ ops_on i (timed_elements (opened_above base opened number ++ accepted_above machine number))

abbrev pub Takes : Type 0
Takes = (machine : Machine) (base : ℕ) (opened : List Element) (journal : Choice (Content TimedOp)) (hives : List HiveView) (i : ℕ) (old : HiveView) → IsConsistent machine base opened journal hives → slice_get hives i ≡ Some old → old.files.next ≡ None
    → IsConsistent machine base opened journal (slice_set hives i (record { files = old.files; memory = absorbed machine base opened i old.memory }))

abbrev pub Flush : Type 0
Flush = (machine : Machine) (base : ℕ) (opened : List Element) (journal : Choice (Content TimedOp)) (hives : List HiveView) (i : ℕ) (old new : HiveView) (result : Result Progress Refusal) → IsConsistent machine base opened journal hives → machine.faulted ≡ false
    → slice_get hives i ≡ Some old → new.memory ≡ old.memory → ¬ (result ≡ Err Faulted) → Says (HiveSays old.memory) result old.files new.files
    → Step machine (event.FlusherStep i) (reply_to result) (after_flush machine result) × IsConsistent (after_flush machine result) base opened journal (slice_set hives i new)

-- the operations of two lists of changes
both_parts : (i : ℕ) (xs ys : List Element) → ops_on i (timed_elements (xs ++ ys)) ≡ ops_on i (timed_elements xs) ++ ops_on i (timed_elements ys)
both_parts i xs ys = ap (ops_on i) (map-append timed_element xs ys) ∙ ops_on-append i (timed_elements xs) (timed_elements ys)

module _ (s : StoreView) (base : ℕ) (opened : List Element) (journal : Journal) (hives : List HiveFile) (a : AreSound s base opened journal hives) (free : s.machine.faulted ≡ false) (k : ℕ) (old : HiveFile) (is : slice_get hives k ≡ Some old) where
  pub flush_goes : Flush → (new : HiveFile) (result : Result Progress Refusal) → memory_of new ≡ memory_of old → ((result ≡ Err Faulted) ↔ IsBroken old) → Says (HiveSays (memory_of old)) result (file_choice old) (file_choice new)
      → Step s.machine (event.FlusherStep k) (reply_to result) (after_flush s.machine result) × IsConsistent (after_flush s.machine result) base opened (choice_of journal) (slice_set (map view_of hives) k (view_of new))
  flush_goes law new result same broken says = law s.machine base opened (choice_of journal) (map view_of hives) k (view_of old) (view_of new) result a.kept free (view_at hives k old is) same (λ f. a.hives_work free k old is (broken.0 f)) says

  pub up : Lacks → (memory_of old).1 ≤ s.machine.durable
  up law = (law s.machine base opened (choice_of journal) (map view_of hives) k (view_of old) a.kept (view_at hives k old is)).0

  lacked : List Element
  lacked = opened_above base opened (memory_of old).1 ++ accepted_above s.machine (memory_of old).1

  -- what is handed to the hive has the operations that it lacks
  pub handed_ops : Above → (retained : List NumberedChange) (hand : RetainsWhatHivesLack s base opened retained hives) → (memory_of old).1 ≤ s.machine.durable → (handed accepted : List Element)
      → handed ≡ changes_in (above_number (memory_of old).1 retained) → accepted ≡ accepted_above s.machine (max hand.gone (memory_of old).1)
      → ops_on k (timed_elements (handed ++ accepted)) ≡ ops_on k (timed_elements (opened_above base opened (memory_of old).1 ++ accepted_above s.machine (memory_of old).1))
  handed_ops law retained hand low handed accepted are rest =
      ap (λ (l : List Element). ops_on k (timed_elements (l ++ accepted))) are ∙ both_parts k (changes_in (above_number (memory_of old).1 retained)) accepted
      ∙ ap (λ (os : List TimedOp). os ++ ops_on k (timed_elements accepted)) kept ∙ ap (λ (l : List Element). ops_on k (timed_elements (opened_above base opened from)) ++ ops_on k (timed_elements l)) rest
      ∙ sym (both_parts k (opened_above base opened from) (accepted_above s.machine from)) ∙ sym (law s.machine base opened (choice_of journal) (map view_of hives) k from a.kept)
      ∙ above (le_or_le hand.gone (memory_of old).1) ∙ law s.machine base opened (choice_of journal) (map view_of hives) k (memory_of old).1 a.kept
    where
      from : ℕ
      from = max hand.gone (memory_of old).1

      kept : ops_on k (timed_elements (changes_in (above_number (memory_of old).1 retained))) ≡ ops_on k (timed_elements (opened_above base opened from))
      kept = ap (λ l. ops_on k (timed_elements (changes_in (above_number (memory_of old).1 l)))) hand.opened_are ∙ ap (λ l. ops_on k (timed_elements (changes_in l))) (above_above (memory_of old).1 hand.gone (filter (is_lacked hand.own) (numbered base opened)))
          ∙ lacked_are hand.own k from base opened (omega (arith, hand.since k old is))

      above : (hand.gone ≤ (memory_of old).1) ⊎ ((memory_of old).1 ≤ hand.gone) → ops_in (life_of s.machine base opened) k from s.machine.durable ≡ ops_in (life_of s.machine base opened) k (memory_of old).1 s.machine.durable
      above (inl le) = let e : from ≡ (memory_of old).1 = omega (arith, le) in ap (λ n. ops_in (life_of s.machine base opened) k n s.machine.durable) e
      above (inr le) = (let e : from ≡ hand.gone = omega (arith, le) in ap (λ n. ops_in (life_of s.machine base opened) k n s.machine.durable) e)
          ∙ sym (ops_split (life_of s.machine base opened) k (memory_of old).1 hand.gone s.machine.durable le hand.high ∙ ap (λ (os : List TimedOp). os ++ ops_in (life_of s.machine base opened) k hand.gone s.machine.durable) (hand.lacked k old is))

  pub lawful : Lacks → (es : List Element) → ops_on k (timed_elements es) ≡ ops_on k (timed_elements (opened_above base opened (memory_of old).1 ++ accepted_above s.machine (memory_of old).1)) → ChangesAreLegalOn (hive_number old) es (memory_of old).0
  lawful law es e = subst (λ n. ChangesAreLegalOn n es (memory_of old).0) (sym (a.placed.place k old is)) (subst (λ (os : List TimedOp). AreLegal tree_rules os (memory_of old).0) (sym e)
      (law s.machine base opened (choice_of journal) (map view_of hives) k (view_of old) a.kept (view_at hives k old is)).1)

  -- what was absorbed, or nothing
  pub taken : Takes → Flush → (new : HiveFile) (es : List Element) (durable : ℕ) (result : Result (Unit {0}) Refusal) → file_choice new ≡ file_choice old → (file_choice old).next ≡ None → durable ≡ s.machine.durable
      → ops_on k (timed_elements es) ≡ ops_on k (timed_elements (opened_above base opened (memory_of old).1 ++ accepted_above s.machine (memory_of old).1)) → OnOk result (memory_of new ≡ (tree_after_changes (hive_number old) es (memory_of old).0, durable)) → OnErr result (new ≡ old)
      → hive_number new ≡ hive_number old → states.store_of new ≡ states.store_of old → HiveIsRepaired new → (IsBroken new → IsBroken old) → AreSound s base opened journal (slice_set hives k new)
  taken takes flush new es durable result files idle d e ok err place owner whole sound =
      hive_sound s s base opened journal hives k old new a is (kept result ok err) place owner whole (λ _. (free, λ bad. a.hives_work free k old is (sound bad))) refl
    where
      kept : (r : Result (Unit {0}) Refusal) → OnOk r (memory_of new ≡ (tree_after_changes (hive_number old) es (memory_of old).0, durable)) → OnErr r (new ≡ old) → IsConsistent s.machine base opened (choice_of journal) (slice_set (map view_of hives) k (view_of new))
      kept (Ok u) o f =
          let told : memory_of new ≡ absorbed s.machine base opened k (memory_of old) = o ∙ ap (λ n. (tree_after_changes n es (memory_of old).0, durable)) (a.placed.place k old is)
          ∙ ap (λ (os : List TimedOp). (applied tree_rules os (memory_of old).0, durable)) e ∙ ap (λ n. (tree_after_changes k (opened_above base opened (memory_of old).1 ++ accepted_above s.machine (memory_of old).1) (memory_of old).0, n)) d in
          let view : view_of new ≡ record { files = file_choice old; memory = absorbed s.machine base opened k (memory_of old) } = ap (λ (c : Choice (TreeMap × ℕ)). let v : HiveView = record { files = c; memory = memory_of new } in v) files
          ∙ ap (λ (x : TreeMap × ℕ). let v : HiveView = record { files = file_choice old; memory = x } in v) told in
          subst (λ (v : HiveView). IsConsistent s.machine base opened (choice_of journal) (slice_set (map view_of hives) k v)) (sym view)
          (takes s.machine base opened (choice_of journal) (map view_of hives) k (view_of old) a.kept (view_at hives k old is) idle)
      kept (Err w) o f =
          (flush s.machine base opened (choice_of journal) (map view_of hives) k (view_of old) (view_of new) (Err NoMemory) a.kept free (view_at hives k old is) (ap memory_of f) (λ x. absurd cc) (idle, files)).1

-- What was accepted since the opening and is handed to a hive

pub accepted_is : (m : Machine) (number from durable : ℕ) → from ≡ max number m.before → durable ≡ m.durable → number ≤ m.durable → m.before ≤ m.durable → take (durable - from) (drop (from - m.before) m.accepted) ≡ accepted_above m number
accepted_is m number from durable f d le since =
    let long : durable - from ≡ (m.durable - m.before) - (number - m.before) = omega (arith, f, d, le, since) in
    let skip : from - m.before ≡ number - m.before = omega (arith, f) in
    let whole : (number - m.before) + ((m.durable - m.before) - (number - m.before)) ≡ m.durable - m.before = omega (arith, le) in
    ap (λ n. take n (drop (from - m.before) m.accepted)) long ∙ ap (λ n. take ((m.durable - m.before) - (number - m.before)) (drop n m.accepted)) skip
    ∙ sym (drop-take (number - m.before) ((m.durable - m.before) - (number - m.before)) m.accepted) ∙ ap (λ n. drop (number - m.before) (take n m.accepted)) whole
