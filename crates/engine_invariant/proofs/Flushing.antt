-- What a hive absorbs and what its flush steps say keep the invariant.
use Rattle.std.proofs.Common.{◌≡◌, ◌⊎◌, inl, inr, ℕ, zero, suc, ◌+◌, ◌-◌, ◌<◌, ◌≤◌, false, cond, Result, Ok, Err, List, [], ◌∷◌, ◌++◌, length, get_or, take, drop, refl, sym, ◌∙◌, ap, subst, arith, Option, Some, None, slice_get}
use Rattle.std.specs.Prelude.{slice_set, is_some}
use Rattle.std.proofs.lemmas.Option.{same_Some, slice_get_within, slice_get-get_or}
use Rattle.std.proofs.lemmas.List.{length-map, drop-map, take-map, map-append, length-set}
use Rattle.std.proofs.lemmas.Bool.{cases_eq}
use Rattle.refusals.specs.declared.limits.TheConstants.{GREATEST_NUMBER}
use Rattle.refusals.specs.declared.refusal.Refusal.{Refusal}
use Rattle.refusals.specs.declared.refusal.Refusal.TheVariants as refusal
use Rattle.reg_tree.specs.Maps.{TreeMap}
use Rattle.reg_tree.specs.Fresh.{fresh_tree}
use Rattle.reg_tree.specs.declared.element.Element.{Element}
use Rattle.crash_model.specs.Changes as law
use Rattle.crash_model.specs.Changes.{AreLegal, ops_on, replay, applied}
use Rattle.crash_model.specs.Promises.{Choice, Content, Answer, Answer.Idle, Answer.More, Answer.Done, Answer.NoMemory, Answer.DiskFault, Answer.Faulted, HiveSays}
use Rattle.crash_model.specs.Life.{ops_in}
use Rattle.crash_model.specs.Invariant as law_kept
use Rattle.crash_model.specs.Steps.{OthersStay}
use Rattle.crash_model.specs.Calls.{MemoryFits}
use Rattle.crash_model.specs.Memory.{with_memory, IsOfMemory}
use Rattle.crash_model.proofs.Lists.{drop_nil}
use Rattle.crash_model.proofs.ClausesSuffice.{may_absorb}
use Rattle.crash_model.proofs.MemoryCounts.{memory_absorbs, memory_flushes}
use Rattle.store_model.specs.Machine.{Machine, fault, first_of, refused_if}
use Rattle.store_model.specs.Steps.{Step, no_hive}
use Rattle.store_model.specs.declared.event.Event.TheVariants as event
use Rattle.store_model.specs.declared.event.Reply.TheVariants as reply
use Rattle.change_codec.specs.ModelChanges.{TimedOp, tree_rules, timed_element, timed_elements}
use Rattle.crash_model.specs.StepAnswers.{Says}
use Rattle.disk_model.specs.declared.progress.Progress.{Progress}
use Rattle.disk_model.specs.declared.progress.Progress.TheVariants as progress
use Rattle.engine_invariant.specs.Rules.{rules}
use Rattle.engine_invariant.specs.States.{HiveView, counted, files_in, life_of, state_of, IsConsistent}
use Rattle.engine_invariant.specs.Answers.{reply_to, failed, after_flush, opened_above, accepted_above, absorbed}
use Rattle.engine_invariant.proofs.HiveLists.{get_same, get_other}
use Rattle.engine_invariant.proofs.Rules.{same_replay, same_legal}
use Rattle.engine_invariant.proofs.Bridge.{number_is, last_is}
use Rattle.engine_invariant.proofs.Accepting.{Keeps}

-- One hive of a list with another view

others_stay : (most : ℕ) (hs : List HiveView) (i : ℕ) (v : HiveView) → OthersStay most i (files_in hs) (files_in (slice_set hs i v))
others_stay most hs i v = λ j lt. elim (cases_eq j i) as (λ z. (j ≡ i) ⊎ (files_in (slice_set hs i v) j ≡ files_in hs j)) [ inl e ↦ inl e | inr ne ↦ inr (ap counted (get_other hs i j v ne)) ]

-- What a hive lacks, in the engine's two lists

drop_both : {A : Type 0} (xs ys : List A) (n : ℕ) → drop n (xs ++ ys) ≡ drop n xs ++ drop (n - length xs) ys
drop_both {A = A} [] ys n = let e : n ≡ n - 0 = omega arith in ap (λ k. drop k ys) e ∙ ap (λ (l : List A). l ++ drop (n - 0) ys) (sym (drop_nil {A = A} n))
drop_both (x ∷ xs) ys zero = let e : 0 ≡ 0 - length (x ∷ xs) = omega arith in ap (λ k. x ∷ (xs ++ drop k ys)) e
drop_both (x ∷ xs) ys (suc n) = drop_both xs ys n ∙ (let e : n - length xs ≡ suc n - length (x ∷ xs) = omega arith in ap (λ k. drop n xs ++ drop k ys) e)

take_both : {A : Type 0} (xs ys : List A) (n : ℕ) → length xs ≤ n → take n (xs ++ ys) ≡ xs ++ take (n - length xs) ys
take_both [] ys n le = let e : n ≡ n - 0 = omega arith in ap (λ k. take k ys) e
take_both (x ∷ xs) ys zero le = absurd (omega (arith, le))
take_both (x ∷ xs) ys (suc n) le = ap (λ l. x ∷ l) (take_both xs ys n (omega (arith, le))) ∙ (let e : n - length xs ≡ suc n - length (x ∷ xs) = omega arith in ap (λ k. x ∷ (xs ++ take k ys)) e)

pub lacked_is : (m : Machine) (base : ℕ) (opened : List Element) → m.before ≡ base + length opened → m.before ≤ m.durable → (k number : ℕ)
    → ops_in (life_of m base opened) k number m.durable ≡ ops_on k (timed_elements (drop (number - base) opened ++ drop (number - m.before) (take (m.durable - m.before) m.accepted)))
lacked_is m base opened begun le k number = ap (ops_on k) (
    ap (drop (number - base)) (take_both (timed_elements opened) (timed_elements m.accepted) (m.durable - base) (omega (arith, begun, le, long)))
    ∙ drop_both (timed_elements opened) (take ((m.durable - base) - length (timed_elements opened)) (timed_elements m.accepted)) (number - base)
    ∙ ap (λ a. drop (number - base) (timed_elements opened) ++ drop a (take ((m.durable - base) - length (timed_elements opened)) (timed_elements m.accepted))) low
    ∙ ap (λ a. drop (number - base) (timed_elements opened) ++ drop (number - m.before) (take a (timed_elements m.accepted))) high
    ∙ ap (λ (l : List (law.Element TimedOp)). l ++ drop (number - m.before) (take (m.durable - m.before) (timed_elements m.accepted))) (drop-map timed_element (number - base) opened)
    ∙ ap (λ (l : List (law.Element TimedOp)). timed_elements (drop (number - base) opened) ++ drop (number - m.before) l) (take-map timed_element (m.durable - m.before) m.accepted)
    ∙ ap (λ (l : List (law.Element TimedOp)). timed_elements (drop (number - base) opened) ++ l) (drop-map timed_element (number - m.before) (take (m.durable - m.before) m.accepted))
    ∙ sym (map-append timed_element (drop (number - base) opened) (drop (number - m.before) (take (m.durable - m.before) m.accepted))))
  where
    long : length (timed_elements opened) ≡ length opened
    long = length-map opened timed_element

    low : (number - base) - length (timed_elements opened) ≡ number - m.before
    low = omega (arith, begun, long)

    high : (m.durable - base) - length (timed_elements opened) ≡ m.durable - m.before
    high = omega (arith, begun, long)

own_after : {T : Type 0} (memory : T × ℕ) (a : Answer) (old new : Choice (T × ℕ)) → IsOfMemory old memory → HiveSays memory a old new → IsOfMemory new memory
own_after memory Idle old new own says = absurd says
own_after memory More old new own (inl b) = inr (ap (λ (c : Choice _). c.next) b.1)
own_after memory More old new own (inr b) = subst (λ c. IsOfMemory c memory) (sym b.1) own
own_after memory Done old new own says = inl (ap (λ (c : Choice _). c.next) says.2)
own_after memory NoMemory old new own says = subst (λ c. IsOfMemory c memory) (sym says.1) own
own_after memory DiskFault old new own (inl b) = inr (ap (λ (c : Choice _). c.next) b.1)
own_after memory DiskFault old new own (inr b) = subst (λ c. IsOfMemory c memory) (sym b) own
own_after memory Faulted old new own says = subst (λ c. IsOfMemory c memory) (sym says) own

module _ (m : Machine) (base : ℕ) (opened : List Element) (journal : Choice (Content TimedOp)) (hives : List HiveView) (i : IsConsistent m base opened journal hives)
    (k : ℕ) (old : HiveView) (is : slice_get hives k ≡ Some old) where
  there : k < length m.opened
  there = omega (arith, slice_get_within hives k old is, i.all)

  counted_is : files_in hives k ≡ with_memory old.files old.memory
  counted_is = ap counted is

  fits_memory : MemoryFits (rules m.bounds.hives) (state_of m base opened journal hives) k old.memory
  fits_memory = record {
    fits = i.law.hive_fits k there old.memory (inr (ap (λ (c : Choice (TreeMap × ℕ)). c.next) counted_is));
    higher = i.law.rises k there old.memory (inr (ap (λ (c : Choice (TreeMap × ℕ)). c.next) counted_is));
  }

  pub up : old.memory.1 ≤ m.durable
  up = fits_memory.fits.not_above

  pub since : m.before ≤ m.durable
  since = omega (arith, i.law.fits.from_opened, number_is m base opened i.begun)

  pub within : m.durable - m.before ≤ length m.accepted
  within = omega (arith, i.law.fits.to_last, last_is m base opened i.begun)

  lacks : List Element
  lacks = drop (old.memory.1 - base) opened ++ drop (old.memory.1 - m.before) (take (m.durable - m.before) m.accepted)

  pub may_take : (es : List Element) → es ≡ drop (old.memory.1 - base) opened ++ drop (old.memory.1 - m.before) (take (m.durable - m.before) m.accepted) → AreLegal tree_rules (ops_on k (timed_elements es)) old.memory.0
  may_take es are = same_legal m.bounds.hives (ops_on k (timed_elements es)) old.memory.0 (subst (λ (os : List TimedOp). AreLegal (rules m.bounds.hives) os old.memory.0) (lacked_is m base opened i.begun since k old.memory.1 ∙ ap (λ (l : List Element). ops_on k (timed_elements l)) (sym are))
      (may_absorb (rules m.bounds.hives) GREATEST_NUMBER (length m.opened) (state_of m base opened journal hives) k old.memory m.durable fits_memory up (omega arith)))

  with_hive : (v : HiveView) → IsOfMemory v.files v.memory → law_kept.InvariantHolds (rules m.bounds.hives) GREATEST_NUMBER (length m.opened) (state_of m base opened journal (slice_set hives k v)) → IsConsistent m base opened journal (slice_set hives k v)
  with_hive v own l = record {
    kept = i.kept;
    law = l;
    begun = i.begun;
    all = length-set hives k v ∙ i.all;
    one_more = i.one_more;
    fits = i.fits;
    onward = i.onward;
    room = i.room;
    own = λ j h at. elim (cases_eq j k) as (λ z. IsOfMemory h.files h.memory) [
      | inl e ↦ subst (λ (x : HiveView). IsOfMemory x.files x.memory) (same_Some v h (sym (get_same hives k v (slice_get_within hives k old is)) ∙ subst (λ n. slice_get (slice_set hives k v) n ≡ Some h) e at)) own
      | inr ne ↦ i.own j h (sym (get_other hives k j v ne) ∙ at)
    ];
  }

  new_is : (v : HiveView) → files_in (slice_set hives k v) k ≡ with_memory v.files v.memory
  new_is v = ap counted (get_same hives k v (slice_get_within hives k old is))

  pub takes : (es : List Element) (v : HiveView) → es ≡ drop (old.memory.1 - base) opened ++ drop (old.memory.1 - m.before) (take (m.durable - m.before) m.accepted) → old.files.next ≡ None
      → v ≡ record { files = old.files; memory = (applied tree_rules (ops_on k (timed_elements es)) old.memory.0, m.durable) } → IsConsistent m base opened journal (slice_set hives k v)
  takes es v are idle v_is = with_hive v (inl (ap (λ (x : HiveView). x.files.next) v_is ∙ idle))
      (memory_absorbs (rules m.bounds.hives) GREATEST_NUMBER (length m.opened) (state_of m base opened journal hives) (state_of m base opened journal (slice_set hives k v)) i.law (record {
        hive = k;
        file = old.files;
        memory = old.memory;
        upto = m.durable;
        tree = applied tree_rules (ops_on k (timed_elements es)) old.memory.0;
        before = counted_is;
        low = up;
        high = omega arith;
        replayed = subst (λ (os : List TimedOp). replay (rules m.bounds.hives) os old.memory.0 ≡ Some (applied tree_rules (ops_on k (timed_elements es)) old.memory.0)) (sym (lacked_is m base opened i.begun since k old.memory.1 ∙ ap (λ (l : List Element). ops_on k (timed_elements l)) (sym are))) (same_replay m.bounds.hives (ops_on k (timed_elements es)) old.memory.0 ∙ may_take es are);
        after = new_is v ∙ ap (λ (x : HiveView). with_memory x.files x.memory) v_is;
        life = refl;
        durable = refl;
        journal = refl;
        others = others_stay (length m.opened) hives k v;
      }))

  pub steps : (a : Answer) (v : HiveView) → v.memory ≡ old.memory → HiveSays old.memory a old.files v.files → IsConsistent m base opened journal (slice_set hives k v)
  steps a v same says = with_hive v (subst (IsOfMemory v.files) (sym same) (own_after old.memory a old.files v.files (i.own k old is) says))
      (memory_flushes (rules m.bounds.hives) GREATEST_NUMBER (length m.opened) a (state_of m base opened journal hives) (state_of m base opened journal (slice_set hives k v)) i.law (record {
        hive = k;
        memory = old.memory;
        file = old.files;
        written = v.files;
        own = i.own k old is;
        says = says;
        before = counted_is;
        after = new_is v ∙ ap (with_memory v.files) same;
        life = refl;
        durable = refl;
        journal = refl;
        others = others_stay (length m.opened) hives k v;
      }))

pub takes_in : (m : Machine) (base : ℕ) (opened : List Element) (journal : Choice (Content TimedOp)) (hives : List HiveView) (i : IsConsistent m base opened journal hives) (k : ℕ) (old : HiveView) (is : slice_get hives k ≡ Some old)
    → old.files.next ≡ None → IsConsistent m base opened journal (slice_set hives k (record { files = old.files; memory = absorbed m base opened k old.memory }))
takes_in m base opened journal hives i k old is idle =
    takes m base opened journal hives i k old is (opened_above base opened old.memory.1 ++ accepted_above m old.memory.1) (record { files = old.files; memory = absorbed m base opened k old.memory }) refl idle refl

module _ (keeps : Keeps) (m : Machine) (base : ℕ) (opened : List Element) (journal : Choice (Content TimedOp)) (hives : List HiveView) (i : IsConsistent m base opened journal hives) (free : m.faulted ≡ false)
    (k : ℕ) (old : HiveView) (is : slice_get hives k ≡ Some old) (v : HiveView) (same : v.memory ≡ old.memory) where
  none_wrong : fault m ≡ None
  none_wrong = ap (λ b. refused_if b refusal.Faulted) free

  is_there : slice_get m.opened k ≡ Some (get_or m.opened k fresh_tree)
  is_there = slice_get-get_or m.opened k fresh_tree (there m base opened journal hives i k old is)

  nothing_wrong : first_of (fault m) (no_hive m k) ≡ None
  nothing_wrong = ap (λ (f : Option Refusal). first_of f (no_hive m k)) none_wrong ∙ ap (λ (o : Option TreeMap). cond (is_some o) None (Some refusal.NotFound)) is_there

  Goes : Result Progress Refusal → Type 0
  Goes result = Step m (event.FlusherStep k) (reply_to result) (after_flush m result) × IsConsistent (after_flush m result) base opened journal (slice_set hives k v)

  goes : (come : Progress) (a : Answer) → HiveSays old.memory a old.files v.files → Goes (Ok come)
  unfolding Goes
  goes come a says = (record { free = none_wrong; there = ap is_some is_there; next = refl }, steps m base opened journal hives i k old is a v same says)

  broke : HiveSays old.memory DiskFault old.files v.files → Goes (Err refusal.DiskFault)
  unfolding Goes
  broke says =
      let c = steps m base opened journal hives i k old is DiskFault v same says in
      let step : Step m (event.FlusherStep k) (reply.Refused refusal.DiskFault) (failed m) = inr (nothing_wrong, record { free = none_wrong; told = refl; failed = omega arith; next = refl }) in (
        step,
        record {
          kept = keeps m (failed m) (event.FlusherStep k) (reply.Refused refusal.DiskFault) i.kept step;
          fits = i.fits;
          law = c.law;
          begun = c.begun;
          all = c.all;
          one_more = c.one_more;
          own = c.own;
          onward = c.onward;
          room = c.room;
        },
      )

  hungry : HiveSays old.memory NoMemory old.files v.files → Goes (Err refusal.NoMemory)
  unfolding Goes
  hungry says = (inl (inr refl, refl), steps m base opened journal hives i k old is NoMemory v same says)

  pub flush_goes : (result : Result Progress Refusal) → Says (HiveSays old.memory) result old.files v.files → (result ≡ Err refusal.Faulted → ⊥)
      → Step m (event.FlusherStep k) (reply_to result) (after_flush m result) × IsConsistent (after_flush m result) base opened journal (slice_set hives k v)
  unfolding Goes
  flush_goes (Ok progress.Idle) says sound = absurd says
  flush_goes (Ok progress.More) says sound = goes progress.More More says
  flush_goes (Ok progress.Done) says sound = goes progress.Done Done says
  flush_goes (Err refusal.NoMemory) says sound = hungry says
  flush_goes (Err refusal.DiskFault) says sound = broke says
  flush_goes (Err refusal.Faulted) says sound = absurd (sound refl)
  flush_goes (Err _) says sound = absurd says
