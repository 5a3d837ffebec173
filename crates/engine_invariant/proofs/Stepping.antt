-- Steps of the journal, of a trim and of a flush keep the invariant, and are steps of the machine.
use Rattle.std.proofs.Common.{◌≡◌, ◌⊎◌, inl, inr, ℕ, zero, suc, ◌+◌, ◌-◌, ◌<◌, ◌≤◌, false, Result, Ok, Err, List, [], ◌∷◌, ◌++◌, length, take, drop, refl, sym, ◌∙◌, ap, subst, arith, Option, Some, None, slice_get}
use Rattle.std.proofs.lemmas.Option.{none-some, same_Some, slice_get-get_or}
use Rattle.std.proofs.lemmas.List.{length-map, length-drop, drop-map, take-append-drop}
use Rattle.refusals.specs.declared.limits.TheConstants.{GREATEST_NUMBER, MOST_JOURNAL_BYTES}
use Rattle.refusals.specs.declared.refusal.Refusal.{Refusal}
use Rattle.refusals.specs.declared.refusal.Refusal.TheVariants as refusal
use Rattle.reg_tree.specs.Fresh.{fresh_tree}
use Rattle.reg_tree.specs.declared.element.Element.{Element}
use Rattle.crash_model.specs.Changes as law
use Rattle.crash_model.specs.Changes.{AreLegal, ops_on, replay, applied}
use Rattle.crash_model.specs.Promises.{Choice, Content, nothing, settled, under_way, floor, top, Ends, BeginsBatch, Answer, Answer.Idle, Answer.More, Answer.Done, Answer.NoMemory, Answer.DiskFault, JournalSays, TrimSays}
use Rattle.crash_model.specs.Life.{ops_in}
use Rattle.crash_model.specs.Invariant as law_kept
use Rattle.crash_model.specs.Steps.{pending_elements, MayTrim}
use Rattle.crash_model.specs.Calls.{durable_after}
use Rattle.crash_model.proofs.Lists.{drop_nil}
use Rattle.crash_model.proofs.ClausesSuffice.{journal_step, trim_step, trim_test}
use Rattle.store_model.specs.Machine.{Machine, fault, refused_if, pending}
use Rattle.store_model.specs.Steps.{Step, StepFails, KeepsRoom}
use Rattle.store_model.specs.declared.event.Event.{Event}
use Rattle.store_model.specs.declared.event.Event.TheVariants as event
use Rattle.store_model.specs.declared.event.Reply.{Reply}
use Rattle.store_model.specs.declared.event.Reply.TheVariants as reply
use Rattle.change_codec.specs.ModelChanges.{TimedOp, timed_element, timed_elements}
use Rattle.crash_model.specs.StepAnswers.{Says}
use Rattle.disk_model.specs.declared.progress.Progress.{Progress}
use Rattle.disk_model.specs.declared.progress.Progress.TheVariants as progress
use Rattle.commit_journal.specs.Store.{room_of}
use Rattle.engine_invariant.specs.Rules.{rules}
use Rattle.engine_invariant.specs.States.{HiveView, counted, life_of, state_of, IsBatch, IsConsistent}
use Rattle.engine_invariant.specs.Answers.{reply_to, failed, freed, after_step, after_flush, HaveAll}
use Rattle.engine_invariant.specs.Answers as answers
use Rattle.engine_invariant.proofs.Bridge.{number_is, last_is}
use Rattle.engine_invariant.proofs.Accepting.{Keeps}
use Rattle.engine_invariant.proofs.Ending.{moved_to, batch_top, trim_ends}
use Rattle.engine_invariant.proofs.Room.{room_append}

not_faulted : (m : Machine) → m.faulted ≡ false → fault m ≡ None
not_faulted m e = ap (λ b. refused_if b refusal.Faulted) e

-- dropping twice, and the beginning of a longer list
drop_drop : {A : Type 0} (j k : ℕ) (l : List A) → drop k (drop j l) ≡ drop (j + k) l
drop_drop {A = A} j k [] = ap (drop k) (drop_nil {A = A} j) ∙ drop_nil {A = A} k ∙ sym (drop_nil {A = A} (j + k))
drop_drop zero k (x ∷ xs) = let e : k ≡ 0 + k = omega arith in ap (λ n. drop n (x ∷ xs)) e
drop_drop (suc j) k (x ∷ xs) = drop_drop j k xs ∙ (let e : suc (j + k) ≡ suc j + k = omega arith in ap (λ n. drop n (x ∷ xs)) e)

module _ (keeps : Keeps) (m : Machine) (base : ℕ) (opened : List Element) (old new : Choice (Content TimedOp)) (hives : List HiveView) (i : IsConsistent m base opened old hives) (free : m.faulted ≡ false) where
  handed : List (law.Element TimedOp)
  handed = timed_elements (pending m)

  pending_is : pending_elements (state_of m base opened old hives) ≡ timed_elements (pending m)
  pending_is = ap (λ k. drop (m.durable - k) (timed_elements m.accepted)) (number_is m base opened i.begun) ∙ drop-map timed_element (m.durable - m.before) m.accepted

  journal_law : (a : Answer) (d r : ℕ) → JournalSays (m.durable + 1) (timed_elements (pending m)) a old new → d ≡ durable_after a m.durable new
      → law_kept.InvariantHolds (rules m.bounds.hives) GREATEST_NUMBER (length m.opened) (state_of (moved_to m d r) base opened new hives)
  journal_law a d r says e = journal_step (rules m.bounds.hives) GREATEST_NUMBER (length m.opened) a (state_of m base opened old hives) (state_of (moved_to m d r) base opened new hives) i.law (record {
    journal = subst (λ (es : List (law.Element TimedOp)). JournalSays (m.durable + 1) es a old new) (sym pending_is) says;
    life = refl;
    durable = e;
    files = λ j lt. refl;
  })

  trim_law : (a : Answer) (d r : ℕ) → (old.next ≡ None → (0 < length old.now.elements) × HaveAll m base opened hives)
      → TrimSays a old new → d ≡ durable_after a m.durable new → law_kept.InvariantHolds (rules m.bounds.hives) GREATEST_NUMBER (length m.opened) (state_of (moved_to m d r) base opened new hives)
  trim_law a d r may says e = trim_step (rules m.bounds.hives) GREATEST_NUMBER (length m.opened) a (state_of m base opened old hives) (state_of (moved_to m d r) base opened new hives) i.law (record {
    may = λ idle. (some_of old.now.elements (may idle).0, has idle);
    journal = says;
    life = refl;
    durable = e;
    files = λ j lt. refl;
  })
    where
      some_of : (es : List (law.Element TimedOp)) → 0 < length es → (e : law.Element TimedOp) × (rest : List (law.Element TimedOp)) × (es ≡ e ∷ rest)
      some_of [] lt = absurd (omega (arith, lt))
      some_of (e ∷ es) lt = (e, es, refl)

      has : old.next ≡ None → MayTrim (length m.opened) (state_of m base opened old hives)
      has idle = (trim_test (rules m.bounds.hives) GREATEST_NUMBER (length m.opened) (state_of m base opened old hives) i.law).1 (λ j lt. by_slot j lt (slice_get hives j) refl)
        where
          by_slot : (j : ℕ) → j < length m.opened → (o : Option HiveView) → slice_get hives j ≡ o → ops_in (life_of m base opened) j (counted o).now.1 m.durable ≡ []
          by_slot j lt None e = absurd (none-some _ (sym e ∙ slice_get-get_or hives j (record { files = settled (fresh_tree, 0); memory = (fresh_tree, 0) }) (omega (arith, lt, i.all))))
          by_slot j lt (Some h) e = (may idle).1 j h e

  -- what is pending has its room
  fits_on : (d r : ℕ) → m.durable ≤ d → r ≤ m.room → 0 < length (pending (moved_to m d r)) → r ≤ MOST_JOURNAL_BYTES
  fits_on d r up low some =
      let fit = i.fits (omega (arith, some, up, length-drop (d - m.before) m.accepted, length-drop (m.durable - m.before) m.accepted)) in
      omega (arith, fit, low)

  -- the invariant with another durable number, other room and another journal
  consistent : (d r : ℕ) → m.durable ≤ d → r ≤ m.room → (e : Event) (p : Reply) → Step m e p (moved_to m d r) → law_kept.InvariantHolds (rules m.bounds.hives) GREATEST_NUMBER (length m.opened) (state_of (moved_to m d r) base opened new hives)
      → ((next : Content TimedOp) → new.next ≡ Some next → (next ≡ nothing) ⊎ IsBatch (moved_to m d r) new.now next) → r ≡ 65 + room_of new.now.elements + room_of (timed_elements (pending (moved_to m d r)))
      → IsConsistent (moved_to m d r) base opened new hives
  consistent d r up low e p step l onward room = record {
    kept = keeps m (moved_to m d r) e p i.kept step;
    fits = fits_on d r up low;
    law = l;
    begun = i.begun;
    all = i.all;
    one_more = i.one_more;
    own = i.own;
    onward = onward;
    room = room;
  }

  -- Nothing has changed

  same_onward : new ≡ old → (next : Content TimedOp) → new.next ≡ Some next → (next ≡ nothing) ⊎ IsBatch m new.now next
  same_onward e next is = subst (λ (c : Choice (Content TimedOp)). (next ≡ nothing) ⊎ IsBatch m c.now next) (sym e) (i.onward next (ap (λ (c : Choice (Content TimedOp)). c.next) (sym e) ∙ is))

  same_room : new.now ≡ old.now → m.room ≡ 65 + room_of new.now.elements + room_of (timed_elements (pending m))
  same_room e = i.room ∙ ap (λ (s : Content TimedOp). 65 + room_of s.elements + room_of (timed_elements (pending m))) (sym e)

  -- a batch is under way
  batch_onward : BeginsBatch (m.durable + 1) (timed_elements (pending m)) old new → (next : Content TimedOp) → new.next ≡ Some next → (next ≡ nothing) ⊎ IsBatch m new.now next
  batch_onward (count, some, few, idle, is) next e =
      let told : next ≡ record { below = floor (m.durable + 1 - 1) old.now; elements = old.now.elements ++ take count (timed_elements (pending m)) } = same_Some next _ (sym e ∙ ap (λ (c : Choice (Content TimedOp)). c.next) is) in
      let one : m.durable + 1 - 1 ≡ m.durable = omega arith in
      inr (
        count,
        some,
        omega (arith, few, length-map (pending m) timed_element),
        told ∙ ap (λ n. record { below = floor n old.now; elements = old.now.elements ++ take count (timed_elements (pending m)) }) one
            ∙ ap (λ (s : Content TimedOp). record { below = floor m.durable s; elements = s.elements ++ take count (timed_elements (pending m)) }) (sym (ap (λ (c : Choice (Content TimedOp)). c.now) is)),
      )

  begins_or_not : (BeginsBatch (m.durable + 1) (timed_elements (pending m)) old new) ⊎ (new ≡ old) → ((next : Content TimedOp) → new.next ≡ Some next → (next ≡ nothing) ⊎ IsBatch m new.now next) × (new.now ≡ old.now)
  begins_or_not (inl b) = (batch_onward b, ap (λ (c : Choice (Content TimedOp)). c.now) b.4)
  begins_or_not (inr e) = (same_onward e, ap (λ (c : Choice (Content TimedOp)). c.now) e)

  -- What was under way is durable

  settled_onward : (d r : ℕ) → Ends old new → (next : Content TimedOp) → new.next ≡ Some next → (next ≡ nothing) ⊎ IsBatch (moved_to m d r) new.now next
  settled_onward d r (x, was, is) next e = absurd (none-some next (sym (ap (λ (c : Choice (Content TimedOp)). c.next) is) ∙ e))

  -- the durable number and the room then
  record Ended (d r : ℕ) : Type 0 where
    rises : m.durable ≤ d
    room_is : r ≡ 65 + room_of new.now.elements + room_of (timed_elements (pending (moved_to m d r)))
    keeps_room : KeepsRoom m progress.Done (moved_to m d r)

  by_trim : (x : Content TimedOp) → new ≡ settled x → x ≡ nothing → Ended (top m.durable new.now) (m.room - freed old new)
  by_trim x is e =
      let ends = trim_ends m base opened old new hives i x is e in
      let empty : room_of new.now.elements ≡ 0 = ap (λ (c : Choice (Content TimedOp)). room_of c.now.elements) is ∙ ap (λ (s : Content TimedOp). room_of s.elements) e in
      let rest : room_of (timed_elements (pending (moved_to m (top m.durable new.now) (m.room - freed old new)))) ≡ room_of (timed_elements (pending m)) = ap (λ n. room_of (timed_elements (drop (n - m.before) m.accepted))) ends.durable in
      record { rises = omega (arith, ends.durable); room_is = omega (arith, i.room, empty, rest); keeps_room = inr ends }

  by_batch : (x : Content TimedOp) → new ≡ settled x → IsBatch m old.now x → Ended (top m.durable new.now) (m.room - freed old new)
  by_batch x is (count, some, few, e) =
      let now : new.now ≡ record { below = floor m.durable old.now; elements = old.now.elements ++ take count (timed_elements (pending m)) } = ap (λ (c : Choice (Content TimedOp)). c.now) is ∙ e in
      let up : top m.durable new.now ≡ m.durable + count = batch_top m base opened old new hives i x is count few e in
      let grown : room_of new.now.elements ≡ room_of old.now.elements + room_of (take count (timed_elements (pending m))) = ap (λ (s : Content TimedOp). room_of s.elements) now ∙ room_append old.now.elements (take count (timed_elements (pending m))) in
      let left : pending (moved_to m (top m.durable new.now) (m.room - freed old new)) ≡ drop count (pending m) = ap (λ n. drop (n - m.before) m.accepted) up ∙ (let k : m.durable + count - m.before ≡ (m.durable - m.before) + count = omega (arith, i.kept.within.opened) in ap (λ n. drop n m.accepted) k) ∙ sym (drop_drop (m.durable - m.before) count m.accepted) in
      let split : room_of (timed_elements (pending m)) ≡ room_of (take count (timed_elements (pending m))) + room_of (timed_elements (drop count (pending m))) = parts count (pending m) in
      let rest : room_of (timed_elements (pending (moved_to m (top m.durable new.now) (m.room - freed old new)))) ≡ room_of (timed_elements (drop count (pending m))) = ap (λ (l : List Element). room_of (timed_elements l)) left in
      let same : m.room - freed old new ≡ m.room = omega (arith, grown) in
      record {
        rises = omega (arith, up);
        room_is = omega (arith, i.room, grown, split, rest, same);
        keeps_room = inl same;
      }
    where
      parts : (n : ℕ) (es : List Element) → room_of (timed_elements es) ≡ room_of (take n (timed_elements es)) + room_of (timed_elements (drop n es))
      parts n es = sym (ap room_of (take-append-drop n (timed_elements es))) ∙ room_append (take n (timed_elements es)) (drop n (timed_elements es))
          ∙ ap (λ (l : List (law.Element TimedOp)). room_of (take n (timed_elements es)) + room_of l) (drop-map timed_element n es)

  ended_of : (x : Content TimedOp) → new ≡ settled x → (x ≡ nothing) ⊎ IsBatch m old.now x → Ended (top m.durable new.now) (m.room - freed old new)
  ended_of x is (inl e) = by_trim x is e
  ended_of x is (inr b) = by_batch x is b

  ended : Ends old new → Ended (top m.durable new.now) (m.room - freed old new)
  ended (x, was, is) = ended_of x is (i.onward x was)

  -- Steps of the journal

  Goes : Event → Result Progress Refusal → Type 0
  Goes e result = Step m e (reply_to result) (after_step m old new result) × IsConsistent (after_step m old new result) base opened new hives

  -- the device failed in a step, which may have begun something: the durable content stays
  broke : StepFails m (fault m) refusal.DiskFault (failed m)
  broke = inr (not_faulted m free, record { free = not_faulted m free; told = refl; failed = omega arith; next = refl })

  failed_goes : (e : Event) → Step m e (reply.Refused refusal.DiskFault) (failed m) → law_kept.InvariantHolds (rules m.bounds.hives) GREATEST_NUMBER (length m.opened) (state_of m base opened new hives)
      → ((next : Content TimedOp) → new.next ≡ Some next → (next ≡ nothing) ⊎ IsBatch m new.now next) × (new.now ≡ old.now) → Goes e (Err refusal.DiskFault)
  unfolding Goes
  failed_goes e step l b = (
    step,
    record {
      kept = keeps m (failed m) e (reply.Refused refusal.DiskFault) i.kept step;
      fits = i.fits;
      law = l;
      begun = i.begun;
      all = i.all;
      one_more = i.one_more;
      own = i.own;
      onward = b.0;
      room = same_room b.1;
    },
  )

  journal_idle : JournalSays (m.durable + 1) (timed_elements (pending m)) Idle old new → Goes event.JournalStep (Ok progress.Idle)
  unfolding Goes
  journal_idle says =
      let e = says.2 in
      let step : Step m event.JournalStep (reply.Stepped progress.Idle) m = record { free = not_faulted m free; next = refl; grows = omega arith; within = i.kept.within.known; room = inl refl; idle = λ _. refl } in
      (step, consistent m.durable m.room (omega arith) (omega arith) event.JournalStep (reply.Stepped progress.Idle) step (journal_law Idle m.durable m.room says refl) (same_onward e) (same_room (ap (λ (c : Choice (Content TimedOp)). c.now) e)))

  underway_or : BeginsBatch (m.durable + 1) (timed_elements (pending m)) old new ⊎ (((x : Content TimedOp) × (old.next ≡ Some x)) × (new ≡ old)) → BeginsBatch (m.durable + 1) (timed_elements (pending m)) old new ⊎ (new ≡ old)
  underway_or (inl b) = inl b
  underway_or (inr u) = inr u.1

  journal_more : JournalSays (m.durable + 1) (timed_elements (pending m)) More old new → Goes event.JournalStep (Ok progress.More)
  unfolding Goes
  journal_more says =
      let b = begins_or_not (underway_or says) in
      let step : Step m event.JournalStep (reply.Stepped progress.More) m = record { free = not_faulted m free; next = refl; grows = omega arith; within = i.kept.within.known; room = inl refl; idle = λ e. absurd cc } in
      (step, consistent m.durable m.room (omega arith) (omega arith) event.JournalStep (reply.Stepped progress.More) step (journal_law More m.durable m.room says refl) b.0 (same_room b.1))

  journal_done : JournalSays (m.durable + 1) (timed_elements (pending m)) Done old new → Goes event.JournalStep (Ok progress.Done)
  unfolding Goes
  journal_done says =
      let e = ended says in
      let l = journal_law Done (top m.durable new.now) (m.room - freed old new) says refl in
      let step : Step m event.JournalStep (reply.Stepped progress.Done) (moved_to m (top m.durable new.now) (m.room - freed old new)) =
      record { free = not_faulted m free; next = refl; grows = e.rises; within = omega (arith, l.fits.to_last, last_is m base opened i.begun); room = e.keeps_room; idle = λ f. absurd cc } in
      (step, consistent (top m.durable new.now) (m.room - freed old new) e.rises (omega arith) event.JournalStep (reply.Stepped progress.Done) step l (settled_onward (top m.durable new.now) (m.room - freed old new) says) e.room_is)

  journal_hungry : JournalSays (m.durable + 1) (timed_elements (pending m)) NoMemory old new → Goes event.JournalStep (Err refusal.NoMemory)
  unfolding Goes
  journal_hungry says =
      let step : Step m event.JournalStep (reply.Refused refusal.NoMemory) m = inl (inr refl, refl) in
      (step, consistent m.durable m.room (omega arith) (omega arith) event.JournalStep (reply.Refused refusal.NoMemory) step (journal_law NoMemory m.durable m.room says refl) (same_onward says.1) (same_room (ap (λ (c : Choice (Content TimedOp)). c.now) says.1)))

  pub journal_goes : (result : Result Progress Refusal) → Says (JournalSays (m.durable + 1) (timed_elements (pending m))) result old new → (result ≡ Err refusal.Faulted → ⊥)
      → Step m event.JournalStep (reply_to result) (after_step m old new result) × IsConsistent (after_step m old new result) base opened new hives
  unfolding Goes
  journal_goes (Ok progress.Idle) says sound = journal_idle says
  journal_goes (Ok progress.More) says sound = journal_more says
  journal_goes (Ok progress.Done) says sound = journal_done says
  journal_goes (Err refusal.NoMemory) says sound = journal_hungry says
  journal_goes (Err refusal.DiskFault) says sound = failed_goes event.JournalStep broke (journal_law DiskFault m.durable m.room says refl) (begins_or_not says)
  journal_goes (Err refusal.Faulted) says sound = absurd (sound refl)
  journal_goes (Err _) says sound = absurd says

  -- Steps of a trim

  module _ (may : answers.MayTrim m base opened old hives) where
    idle_has : old.next ≡ None → (0 < length old.now.elements) × HaveAll m base opened hives
    idle_has idle = elim (may) [ inl trims ↦ absurd (none-some nothing (sym idle ∙ trims)) | inr b ↦ (b.1, b.2) ]

    trim_more : TrimSays More old new → Goes event.TrimStep (Ok progress.More)
    unfolding Goes
    trim_more says =
        let e = says.1 in
        let onward : (next : Content TimedOp) → new.next ≡ Some next → (next ≡ nothing) ⊎ IsBatch m new.now next = λ next is. inl (same_Some next nothing (sym is ∙ ap (λ (c : Choice (Content TimedOp)). c.next) e)) in
        let step : Step m event.TrimStep (reply.Stepped progress.More) m = record { free = not_faulted m free; next = refl; room = inl refl } in
        (step, consistent m.durable m.room (omega arith) (omega arith) event.TrimStep (reply.Stepped progress.More) step (trim_law More m.durable m.room idle_has says refl) onward (same_room (ap (λ (c : Choice (Content TimedOp)). c.now) e)))

    either : (old.next ≡ None) ⊎ (old.next ≡ Some nothing)
    either = elim (may) [ inl trims ↦ inr trims | inr b ↦ inl b.0 ]

    is_nothing : (x : Content TimedOp) → old.next ≡ Some x → (old.next ≡ None) ⊎ (old.next ≡ Some nothing) → x ≡ nothing
    is_nothing x was (inl none) = absurd (none-some x (sym none ∙ was))
    is_nothing x was (inr trims) = same_Some x nothing (sym was ∙ trims)

    trim_done : TrimSays Done old new → Goes event.TrimStep (Ok progress.Done)
    unfolding Goes
    trim_done says =
        let x_is = is_nothing says.0 says.1 either in
        let e = by_trim says.0 says.2 x_is in
        let l = trim_law Done (top m.durable new.now) (m.room - freed old new) idle_has says refl in
        let same : top m.durable new.now ≡ m.durable = ap (λ (c : Choice (Content TimedOp)). top m.durable c.now) says.2 ∙ ap (top m.durable) x_is ∙ (let f : m.durable + 0 ≡ m.durable = omega arith in f) in
        let step : Step m event.TrimStep (reply.Stepped progress.Done) (moved_to m (top m.durable new.now) (m.room - freed old new)) =
        record { free = not_faulted m free; next = ap (λ n. record m { durable = n; room = m.room - freed old new }) same; room = e.keeps_room } in
        (step, consistent (top m.durable new.now) (m.room - freed old new) e.rises (omega arith) event.TrimStep (reply.Stepped progress.Done) step l (settled_onward (top m.durable new.now) (m.room - freed old new) says) e.room_is)

    trims_or_not : ((old.next ≡ None) × (new ≡ under_way old.now nothing)) ⊎ (new ≡ old) → ((next : Content TimedOp) → new.next ≡ Some next → (next ≡ nothing) ⊎ IsBatch m new.now next) × (new.now ≡ old.now)
    trims_or_not (inl b) = (λ next is. inl (same_Some next nothing (sym is ∙ ap (λ (c : Choice (Content TimedOp)). c.next) b.1)), ap (λ (c : Choice (Content TimedOp)). c.now) b.1)
    trims_or_not (inr e) = (same_onward e, ap (λ (c : Choice (Content TimedOp)). c.now) e)

    pub trim_goes : (result : Result Progress Refusal) → Says TrimSays result old new → (result ≡ Err refusal.Faulted → ⊥)
        → Step m event.TrimStep (reply_to result) (after_step m old new result) × IsConsistent (after_step m old new result) base opened new hives
    unfolding Goes
    trim_goes (Ok progress.Idle) says sound = absurd says
    trim_goes (Ok progress.More) says sound = trim_more says
    trim_goes (Ok progress.Done) says sound = trim_done says
    trim_goes (Err refusal.NoMemory) says sound = absurd says
    trim_goes (Err refusal.DiskFault) says sound = failed_goes event.TrimStep broke (trim_law DiskFault m.durable m.room idle_has says refl) (trims_or_not says)
    trim_goes (Err refusal.Faulted) says sound = absurd (sound refl)
    trim_goes (Err _) says sound = absurd says
