-- A request, which neither makes a step nor folds the history, keeps the invariant.
use Rattle.std.proofs.Common.{◌≡◌, ◌⊎◌, inl, inr, ℕ, ◌+◌, ◌-◌, ◌<◌, ◌≤◌, true, List, [], ◌∷◌, ◌++◌, length, map, take, drop, refl, sym, ◌∙◌, ap, subst, arith, Some, slice_get, IsTrue}
use Rattle.std.proofs.lemmas.List.{map-append, length-append, drop-append-le}
use Rattle.refusals.specs.declared.limits.TheConstants.{GREATEST_NUMBER, MOST_JOURNAL_BYTES}
use Rattle.reg_tree.specs.Maps.{TreeMap}
use Rattle.reg_tree.specs.declared.element.Element.{Element}
use Rattle.reg_tree.specs.declared.op.Op.{Op}
use Rattle.crash_model.specs.Promises.{Choice, Content, nothing, floor}
use Rattle.crash_model.specs.Changes.{on_hive, applied}
use Rattle.crash_model.specs.Life.{Life, NamesHive, tree_at, with_accepted}
use Rattle.crash_model.specs.Life as life
use Rattle.crash_model.specs.Invariant as law
use Rattle.crash_model.proofs.HiveByHive.{legal_at}
use Rattle.crash_model.proofs.KeepSteps.{moved, step_accept}
use Rattle.store_model.specs.Machine.{Machine, trees_now, last_number, pending}
use Rattle.store_model.specs.Steps.{Step, is_request}
use Rattle.store_model.specs.Invariant.{InvariantHolds, AreLegalChanges, JournalStateStays, AcceptsOneChange}
use Rattle.store_model.specs.declared.bounds.StoreBounds.{StoreBounds}
use Rattle.store_model.specs.declared.event.Event.{Event}
use Rattle.store_model.specs.declared.event.Reply.{Reply}
use Rattle.change_codec.specs.ModelChanges.{TimedOp, timed, timed_element, timed_elements}
use Rattle.commit_journal.specs.Store.{room_of}
use Rattle.engine_invariant.specs.Rules.{rules}
use Rattle.engine_invariant.specs.States.{HiveView, tree_of, life_of, state_of, IsBatch, IsConsistent}
use Rattle.store_model.proofs.TreeCounts.{all_long}
use Rattle.engine_invariant.proofs.Bridge.{last_is, tree_is, trees_at_last, run_ops, names}
use Rattle.engine_invariant.proofs.Outcomes.{Passes, allowed_now, tree_grown}
use Rattle.engine_invariant.proofs.Room.{one_more_room, first_stay}

-- The machine's laws that are used

abbrev pub Keeps : Type 0
Keeps = (old new : Machine) (event : Event) (reply : Reply) → InvariantHolds old → Step old event reply new → InvariantHolds new

abbrev pub Settle : Type 0
Settle = (old new : Machine) (event : Event) (reply : Reply) → InvariantHolds old → is_request event ≡ true → Step old event reply new → JournalStateStays old new ⊎ AcceptsOneChange old new

life_is : (base : ℕ) (opened : List Element) (old new : Machine) → new.opened ≡ old.opened → new.accepted ≡ old.accepted → life_of new base opened ≡ life_of old base opened
life_is base opened old new a b =
    ap (λ (ts : List TreeMap). let l : Life TreeMap TimedOp = record { trees = tree_of ts; base = base; opened = timed_elements opened; accepted = timed_elements new.accepted } in l) a
    ∙ ap (λ (es : List Element). let l : Life TreeMap TimedOp = record { trees = tree_of old.opened; base = base; opened = timed_elements opened; accepted = timed_elements es } in l) b

names_some : (ts : List TreeMap) (ops : List Op) (moment : ℕ) → AreLegalChanges ts ops moment → 0 < length ops → NamesHive (length ts) (map (timed moment) ops)
names_some ts [] moment l some = absurd (omega (arith, some))
names_some ts (op ∷ ops) moment l some = names ts op ops moment l

module _ (base : ℕ) (opened : List Element) (journal : Choice (Content TimedOp)) (hives : List HiveView) where
  law_keeps : Passes → (old new : Machine) → InvariantHolds new → length new.opened ≤ new.bounds.hives + 1 → old.before ≡ base + length opened → JournalStateStays old new ⊎ AcceptsOneChange old new → law.InvariantHolds (rules old.bounds.hives) GREATEST_NUMBER (length old.opened) (state_of old base opened journal hives)
      → law.InvariantHolds (rules new.bounds.hives) GREATEST_NUMBER (length new.opened) (state_of new base opened journal hives)
  law_keeps passes old new held few begun (inl s) kept =
      subst (λ (b : StoreBounds). law.InvariantHolds (rules b.hives) GREATEST_NUMBER (length new.opened) (state_of new base opened journal hives)) (sym s.bounds)
      (subst (λ (ts : List TreeMap). law.InvariantHolds (rules old.bounds.hives) GREATEST_NUMBER (length ts) (state_of new base opened journal hives)) (sym s.opened)
      (moved (rules old.bounds.hives) GREATEST_NUMBER (length old.opened) (state_of old base opened journal hives) (state_of new base opened journal hives) (life_of old base opened) old.durable journal
      (life_is base opened old new s.opened s.accepted) s.durable refl (λ j lt. refl) kept))
  law_keeps passes old new held few begun (inr g) kept =
      subst (λ (b : StoreBounds). law.InvariantHolds (rules b.hives) GREATEST_NUMBER (length new.opened) (state_of new base opened journal hives)) (sym g.bounds)
      (subst (λ (ts : List TreeMap). law.InvariantHolds (rules old.bounds.hives) GREATEST_NUMBER (length ts) (state_of new base opened journal hives)) (sym g.opened)
      (step_accept (rules old.bounds.hives) GREATEST_NUMBER (length old.opened) (state_of old base opened journal hives) (state_of new base opened journal hives) kept (record {
        element = timed_element g.element;
        room = omega (arith, g.number, last_is old base opened begun);
        names = subst (λ n. NamesHive n (timed_element g.element)) (all_long old.opened old.accepted) (names_some (trees_now old) g.element.ops g.element.moment g.legal g.some);
        legal = λ i lt. legal_at (rules old.bounds.hives) i (timed_element g.element) (trees_now old) _ _ (run_ops old.bounds.hives (trees_now old) g.element.ops g.element.moment g.legal) (now_is i lt);
        allowed = allowed_next;
        life = grown;
        durable = g.durable;
        journal = refl;
        files = λ j lt. refl;
      })))
    where
      now_is : (i : ℕ) → i < length old.opened → slice_get (trees_now old) i ≡ Some (tree_at (rules old.bounds.hives) (life_of old base opened) (life.last_number (life_of old base opened)) i)
      now_is i lt = ap (λ (ts : List TreeMap). slice_get ts i) (sym (trees_at_last old)) ∙ tree_is old.bounds.hives old base opened begun (last_number old) i lt
          ∙ ap (λ n. Some (tree_at (rules old.bounds.hives) (life_of old base opened) n i)) (sym (last_is old base opened begun))

      grown : life_of new base opened ≡ with_accepted (life_of old base opened) (timed_element g.element)
      grown = ap (λ (ts : List TreeMap). let l : Life TreeMap TimedOp = record { trees = tree_of ts; base = base; opened = timed_elements opened; accepted = timed_elements new.accepted } in l) g.opened
          ∙ ap (λ (es : List (List (ℕ × TimedOp))). let l : Life TreeMap TimedOp = record { trees = tree_of old.opened; base = base; opened = timed_elements opened; accepted = es } in l) (ap timed_elements g.accepted ∙ map-append timed_element old.accepted (g.element ∷ []))

      next_is : last_number new ≡ life.last_number (life_of old base opened) + 1
      next_is = omega (arith, g.before, ap (λ (es : List Element). length es) g.accepted, length-append old.accepted (g.element ∷ []), last_is old base opened begun)

      allowed_next : (i : ℕ) → i < length old.opened → IsTrue ((rules old.bounds.hives).allows i (life.last_number (life_of old base opened) + 1)
          (applied (rules old.bounds.hives) (on_hive i (timed_element g.element)) (tree_at (rules old.bounds.hives) (life_of old base opened) (life.last_number (life_of old base opened)) i)))
      allowed_next i lt =
          let now : IsTrue ((rules old.bounds.hives).allows i (last_number new) (tree_of (trees_now new) i)) =
          subst (λ (b : StoreBounds). IsTrue ((rules b.hives).allows i (last_number new) (tree_of (trees_now new) i))) g.bounds (allowed_now passes new held few i (omega (arith, lt, ap (λ (ts : List TreeMap). length ts) g.opened))) in
          subst (λ n. IsTrue ((rules old.bounds.hives).allows i n (applied (rules old.bounds.hives) (on_hive i (timed_element g.element)) (tree_at (rules old.bounds.hives) (life_of old base opened) (life.last_number (life_of old base opened)) i)))) next_is
          (subst (λ t. IsTrue ((rules old.bounds.hives).allows i (last_number new) t)) (tree_grown old.bounds.hives old new base opened begun g i lt
          ∙ ap (λ n. applied (rules old.bounds.hives) (on_hive i (timed_element g.element)) (tree_at (rules old.bounds.hives) (life_of old base opened) n i)) (sym (last_is old base opened begun))) now)

  opened_is : (old new : Machine) → JournalStateStays old new ⊎ AcceptsOneChange old new → new.opened ≡ old.opened
  opened_is old new (inl s) = s.opened
  opened_is old new (inr g) = g.opened

  bounds_are : (old new : Machine) → JournalStateStays old new ⊎ AcceptsOneChange old new → new.bounds ≡ old.bounds
  bounds_are old new (inl s) = s.bounds
  bounds_are old new (inr g) = g.bounds

  before_is : (old new : Machine) → JournalStateStays old new ⊎ AcceptsOneChange old new → new.before ≡ old.before
  before_is old new (inl s) = s.before
  before_is old new (inr g) = g.before

  -- what is pending stays, except for one more change
  pending_same : (old new : Machine) → JournalStateStays old new → pending new ≡ pending old
  pending_same old new s = ap (λ n. drop (n - new.before) new.accepted) s.durable ∙ ap (λ n. drop (old.durable - n) new.accepted) s.before ∙ ap (drop (old.durable - old.before)) s.accepted

  pending_more : (old new : Machine) → old.durable ≤ last_number old → (g : AcceptsOneChange old new) → pending new ≡ pending old ++ g.element ∷ []
  pending_more old new known g = ap (λ n. drop (n - new.before) new.accepted) g.durable ∙ ap (λ n. drop (old.durable - n) new.accepted) g.before ∙ ap (drop (old.durable - old.before)) g.accepted
      ∙ drop-append-le (old.durable - old.before) old.accepted (g.element ∷ []) (omega (arith, known))

  onward_is : (old new : Machine) → old.durable ≤ last_number old → JournalStateStays old new ⊎ AcceptsOneChange old new → (now next : Content TimedOp) → (next ≡ nothing) ⊎ IsBatch old now next → (next ≡ nothing) ⊎ IsBatch new now next
  onward_is old new known c now next (inl e) = inl e
  onward_is old new known (inl s) now next (inr (count, some, few, is)) =
      inr (
        count,
        some,
        subst (λ (l : List Element). count ≤ length l) (sym (pending_same old new s)) few,
        is ∙ ap (λ n. record { below = floor n now; elements = now.elements ++ take count (timed_elements (pending old)) }) (sym s.durable)
            ∙ ap (λ (l : List Element). record { below = floor new.durable now; elements = now.elements ++ take count (timed_elements l) }) (sym (pending_same old new s)),
      )
  onward_is old new known (inr g) now next (inr (count, some, few, is)) =
      let more = pending_more old new known g in
      inr (
        count,
        some,
        omega (arith, few, ap length more, length-append (pending old) (g.element ∷ [])),
        is ∙ ap (λ n. record { below = floor n now; elements = now.elements ++ take count (timed_elements (pending old)) }) (sym g.durable)
            ∙ ap (λ (l : List _). record { below = floor new.durable now; elements = now.elements ++ l }) (sym (ap (λ (l : List Element). take count (timed_elements l)) more ∙ first_stay count (pending old) g.element few)),
      )

  room_is : (old new : Machine) → old.durable ≤ last_number old → JournalStateStays old new ⊎ AcceptsOneChange old new → (used : ℕ) → old.room ≡ used + room_of (timed_elements (pending old)) → new.room ≡ used + room_of (timed_elements (pending new))
  room_is old new known (inl s) used e = s.room ∙ e ∙ ap (λ (l : List Element). used + room_of (timed_elements l)) (sym (pending_same old new s))
  room_is old new known (inr g) used e =
      let more = ap (λ (l : List Element). room_of (timed_elements l)) (pending_more old new known g) in
      let one = one_more_room (pending old) g.element in
      omega (arith, g.room, e, more, one)

  fits_on : (old new : Machine) → JournalStateStays old new ⊎ AcceptsOneChange old new → (0 < length (pending old) → old.room ≤ MOST_JOURNAL_BYTES) → 0 < length (pending new) → new.room ≤ MOST_JOURNAL_BYTES
  fits_on old new (inl s) fit some = let was = fit (omega (arith, some, ap (λ (es : List Element). length es) (pending_same old new s))) in omega (arith, was, s.room)
  fits_on old new (inr g) fit some = g.fits

  pub request_keeps : Passes → Settle → Keeps → (old new : Machine) → IsConsistent old base opened journal hives → (e : Event) (r : Reply) → is_request e ≡ true → Step old e r new → IsConsistent new base opened journal hives
  request_keeps passes settle keeps old new i e r quiet step =
      let c = settle old new e r i.kept quiet step in
      let known = i.kept.within.known in
      let held = keeps old new e r i.kept step in
      let few : length new.opened ≤ new.bounds.hives + 1 = omega (arith, i.one_more, ap (λ (ts : List TreeMap). length ts) (opened_is old new c), ap (λ (b : StoreBounds). b.hives) (bounds_are old new c)) in
      record {
        kept = held;
        fits = fits_on old new c i.fits;
        law = law_keeps passes old new held few i.begun c i.law;
        begun = before_is old new c ∙ i.begun;
        all = i.all ∙ ap length (sym (opened_is old new c));
        one_more = few;
        own = i.own;
        onward = λ next is. onward_is old new known c journal.now next (i.onward next is);
        room = room_is old new known c (65 + room_of journal.now.elements) i.room;
      }
