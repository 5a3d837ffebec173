-- Lives continue from one another.
use Rattle.std.proofs.Common.{◌≡◌, inl, inr, ℕ, ◌-◌, ◌≤◌, Bool, true, false, List, [], ◌∷◌, length, take, refl, sym, ◌∙◌, ap, subst, arith}
use Rattle.refusals.specs.declared.limits.TheConstants.{MOST_HISTORY}
use Rattle.reg_tree.specs.Maps.{TreeMap}
use Rattle.reg_tree.specs.Sequences.{after_elements}
use Rattle.reg_tree.specs.declared.element.Element.{Element}
use Rattle.disk_model.specs.FileState.{FileState, Leaves, at_rest}
use Rattle.disk_model.specs.Sector.{IsHonest}
use Rattle.disk_model.specs.Crash.{LeavesHonest}
use Rattle.disk_model.proofs.Leaves.{left_at_rest}
use Rattle.disk_model.proofs.Sectors.{honest_at_rest}
use Rattle.disk_model.specs.ReadOnly.{IsSyncedOrSame}
use Rattle.commit_journal.specs.Store.{Store, IsStore, all_hives}
use Rattle.store_model.specs.Machine.{Machine, bounds_for, last_number, opened_machine, with_history}
use Rattle.store_model.specs.Steps.{Run}
use Rattle.store_model.specs.declared.event.Event.{Event}
use Rattle.store_model.specs.declared.event.Reply.{Reply}
use Rattle.engine_invariant.specs.Prefixes.{IsPrimaryOf, IsSafeAt, Recover, trees_after}
use Rattle.engine_invariant.specs.Engines.{EngineView}
use Rattle.engine_invariant.specs.Runs.{AnswersInTurn, IsBoundary, RunsSafely}
use Rattle.store_model.proofs.TreeCounts.{all_long}
use Rattle.recovery.specs.Recovered.{IsRecovered, seen_in}
use Rattle.engine.specs.Lives.{Life, Life.NeverOpened, Life.Opened, IsSafe, IsLife, IsNext, AreLives, AreLivesOfStores, OpensFrom, EachLifeContinues, FirstOpensAt, ReadsSafely, end_of, faulted_in}
use Rattle.engine.proofs.OpenedStays.{run_stays}

abbrev pub OneRecovered : Type 0
OneRecovered = (files : ℕ → List ℕ) (a b : Store) (n m : ℕ) (ts us : List TreeMap) → IsRecovered files a n ts → IsRecovered files b m us → (a ≡ b) × (n ≡ m) × (ts ≡ us)

-- What a crash leaves of files at rest is what they are
rests_as : (bytes : List ℕ) → Leaves (at_rest bytes) bytes
rests_as bytes = record { no_shorter = omega arith; no_longer = omega arith; kept = λ p lt none. refl }

-- A file that was synced, or is as it was before

module _ (hives : ℕ) (state end : ℕ → FileState) (seen : ReadsSafely hives state) (kept : (f : ℕ) → IsSyncedOrSame (state f) (end f)) where
  -- what a read gives is still what a crash may leave
  pub seen_after : ReadsSafely hives end
  seen_after = (
    λ f. elim (kept f) [
      | inl same ↦ subst (λ (s : FileState). Leaves s s.seen) (sym same) (seen.0 f)
      | inr synced ↦ subst (λ (s : FileState). Leaves s s.seen) (sym synced) (rests_as (state f).seen)
    ],
    λ f primary. elim (kept f) [
      | inl same ↦ subst (λ (s : FileState). IsHonest s s.seen) (sym same) (seen.1 f primary)
      | inr synced ↦ subst (λ (s : FileState). IsHonest s s.seen) (sym synced) (honest_at_rest (state f).seen (state f).seen (rests_as (state f).seen))
    ],
  )

  module _ (files : ℕ → List ℕ) (left : LeavesHonest (IsPrimaryOf hives) end files) where
    left_before : (f : ℕ) → Leaves (state f) (files f)
    left_before f = elim (kept f) [
      | inl same ↦ subst (λ (s : FileState). Leaves s (files f)) same (left.0 f)
      | inr synced ↦ subst (λ (c : List ℕ). Leaves (state f) c) (sym (left_at_rest (state f).seen (files f) (subst (λ (s : FileState). Leaves s (files f)) synced (left.0 f)))) (seen.0 f)
    ]

    honest_before : (f : ℕ) → IsPrimaryOf hives f → IsHonest (state f) (files f)
    honest_before f primary = elim (kept f) [
      | inl same ↦ subst (λ (s : FileState). IsHonest s (files f)) same (left.1 f primary)
      | inr synced ↦ subst (λ (c : List ℕ). IsHonest (state f) c) (sym (left_at_rest (state f).seen (files f) (subst (λ (s : FileState). Leaves s (files f)) synced (left.0 f)))) (seen.1 f primary)
    ]

    pub before : LeavesHonest (IsPrimaryOf hives) state files
    before = (left_before, honest_before)

-- The next life's files

-- all that may be left of the next files may have been left of those before, and so may what a read gives
next_left : (hives : ℕ) (life : Life) (next : ℕ → FileState) → IsNext hives life next → (files : ℕ → List ℕ) → LeavesHonest (IsPrimaryOf hives) next files → LeavesHonest (IsPrimaryOf hives) (end_of life) files
next_left hives life next (inl (left, was, is)) files there =
    let same : (f : ℕ) → files f ≡ left f = λ f. left_at_rest (left f) (files f) (subst (λ (s : FileState). Leaves s (files f)) (is f) (there.0 f)) in (
      λ f. subst (λ (c : List ℕ). Leaves (end_of life f) c) (sym (same f)) (was.0 f),
      λ f primary. subst (λ (c : List ℕ). IsHonest (end_of life f) c) (sym (same f)) (was.1 f primary),
    )
next_left hives life next (inr (seen, is)) files there = (
  λ f. subst (λ (s : FileState). Leaves s (files f)) (is f) (there.0 f),
  λ f primary. subst (λ (s : FileState). IsHonest s (files f)) (is f) (there.1 f primary),
)

by_fault : {X : Type 0} (faulted : Bool) → (faulted ≡ true → X) → (faulted ≡ false → X) → X
by_fault true f g = f refl
by_fault false f g = g refl

next_seen : (hives : ℕ) (life : Life) (next : ℕ → FileState) → (faulted_in life ≡ false → ReadsSafely hives (end_of life)) → IsNext hives life next → ReadsSafely hives next
next_seen hives life next reads (inl (left, was, is)) = (
  λ f. subst (λ (s : FileState). Leaves s s.seen) (sym (is f)) (rests_as (left f)),
  λ f primary. subst (λ (s : FileState). IsHonest s s.seen) (sym (is f)) (honest_at_rest (left f) (left f) (rests_as (left f))),
)
next_seen hives life next reads (inr (seen, is)) =
    let read = by_fault (faulted_in life) seen reads in (
      λ f. subst (λ (s : FileState). Leaves s s.seen) (sym (is f)) (read.0 f),
      λ f primary. subst (λ (s : FileState). IsHonest s s.seen) (sym (is f)) (read.1 f primary),
    )

-- A prefix is recovered
recovers : (store : Store) (m : Machine) (files : ℕ → List ℕ) → IsStore store → length m.opened ≡ all_hives store → (n : ℕ) → Recover store (length m.opened) files n (trees_after m n) → IsRecovered files store n (trees_after m n)
recovers store m files is many n found = record {
  store_is = is;
  many = all_long m.opened (take (n - m.before) m.accepted) ∙ many;
  recovers = subst (λ k. Recover store k files n (trees_after m n)) many found;
}

module _ (one : OneRecovered) (store : Store) (is : IsStore store) where
  opens_from : (m : Machine) (state : ℕ → FileState) (number : ℕ) (trees : List TreeMap) → length m.opened ≡ all_hives store → IsSafe store m state → ReadsSafely (all_hives store) state → IsRecovered (seen_in state) store number trees → OpensFrom m number trees
  opens_from m state number trees many safe seen found = by_prefix (safe (seen_in state) (subst (λ n. ReadsSafely n state) (sym many) seen))
    where
      by_prefix : (n : ℕ) × (m.durable ≤ n) × (n ≤ last_number m) × Recover store (length m.opened) (seen_in state) n (trees_after m n) → OpensFrom m number trees
      by_prefix (n, low, high, there) =
          let same = one (seen_in state) store store number n trees (trees_after m n) found (recovers store m (seen_in state) is many n there) in
          record { low = omega (arith, low, same.1); high = omega (arith, high, same.1); trees_are = same.2 ∙ ap (trees_after m) (sym same.1) }

  -- what may be left of the next files may have been left of a life's, by the number of a machine's trees
  left_of : (n : ℕ) (life : Life) (next : ℕ → FileState) → n ≡ all_hives store → IsNext (all_hives store) life next → (files : ℕ → List ℕ) → LeavesHonest (IsPrimaryOf n) next files → LeavesHonest (IsPrimaryOf n) (end_of life) files
  left_of n life next many on files left =
      subst (λ k. LeavesHonest (IsPrimaryOf k) (end_of life) files) (sym many) (next_left (all_hives store) life next on files (subst (λ k. LeavesHonest (IsPrimaryOf k) next files) many left))

  -- a life that hasn't opened leaves a machine's files as they were
  after_none : (m : Machine) (state end next : ℕ → FileState) → length m.opened ≡ all_hives store → IsSafe store m state → ReadsSafely (all_hives store) state → IsLife store state (NeverOpened end) → IsNext (all_hives store) (NeverOpened end) next → IsSafe store m next × ReadsSafely (all_hives store) next
  after_none m state end next many safe seen kept on = (
    λ files left. safe files (subst (λ n. LeavesHonest (IsPrimaryOf n) state files) (sym many) (before (all_hives store) state end seen kept files (next_left (all_hives store) (NeverOpened end) next on files (subst (λ n. LeavesHonest (IsPrimaryOf n) next files) many left)))),
    next_seen (all_hives store) (NeverOpened end) next (λ e. seen_after (all_hives store) state end seen kept) on,
  )

  -- the files after a life that has opened are its machine's
  after_opened : (state end next : ℕ → FileState) (number : ℕ) (trees : List TreeMap) (last : Machine) → IsLife store state (Opened number trees last end) → IsNext (all_hives store) (Opened number trees last end) next → (length last.opened ≡ all_hives store) × IsSafe store last next × ReadsSafely (all_hives store) next
  after_opened state end next number trees last (found, come, left, reads) on =
      let long : length last.opened ≡ all_hives store = run_stays (with_history come.limit (record (opened_machine (bounds_for store.hives) trees number [] 0) { room = come.room; faulted = come.broken })) last come.events come.replies come.run ∙ found.many in (
        long,
        λ files there. left files (left_of (length last.opened) (Opened number trees last end) next long on files there),
        next_seen (all_hives store) (Opened number trees last end) next (λ e. subst (λ n. ReadsSafely n end) long (reads e)) on,
      )

  pub go_on : (m : Machine) (state : ℕ → FileState) (lives : List Life) → length m.opened ≡ all_hives store → IsSafe store m state → ReadsSafely (all_hives store) state → AreLives store state lives → EachLifeContinues m lives
  go_on m state [] many safe seen rest = tt
  go_on m state (NeverOpened end ∷ lives) many safe seen (life, (next, on, rest)) =
      let after = after_none m state end next many safe seen life on in go_on m next lives many after.0 after.1 rest
  go_on m state (Opened number trees last end ∷ lives) many safe seen (life, (next, on, rest)) =
      let after = after_opened state end next number trees last life on in
      (opens_from m state number trees many safe seen life.0, go_on last next lives after.0 after.1 after.2 rest)

  -- the store that a life opens is that of its files
  same_store : (other : Store) (m : Machine) (state : ℕ → FileState) (number : ℕ) (trees : List TreeMap) → length m.opened ≡ all_hives store → IsSafe store m state → ReadsSafely (all_hives store) state → IsRecovered (seen_in state) other number trees → other ≡ store
  same_store other m state number trees many safe seen found =
      let there = safe (seen_in state) (subst (λ n. ReadsSafely n state) (sym many) seen) in
      (one (seen_in state) other store number there.0 trees (trees_after m there.0) found (recovers store m (seen_in state) is many there.0 there.3)).0

  pub of_one_store : (m : Machine) (state : ℕ → FileState) (lives : List Life) → length m.opened ≡ all_hives store → IsSafe store m state → ReadsSafely (all_hives store) state → AreLivesOfStores (all_hives store) state lives → AreLives store state lives
  of_one_store m state [] many safe seen rest = tt
  of_one_store m state (NeverOpened end ∷ lives) many safe seen ((other, life), (next, on, rest)) =
      let after = after_none m state end next many safe seen life on in (life, (next, on, of_one_store m next lives many after.0 after.1 rest))
  of_one_store m state (Opened number trees last end ∷ lives) many safe seen ((other, life), (next, on, rest)) =
      let same = same_store other m state number trees many safe seen life.0 in
      let own : IsLife store state (Opened number trees last end) = subst (λ (s : Store). IsLife s state (Opened number trees last end)) same life in
      let after = after_opened state end next number trees last own on in
      (own, (next, on, of_one_store last next lives after.0 after.1 after.2 rest))

-- Calls

none_taken : (n : ℕ) → take {A = Element} (n - n) [] ≡ []
none_taken n = let e : n - n ≡ 0 = omega arith in ap (λ k. take {A = Element} k []) e

pub repaired : (store : Store) (state end : ℕ → FileState) (number room : ℕ) (failed : Bool) (trees : List TreeMap) → IsRecovered (seen_in state) store number trees → ((files : ℕ → List ℕ) → LeavesHonest (IsPrimaryOf (all_hives store)) end files → IsRecovered files store number trees)
    → (failed ≡ false → ReadsSafely (all_hives store) end) → IsLife store state (Opened number trees (record (opened_machine (bounds_for store.hives) trees number [] 0) { room = room; faulted = failed }) end)
repaired store state end number room failed trees found stays reads = (
  found,
  record { room = room; limit = MOST_HISTORY; broken = failed; events = []; replies = []; run = refl },
  λ files left.
      let there = stays files (subst (λ n. LeavesHonest (IsPrimaryOf n) end files) found.many left) in
      (number, omega arith, omega arith, subst (λ (l : List Element). Recover store (length trees) files number (after_elements trees l)) (sym (none_taken number)) (subst (λ k. Recover store k files number trees) (sym there.many) there.recovers)),
  λ works. subst (λ n. ReadsSafely n end) (sym found.many) (reads works),
)

-- A store that was made

first_at : (store : Store) (trees : List TreeMap) (lives : List Life) → EachLifeContinues (opened_machine (bounds_for store.hives) trees 0 [] 0) lives → FirstOpensAt 0 trees lives
first_at store trees [] on = tt
first_at store trees (NeverOpened end ∷ lives) on = first_at store trees lives on
first_at store trees (Opened number found last end ∷ lives) (from, on) =
    let zero : number ≡ 0 = omega (arith, from.high) in
    (zero, from.trees_are ∙ ap (trees_after (opened_machine (bounds_for store.hives) trees 0 [] 0)) zero ∙ ap (λ (l : List Element). after_elements trees l) (none_taken 0))

pub opens_as_made : OneRecovered → (store : Store) (trees : List TreeMap) (state : ℕ → FileState) (lives : List Life) → ((files : ℕ → List ℕ) → LeavesHonest (IsPrimaryOf (length trees)) state files → IsRecovered files store 0 trees)
    → ReadsSafely (length trees) state → AreLives store state lives → FirstOpensAt 0 trees lives × EachLifeContinues (opened_machine (bounds_for store.hives) trees 0 [] 0) lives
opens_as_made one store trees state lives made seen rest =
    let found = made (seen_in state) seen in
    let safe = repaired store state state 0 0 false trees found (λ files left. made files (subst (λ n. LeavesHonest (IsPrimaryOf n) state files) (sym found.many) left)) (λ works. subst (λ n. ReadsSafely n state) found.many seen) in
    let on = go_on one store found.store_is (opened_machine (bounds_for store.hives) trees 0 [] 0) state lives found.many safe.2 (subst (λ n. ReadsSafely n state) found.many seen) rest in
    (first_at store trees lives on, on)

abbrev pub EachMoment : Type 0
EachMoment = (store : Store) (states : ℕ → ℕ → FileState) (old new : EngineView) (events : List Event) (replies : List Reply) → RunsSafely (IsSafeAt store states) old events replies new → (moment : ℕ) → old.clock ≤ moment → moment ≤ new.clock
    → IsBoundary (IsSafeAt store states) old events replies new moment

abbrev pub AreRuns : Type 0
AreRuns = (old new : EngineView) (events : List Event) (replies : List Reply) → AnswersInTurn old events replies new → Run old.machine events replies new.machine × (length replies ≡ length events)

pub ran : EachMoment → AreRuns → (store : Store) (state : ℕ → FileState) (number room limit : ℕ) (trees : List TreeMap) (states : ℕ → ℕ → FileState) (moment : ℕ) (events : List Event) (replies : List Reply) (old new : EngineView) → IsRecovered (seen_in state) store number trees
    → old.machine ≡ with_history limit (record (opened_machine (bounds_for store.hives) trees number [] 0) { room = room }) → RunsSafely (IsSafeAt store states) old events replies new → old.clock ≤ moment → moment ≤ new.clock
    → IsBoundary (λ at machine. (machine.faulted ≡ false → ReadsSafely (length machine.opened) (states at)) → IsLife store state (Opened number trees machine (states at))) old events replies new moment
ran each runs store state number room limit trees states moment events replies old new found begins run low high =
    let b = each store states old new events replies run moment low high in
    record {
      answered = b.answered;
      some = b.some;
      engine = b.engine;
      then_at = b.then_at;
      so_far = b.so_far;
      then_on = b.then_on;
      holds = λ reads. (
        found,
        record {
          room = room;
          limit = limit;
          broken = false;
          events = take b.answered events;
          replies = take b.answered replies;
          run = subst (λ (m : Machine). Run m (take b.answered events) (take b.answered replies) b.engine.machine) begins (runs old b.engine (take b.answered events) (take b.answered replies) b.so_far).0;
        },
        b.holds,
        reads,
      );
    }
