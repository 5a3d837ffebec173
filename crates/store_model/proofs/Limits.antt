-- Numbers, slots and room stay within their limits, and each accepted change was legal.
use Rattle.std.proofs.Common.{◌≡◌, ◌≢◌, ◌⊎◌, inl, inr, ℕ, zero, suc, ◌+◌, ◌-◌, ◌<◌, ◌≤◌, ◌==◌, ◌||◌, ◌&&◌, not, Bool, true, false, List, [], ◌∷◌, ◌++◌, length, take, drop, filter, sum_by, Option, Some, None, IsSome, is_some, cond, refl, sym, ◌∙◌, ap, subst, arith}
use Rattle.std.specs.Prelude.{nat_le, nat_lt}
use Rattle.std.proofs.lemmas.Bool.Decides.{nat_tests}
use Rattle.std.proofs.lemmas.List.{take-append-drop, drop-append-le, length-append}
use Rattle.std.proofs.lemmas.List.Sums.{sum_by-append, sum_by-cons, length-filter, count_by-le-length}
use mathlib.Core.Bool.{false≢true}
use Rattle.refusals.specs.declared.refusal.Refusal.{Refusal}
use Rattle.refusals.specs.declared.refusal.Refusal.TheVariants.{TooLarge, NoSeat, HistoryFull, JournalFull}
use Rattle.refusals.specs.declared.limits.TheConstants.{GREATEST_NUMBER, MOST_JOURNAL_BYTES, MOST_SESSIONS, MOST_TRANSACTIONS}
use Rattle.reg_tree.specs.Maps.{TreeMap}
use Rattle.reg_tree.specs.Operations.{hive_of}
use Rattle.reg_tree.specs.Judgement.{applied, any_outweighs}
use Rattle.reg_tree.specs.Sequences.{after_elements}
use Rattle.reg_tree.specs.Encodings.{element_encoded_len}
use Rattle.reg_tree.specs.declared.element.Element.{Element}
use Rattle.reg_tree.specs.declared.op.Op.{Op}
use Rattle.commit_outcomes.specs.Commits.{Commit}
use Rattle.store_model.specs.Transactions.{Transaction, TxSlots, at, with_op, count_held, inactive_refusal}
use Rattle.store_model.specs.Machine.{Machine, trees_now, last_number, folded, pending, room_of, room_with, is_open, change, committed, commit_ops, commit_change, next_commit, first_of, refused_if, refusal_by, fault, closed_refusal, call_refusal, opened_machine, start_refusal, room_refusal, commit_refusal, commit_refusal_if}
use Rattle.store_model.specs.Steps.{AcceptsWrite, Begins, CommitsTx, Ends, Journals, Trims, EndsTrim, StepFails, Step, with_session}
use Rattle.store_model.specs.Invariant.{InvariantHolds, IsWithin, IsActiveAt, AreLegalChanges, AreLegalHistory}
use Rattle.store_model.specs.declared.bounds.StoreBounds.{StoreBounds}
use Rattle.store_model.specs.declared.handle.Tx.{Tx}
use Rattle.disk_model.specs.declared.progress.Progress.{Progress}
use Rattle.store_model.specs.declared.event.Event.{Event}
use Rattle.store_model.specs.declared.event.Event.TheVariants as event
use Rattle.store_model.specs.declared.event.Reply.{Reply}
use Rattle.store_model.specs.declared.event.Reply.TheVariants as reply
use Rattle.store_model.proofs.AtCommit.{Within, neither}
use Rattle.store_model.proofs.Replies.{done_or, read_or, accepted_or, added_or, begun_or, awaits_or, outcome_or, committed_as_or, receipt_or, folded_or, stepped_or}
use Rattle.store_model.proofs.TransactionChanges.{Descends, Way, Fewer, Wrote, Longer, Accepted, Began, way, with_commit, none_first, not_refused, found_at, active_of, put_descends}

-- Room

-- what is left of changes takes no more room than all of them
rest_less : (n : ℕ) (elements : List Element) → room_with (drop n elements) ≤ room_with elements
rest_less n elements = omega (arith, sum_by-append room_of (take n elements) (drop n elements), ap (sum_by room_of) (take-append-drop n elements))

drop_later : (n m : ℕ) (elements : List Element) → n ≤ m → room_with (drop m elements) ≤ room_with (drop n elements)
drop_later zero m elements le = rest_less m elements
drop_later (suc n) zero elements le = absurd (omega (arith, le))
drop_later (suc n) (suc m) [] le = omega arith
drop_later (suc n) (suc m) (e ∷ elements) le = drop_later n m elements (omega (arith, le))

one_more_room : (elements : List Element) (element : Element) → room_with (elements ++ element ∷ []) ≡ room_with elements + room_of element
one_more_room elements element = omega (arith, sum_by-append room_of elements (element ∷ []), sum_by-cons room_of element [])

-- Slots

short : (p : ℕ → Bool) (xs : List ℕ) → length (filter p xs) ≤ length xs
short p xs = omega (arith, length-filter p xs, count_by-le-length p xs)

count_cons : (o : Option Transaction) (tx_slots : TxSlots) → count_held (o ∷ tx_slots) ≡ cond (is_some o) 1 0 + count_held tx_slots
count_cons o tx_slots = sum_by-cons (λ x. cond (is_some x) 1 0) o tx_slots

at_none : (q : ℕ) → at [] q ≡ None
at_none zero = refl
at_none (suc q) = refl

one_content : (new old : Option Transaction) → (IsSome new → IsSome old) → cond (is_some new) 1 0 ≤ cond (is_some old) 1 0
one_content None old known = omega arith
one_content (Some one) None known = absurd (false≢true (known refl))
one_content (Some one) (Some two) known = omega arith

any_content : (content : Option Transaction) → cond (is_some content) 1 0 ≤ 1
any_content None = omega arith
any_content (Some one) = omega arith

-- if each that is kept was kept, no more are
no_more : (old new : TxSlots) → ((q : ℕ) → IsSome (at new q) → IsSome (at old q)) → count_held new ≤ count_held old
no_more old [] known = omega arith
no_more [] (x ∷ xs) known =
    omega (arith, count_cons x xs, one_content x None (known zero), no_more [] xs (λ q there. subst IsSome (sym (at_none q)) (known (suc q) there)))
no_more (y ∷ ys) (x ∷ xs) known =
    omega (arith, count_cons x xs, count_cons y ys, one_content x y (known zero), no_more ys xs (λ q there. known (suc q) there))

apart : (p q : ℕ) → q ≢ p → suc q ≢ suc p
apart p q differs same = differs (omega (arith, same))

-- and if one slot is different, one more at most
one_more : (old new : TxSlots) (slot : ℕ) → ((q : ℕ) → q ≢ slot → IsSome (at new q) → IsSome (at old q)) → count_held new ≤ count_held old + 1
one_more old [] slot known = omega arith
one_more [] (x ∷ xs) zero known =
    omega (arith, count_cons x xs, any_content x, no_more [] xs (λ q there. subst IsSome (sym (at_none q)) (known (suc q) (λ e. cc) there)))
one_more [] (x ∷ xs) (suc p) known =
    omega (arith, count_cons x xs, one_content x None (known zero (λ e. cc)), one_more [] xs p (λ q differs there. subst IsSome (sym (at_none q)) (known (suc q) (apart p q differs) there)))
one_more (y ∷ ys) (x ∷ xs) zero known =
    omega (arith, count_cons x xs, count_cons y ys, any_content x, no_more ys xs (λ q there. known (suc q) (λ e. cc) there))
one_more (y ∷ ys) (x ∷ xs) (suc p) known =
    omega (arith, count_cons x xs, count_cons y ys, one_content x y (known zero (λ e. cc)), one_more ys xs p (λ q differs there. known (suc q) (apart p q differs) there))

descends_fewer : (old new : TxSlots) → Descends old new → count_held new ≤ count_held old
descends_fewer old new d = no_more old new (λ q there. by_content q (at new q) refl there)
  where
    by_content : (q : ℕ) (o : Option Transaction) → at new q ≡ o → IsSome o → IsSome (at old q)
    by_content q None e there = absurd (false≢true there)
    by_content q (Some one) e there = ap is_some (d q one e).1

-- so no more are kept after a step that gives no handle
held_after : (old new : Machine) (handle : Option Tx) → handle ≡ None → Way old new handle → count_held new.tx_slots ≤ count_held old.tx_slots
held_after old new _ none (Fewer b t d r) = descends_fewer old.tx_slots new.tx_slots d
held_after old new _ none (Wrote op moment b t d r) = descends_fewer old.tx_slots new.tx_slots d
held_after old new _ none (Accepted slot moment one b t a d r) = descends_fewer old.tx_slots new.tx_slots d
held_after old new _ none (Longer slot moment op one b t a l c n p) =
    descends_fewer old.tx_slots new.tx_slots (put_descends old.tx_slots new.tx_slots slot (Some (with_op one op moment)) p (λ x e. (one, a.there, ap (λ (t : Transaction). t.generation) (let same : with_op one op moment ≡ x = cc e in same))))
held_after old new _ none (Began tx session id n b t p) = absurd cc

-- History

history_more : (trees : List TreeMap) (elements : List Element) (element : Element) → AreLegalHistory trees elements → 0 < length element.ops →
    AreLegalChanges (after_elements trees elements) element.ops element.moment → AreLegalHistory trees (elements ++ element ∷ [])
history_more trees [] element h some l = (some, l, tt)
history_more trees (first ∷ elements) element h some l = (h.0, h.1, history_more (applied trees first.ops first.moment) elements element h.2 some l)

-- What no refusal says

below : (n m : ℕ) → nat_le n m ≡ false → m < n
below n m e = grind (arith, nat_tests)

within : (n m : ℕ) → nat_lt n m ≡ false → m ≤ n
within n m e = grind (arith, nat_tests)

pub has_room : (machine : Machine) (element : Element) → room_refusal machine (element_encoded_len element) ≡ None →
    (length machine.accepted < machine.bounds.changes) × (last_number machine < GREATEST_NUMBER) × (machine.room + room_of element ≤ MOST_JOURNAL_BYTES)
has_room machine element e =
    let full = refused_if (nat_le machine.bounds.changes (length machine.accepted) || nat_le GREATEST_NUMBER (last_number machine)) HistoryFull in
    let parts = none_first full (refused_if (nat_lt MOST_JOURNAL_BYTES (machine.room + room_of element)) JournalFull) e in
    let numbers = neither _ _ (not_refused _ HistoryFull parts.0) in
    (below machine.bounds.changes (length machine.accepted) numbers.0, below GREATEST_NUMBER (last_number machine) numbers.1, within MOST_JOURNAL_BYTES (machine.room + room_of element) (not_refused _ JournalFull parts.1))

-- operations, and more of them

pub some_ops : (ops : List Op) → (length ops == 0) ≡ false → 0 < length ops
some_ops [] e = absurd cc
some_ops (op ∷ ops) e = omega arith

pub more_ops : (ops more : List Op) → 0 < length ops → 0 < length (ops ++ more)
more_ops ops more some = omega (arith, some, length-append ops more)

-- What a step leaves of all this

record Leaves (old new : Machine) : Type 0 where
  within : IsWithin new
  history : AreLegalHistory new.opened new.accepted
  fits : old.room ≤ MOST_JOURNAL_BYTES → new.room ≤ MOST_JOURNAL_BYTES

module _ (law : Within) (old : Machine) (k : InvariantHolds old) where
  -- sessions and transactions alone
  seats : (new : Machine) (sessions : List ℕ) (tx_slots : TxSlots) (begun : ℕ) → length sessions ≤ MOST_SESSIONS → count_held tx_slots ≤ MOST_TRANSACTIONS →
      new ≡ record old { sessions = sessions; tx_slots = tx_slots; begun = begun } → Leaves old new
  seats new sessions tx_slots begun s h e = subst (Leaves old) (sym e) (record {
    within = record {
      opened = k.within.opened;
      known = k.within.known;
      numbers = k.within.numbers;
      changes = k.within.changes;
      sessions = s;
      held = h;
      room = k.within.room;
    };
    history = k.history;
    fits = λ fits. fits;
  })

  stays : (new : Machine) → new ≡ old → Leaves old new
  stays new e = seats new old.sessions old.tx_slots old.begun k.within.sessions k.within.held e

  places_alone : (new : Machine) → count_held new.tx_slots ≤ count_held old.tx_slots → new ≡ record old { tx_slots = new.tx_slots } → Leaves old new
  places_alone new fewer e = seats new old.sessions new.tx_slots old.begun k.within.sessions (omega (arith, fewer, k.within.held)) e

  -- one change more
  longer : (new : Machine) (element : Element) (commits : List Commit) (tx_slots : TxSlots) → count_held tx_slots ≤ MOST_TRANSACTIONS → 0 < length element.ops →
      AreLegalChanges (trees_now old) element.ops element.moment → room_refusal old (element_encoded_len element) ≡ None →
      new ≡ record old { accepted = old.accepted ++ element ∷ []; commits = commits; room = old.room + room_of element; tx_slots = tx_slots } → Leaves old new
  longer new element commits tx_slots h some l free e =
      let r = has_room old element free in
      let more = length-append old.accepted (element ∷ []) in
      let left : drop (old.durable - old.before) (old.accepted ++ element ∷ []) ≡ pending old ++ element ∷ [] = drop-append-le (old.durable - old.before) old.accepted (element ∷ []) (omega (arith, k.within.known, k.within.opened)) in
      subst (Leaves old) (sym e) (record {
        within = record {
          opened = k.within.opened;
          known = omega (arith, k.within.known, more);
          numbers = omega (arith, r.1, more);
          changes = omega (arith, r.0, more);
          sessions = k.within.sessions;
          held = h;
          room = omega (arith, k.within.room, ap room_with left, one_more_room (pending old) element);
        };
        history = history_more old.opened old.accepted element k.history some l;
        fits = λ fits. r.2;
      })

  -- room and what is durable
  settles : (new : Machine) (durable room : ℕ) → old.durable ≤ durable → durable ≤ last_number old → ((room ≡ old.room) ⊎ ((durable ≡ old.durable) × (room ≡ room_with (pending old)))) →
      new ≡ record old { durable = durable; room = room } → Leaves old new
  settles new durable room up known how e = subst (Leaves old) (sym e) (record {
    within = record {
      opened = omega (arith, k.within.opened, up);
      known = known;
      numbers = k.within.numbers;
      changes = k.within.changes;
      sessions = k.within.sessions;
      held = k.within.held;
      room = enough how;
    };
    history = k.history;
    fits = fits how;
  })
    where
      later : room_with (drop (durable - old.before) old.accepted) ≤ room_with (pending old)
      later = drop_later (old.durable - old.before) (durable - old.before) old.accepted (omega (arith, up))

      enough : ((room ≡ old.room) ⊎ ((durable ≡ old.durable) × (room ≡ room_with (pending old)))) → room_with (drop (durable - old.before) old.accepted) ≤ room
      enough (inl same) = omega (arith, later, k.within.room, same)
      enough (inr ends) = omega (arith, later, ends.1)

      fits : ((room ≡ old.room) ⊎ ((durable ≡ old.durable) × (room ≡ room_with (pending old)))) → old.room ≤ MOST_JOURNAL_BYTES → room ≤ MOST_JOURNAL_BYTES
      fits (inl same) le = omega (arith, same, le)
      fits (inr ends) le = omega (arith, k.within.room, ends.1, le)

  broken : (new : Machine) (failures : ℕ) → new ≡ record old { failures = failures; faulted = true } → Leaves old new
  broken new failures e = subst (Leaves old) (sym e) (record {
    within = record {
      opened = k.within.opened;
      known = k.within.known;
      numbers = k.within.numbers;
      changes = k.within.changes;
      sessions = k.within.sessions;
      held = k.within.held;
      room = k.within.room;
    };
    history = k.history;
    fits = λ fits. fits;
  })

  fails : (new : Machine) (wanted : Option Refusal) (r : Refusal) → StepFails old wanted r new → Leaves old new
  fails new wanted r (inl h) = stays new h.1
  fails new wanted r (inr h) = broken new new.failures h.1.next

  starts : (new : Machine) (session : ℕ) → start_refusal old session ≡ None → new ≡ with_session old session → Leaves old new
  starts new session free e = by_case (is_open old session) (none_first (fault old) (refused_if (not (is_open old session) && nat_le MOST_SESSIONS (length old.sessions)) NoSeat) free).1 e
    where
      by_case : (t : Bool) → refused_if (not t && nat_le MOST_SESSIONS (length old.sessions)) NoSeat ≡ None → new ≡ cond t old (record old { sessions = old.sessions ++ session ∷ [] }) → Leaves old new
      by_case true f e = stays new e
      by_case false f e =
          let few : length old.sessions < MOST_SESSIONS = below MOST_SESSIONS (length old.sessions) (not_refused _ NoSeat f) in
          seats new (old.sessions ++ session ∷ []) old.tx_slots old.begun (omega (arith, few, length-append old.sessions (session ∷ []))) k.within.held e

  ends : (new : Machine) (session : ℕ) → count_held new.tx_slots ≤ count_held old.tx_slots → Ends old session new → Leaves old new
  ends new session fewer e = seats new _ new.tx_slots old.begun (omega (arith, short (λ s. not (s == session)) old.sessions, k.within.sessions)) (omega (arith, fewer, k.within.held)) e.next

  begins : (new : Machine) (session : ℕ) (id : List ℕ) (tx : Tx) → Begins old session id tx new → Leaves old new
  begins new session id tx b =
      let f = none_first (fault old) _ b.free in
      let g = none_first (closed_refusal old session) _ f.1 in
      let few : count_held old.tx_slots < MOST_TRANSACTIONS = below MOST_TRANSACTIONS (count_held old.tx_slots) (neither _ _ (not_refused _ NoSeat g.1)).0 in
      let more : count_held new.tx_slots ≤ count_held old.tx_slots + 1 = one_more old.tx_slots new.tx_slots tx.slot (λ q differs there. subst IsSome (b.starts.put.others q differs) there) in
      seats new old.sessions new.tx_slots (old.begun + 1) k.within.sessions (omega (arith, few, more)) b.next

  accepts : (new : Machine) (session moment : ℕ) (op : Op) (levels : Option ℕ) (number : ℕ) → count_held new.tx_slots ≤ count_held old.tx_slots → AcceptsWrite old session moment op levels number new → Leaves old new
  accepts new session moment op levels number fewer a =
      let f = none_first (fault old) _ a.free in
      let g = none_first (call_refusal old session (hive_of op)) _ f.1 in
      let free : room_refusal old (element_encoded_len (change moment op)) ≡ None = ap (λ j. refusal_by j (room_refusal old (element_encoded_len (change moment op)))) (sym a.is_legal) ∙ g.1 in
      longer new (change moment op) old.commits new.tx_slots (omega (arith, fewer, k.within.held)) (omega arith) (a.is_legal, tt) free a.next

  commits : (new : Machine) (session : ℕ) (tx : Tx) (moment number : ℕ) → count_held new.tx_slots ≤ count_held old.tx_slots → CommitsTx old session tx moment number new → Leaves old new
  commits new session tx moment number fewer c = by_case (length c.one.ops == 0) refl g.1 c.next
    where
      f : (fault old ≡ None) × (commit_refusal_if old moment (Some c.one) ≡ None)
      f = none_first (fault old) (commit_refusal_if old moment (Some c.one)) c.free

      g : (inactive_refusal (Some c.one) ≡ None) × (commit_refusal old moment c.one ≡ None)
      g = none_first (inactive_refusal (Some c.one)) (commit_refusal old moment c.one) f.1

      active : IsActiveAt old.tx_slots tx.slot c.one
      active = record { there = (found_at old session tx c.one c.found).0; active = active_of c.one g.0 }

      by_case : (t : Bool) → (length c.one.ops == 0) ≡ t
          → cond t None (first_of (refused_if (any_outweighs (trees_now old) (committed old c.one) moment) TooLarge) (room_refusal old (element_encoded_len (commit_change old moment c.one)))) ≡ None
          → new ≡ record (cond t old (with_commit old moment c.one)) { tx_slots = new.tx_slots } → Leaves old new
      by_case true t free e = places_alone new fewer e
      by_case false t free e =
          let p = none_first (refused_if (any_outweighs (trees_now old) (committed old c.one) moment) TooLarge) (room_refusal old (element_encoded_len (commit_change old moment c.one))) free in
          let light = not_refused (any_outweighs (trees_now old) (committed old c.one) moment) TooLarge p.0 in
          longer new (commit_change old moment c.one) (old.commits ++ next_commit old c.one ∷ []) new.tx_slots (omega (arith, fewer, k.within.held))
          (more_ops c.one.ops (commit_ops old c.one) (some_ops c.one.ops t)) (law old tx.slot c.one moment k active light) p.1 e

  journals : (new : Machine) (progress : Progress) → Journals old progress new → Leaves old new
  journals new progress j = settles new new.durable new.room j.grows j.within (how j.room) j.next
    where
      how : (new.room ≡ old.room) ⊎ EndsTrim old progress new → (new.room ≡ old.room) ⊎ ((new.durable ≡ old.durable) × (new.room ≡ room_with (pending old)))
      how (inl same) = inl same
      how (inr ends) = inr (ends.durable, ends.room)

  trims : (new : Machine) (progress : Progress) → Trims old progress new → Leaves old new
  trims new progress t = settles new old.durable new.room (omega arith) k.within.known (how t.room) t.next
    where
      how : (new.room ≡ old.room) ⊎ EndsTrim old progress new → (new.room ≡ old.room) ⊎ ((old.durable ≡ old.durable) × (new.room ≡ room_with (pending old)))
      how (inl same) = inl same
      how (inr ends) = inr (refl, ends.room)

  -- the history is folded
  folds : (new : Machine) → last_number old ≤ old.durable → new ≡ folded old → Leaves old new
  folds new all e = subst (Leaves old) (sym e) (record {
    within = record {
      opened = all;
      known = omega (arith, k.within.known);
      numbers = omega (arith, k.within.numbers);
      changes = omega arith;
      sessions = k.within.sessions;
      held = k.within.held;
      room = omega (arith, rest_less (old.durable - last_number old) [], k.within.room);
    };
    history = tt;
    fits = λ fits. fits;
  })

  module _ (new : Machine) where
    Left : Type 0
    Left = Leaves old new

    leaves : (e : Event) (r : Reply) → Step old e r new → Leaves old new
    leaves (event.StartSession session) r s = done_or (λ r. Leaves old new) _ _ r s (λ d. starts new session d.0 d.1) (λ e f. stays new f.1)
    leaves (event.EndSession session) r s = done_or (λ r. Leaves old new) _ _ r s (λ d. ends new session (held_after old new None refl (way old new (event.EndSession session) reply.Done d)) d) (λ e f. stays new f.1)
    leaves (event.Read session hive path question) r s = read_or (λ r. Leaves old new) _ _ r s (λ v d. stays new d.next) (λ e f. stays new f.1)
    leaves (event.Write session moment op) r s =
        accepted_or (λ r. Leaves old new) _ _ _ r s (λ l n d. accepts new session moment op l n (held_after old new None refl (way old new (event.Write session moment op) (reply.Accepted l n) d)) d) (λ d. stays new d.next) (λ e f. stays new f.1)
    leaves (event.Begin session id) r s = begun_or (λ r. Leaves old new) _ _ r s (λ tx d. begins new session id tx d) (λ e f. stays new f.1)
    leaves (event.TxRead session tx hive path question) r s = read_or (λ r. Leaves old new) _ _ r s (λ v d. stays new d.next) (λ e f. stays new f.1)
    leaves (event.TxWrite session tx moment op) r s =
        added_or (λ r. Leaves old new) _ _ _ r s (λ l d. places_alone new (held_after old new None refl (way old new (event.TxWrite session tx moment op) (reply.Added l) d)) d.1.1) (λ d. stays new d.2) (λ e f. stays new f.1)
    leaves (event.CommitAccept session tx moment) r s =
        awaits_or (λ r. Leaves old new) _ _ r s (λ n d. commits new session tx moment n (held_after old new None refl (way old new (event.CommitAccept session tx moment) (reply.Awaits n) d)) d) (λ e f. stays new f.1)
    leaves (event.Rollback session tx) r s =
        done_or (λ r. Leaves old new) _ _ r s (λ d. places_alone new (held_after old new None refl (way old new (event.Rollback session tx) reply.Done d)) d.1) (λ e f. stays new f.1)
    leaves (event.Close session tx) r s =
        done_or (λ r. Leaves old new) _ _ r s (λ d. places_alone new (held_after old new None refl (way old new (event.Close session tx) reply.Done d)) d.1) (λ e f. stays new f.1)
    leaves (event.Outcome session tx) r s = outcome_or (λ r. Leaves old new) _ _ r s (λ o d. stays new d.next) (λ e f. stays new f.1)
    leaves (event.OutcomeOf id) r s = committed_as_or (λ r. Leaves old new) _ _ r s (λ n d. stays new d.next) (λ e f. stays new f.1)
    leaves event.FlushAsk r s = awaits_or (λ r. Leaves old new) _ _ r s (λ n d. stays new d.2) (λ e f. stays new f.1)
    leaves (event.Acked number) r s = receipt_or (λ r. Leaves old new) _ _ _ r s (λ n d. stays new d.2) (λ d. stays new d.2) (λ e f. stays new f.1.1)
    leaves event.Fold r s = folded_or (λ r. Leaves old new) _ _ _ r s (λ n d. folds new d.all_durable d.next) (λ d. stays new d.2) (λ e f. stays new f.1)
    leaves event.JournalStep r s = stepped_or (λ r. Leaves old new) _ _ r s (λ p d. journals new p d) (λ e f. fails new _ e f)
    leaves (event.FlusherStep hive) r s = stepped_or (λ r. Leaves old new) _ _ r s (λ p d. stays new d.next) (λ e f. fails new _ e f)
    leaves event.TrimStep r s = stepped_or (λ r. Leaves old new) _ _ r s (λ p d. trims new p d) (λ e f. fails new _ e f)

-- numbers, slots and room after a step
pub within_after : Within → (old new : Machine) (e : Event) (r : Reply) → InvariantHolds old → Step old e r new → IsWithin new
within_after law old new e r k s = (leaves law old k new e r s).within

-- the changes that were accepted
pub history_after : Within → (old new : Machine) (e : Event) (r : Reply) → InvariantHolds old → Step old e r new → AreLegalHistory new.opened new.accepted
history_after law old new e r k s = (leaves law old k new e r s).history

-- the room
pub fits_after : Within → (old new : Machine) (e : Event) (r : Reply) → InvariantHolds old → Step old e r new → old.room ≤ MOST_JOURNAL_BYTES → new.room ≤ MOST_JOURNAL_BYTES
fits_after law old new e r k s = (leaves law old k new e r s).fits

-- as a store is opened
pub within_at_first : (bounds : StoreBounds) (trees : List TreeMap) (number : ℕ) (journaled : List Element) (failures : ℕ) → number ≤ GREATEST_NUMBER → IsWithin (opened_machine bounds trees number journaled failures)
within_at_first bounds trees number journaled failures few = record {
  opened = omega arith;
  known = omega arith;
  numbers = omega (arith, few);
  changes = omega arith;
  sessions = omega arith;
  held = omega arith;
  room = omega (arith, rest_less (number - number) []);
}
