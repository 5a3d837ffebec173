-- Handles are given once, and a handle that is gone stays so.
use Rattle.std.proofs.Common.{◌≡◌, inl, inr, ℕ, ◌<◌, ◌≤◌, ◌==◌, ◌&&◌, Bool, true, false, List, [], ◌∷◌, map, Option, Some, None, cond, refl, sym, ◌∙◌, ap, subst, arith}
use Rattle.std.specs.List.{AllByRecursion, cons_option}
use Rattle.std.specs.Option.{option_and_then}
use Rattle.std.specs.List.Sorted.{IsStrictlySortedBy}
use Rattle.std.specs.Ordering.{nat_cmp}
use Rattle.std.specs.declared.cmp.Ordering.TheVariants.{Less}
use Rattle.std.specs.Cmp.{nat_cmp_is}
use Rattle.std.proofs.lemmas.Bool.{eqb-true}
use Rattle.store_model.specs.Transactions.{Transaction, at, own_if, own, gone_with, with_op, fresh_transaction}
use Rattle.store_model.specs.Machine.{Machine, is_open, found_in}
use Rattle.store_model.specs.Acts.{ClosesTx}
use Rattle.store_model.specs.Steps.{Run, Ends, ChangesSlots}
use Rattle.store_model.specs.Invariant.{InvariantHolds, IsCounted, IsGone, handle_in, given, numbers_given}
use Rattle.store_model.specs.declared.handle.Tx.{Tx}
use Rattle.store_model.specs.declared.event.Event.{Event}
use Rattle.store_model.specs.declared.event.Reply.{Reply}
use Rattle.store_model.proofs.TransactionChanges.{found_at, own_at, Descends, Way, Fewer, Wrote, Longer, Accepted, Began, way, put_or_not, put_descends}

pub counted : (old new : Machine) (handle : Option Tx) → Way old new handle → IsCounted old handle new
counted old new _ (Fewer b t d r) = b
counted old new _ (Wrote op moment b t d r) = b
counted old new _ (Longer slot moment op one b t a l c n p) = b
counted old new _ (Accepted slot moment one b t a d r) = b
counted old new _ (Began tx session id n b t p) = (n, b)

-- Numbers rise

abbrev numbers : List Tx → List ℕ
numbers handles = map (λ tx. tx.generation) handles

first_above : (old mid : Machine) (handle : Option Tx) (later : List Tx) (least : ℕ) → IsCounted old handle mid → least ≤ old.begun →
    (least ≤ mid.begun → AllByRecursion (λ n. nat_cmp least n ≡ Less) (numbers later)) → AllByRecursion (λ n. nat_cmp least n ≡ Less) (numbers (cons_option handle later))
first_above old mid None later least c le rest = rest (omega (arith, c, le))
first_above old mid (Some tx) later least c le rest =
    let lt : least < tx.generation = omega (arith, c.0, le) in
    (sym (nat_cmp_is least tx.generation Less lt), rest (omega (arith, c.0, c.1, le)))

-- the numbers along a run are above how many were begun before it
numbers_above : (old new : Machine) (events : List Event) (replies : List Reply) (least : ℕ) → Run old events replies new → least ≤ old.begun → AllByRecursion (λ n. nat_cmp least n ≡ Less) (numbers_given replies)
numbers_above old new [] [] least run le = tt
numbers_above old new [] (r ∷ replies) least run le = absurd run
numbers_above old new (e ∷ events) [] least run le = absurd run
numbers_above old new (e ∷ events) (r ∷ replies) least run le =
    first_above old run.0 (handle_in r) (given replies) least (counted old run.0 (handle_in r) (way old run.0 e r run.1)) le
    (λ m. numbers_above run.0 new events replies least run.2 m)

first_rises : (old mid : Machine) (handle : Option Tx) (later : List Tx) → IsCounted old handle mid →
    ((least : ℕ) → least ≤ mid.begun → AllByRecursion (λ n. nat_cmp least n ≡ Less) (numbers later)) → IsStrictlySortedBy nat_cmp (numbers later) → IsStrictlySortedBy nat_cmp (numbers (cons_option handle later))
unfolding IsStrictlySortedBy
first_rises old mid None later c higher rest = rest
first_rises old mid (Some tx) later c higher rest = (higher tx.generation (omega (arith, c.1)), rest)

pub numbers_rise : (old new : Machine) (events : List Event) (replies : List Reply) → Run old events replies new → IsStrictlySortedBy nat_cmp (numbers_given replies)
unfolding IsStrictlySortedBy
numbers_rise old new [] [] run = tt
numbers_rise old new [] (r ∷ replies) run = absurd run
numbers_rise old new (e ∷ events) [] run = absurd run
numbers_rise old new (e ∷ events) (r ∷ replies) run =
    first_rises old run.0 (handle_in r) (given replies) (counted old run.0 (handle_in r) (way old run.0 e r run.1))
    (λ least m. numbers_above run.0 new events replies least run.2 m) (numbers_rise run.0 new events replies run.2)

-- What is gone stays so

descended : (old new : Machine) (tx : Tx) → new.begun ≡ old.begun → Descends old.tx_slots new.tx_slots → IsGone old tx → IsGone new tx
descended old new tx b d g = record {
  was_begun = omega (arith, g.was_begun, b);
  not_there = λ one e same. let k = d tx.slot one e in g.not_there k.0 k.1 (k.2 ∙ same);
}

pub still_gone : (old new : Machine) (handle : Option Tx) (tx : Tx) → Way old new handle → IsGone old tx → IsGone new tx
still_gone old new _ tx (Fewer b t d r) g = descended old new tx b d g
still_gone old new _ tx (Wrote op moment b t d r) g = descended old new tx b d g
still_gone old new _ tx (Accepted slot moment one b t a d r) g = descended old new tx b d g
still_gone old new _ tx (Longer slot moment op one b t a l c n p) g =
    descended old new tx b (put_descends old.tx_slots new.tx_slots slot (Some (with_op one op moment)) p (λ x e. (one, a.there, ap (λ (t : Transaction). t.generation) (let same : with_op one op moment ≡ x = cc e in same)))) g
still_gone old new _ tx (Began handle session id n b t p) g = record {
  was_begun = omega (arith, g.was_begun, n, b);
  not_there = λ one e same. elim (put_or_not old.tx_slots new.tx_slots handle.slot (Some (fresh_transaction session id handle.generation)) p tx.slot one e) [
    | inl s ↦
        let its : handle.generation ≡ one.generation = ap (λ (t : Transaction). t.generation) (let is : fresh_transaction session id handle.generation ≡ one = cc (s.1) in is) in
        absurd (omega (arith, its, same, n, g.was_begun))
    | inr m ↦ g.not_there one m.1 same
  ];
}

pub gone_for_good : (old new : Machine) (events : List Event) (replies : List Reply) (tx : Tx) → IsGone old tx → Run old events replies new → IsGone new tx
gone_for_good old new [] [] tx g run = subst (λ m. IsGone m tx) (sym run) g
gone_for_good old new [] (r ∷ replies) tx g run = absurd run
gone_for_good old new (e ∷ events) [] tx g run = absurd run
gone_for_good old new (e ∷ events) (r ∷ replies) tx g run = gone_for_good run.0 new events replies tx (still_gone old run.0 (handle_in r) tx (way old run.0 e r run.1) g) run.2

-- What is dropped is gone, and is not found

pub closed_gone : (old new : Machine) (session : ℕ) (tx : Tx) → InvariantHolds old → ChangesSlots old (ClosesTx old.tx_slots (found_in old session tx) tx.slot new.tx_slots) new → IsGone new tx
closed_gone old new session tx kept (c, next) =
    let f = found_at old session tx c.one c.found in
    let begun : new.begun ≡ old.begun = ap (λ (m : Machine). m.begun) next in
    let known : c.one.generation ≤ old.begun = kept.known tx.slot c.one f.0 in
    record { was_begun = omega (arith, f.1, known, begun); not_there = λ one e same. absurd (let none : None ≡ Some one = sym c.put.there ∙ e in cc none) }

pub ended_gone : (old new : Machine) (session : ℕ) (tx : Tx) (one : Transaction) → InvariantHolds old → own old.tx_slots session tx ≡ Some one → Ends old session new → IsGone new tx
ended_gone old new session tx one kept found e =
    let f = own_at session tx.generation (at old.tx_slots tx.slot) one found in
    let begun : new.begun ≡ old.begun = ap (λ (m : Machine). m.begun) e.next in
    let known : one.generation ≤ old.begun = kept.known tx.slot one f.0 in
    let none : at new.tx_slots tx.slot ≡ None = e.gone tx.slot ∙ ap (option_and_then (gone_with session)) f.0 ∙ ap (λ t. cond t None (Some one)) f.2 in
    record { was_begun = omega (arith, f.1, known, begun); not_there = λ x is same. absurd (let bad : None ≡ Some x = sym none ∙ is in cc bad) }

pub not_own : (machine : Machine) (session : ℕ) (tx : Tx) → IsGone machine tx → own machine.tx_slots session tx ≡ None
not_own machine session tx g = by_content (at machine.tx_slots tx.slot) refl
  where
    by_content : (o : Option Transaction) → at machine.tx_slots tx.slot ≡ o → own_if session tx.generation o ≡ None
    by_content None e = refl
    by_content (Some one) e = by_tests (one.session == session) (one.generation == tx.generation) refl
      where
        by_tests : (a b : Bool) → (one.generation == tx.generation) ≡ b → cond (a && b) (Some one) None ≡ None
        by_tests true true t = absurd (g.not_there one e (eqb-true one.generation tx.generation t))
        by_tests true false t = refl
        by_tests false b t = refl

pub not_found : (machine : Machine) (session : ℕ) (tx : Tx) → IsGone machine tx → found_in machine session tx ≡ None
not_found machine session tx g = opened (is_open machine session)
  where
    opened : (t : Bool) → cond t (own machine.tx_slots session tx) None ≡ None
    opened true = not_own machine session tx g
    opened false = refl
