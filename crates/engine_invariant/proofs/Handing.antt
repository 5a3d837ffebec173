-- What is pending may be handed to the journal.
use Rattle.std.proofs.Common.{◌≡◌, ℕ, zero, suc, ◌+◌, ◌-◌, List, [], ◌∷◌, length, drop, sym, ◌∙◌, ap, subst, arith}
use Rattle.std.specs.List.{AllByRecursion}
use Rattle.std.proofs.lemmas.List.{drop-map}
use Rattle.refusals.specs.declared.limits.TheConstants.{GREATEST_NUMBER}
use Rattle.reg_tree.specs.Maps.{TreeMap}
use Rattle.reg_tree.specs.Judgement.{applied}
use Rattle.reg_tree.specs.declared.element.Element.{Element}
use Rattle.crash_model.specs.Changes as law
use Rattle.crash_model.specs.Promises.{Choice, Content, MayFollow}
use Rattle.crash_model.specs.Invariant.{State}
use Rattle.crash_model.specs.Invariant as kept
use Rattle.crash_model.specs.Steps.{pending_elements}
use Rattle.store_model.specs.Machine.{Machine, pending}
use Rattle.store_model.specs.Invariant.{AreLegalHistory}
use Rattle.change_codec.specs.ModelChanges.{TimedOp, timed_element, timed_elements}
use Rattle.commit_journal.specs.Handed.{IsHanded, OnHives, IsShort}
use Rattle.commit_journal.specs.Store.{room_of}
use Rattle.engine_invariant.specs.Rules.{rules}
use Rattle.engine_invariant.specs.States.{HiveView, state_of, IsConsistent}
use Rattle.store_model.proofs.TreeCounts.{ops_long}
use Rattle.engine_invariant.proofs.Bridge.{number_is, ops_there}
use Rattle.engine_invariant.proofs.Room.{rooms_are}

all_there : (ts : List TreeMap) (es : List Element) (n : ℕ) → length ts ≡ n → AreLegalHistory ts es → AllByRecursion (OnHives n) es
all_there ts [] n e h = tt
all_there ts (x ∷ xs) n e (some, lawful, rest) = (subst (λ k. OnHives k x) e (ops_there ts x.ops x.moment lawful), all_there (applied ts x.ops x.moment) xs n (ops_long ts x.ops x.moment ∙ e) rest)

all_dropped : {A : Type 0} (P : A → Type 0) (k : ℕ) (xs : List A) → AllByRecursion P xs → AllByRecursion P (drop k xs)
all_dropped P zero [] h = h
all_dropped P zero (x ∷ xs) h = h
all_dropped P (suc k) [] h = h
all_dropped P (suc k) (x ∷ xs) h = all_dropped P k xs h.1

pub may_be_handed : ((named : ℕ) (s : State TreeMap TimedOp) (hives : ℕ) → kept.InvariantHolds (rules named) GREATEST_NUMBER hives s → MayFollow GREATEST_NUMBER s.durable (pending_elements s) s.journal.now)
    → (m : Machine) (base : ℕ) (opened : List Element) (journal : Choice (Content TimedOp)) (hives : List HiveView) → IsConsistent m base opened journal hives → AllByRecursion IsShort (pending m)
    → IsHanded (length hives) (65 + room_of journal.now.elements) (m.durable + 1) (pending m) journal.now
may_be_handed follows m base opened journal hives i short =
    let pending_is : pending_elements (state_of m base opened journal hives) ≡ timed_elements (pending m) = ap (λ k. drop (m.durable - k) (timed_elements m.accepted)) (number_is m base opened i.begun) ∙ drop-map timed_element (m.durable - m.before) m.accepted in
    let one : m.durable ≡ m.durable + 1 - 1 = omega arith in
    record {
      number = omega arith;
      continue_at = subst (λ d. MayFollow GREATEST_NUMBER d (timed_elements (pending m)) journal.now) one
          (subst (λ (es : List (law.Element TimedOp)). MayFollow GREATEST_NUMBER m.durable es journal.now) pending_is (follows m.bounds.hives (state_of m base opened journal hives) (length m.opened) i.law));
      there = all_dropped (OnHives (length hives)) (m.durable - m.before) m.accepted (all_there m.opened m.accepted (length hives) (sym i.all) i.kept.history);
      short = short;
      room = λ some. omega (arith, i.fits some, i.room, rooms_are (pending m));
    }
