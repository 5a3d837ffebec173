-- Each way of a step keeps what every state keeps.
use Rattle.std.proofs.Common.{◌≡◌, ◌≢◌, ◌⊎◌, inl, inr, ◌↔◌, ℕ, zero, suc, ◌+◌, ◌<◌, ◌≤◌, ◌==◌, ◌&&◌, ◌||◌, not, Bool, true, false, List, [], ◌∷◌, ◌++◌, map, Option, Some, None, Result, Ok, Err, cond, refl, sym, ◌∙◌, ap, subst, arith}
use Rattle.std.specs.Prelude.{slice_get, Contains, ⊤}
use Rattle.std.proofs.lemmas.Bool.Decides.{eqb_tells}
use Rattle.std.proofs.lemmas.List.Elements.{All-append, All-cons, All-nil}
use Rattle.std.specs.List.{AllByRecursion, list_any}
use Rattle.refusals.specs.declared.refusal.Refusal.{Refusal}
use Rattle.refusals.specs.declared.limits.TheConstants.{GREATEST_NUMBER, MOST_JOURNAL_BYTES}
use Rattle.reg_tree.specs.Maps.{TreeMap}
use Rattle.reg_tree.specs.Operations.{hive_of}
use Rattle.reg_tree.specs.Judgement.{judged, legal, legal_if, legal_after, applied}
use Rattle.reg_tree.specs.Sequences.{AreTrees, after_elements}
use Rattle.reg_tree.specs.declared.element.Element.{Element}
use Rattle.reg_tree.specs.declared.op.Op.{Op}
use Rattle.reg_tree.specs.declared.op.Legality.{Legality}
use Rattle.reg_tree.specs.declared.op.Legality.TheVariants.{Legal, Opened}
use Rattle.conflicts.specs.Skeleton.{Claim, Conflict}
use Rattle.conflicts.specs.Claims.{claim_of, meets}
use Rattle.conflicts.specs.Holders.{HeldClaim, each_once, holders_of, IsHolder}
use Rattle.conflicts.specs.TreeOutlines.{judged_if, judged_in, AreCarriedOut, OpsDontConflict}
use Rattle.slab.specs.Slab.{entries_from}
use Rattle.store_model.specs.Transactions.{Transaction, TxSlots, SetsSlot, at, view, is_active, holds, is_claimed, fresh_transaction, with_op}
use Rattle.store_model.specs.Machine.{Machine, committed, trees_now, opened_machine}
use Rattle.store_model.specs.Steps.{Step, Run}
use Rattle.store_model.specs.Invariant.{HivesAreNamable, IsActiveAt, InvariantHolds, OutcomesFit, handle_in}
use Rattle.store_model.specs.declared.bounds.StoreBounds.{StoreBounds}
use Rattle.store_model.specs.declared.handle.Tx.{Tx}
use Rattle.store_model.specs.declared.event.Event.{Event}
use Rattle.store_model.specs.declared.event.Reply.{Reply}
use Rattle.store_model.proofs.Accepting.{bounds_stay}
use Rattle.store_model.proofs.AtCommit.{WeightAlone, Within, commit_apart, commit_within}
use Rattle.store_model.proofs.Limits.{within_after, history_after, fits_after, within_at_first}
use Rattle.store_model.proofs.Outcomes.{KeptLaws, outcomes_after, outcomes_at_first}
use Rattle.store_model.proofs.TransactionChanges.{Descends, RemainsIf, Way, Fewer, Wrote, Longer, Accepted, Began, way, put_or_not, put_descends}

-- the laws of trees and of claims, as they are handed in
pub record Laws : Type 0 where
  pub trees : (trees : List TreeMap) (elements : List Element) → AreTrees trees → AreTrees (after_elements trees elements)
  pub past : (trees : List TreeMap) (first ops : List Op) (m n k : ℕ) → AreTrees trees → OpsDontConflict first ops → AreCarriedOut trees ops m → AreCarriedOut (applied trees first n) ops k
  pub more : (trees : List TreeMap) (ops : List Op) (op : Op) (m k : ℕ) → AreTrees trees → AreCarriedOut trees ops m → judged_in (applied trees ops m) op ≡ Ok Legal → AreCarriedOut trees (ops ++ op ∷ []) k
  pub light : WeightAlone
  pub outcomes : KeptLaws
  pub holders : (held : List HeldClaim) (asker : Option ℕ) (claim : Claim) (owner : ℕ) → Contains (holders_of held asker claim) owner ↔ IsHolder held asker claim owner

pub within : Laws → Within
within laws = commit_within laws.light laws.outcomes.at_commit

-- What is kept of trees and transactions

record Part (machine : Machine) : Type 0 where
  trees : AreTrees (trees_now machine)
  known : (slot : ℕ) (one : Transaction) → at machine.tx_slots slot ≡ Some one → one.generation ≤ machine.begun
  carried : (slot : ℕ) (one : Transaction) → IsActiveAt machine.tx_slots slot one → (moment : ℕ) → AreCarriedOut (trees_now machine) one.ops moment
  apart : (slot other : ℕ) (one two : Transaction) → slot ≢ other → IsActiveAt machine.tx_slots slot one → IsActiveAt machine.tx_slots other two → OpsDontConflict one.ops two.ops
  named : (slot : ℕ) (one : Transaction) → IsActiveAt machine.tx_slots slot one → HivesAreNamable machine.bounds.hives one.ops

-- A legal operation may be carried out

judged_of : (op : Op) (j : Result Legality Refusal) (total : ℕ) → legal_after op j total ≡ Ok Legal → j ≡ Ok Legal
judged_of op (Ok Legal) total e = refl
judged_of op (Ok Opened) total e = absurd cc
judged_of op (Err r) total e = absurd cc

judged_legal : (trees : List TreeMap) (op : Op) → legal trees op ≡ Ok Legal → judged_in trees op ≡ Ok Legal
judged_legal trees op e = by_hive (slice_get trees (hive_of op)) e
  where
    by_hive : (o : Option TreeMap) → legal_if o op ≡ Ok Legal → judged_if o op ≡ Ok Legal
    by_hive None e = absurd cc
    by_hive (Some tree) e = judged_of op (judged tree op) _ e

-- Claims that do not conflict

not_any : {X : Type 0} (p : X → Bool) (x : X) (xs : List X) → list_any p (x ∷ xs) ≡ false → (p x ≡ false) × (list_any p xs ≡ false)
not_any p x xs e = by_case (p x) refl e
  where
    by_case : (t : Bool) → p x ≡ t → (t || list_any p xs) ≡ false → (p x ≡ false) × (list_any p xs ≡ false)
    by_case true h e = absurd cc
    by_case false h e = (h, e)

other_way : (c d : Claim) → Conflict c d → Conflict d c
other_way c d (inl e) = inl (sym e.0, sym e.1)
other_way c d (inr (inl p)) = inr (inr p)
other_way c d (inr (inr p)) = inr (inl p)

-- Transactions that hold no claim which conflicts with one

-- if no entry passes a test, what is in a slot does not
none_at : (test : ℕ × Transaction → Bool) (first : ℕ) (tx_slots : TxSlots) → list_any test (entries_from first tx_slots) ≡ false → (q : ℕ) (one : Transaction) → at tx_slots q ≡ Some one → test (first + q, one) ≡ false
none_at test first [] e zero one is = absurd cc
none_at test first [] e (suc q) one is = absurd cc
none_at test first (None ∷ tx_slots) e zero one is = absurd cc
none_at test first (None ∷ tx_slots) e (suc q) one is = subst (λ n. test (n, one) ≡ false) (omega arith) (none_at test (first + 1) tx_slots e q one is)
none_at test first (Some two ∷ tx_slots) e zero one is =
    subst (λ n. test (n, one) ≡ false) (omega arith) (ap (λ x. test (first, x)) (let same : one ≡ two = cc is in same) ∙ (not_any test (first, two) (entries_from (first + 1) tx_slots) e).0)
none_at test first (Some two ∷ tx_slots) e (suc q) one is =
    subst (λ n. test (n, one) ≡ false) (omega arith) (none_at test (first + 1) tx_slots (not_any test (first, two) (entries_from (first + 1) tx_slots) e).1 q one is)

abbrev meets_any : Claim → List Op → Bool
meets_any claim ops = list_any (λ op. meets claim (claim_of op)) ops

meets_none : (claim : Claim) (one : Transaction) → is_active one ≡ true → holds claim one ≡ false → meets_any claim one.ops ≡ false
meets_none claim one a h = ap (λ t. t && meets_any claim one.ops) (sym a) ∙ h

unclaimed : (tx_slots : TxSlots) (slot : ℕ) (claim : Claim) → is_claimed tx_slots slot claim ≡ false → (q : ℕ) (one : Transaction) → q ≢ slot → IsActiveAt tx_slots q one → meets_any claim one.ops ≡ false
unclaimed tx_slots slot claim e q one n a =
    meets_none claim one a.active (elsewhere (eqb_tells q slot) (subst (λ m. (not (m == slot) && holds claim one) ≡ false) (omega arith) (none_at (λ (e : ℕ × Transaction). not (e.0 == slot) && holds claim e.1) 0 tx_slots e q one a.there)))
  where
    elsewhere : (((q == slot) ≡ true) × (q ≡ slot)) ⊎ (((q == slot) ≡ false) × (q ≢ slot)) → (not (q == slot) && holds claim one) ≡ false → holds claim one ≡ false
    elsewhere (inl t) h = absurd (n t.1)
    elsewhere (inr f) h = ap (λ t. not t && holds claim one) (sym f.0) ∙ h

-- Lists of operations whose claims don't conflict

abbrev ApartFrom : Op → List Op → Type 0
ApartFrom op ops = AllByRecursion (λ o. Conflict (claim_of op) (claim_of o) → ⊥) ops

longer_apart : (ops others : List Op) (op : Op) → OpsDontConflict ops others → ApartFrom op others → OpsDontConflict (ops ++ op ∷ []) others
longer_apart [] others op a f = (f, tt)
longer_apart (o ∷ ops) others op a f = (a.0, longer_apart ops others op a.1 f)

one_longer : (first op : Op) (ops : List Op) → ApartFrom first ops → (Conflict (claim_of first) (claim_of op) → ⊥) → ApartFrom first (ops ++ op ∷ [])
one_longer first op [] a f = (f, tt)
one_longer first op (o ∷ ops) a f = (a.0, one_longer first op ops a.1 f)

apart_longer : (others ops : List Op) (op : Op) → OpsDontConflict others ops → ApartFrom op others → OpsDontConflict others (ops ++ op ∷ [])
apart_longer [] ops op a f = tt
apart_longer (o ∷ others) ops op a f = (one_longer o op ops a.0 (λ c. f.0 (other_way (claim_of o) (claim_of op) c)), apart_longer others ops op a.1 f.1)

apart_none : (ops : List Op) → OpsDontConflict ops []
apart_none [] = tt
apart_none (op ∷ ops) = (tt, apart_none ops)

-- Operations on hives that calls may name

one_more_named : (hives : ℕ) (ops : List Op) (op : Op) → HivesAreNamable hives ops → hive_of op < hives → HivesAreNamable hives (ops ++ op ∷ [])
one_more_named hives ops op n below =
    All-append (λ op. hive_of op < hives) ops (op ∷ []) n (All-cons (λ op. hive_of op < hives) op [] below (All-nil (λ op. hive_of op < hives)))

-- What is active in the slot into which a transaction was put

active_or_not : (old new : TxSlots) (slot : ℕ) (put one : Transaction) (q : ℕ) → SetsSlot old new slot (Some put) → IsActiveAt new q one → ((q ≡ slot) × (put ≡ one)) ⊎ ((q ≢ slot) × IsActiveAt old q one)
active_or_not old new slot put one q p a = elim (put_or_not old new slot (Some put) p q one a.there) [
  | inl s ↦ inl (s.0, cc (s.1))
  | inr n ↦ inr (n.0, record { there = n.1; active = a.active })
]

known_still : (old new : Machine) → new.begun ≡ old.begun → Descends old.tx_slots new.tx_slots → InvariantHolds old → (q : ℕ) (one : Transaction) → at new.tx_slots q ≡ Some one → one.generation ≤ new.begun
known_still old new b d k q one e =
    let was = d q one e in
    let le : was.0.generation ≤ old.begun = k.known q was.0 was.1 in
    omega (arith, le, was.2, b)

-- Each way

module _ (laws : Laws) where
  no_conflict : (c d : Claim) → meets c d ≡ false → Conflict c d → ⊥
  no_conflict c d e conflict =
      let one : HeldClaim = record { owner = 0; claim = d } in
      let found : Contains (holders_of (one ∷ []) None c) 0 = (laws.holders (one ∷ []) None c 0).1 (d, (0, omega arith, refl), conflict, λ h. cc) in
      let none : Contains {X = ℕ} [] 0 = subst (λ l. Contains l 0) (ap (λ t. each_once (map (λ (h : HeldClaim). h.owner) (cond t (one ∷ []) []))) e) found in
      absurd (omega (arith, none.1))

  -- an operation whose claim conflicts with none of theirs
  apart_from : (op : Op) (ops : List Op) → meets_any (claim_of op) ops ≡ false → ApartFrom op ops
  apart_from op [] e = tt
  apart_from op (o ∷ ops) e =
      let p = not_any (λ o. meets (claim_of op) (claim_of o)) o ops e in
      (no_conflict (claim_of op) (claim_of o) p.0, apart_from op ops p.1)

  module _ (old new : Machine) (k : InvariantHolds old) (bounds : new.bounds ≡ old.bounds) where
    trees_still : trees_now new ≡ trees_now old → AreTrees (trees_now new)
    trees_still t = subst AreTrees (sym t) k.trees

    trees_after : (ops : List Op) (moment : ℕ) → trees_now new ≡ applied (trees_now old) ops moment → AreTrees (trees_now new)
    trees_after ops moment t = subst AreTrees (sym t) (laws.trees (trees_now old) (record { moment = moment; ops = ops } ∷ []) k.trees)

    apart_still : (P : ℕ → Transaction → Type 0) → RemainsIf P old.tx_slots new.tx_slots → (p q : ℕ) (one two : Transaction) → p ≢ q → IsActiveAt new.tx_slots p one → IsActiveAt new.tx_slots q two → OpsDontConflict one.ops two.ops
    apart_still P r p q one two n a b = k.apart p q one two n (r p one a).0 (r q two b).0

    named_still : (ops : List Op) → HivesAreNamable old.bounds.hives ops → HivesAreNamable new.bounds.hives ops
    named_still ops n = subst (λ (b : StoreBounds). HivesAreNamable b.hives ops) (sym bounds) n

    named_after : (P : ℕ → Transaction → Type 0) → RemainsIf P old.tx_slots new.tx_slots → (q : ℕ) (one : Transaction) → IsActiveAt new.tx_slots q one → HivesAreNamable new.bounds.hives one.ops
    named_after P r q one a = named_still one.ops (k.named q one (r q one a).0)

    fewer : new.begun ≡ old.begun → trees_now new ≡ trees_now old → Descends old.tx_slots new.tx_slots → RemainsIf (λ q one. ⊤) old.tx_slots new.tx_slots → Part new
    fewer b t d r = record {
      trees = trees_still t;
      known = known_still old new b d k;
      carried = λ q one a m. subst (λ ts. AreCarriedOut ts one.ops m) (sym t) (k.carried q one (r q one a).0 m);
      apart = apart_still (λ q one. ⊤) r;
      named = named_after (λ q one. ⊤) r;
    }

    wrote : (op : Op) (moment : ℕ) → new.begun ≡ old.begun → trees_now new ≡ applied (trees_now old) (op ∷ []) moment → Descends old.tx_slots new.tx_slots →
        RemainsIf (λ q one. holds (claim_of op) one ≡ false) old.tx_slots new.tx_slots → Part new
    wrote op moment b t d r = record {
      trees = trees_after (op ∷ []) moment t;
      known = known_still old new b d k;
      carried = λ q one a m.
          let s = r q one a in
          subst (λ ts. AreCarriedOut ts one.ops m) (sym t)
          (laws.past (trees_now old) (op ∷ []) one.ops 0 moment m k.trees (apart_from op one.ops (meets_none (claim_of op) one a.active s.1), tt) (k.carried q one s.0 0));
      apart = apart_still (λ q one. holds (claim_of op) one ≡ false) r;
      named = named_after (λ q one. holds (claim_of op) one ≡ false) r;
    }

    accepted : (slot moment : ℕ) (taken : Transaction) → new.begun ≡ old.begun → trees_now new ≡ applied (trees_now old) (committed old taken) moment → IsActiveAt old.tx_slots slot taken →
        Descends old.tx_slots new.tx_slots → RemainsIf (λ q one. q ≢ slot) old.tx_slots new.tx_slots → Part new
    accepted slot moment taken b t was d r = record {
      trees = trees_after (committed old taken) moment t;
      known = known_still old new b d k;
      carried = λ q one a m.
          let s = r q one a in
          subst (λ ts. AreCarriedOut ts one.ops m) (sym t)
          (laws.past (trees_now old) (committed old taken) one.ops 0 moment m k.trees
          (commit_apart laws.outcomes.at_commit old taken k one.ops (k.apart slot q taken one (λ e. s.1 (sym e)) was s.0) (k.named q one s.0)) (k.carried q one s.0 0));
      apart = apart_still (λ q one. q ≢ slot) r;
      named = named_after (λ q one. q ≢ slot) r;
    }

    longer : (slot moment : ℕ) (op : Op) (was : Transaction) → new.begun ≡ old.begun → trees_now new ≡ trees_now old → IsActiveAt old.tx_slots slot was →
        legal (view (trees_now old) was) op ≡ Ok Legal → is_claimed old.tx_slots slot (claim_of op) ≡ false → hive_of op < old.bounds.hives → SetsSlot old.tx_slots new.tx_slots slot (Some (with_op was op moment)) → Part new
    longer slot moment op was b t there l unmet below p = record {
      trees = trees_still t;
      known = known_still old new b (put_descends old.tx_slots new.tx_slots slot (Some (with_op was op moment)) p (λ x e. (was, there.there, ap (λ (t : Transaction). t.generation) (let same : with_op was op moment ≡ x = cc e in same)))) k;
      carried = λ q one a m. subst (λ ts. AreCarriedOut ts one.ops m) (sym t) (elim (active_or_not old.tx_slots new.tx_slots slot (with_op was op moment) one q p a) [
        | inl s ↦ subst (λ (x : Transaction). AreCarriedOut (trees_now old) x.ops m) s.1
            (laws.more (trees_now old) was.ops op was.moment m k.trees (k.carried slot was there was.moment) (judged_legal (view (trees_now old) was) op l))
        | inr n ↦ k.carried q one n.1 m
      ]);
      apart = λ x y one two n a b. by_places x y one two n
          (active_or_not old.tx_slots new.tx_slots slot (with_op was op moment) one x p a) (active_or_not old.tx_slots new.tx_slots slot (with_op was op moment) two y p b);
      named = λ q one a. named_still one.ops (elim (active_or_not old.tx_slots new.tx_slots slot (with_op was op moment) one q p a) [
        | inl s ↦ subst (λ (x : Transaction). HivesAreNamable old.bounds.hives x.ops) s.1 (one_more_named old.bounds.hives was.ops op (k.named slot was there) below)
        | inr n ↦ k.named q one n.1
      ]);
    }
      where
        clear : (q : ℕ) (one : Transaction) → q ≢ slot → IsActiveAt old.tx_slots q one → ApartFrom op one.ops
        clear q one n a = apart_from op one.ops (unclaimed old.tx_slots slot (claim_of op) unmet q one n a)

        by_places : (x y : ℕ) (one two : Transaction) → x ≢ y → ((x ≡ slot) × (with_op was op moment ≡ one)) ⊎ ((x ≢ slot) × IsActiveAt old.tx_slots x one) →
            ((y ≡ slot) × (with_op was op moment ≡ two)) ⊎ ((y ≢ slot) × IsActiveAt old.tx_slots y two) → OpsDontConflict one.ops two.ops
        by_places x y one two n (inl s) (inl r) = absurd (n (s.0 ∙ sym r.0))
        by_places x y one two n (inl s) (inr r) = subst (λ (z : Transaction). OpsDontConflict z.ops two.ops) s.1
            (longer_apart was.ops two.ops op (k.apart slot y was two (λ e. r.0 (sym e)) there r.1) (clear y two r.0 r.1))
        by_places x y one two n (inr s) (inl r) = subst (λ (z : Transaction). OpsDontConflict one.ops z.ops) r.1
            (apart_longer one.ops was.ops op (k.apart x slot one was s.0 s.1 there) (clear x one s.0 s.1))
        by_places x y one two n (inr s) (inr r) = k.apart x y one two n s.1 r.1

    began : (tx : Tx) (session : ℕ) (id : List ℕ) → tx.generation ≡ old.begun + 1 → new.begun ≡ tx.generation → trees_now new ≡ trees_now old →
        SetsSlot old.tx_slots new.tx_slots tx.slot (Some (fresh_transaction session id tx.generation)) → Part new
    began tx session id n b t p = record {
      trees = trees_still t;
      known = λ q one e. elim (put_or_not old.tx_slots new.tx_slots tx.slot (Some (fresh_transaction session id tx.generation)) p q one e) [
        | inl s ↦ let its : tx.generation ≡ one.generation = ap (λ (t : Transaction). t.generation) (let same : fresh_transaction session id tx.generation ≡ one = cc (s.1) in same) in omega (arith, its, b)
        | inr m ↦ let le : one.generation ≤ old.begun = k.known q one m.1 in omega (arith, le, n, b)
      ];
      carried = λ q one a m. subst (λ ts. AreCarriedOut ts one.ops m) (sym t) (elim (active_or_not old.tx_slots new.tx_slots tx.slot (fresh_transaction session id tx.generation) one q p a) [
        | inl s ↦ subst (λ (x : Transaction). AreCarriedOut (trees_now old) x.ops m) s.1 tt
        | inr r ↦ k.carried q one r.1 m
      ]);
      apart = λ x y one two n a b. by_places x y one two n
          (active_or_not old.tx_slots new.tx_slots tx.slot (fresh_transaction session id tx.generation) one x p a) (active_or_not old.tx_slots new.tx_slots tx.slot (fresh_transaction session id tx.generation) two y p b);
      named = λ q one a. named_still one.ops (elim (active_or_not old.tx_slots new.tx_slots tx.slot (fresh_transaction session id tx.generation) one q p a) [
        | inl s ↦ subst (λ (x : Transaction). HivesAreNamable old.bounds.hives x.ops) s.1 (All-nil (λ op. hive_of op < old.bounds.hives))
        | inr r ↦ k.named q one r.1
      ]);
    }
      where
        by_places : (x y : ℕ) (one two : Transaction) → x ≢ y → ((x ≡ tx.slot) × (fresh_transaction session id tx.generation ≡ one)) ⊎ ((x ≢ tx.slot) × IsActiveAt old.tx_slots x one) →
            ((y ≡ tx.slot) × (fresh_transaction session id tx.generation ≡ two)) ⊎ ((y ≢ tx.slot) × IsActiveAt old.tx_slots y two) → OpsDontConflict one.ops two.ops
        by_places x y one two n (inl s) r = subst (λ (z : Transaction). OpsDontConflict z.ops two.ops) s.1 tt
        by_places x y one two n (inr s) (inl r) = subst (λ (z : Transaction). OpsDontConflict one.ops z.ops) r.1 (apart_none one.ops)
        by_places x y one two n (inr s) (inr r) = k.apart x y one two n s.1 r.1

  kept_by : (old new : Machine) (handle : Option Tx) → InvariantHolds old → new.bounds ≡ old.bounds → Way old new handle → Part new
  kept_by old new _ k w (Fewer b t d r) = fewer old new k w b t d r
  kept_by old new _ k w (Wrote op moment b t d r) = wrote old new k w op moment b t d r
  kept_by old new _ k w (Longer slot moment op one b t a l c n p) = longer old new k w slot moment op one b t a l c n p
  kept_by old new _ k w (Accepted slot moment one b t a d r) = accepted old new k w slot moment one b t a d r
  kept_by old new _ k w (Began tx session id n b t p) = began old new k w tx session id n b t p

  pub kept_after : (old new : Machine) (e : Event) (r : Reply) → InvariantHolds old → Step old e r new → InvariantHolds new
  kept_after old new e r k s =
      let part = kept_by old new (handle_in r) k (bounds_stay old new e r s).0 (way old new e r s) in
      record {
        trees = part.trees;
        known = part.known;
        carried = part.carried;
        apart = part.apart;
        named = part.named;
        within = within_after (within laws) old new e r k s;
        history = history_after (within laws) old new e r k s;
        outcomes = outcomes_after laws.outcomes old new e r k s;
      }

  pub kept_along : (old new : Machine) (events : List Event) (replies : List Reply) → InvariantHolds old → Run old events replies new → InvariantHolds new
  kept_along old new [] [] k run = subst InvariantHolds (sym run) k
  kept_along old new [] (r ∷ replies) k run = absurd run
  kept_along old new (e ∷ events) [] k run = absurd run
  kept_along old new (e ∷ events) (r ∷ replies) k run = kept_along run.0 new events replies (kept_after old run.0 e r k run.1) run.2

-- there is no transaction as a store is opened
nobody : (slot : ℕ) (one : Transaction) → at [] slot ≡ Some one → ⊥
nobody zero one e = cc
nobody (suc slot) one e = cc

pub kept_at_first : (bounds : StoreBounds) (trees : List TreeMap) (number : ℕ) (journaled : List Element) (failures : ℕ) → AreTrees trees → number ≤ GREATEST_NUMBER → OutcomesFit bounds trees number →
    InvariantHolds (opened_machine bounds trees number journaled failures)
kept_at_first bounds trees number journaled failures are few fit = record {
  trees = are;
  known = λ slot one e. absurd (nobody slot one e);
  carried = λ slot one a m. absurd (nobody slot one a.there);
  apart = λ slot other one two n a b. absurd (nobody slot one a.there);
  named = λ slot one a. absurd (nobody slot one a.there);
  within = within_at_first bounds trees number journaled failures few;
  history = tt;
  outcomes = outcomes_at_first bounds trees number journaled failures fit;
}

-- the room of the journal along a run
module _ (laws : Laws) where
  pub fits_along : (old new : Machine) (events : List Event) (replies : List Reply) → InvariantHolds old → Run old events replies new → old.room ≤ MOST_JOURNAL_BYTES → new.room ≤ MOST_JOURNAL_BYTES
  fits_along old new [] [] k run fits = subst (λ (m : Machine). m.room ≤ MOST_JOURNAL_BYTES) (sym run) fits
  fits_along old new [] (r ∷ replies) k run fits = absurd run
  fits_along old new (e ∷ events) [] k run fits = absurd run
  fits_along old new (e ∷ events) (r ∷ replies) k run fits =
      fits_along run.0 new events replies (kept_after laws old run.0 e r k run.1) run.2 (fits_after (within laws) old run.0 e r k run.1 fits)
