-- Which transactions hold a claim that conflicts with one more: the table of claims and the transactions say the same.
use Rattle.std.proofs.Common.{◌≡◌, ◌⊎◌, inl, inr, ℕ, ◌==◌, Bool, true, false, not, ◌||◌, ◌&&◌, List, [], ◌∷◌, length, Option, Some, None, refl, sym, ◌∙◌, ap, subst}
use Rattle.std.specs.Prelude.{◌≢◌, Contains, if◌then◌else◌, map}
use Rattle.refusals.specs.declared.refusal.Refusal.TheVariants.{NotActive}
use Rattle.reg_tree.specs.declared.op.Op.{Op}
use Rattle.std.specs.List.{list_any}
use Rattle.std.proofs.lemmas.Option.{none-some}
use Rattle.std.proofs.lemmas.Bool.{true≢false, eqb-true, eq-eqb, ne_eqb, false_from_ne_true}
use Rattle.slab.specs.Slab.{Slab}
use Rattle.slab.proofs.SlabLemmas.{Contains-entries}
use Rattle.conflicts.specs.Skeleton.{Claim, Conflict}
use Rattle.conflicts.specs.Claims.{claim_of, meets}
use Rattle.conflicts.specs.Holders.{HeldClaim, IsHolder, OwnersDontConflict, holders_of}
use Rattle.conflicts.proofs.Meets.{meets_conflict, conflict_meets}
use Rattle.conflicts.proofs.Members.{here, later, first_or_later, none_empty, who}
use Rattle.store_model.specs.Transactions.{Transaction, TxSlots, at, own_if, held, inactive_refusal, is_active, holds, is_claimed}
use Rattle.transactions.specs.Entries.{Claims}
use Rattle.transactions.specs.Tables.{IsPending, MeetNone, holds_if, is_listed}
use Rattle.transactions.proofs.Claimed.{AreClaimed, some_same}

-- tests of lists

pub alike : (b c : Bool) → (b ≡ true → c ≡ true) → (c ≡ true → b ≡ true) → b ≡ c
alike true c to from = sym (to refl)
alike false true to from = from refl
alike false false to from = refl

two : (b c : Bool) → (b && c) ≡ true → (b ≡ true) × (c ≡ true)
two true c h = (refl, h)
two false c h = absurd (true≢false (sym h))

both : (b c : Bool) → b ≡ true → c ≡ true → (b && c) ≡ true
both b c e f = ap (λ x. x && c) e ∙ f

any_here : (b c : Bool) → b ≡ true → (b || c) ≡ true
any_here b c e = ap (λ x. x || c) e

any_later : (b c : Bool) → c ≡ true → (b || c) ≡ true
any_later true c e = refl
any_later false c e = e

either : (b c : Bool) → (b || c) ≡ true → (b ≡ true) ⊎ (c ≡ true)
either true c h = inl refl
either false c h = inr h

pub any_of : {X : Type 0} (p : X → Bool) (xs : List X) (x : X) → Contains xs x → p x ≡ true → list_any p xs ≡ true
any_of p [] x c h = absurd (none_empty x c)
any_of p (y ∷ xs) x c h = elim (first_or_later y xs x c) [
  | inl e ↦ any_here (p y) (list_any p xs) (ap p e ∙ h)
  | inr d ↦ any_later (p y) (list_any p xs) (any_of p xs x d h)
]

pub of_any : {X : Type 0} (p : X → Bool) (xs : List X) → list_any p xs ≡ true → (x : X) × Contains xs x × (p x ≡ true)
of_any p [] h = absurd (true≢false (sym h))
of_any p (y ∷ xs) h = elim (either (p y) (list_any p xs) h) [
  | inl e ↦ (y, here y xs, e)
  | inr d ↦ let t = of_any p xs d in (t.0, later y xs t.0 t.1, t.2)
]

mapped : {X Y : Type 0} (f : X → Y) (xs : List X) (x : X) → Contains xs x → Contains (map f xs) (f x)
mapped f [] x c = absurd (none_empty x c)
mapped f (z ∷ xs) x c = elim (first_or_later z xs x c) [
  | inl e ↦ subst (λ w. Contains (f w ∷ map f xs) (f x)) (sym e) (here (f x) (map f xs))
  | inr d ↦ later (f z) (map f xs) (f x) (mapped f xs x d)
]

of_mapped : {X Y : Type 0} (f : X → Y) (xs : List X) (y : Y) → Contains (map f xs) y → (x : X) × Contains xs x × (f x ≡ y)
of_mapped f [] y c = absurd (none_empty y c)
of_mapped f (z ∷ xs) y c = elim (first_or_later (f z) (map f xs) y c) [
  | inl e ↦ (z, here z xs, e)
  | inr d ↦ let t = of_mapped f xs y d in (t.0, later z xs t.0 t.1, t.2)
]

listed : (tx_slots : List ℕ) (slot : ℕ) → Contains tx_slots slot → is_listed tx_slots slot ≡ true
listed tx_slots slot c = any_of (λ p. p == slot) tx_slots slot c (eq-eqb slot slot refl)

of_listed : (tx_slots : List ℕ) (slot : ℕ) → is_listed tx_slots slot ≡ true → Contains tx_slots slot
of_listed tx_slots slot h = let t = of_any (λ p. p == slot) tx_slots h in subst (Contains tx_slots) (eqb-true t.0 slot t.2) t.1

may_act : (one : Transaction) → inactive_refusal (Some one) ≡ None → is_active one ≡ true
may_act one = by_state (is_active one)
  where
    by_state : (active : Bool) → (if active then None else Some NotActive) ≡ None → active ≡ true
    by_state true e = refl
    by_state false e = absurd (none-some NotActive (sym e))

-- a transaction holds a claim which conflicts, exactly if one of its claims does

holding : (claim : Claim) (one : Transaction) (c : Claim) → is_active one ≡ true → Contains (map claim_of one.ops) c → Conflict claim c → holds claim one ≡ true
holding claim one c active made conflict =
    let t = of_mapped claim_of one.ops c made in
    both (is_active one) (list_any (λ op. meets claim (claim_of op)) one.ops) active
    (any_of (λ op. meets claim (claim_of op)) one.ops t.0 t.1 (ap (meets claim) t.2 ∙ conflict_meets claim c conflict))

of_holding : (claim : Claim) (one : Transaction) → holds claim one ≡ true → (is_active one ≡ true) × ((c : Claim) × Contains (map claim_of one.ops) c × Conflict claim c)
of_holding claim one h =
    let p = two (is_active one) (list_any (λ op. meets claim (claim_of op)) one.ops) h in
    let t = of_any (λ op. meets claim (claim_of op)) one.ops p.1 in
    (p.0, (claim_of t.0, mapped claim_of one.ops t.0 t.1, meets_conflict claim (claim_of t.0) t.2))

abbrev slab_of : TxSlots → Slab Transaction
slab_of tx_slots = record { slots = tx_slots; vacant_key = 0; capacity = 0 }

module _ (tx_slots : TxSlots) (claims : List HeldClaim) (all : AreClaimed tx_slots claims) (claim : Claim) where
  -- a transaction that holds one is in its slot
  pub holder : (asker : Option ℕ) (owner : ℕ) → Contains (holders_of claims asker claim) owner → (one : Transaction) × (at tx_slots owner ≡ Some one) × (holds claim one ≡ true) × (asker ≢ Some owner)
  holder asker owner c =
      let i : IsHolder claims asker claim owner = (who claims asker claim owner).0 c in
      let k : Claims tx_slots owner i.0 = (all owner i.0).0 i.1 in
      (k.one, k.there, holding claim k.one i.0 k.active k.made i.2, i.3)

  pub is_holder : (asker : Option ℕ) (owner : ℕ) (one : Transaction) → at tx_slots owner ≡ Some one → holds claim one ≡ true → asker ≢ Some owner → Contains (holders_of claims asker claim) owner
  is_holder asker owner one there h ne =
      let t = of_holding claim one h in
      (who claims asker claim owner).1 (t.1.0, (all owner t.1.0).1 (record { one = one; there = there; active = t.0; made = t.1.1 }), t.1.2, ne)

  -- without an asker they are all that hold one
  pub all_holders : (list : List ℕ) → list ≡ holders_of claims None claim → (slot : ℕ) → is_listed list slot ≡ holds_if claim (at tx_slots slot)
  all_holders list e slot = alike (is_listed list slot) (holds_if claim (at tx_slots slot)) to (from (at tx_slots slot) refl)
    where
      to : is_listed list slot ≡ true → holds_if claim (at tx_slots slot) ≡ true
      to h = let t = holder None slot (subst (λ l. Contains l slot) e (of_listed list slot h)) in ap (holds_if claim) t.1 ∙ t.2

      from : (there : Option Transaction) → at tx_slots slot ≡ there → holds_if claim there ≡ true → is_listed list slot ≡ true
      from None there h = absurd (true≢false (sym h))
      from (Some one) there h = listed list slot (subst (λ l. Contains l slot) (sym e) (is_holder None slot one there h (λ n. none-some slot n)))

  -- some other slot's transaction holds one, exactly if there is a holder
  pub claimed_by : (slot owner : ℕ) → Contains (holders_of claims (Some slot) claim) owner → is_claimed tx_slots slot claim ≡ true
  claimed_by slot owner c =
      let t = holder (Some slot) owner c in
      any_of (λ (e : ℕ × Transaction). not (e.0 == slot) && holds claim e.1) (held tx_slots) (owner, t.0) ((Contains-entries (slab_of tx_slots) owner t.0).1 t.1)
      (both (not (owner == slot)) (holds claim t.0) (ap not (ne_eqb owner slot (λ same. t.3 (ap Some (sym same))))) t.2)

  pub claimed_by_none : (slot : ℕ) → holders_of claims (Some slot) claim ≡ [] → is_claimed tx_slots slot claim ≡ false
  claimed_by_none slot none = false_from_ne_true (is_claimed tx_slots slot claim) (λ h.
      let t : (x : ℕ × Transaction) × Contains (held tx_slots) x × ((not (x.0 == slot) && holds claim x.1) ≡ true) = of_any (λ (e : ℕ × Transaction). not (e.0 == slot) && holds claim e.1) (held tx_slots) h in
      let p = two (not (t.0.0 == slot)) (holds claim t.0.1) t.2 in
      none_empty t.0.0 (subst (λ l. Contains l t.0.0) none (is_holder (Some slot) t.0.0 t.0.1 ((Contains-entries (slab_of tx_slots) t.0.0 t.0.1).0 t.1) p.1
      (λ same. true≢false (sym p.0 ∙ ap not (eq-eqb t.0.0 slot (sym (some_same slot t.0.0 same))))))))

  -- a claim that was asked for says the same
  pub claimed_free : (slot : ℕ) → holders_of claims (Some slot) claim ≡ [] → is_claimed tx_slots slot claim ≡ false
  claimed_free slot none = claimed_by_none slot none

  pub claimed_met : (slot : ℕ) → holders_of claims (Some slot) claim ≢ [] → is_claimed tx_slots slot claim ≡ true
  claimed_met slot some = by_list (holders_of claims (Some slot) claim) refl
    where
      by_list : (owners : List ℕ) → holders_of claims (Some slot) claim ≡ owners → is_claimed tx_slots slot claim ≡ true
      by_list [] e = absurd (some e)
      by_list (o ∷ owners) e = claimed_by slot o (subst (λ l. Contains l o) (sym e) (here o owners))

-- if no claims of two transactions conflict, no operation of an active one conflicts with a claim of another
module _ (tx_slots : TxSlots) (claims : List HeldClaim) (all : AreClaimed tx_slots claims) (apart : OwnersDontConflict claims) (slot other : ℕ) (elsewhere : other ≡ slot → ⊥) where
  meets_nobody : (one : Transaction) → at tx_slots slot ≡ Some one → is_active one ≡ true → (op : Op) → Contains one.ops op → holds_if (claim_of op) (at tx_slots other) ≡ false
  meets_nobody one there active op made = by_place (at tx_slots other) refl
    where
      by_place : (content : Option Transaction) → at tx_slots other ≡ content → holds_if (claim_of op) content ≡ false
      by_place None e = refl
      by_place (Some their) e = false_from_ne_true (holds (claim_of op) their) (λ h.
          let t = of_holding (claim_of op) their h in
          let mine : Contains claims (record { owner = slot; claim = claim_of op }) = (all slot (claim_of op)).1 (record { one = one; there = there; active = active; made = mapped claim_of one.ops op made }) in
          let theirs : Contains claims (record { owner = other; claim = t.1.0 }) = (all other t.1.0).1 (record { one = their; there = e; active = t.0; made = t.1.1 }) in
          true≢false (sym (both (not (slot == other)) (meets (claim_of op) t.1.0) (ap not (ne_eqb slot other (λ same. elsewhere (sym same)))) (conflict_meets (claim_of op) t.1.0 t.1.2))
          ∙ apart (record { owner = slot; claim = claim_of op }) (record { owner = other; claim = t.1.0 }) mine theirs))

  all_meet_none : (ops : List Op) → ((op : Op) → Contains ops op → holds_if (claim_of op) (at tx_slots other) ≡ false) → MeetNone ops (at tx_slots other)
  all_meet_none [] none = tt
  all_meet_none (op ∷ ops) none = (none op (here op ops), all_meet_none ops (λ o c. none o (later op ops o c)))

  pub pending_meet_none : (change : List Op) (length : ℕ) → IsPending (at tx_slots slot) change length → MeetNone change (at tx_slots other)
  pending_meet_none change length pending = by_place (at tx_slots slot) refl pending
    where
      by_place : (content : Option Transaction) → at tx_slots slot ≡ content → IsPending content change length → MeetNone change (at tx_slots other)
      by_place None e p = absurd p
      by_place (Some one) e p = subst (λ ops. MeetNone ops (at tx_slots other)) (sym p.given) (all_meet_none one.ops (meets_nobody one e (may_act one p.active)))

-- the operations of the transaction that a handle names are those of its slot's
pub pending_there : (session generation : ℕ) (content : Option Transaction) (ops : List Op) (length : ℕ) → IsPending (own_if session generation content) ops length → IsPending content ops length
pending_there session generation None ops length p = p
pending_there session generation (Some one) ops length p = if_own (one.session == session && one.generation == generation) p
  where
    if_own : (own : Bool) → IsPending (if own then Some one else None) ops length → IsPending (Some one) ops length
    if_own true p = p
    if_own false p = absurd p
