-- Whose claims a table of claims has.
use Rattle.std.proofs.Common.{◌≡◌, ◌⊎◌, inl, inr, ◌↔◌, ℕ, true, false, List, [], ◌∷◌, ◌++◌, Option, Some, None, sym, ◌∙◌, ap, subst}
use Rattle.std.specs.Prelude.{◌≢◌, Contains, map}
use Rattle.std.proofs.lemmas.Option.{none-some}
use Rattle.std.proofs.lemmas.List.{map-append}
use Rattle.std.proofs.lemmas.List.Elements.{Contains-append_left, Contains-append_right, Contains-append_cases}
use Rattle.std.proofs.lemmas.Bool.{true≢false}
use Rattle.reg_tree.specs.declared.op.Op.{Op}
use Rattle.conflicts.specs.Skeleton.{Claim}
use Rattle.conflicts.specs.Claims.{claim_of}
use Rattle.conflicts.specs.Holders.{HeldClaim, with_claim, without_owner}
use Rattle.conflicts.proofs.Members.{added, dropped, here, first_or_later, none_empty}
use Rattle.store_model.specs.Transactions.{Transaction, TxSlots, SetsSlot, at, is_active, with_op}
use Rattle.transactions.specs.Entries.{Claims}
use Rattle.transactions.proofs.Slots.{same_or_other}

abbrev pub AreClaimed : TxSlots → List HeldClaim → Type 0
AreClaimed tx_slots claims = (slot : ℕ) (claim : Claim) → Contains claims (record { owner = slot; claim = claim }) ↔ Claims tx_slots slot claim

pub some_same : {A : Type 0} (x y : A) → Some x ≡ Some y → x ≡ y
some_same x y e = cc

abbrev held_by : ℕ → Claim → HeldClaim
held_by owner claim = record { owner = owner; claim = claim }

both_same : (a b : ℕ) (c d : Claim) → a ≡ b → c ≡ d → held_by a c ≡ held_by b d
both_same a b c d e f = cc

-- the claims in a slot depend on what is in it
pub claims_at : (old new : TxSlots) (slot : ℕ) (claim : Claim) → at new slot ≡ at old slot → Claims old slot claim → Claims new slot claim
claims_at old new slot claim e c = record { one = c.one; there = e ∙ c.there; active = c.active; made = c.made }

-- nothing has changed
pub claimed_same : (old new : TxSlots) (claims : List HeldClaim) → AreClaimed old claims → ((slot : ℕ) → at new slot ≡ at old slot) → AreClaimed new claims
claimed_same old new claims all same slot claim =
    (λ h. claims_at old new slot claim (same slot) ((all slot claim).0 h), λ c. (all slot claim).1 (claims_at new old slot claim (sym (same slot)) c))

-- a slot without claims is as good as an empty one
pub claimed_put : (old new : TxSlots) (claims : List HeldClaim) (key : ℕ) (s : Option Transaction) → AreClaimed old claims → SetsSlot old new key s →
    ((claim : Claim) → Claims old key claim → ⊥) → ((claim : Claim) → Claims new key claim → ⊥) → AreClaimed new claims
claimed_put old new claims key s all p before after slot claim = elim (same_or_other slot key) [
  | inl same ↦ (λ h. absurd (before claim (subst (λ k. Claims old k claim) same ((all slot claim).0 h))), λ c. absurd (after claim (subst (λ k. Claims new k claim) same c)))
  | inr other ↦ (λ h. claims_at old new slot claim (p.others slot other) ((all slot claim).0 h), λ c. (all slot claim).1 (claims_at new old slot claim (sym (p.others slot other)) c))
]

-- what isn't active has no claims
pub none_inactive : (tx_slots : TxSlots) (key : ℕ) (one : Transaction) (claim : Claim) → at tx_slots key ≡ Some one → is_active one ≡ false → Claims tx_slots key claim → ⊥
none_inactive tx_slots key one claim there ended c = absurd (true≢false (sym c.active ∙ ap is_active (some_same c.one one (sym c.there ∙ there)) ∙ ended))

pub none_there : (tx_slots : TxSlots) (key : ℕ) (claim : Claim) → at tx_slots key ≡ None → Claims tx_slots key claim → ⊥
none_there tx_slots key claim none c = none-some c.one (sym none ∙ c.there)

-- the claims of a transaction that has none now are dropped
pub claimed_dropped : (old new : TxSlots) (claims : List HeldClaim) (key : ℕ) (s : Option Transaction) → AreClaimed old claims → SetsSlot old new key s →
    ((claim : Claim) → Claims new key claim → ⊥) → AreClaimed new (without_owner claims key)
claimed_dropped old new claims key s all p after slot claim =
    let law : Contains (without_owner claims key) (record { owner = slot; claim = claim }) ↔ (Contains claims (record { owner = slot; claim = claim }) × (slot ≢ key)) = dropped claims key (record { owner = slot; claim = claim }) in (
      λ h. claims_at old new slot claim (p.others slot (law.0 h).1) ((all slot claim).0 (law.0 h).0),
      λ c. elim (same_or_other slot key) [
        | inl same ↦ absurd (after claim (subst (λ k. Claims new k claim) same c))
        | inr other ↦ law.1 ((all slot claim).1 (claims_at new old slot claim (sym (p.others slot other)) c), other)
      ],
    )

-- the claim of one more operation is added
module _ (old new : TxSlots) (claims : List HeldClaim) (key : ℕ) (one : Transaction) (op : Op) (moment : ℕ) (all : AreClaimed old claims) (p : SetsSlot old new key (Some (with_op one op moment)))
    (there : at old key ≡ Some one) (active : is_active one ≡ true) where
  abbrev more : HeldClaim
  more = record { owner = key; claim = claim_of op }

  its_claims : map claim_of (one.ops ++ op ∷ []) ≡ map claim_of one.ops ++ claim_of op ∷ []
  its_claims = map-append claim_of one.ops (op ∷ [])

  -- what it had it has
  had : (claim : Claim) → Claims old key claim → Claims new key claim
  had claim c = record {
    one = with_op one op moment;
    there = p.there;
    active = active;
    made = subst (λ cs. Contains cs claim) (sym its_claims) (Contains-append_left (map claim_of one.ops) (claim_of op ∷ []) claim (subst (λ (t : Transaction). Contains (map claim_of t.ops) claim) (some_same c.one one (sym c.there ∙ there)) c.made));
  }

  last : Claims new key (claim_of op)
  last = record {
    one = with_op one op moment;
    there = p.there;
    active = active;
    made = subst (λ cs. Contains cs (claim_of op)) (sym its_claims) (Contains-append_right (map claim_of one.ops) (claim_of op ∷ []) (claim_of op) (here (claim_of op) []));
  }

  -- what it has it had, or it is the new one
  has : (claim : Claim) → Claims new key claim → Claims old key claim ⊎ (claim_of op ≡ claim)
  has claim c = elim (Contains-append_cases (map claim_of one.ops) (claim_of op ∷ []) claim (subst (λ cs. Contains cs claim) its_claims
      (subst (λ (t : Transaction). Contains (map claim_of t.ops) claim) (some_same c.one (with_op one op moment) (sym c.there ∙ p.there)) c.made))) [
        | inl front ↦ inl (record { one = one; there = there; active = active; made = front })
        | inr back ↦ elim (first_or_later (claim_of op) [] claim back) [
          | inl e ↦ inr e
          | inr none ↦ absurd (none_empty claim none)
        ]
      ]

  to : (slot : ℕ) (claim : Claim) → Contains (with_claim claims more) (record { owner = slot; claim = claim }) → Claims new slot claim
  to slot claim h = elim ((added claims more (record { owner = slot; claim = claim })).0 h) [
    | inl c ↦ elim (same_or_other slot key) [
      | inl same ↦ subst (λ k. Claims new k claim) (sym same) (had claim (subst (λ k. Claims old k claim) same ((all slot claim).0 c)))
      | inr other ↦ claims_at old new slot claim (p.others slot other) ((all slot claim).0 c)
    ]
    | inr e ↦ subst (λ (x : HeldClaim). Claims new x.owner x.claim) e last
  ]

  from : (slot : ℕ) (claim : Claim) → Claims new slot claim → Contains (with_claim claims more) (record { owner = slot; claim = claim })
  from slot claim c = elim (same_or_other slot key) [
    | inl same ↦ elim (has claim (subst (λ k. Claims new k claim) same c)) [
      | inl was ↦ (added claims more (record { owner = slot; claim = claim })).1 (inl ((all slot claim).1 (subst (λ k. Claims old k claim) (sym same) was)))
      | inr e ↦ (added claims more (record { owner = slot; claim = claim })).1 (inr (both_same key slot (claim_of op) claim (sym same) e))
    ]
    | inr other ↦ (added claims more (record { owner = slot; claim = claim })).1 (inl ((all slot claim).1 (claims_at new old slot claim (sym (p.others slot other)) c)))
  ]

  pub claimed_added : AreClaimed new (with_claim claims more)
  claimed_added slot claim = (to slot claim, from slot claim)
