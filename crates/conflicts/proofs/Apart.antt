-- Tables in which no claim of one transaction conflicts with another's.
use Rattle.std.proofs.Common.{◌≡◌, inl, inr, ℕ, Bool, true, false, not, ◌||◌, ◌&&◌, cond, List, [], ◌∷◌, ◌++◌, map, Option, Some, refl, sym, ◌∙◌, ap, subst}
use Rattle.std.specs.Prelude.{◌==◌, ◌≢◌, filter, Contains}
use Rattle.std.specs.List.{list_any}
use Rattle.std.proofs.lemmas.Bool.{eqb-true, eq-eqb}
use Rattle.conflicts.specs.Skeleton.{Claim}
use Rattle.conflicts.proofs.Tests.{never}
use Rattle.conflicts.specs.Claims.{meets, reaches}
use Rattle.conflicts.specs.Holders.{HeldClaim, same_held_claim, with_claim, without_owner, blocks, each_once, holders_of, OwnersDontConflict}
use Rattle.conflicts.proofs.Members.{here, later, first_or_later, none_empty, same_has, has_snoc, dropped}

-- Tests of claims

passes_if : (p : HeldClaim → Bool) (held : List HeldClaim) (one : HeldClaim) → Contains held one → p one ≡ true → list_any p held ≡ true
passes_if p [] one c t = absurd (none_empty one c)
passes_if p (h ∷ held) one c t = elim (first_or_later h held one c) [
  | inl e ↦ ap (λ b. b || list_any p held) (ap p e ∙ t)
  | inr d ↦ or_true (p h) (list_any p held) (passes_if p held one d t)
]
  where
    or_true : (a b : Bool) → b ≡ true → (a || b) ≡ true
    or_true true b t = refl
    or_true false b t = t

fails_then : (p : HeldClaim → Bool) (held : List HeldClaim) → list_any p held ≡ false → (one : HeldClaim) → Contains held one → p one ≡ false
fails_then p held f one c = by_case (p one) refl
  where
    by_case : (b : Bool) → p one ≡ b → p one ≡ false
    by_case false e = e
    by_case true e = never (sym f ∙ passes_if p held one c e)

all_fail : (p : HeldClaim → Bool) (held : List HeldClaim) → ((one : HeldClaim) → Contains held one → p one ≡ false) → list_any p held ≡ false
all_fail p [] h = refl
all_fail p (one ∷ held) h = ap (λ b. b || list_any p held) (h one (here one held)) ∙ all_fail p held (λ other c. h other (later one held other c))

-- Holders

-- there are none if no claim blocks the one asked for
pub no_holders : (held : List HeldClaim) (asker : Option ℕ) (claim : Claim) → list_any (blocks asker claim) held ≡ false → holders_of held asker claim ≡ []
no_holders held asker claim f = ap (λ hs. each_once (map (λ (h : HeldClaim). h.owner) hs)) (left held f)
  where
    left : (hs : List HeldClaim) → list_any (blocks asker claim) hs ≡ false → filter (blocks asker claim) hs ≡ []
    left [] f = refl
    left (h ∷ hs) f = by_case (left hs) (blocks asker claim h) f
      where
        by_case : (list_any (blocks asker claim) hs ≡ false → filter (blocks asker claim) hs ≡ []) → (b : Bool) → (b || list_any (blocks asker claim) hs) ≡ false → cond b (h ∷ filter (blocks asker claim) hs) (filter (blocks asker claim) hs) ≡ []
        by_case rest true f = never (sym f)
        by_case rest false f = rest f

-- and some if one does
pub some_holders : (held : List HeldClaim) (asker : Option ℕ) (claim : Claim) → list_any (blocks asker claim) held ≡ true → holders_of held asker claim ≢ []
some_holders held asker claim t none = never (sym (nothing held none) ∙ t)
  where
    empty : (hs : List HeldClaim) → each_once (map (λ (h : HeldClaim). h.owner) hs) ≡ [] → hs ≡ []
    empty [] e = refl
    empty (h ∷ hs) e = cc

    nothing : (hs : List HeldClaim) → holders_of hs asker claim ≡ [] → list_any (blocks asker claim) hs ≡ false
    nothing hs e = missing hs (empty (filter (blocks asker claim) hs) e)
      where
        missing : (hs : List HeldClaim) → filter (blocks asker claim) hs ≡ [] → list_any (blocks asker claim) hs ≡ false
        missing [] e = refl
        missing (h ∷ hs) e = by_case (missing hs) (blocks asker claim h) e
          where
            by_case : (filter (blocks asker claim) hs ≡ [] → list_any (blocks asker claim) hs ≡ false) → (b : Bool) → cond b (h ∷ filter (blocks asker claim) hs) (filter (blocks asker claim) hs) ≡ [] → (b || list_any (blocks asker claim) hs) ≡ false
            by_case rest true e = cc
            by_case rest false e = rest e

-- The claims of a table

-- a claim that a transaction has conflicts with no other's
pub own_apart : (held : List HeldClaim) → OwnersDontConflict held → (one : HeldClaim) → list_any (same_held_claim one) held ≡ true → list_any (blocks (Some one.owner) one.claim) held ≡ false
own_apart held apart one t = all_fail (blocks (Some one.owner) one.claim) held (λ other c. apart one other (same_has one held t) c)

-- a claim that is there is not added again, and one that isn't is
pub there_already : (held : List HeldClaim) (one : HeldClaim) → list_any (same_held_claim one) held ≡ true → held ≡ with_claim held one
there_already held one t = sym (ap (λ b. cond b held (held ++ one ∷ [])) t)

pub not_there : (held : List HeldClaim) (one : HeldClaim) → list_any (same_held_claim one) held ≡ false → held ++ one ∷ [] ≡ with_claim held one
not_there held one f = sym (ap (λ b. cond b held (held ++ one ∷ [])) f)

-- of two claims each blocks the other or neither does
against_back : (a b : HeldClaim) → blocks (Some a.owner) a.claim b ≡ blocks (Some b.owner) b.claim a
against_back a b =
    ap (λ x. not x && meets a.claim b.claim) (same_either_way a.owner b.owner)
    ∙ ap (λ x. not (b.owner == a.owner) && x) (or_either_way (reaches a.claim b.claim) (reaches b.claim a.claim))
  where
    or_either_way : (x y : Bool) → (x || y) ≡ (y || x)
    or_either_way true true = refl
    or_either_way true false = refl
    or_either_way false true = refl
    or_either_way false false = refl

    same_either_way : (m n : ℕ) → (m == n) ≡ (n == m)
    same_either_way m n = by_case (m == n) (n == m) refl refl
      where
        by_case : (x y : Bool) → (m == n) ≡ x → (n == m) ≡ y → x ≡ y
        by_case true true e f = refl
        by_case false false e f = refl
        by_case true false e f = sym (eq-eqb n m (sym (eqb-true m n e))) ∙ f
        by_case false true e f = sym e ∙ eq-eqb m n (sym (eqb-true n m f))

-- with one more, which conflicts with no other's
pub one_more_apart : (held : List HeldClaim) (one : HeldClaim) → OwnersDontConflict held → list_any (blocks (Some one.owner) one.claim) held ≡ false → OwnersDontConflict (held ++ one ∷ [])
one_more_apart held one apart f a b ca cb = elim (has_snoc held one a ca) [
  | inl a_there ↦ elim (has_snoc held one b cb) [
    | inl b_there ↦ apart a b a_there b_there
    | inr e ↦ subst (λ (h : HeldClaim). blocks (Some a.owner) a.claim h ≡ false) e (against_back a one ∙ fails_then (blocks (Some one.owner) one.claim) held f a a_there)
  ]
  | inr d ↦ elim (has_snoc held one b cb) [
    | inl b_there ↦ subst (λ (h : HeldClaim). blocks (Some h.owner) h.claim b ≡ false) d (fails_then (blocks (Some one.owner) one.claim) held f b b_there)
    | inr e ↦ subst (λ (h : HeldClaim). blocks (Some h.owner) h.claim b ≡ false) d (subst (λ (h : HeldClaim). blocks (Some one.owner) one.claim h ≡ false) e (ap (λ x. not x && meets one.claim one.claim) (eq-eqb one.owner one.owner refl)))
  ]
]

-- and without a transaction's
pub fewer_apart : (held : List HeldClaim) (owner : ℕ) → OwnersDontConflict held → OwnersDontConflict (without_owner held owner)
fewer_apart held owner apart a b ca cb = apart a b ((dropped held owner a).0 ca).0 ((dropped held owner b).0 cb).0
