-- The claims that a table has, and the transactions that hold those that conflict with one more.
use Rattle.std.specs.Prelude.{◌≡◌, ℕ, Bool, true, false, not, ◌&&◌, ◌==◌, if◌then◌else◌, List, [], ◌∷◌, ◌++◌, map, filter, Option, Some, None, Contains, ◌≢◌}
use Rattle.std.specs.List.{list_any}
use Rattle.conflicts.specs.Skeleton.{Claim, Conflict}
use Rattle.conflicts.specs.Claims.{same_claim, meets}

-- a claim, and the number of the transaction that holds it
pub record HeldClaim : Type 0 where
  pub owner : ℕ
  pub claim : Claim

-- whether one is the other
abbrev pub same_held_claim : HeldClaim → HeldClaim → Bool
same_held_claim a b = b.owner == a.owner && same_claim a.claim b.claim

-- whether there is one, and it passes a test
abbrev pub is_some_that : (HeldClaim → Bool) → Option HeldClaim → Bool
is_some_that test None = false
is_some_that test (Some one) = test one

-- whether a claim of a transaction is among them
abbrev pub holds_claim : List HeldClaim → HeldClaim → Bool
holds_claim held one = list_any (same_held_claim one) held

-- the claims with one more: at the end, if it is not among them
abbrev pub with_claim : List HeldClaim → HeldClaim → List HeldClaim
with_claim held one = if holds_claim held one then held else held ++ one ∷ []

-- the claims of all transactions but one
abbrev pub without_owner : List HeldClaim → ℕ → List HeldClaim
without_owner held owner = filter (λ h. not (h.owner == owner)) held

-- whether it is the transaction that asks
abbrev pub asks : Option ℕ → ℕ → Bool
asks None owner = false
asks (Some asker) owner = asker == owner

-- whether a claim's owner is not the asker, and the claim conflicts with the one asked for
abbrev pub blocks : Option ℕ → Claim → HeldClaim → Bool
blocks asker claim held = not (asks asker held.owner) && meets claim held.claim

-- each number once, at its first index
abbrev pub each_once : List ℕ → List ℕ
each_once [] = []
each_once (x ∷ xs) = x ∷ filter (λ y. not (y == x)) (each_once xs)

-- the transactions that hold a claim which conflicts with the one asked for: each once, in the order of its first
-- conflicting claim; the asker is left out
abbrev pub holders_of : List HeldClaim → Option ℕ → Claim → List ℕ
holders_of held asker claim = each_once (map (λ h. h.owner) (filter (blocks asker claim) held))

-- the numbers with one more: at the end, if it is not among them
abbrev pub with_number : List ℕ → ℕ → List ℕ
with_number xs x = if list_any (λ y. y == x) xs then xs else xs ++ x ∷ []

-- the numbers with the owner of a claim, if there is one and it blocks the claim asked for
abbrev pub with_holder : List ℕ → Option HeldClaim → Option ℕ → Claim → List ℕ
with_holder xs None asker claim = xs
with_holder xs (Some one) asker claim = if blocks asker claim one then with_number xs one.owner else xs

-- a transaction holds a claim that conflicts with the one asked for, and is not the asker
abbrev pub IsHolder : List HeldClaim → Option ℕ → Claim → ℕ → Type 0
IsHolder held asker claim owner = (one : Claim) × Contains held (record { owner = owner; claim = one }) × Conflict claim one × (asker ≢ Some owner)

-- no claim of one transaction conflicts with one of another
abbrev pub OwnersDontConflict : List HeldClaim → Type 0
OwnersDontConflict held = (one other : HeldClaim) → Contains held one → Contains held other → blocks (Some one.owner) one.claim other ≡ false

-- a transaction asks for a claim: it then holds the claim exactly if no other holds one that conflicts with it
abbrev pub IsClaimResult : List HeldClaim → HeldClaim → Bool → List HeldClaim → Type 0
IsClaimResult old one true new = (holders_of old (Some one.owner) one.claim ≡ []) × (new ≡ with_claim old one)
IsClaimResult old one false new = (holders_of old (Some one.owner) one.claim ≢ []) × (new ≡ old)
