-- What a table keeps of its indexes: each claim's number is below the next one, the claim is listed by its key, and its
-- number is listed under its owner.
use Rattle.std.specs.Prelude.{◌≡◌, ℕ, ◌<◌, ◌≢◌, List, map, Contains, Some}
use Rattle.std.specs.Map.{lookup, remove_entry}
use Rattle.std.specs.BTreeMap.{is_at}
use Rattle.std.specs.Ordering.{nat_cmp}
use Rattle.std.specs.List.Sorted.{IsStrictlySortedBy}
use Rattle.conflicts.specs.Holders.{HeldClaim, OwnersDontConflict}
use Rattle.conflicts.specs.Index.{IsListed}
use Rattle.conflicts.specs.declared.index_keys.Index.{Index}
use Rattle.conflicts.specs.declared.table.IndexedClaim.{IndexedClaim}

-- a claim with its number
abbrev pub Numbered : Type 0
Numbered = ℕ × IndexedClaim

-- the claims in order
abbrev pub claims_of : List Numbered → List HeldClaim
claims_of kept = map (λ (e : Numbered). e.1.entry) kept

pub record IsInIndexes (next : ℕ) (index : Index) (owned : List (ℕ × ℕ)) (number : ℕ) (one : HeldClaim) : Type 0 where
  pub below : number < next
  pub listed : IsListed index number one.claim
  pub owner : Contains owned (one.owner, number)

-- all numbers rise, and each claim is in the indexes and has the number of its index key
pub record AreInIndexes (next : ℕ) (index : Index) (owned : List (ℕ × ℕ)) (kept : List Numbered) : Type 0 where
  pub rises : IsStrictlySortedBy nat_cmp (map (λ e. e.0) kept)
  pub in_indexes : (number : ℕ) (one : IndexedClaim) → Contains kept (number, one) → IsInIndexes next index owned number one.entry
  pub index_keys_known : (number : ℕ) (one : IndexedClaim) → Contains kept (number, one) → one.index_key.1 ≡ number

-- the claims are in the indexes, and no transaction's conflicts with another's
pub record TableIsConsistent (next : ℕ) (index : Index) (owned : List (ℕ × ℕ)) (kept : List Numbered) : Type 0 where
  pub in_indexes : AreInIndexes next index owned kept
  pub apart : OwnersDontConflict (claims_of kept)

-- takes out one claim, which was the owner's and had this number
pub record TakesOwn (old new : List Numbered) (owner number : ℕ) (one : IndexedClaim) : Type 0 where
  pub was : lookup (is_at (nat_cmp number)) old ≡ Some one
  pub own : one.entry.owner ≡ owner
  pub is : new ≡ remove_entry (is_at (nat_cmp number)) old
  pub rises : IsStrictlySortedBy nat_cmp (map (λ e. e.0) new)

-- all claims stay, and the claim of the number, if there is one, is not the owner's
pub record LeavesOthers (old new : List Numbered) (owner number : ℕ) : Type 0 where
  pub same : new ≡ old
  pub others : (one : IndexedClaim) → lookup (is_at (nat_cmp number)) old ≡ Some one → one.entry.owner ≢ owner
