-- The trees that everybody sees, what active transactions hold, and what changes them.
use Rattle.std.specs.Prelude.{◌≡◌, ◌⊎◌, ℕ, List, [], ◌∷◌, ◌++◌}
use Rattle.std.specs.List.{AllByRecursion}
use Rattle.conflicts.specs.Skeleton.{Op, Skeleton, apply, applied}
use Rattle.conflicts.specs.Legal.{Legal, LegalInOrder, DontConflict, NoneConflict}

-- the skeleton of the trees of now, and the operations of each transaction; none if it is not active
pub record ClaimState : Type 0 where
  pub now : Skeleton
  pub held : ℕ → List Op

-- each one's operations are legal in order on the trees of now, and no two have conflicting claims
pub record ClaimsAreSound (m : ClaimState) : Type 0 where
  pub legal : (i : ℕ) → LegalInOrder (m.held i) m.now
  pub apart : (i j : ℕ) → (i ≡ j → ⊥) → NoneConflict (m.held i) (m.held j)

-- no claim of the operations conflicts with the first one's
abbrev pub NoneMeets : Op → List Op → Type 0
NoneMeets o os = AllByRecursion (λ p. DontConflict o p) os

-- every transaction but one holds what it held
abbrev pub OthersStay : ℕ → ClaimState → ClaimState → Type 0
OthersStay i old new = (j : ℕ) → (j ≡ i → ⊥) → new.held j ≡ old.held j

-- a plain write that is accepted: it rolls back each transaction with a conflicting claim
pub record Write (o : Op) (old new : ClaimState) : Type 0 where
  pub legal : Legal old.now o
  pub now : new.now ≡ apply o old.now
  pub held : (i : ℕ) → (NoneMeets o (old.held i) × (new.held i ≡ old.held i)) ⊎ (new.held i ≡ [])

-- a transacted write that is accepted: legal on its view, and no other's claim conflicts with its own
pub record TxWrite (i : ℕ) (o : Op) (old new : ClaimState) : Type 0 where
  pub legal : Legal (applied (old.held i) old.now) o
  pub apart : (j : ℕ) → (j ≡ i → ⊥) → NoneMeets o (old.held j)
  pub now : new.now ≡ old.now
  pub own : new.held i ≡ old.held i ++ o ∷ []
  pub others : OthersStay i old new

-- a commit: the transaction's operations become part of the trees of now
pub record Commit (i : ℕ) (old new : ClaimState) : Type 0 where
  pub now : new.now ≡ applied (old.held i) old.now
  pub own : new.held i ≡ []
  pub others : OthersStay i old new

-- some transactions end without a commit: a rollback, a close, the end of a session
pub record Drops (old new : ClaimState) : Type 0 where
  pub now : new.now ≡ old.now
  pub held : (i : ℕ) → (new.held i ≡ old.held i) ⊎ (new.held i ≡ [])

-- one change of the machine
pub data ClaimStep (old new : ClaimState) : Type 0 where
  Writes : (o : Op) → Write o old new → ClaimStep old new
  TxWrites : (i : ℕ) (o : Op) → TxWrite i o old new → ClaimStep old new
  Commits : (i : ℕ) → Commit i old new → ClaimStep old new
  Drop : Drops old new → ClaimStep old new

-- each machine of the list is one change away from the one before it
abbrev pub Runs : ClaimState → List ClaimState → Type 0
Runs m [] = Unit {0}
Runs m (n ∷ ns) = ClaimStep m n × Runs n ns
