-- Reading from cells: what is read, or the refusal, and which cells were looked at to read it.
use Rattle.std.specs.Prelude.{ℕ, Bool, true, false, List, [], ◌∷◌, ◌++◌, Option, Some, None, Result, Ok, Err}
use Rattle.refusals.specs.declared.refusal.Refusal.{Refusal}
use Rattle.refusals.specs.declared.refusal.Refusal.TheVariants as refusal
use Rattle.refusals.specs.declared.refusal.Cause.{Cause}
use Rattle.refusals.specs.declared.refusal.Cause.TheVariants as cause
use Rattle.hive_cells.specs.Bins.{Cells}

-- the result of reading: the cells looked at, in turn, and what was read. The cells that belong to one key alone are
-- apart from the cells that other keys may name too. A refusal ends it, with the cells so far.
pub record Read (A : Type 0) : Type 0 where
  pub own : List ℕ
  pub lent : List ℕ
  pub says : Result A Refusal

abbrev pub Reader : Type 0 → Type 0
Reader A = Cells → Read A

-- nothing is looked at
unfoldable pub done : {A : Type 0} → A → Reader A
done x cells = record { own = []; lent = []; says = Ok x }

unfoldable pub refuse : {A : Type 0} → Refusal → Reader A
refuse r cells = record { own = []; lent = []; says = Err r }

abbrev pub damaged : {A : Type 0} → Cause → Reader A
damaged c = refuse (refusal.HiveDamaged 0 c)

-- one after the other
abbrev pub joined_if : {A B : Type 0} → List ℕ → List ℕ → Result A Refusal → (A → Read B) → Read B
joined_if own lent (Ok x) next = record { own = own ++ (next x).own; lent = lent ++ (next x).lent; says = (next x).says }
joined_if own lent (Err r) next = record { own = own; lent = lent; says = Err r }

infixl 10 ◌⟫◌
unfoldable pub ◌⟫◌ : {A B : Type 0} → Reader A → (A → Reader B) → Reader B
(m ⟫ f) cells = joined_if (m cells).own (m cells).lent (m cells).says (λ x. f x cells)

-- the data of a cell that belongs to one key alone, and of a cell that other keys may name too
abbrev pub own_if : ℕ → Option (List ℕ) → Read (List ℕ)
own_if at None = record { own = []; lent = []; says = Err (refusal.HiveDamaged 0 cause.BadOffset) }
own_if at (Some bytes) = record { own = at ∷ []; lent = []; says = Ok bytes }

unfoldable pub look : ℕ → Reader (List ℕ)
look at cells = own_if at (cells at)

abbrev pub lent_if : ℕ → Option (List ℕ) → Read (List ℕ)
lent_if at None = record { own = []; lent = []; says = Err (refusal.HiveDamaged 0 cause.BadOffset) }
lent_if at (Some bytes) = record { own = []; lent = at ∷ []; says = Ok bytes }

unfoldable pub look_lent : ℕ → Reader (List ℕ)
look_lent at cells = lent_if at (cells at)

-- one of two by a test
unfoldable pub choice : {A : Type 0} → Bool → Reader A → Reader A → Reader A
choice true m n = m
choice false m n = n

-- a rule that holds, or the cause
unfoldable pub rule : Bool → Cause → Reader (Unit {0})
rule b c = choice b (done tt) (damaged c)

-- what isn't allowed, and its refusal
unfoldable pub barred : Bool → Refusal → Reader (Unit {0})
barred b r = choice b (refuse r) (done tt)

-- each of a list, in turn
unfoldable pub each : {A B : Type 0} → (A → Reader B) → List A → Reader (List B)
each f [] = done []
each f (x ∷ xs) = f x ⟫ (λ y. each f xs ⟫ (λ ys. done (y ∷ ys)))
