-- The last change that names a hive.
use Rattle.std.specs.Prelude.{◌≡◌, ◌⊎◌, ℕ, ◌+◌, ◌-◌, ◌≤◌, eqb, Bool, List, [], ◌++◌, length, drop, slice_get, Some}
use Rattle.std.specs.List.{list_any}
use Rattle.reg_tree.specs.Operations.{hive_of}
use Rattle.reg_tree.specs.declared.op.Op.{Op}
use Rattle.crash_model.specs.Changes as law
use Rattle.crash_model.specs.Changes.{ops_on}
use Rattle.reg_tree.specs.declared.element.Element.{Element}
use Rattle.change_codec.specs.ModelChanges.{TimedOp, timed_elements}

-- whether one of the operations is on hive i
abbrev pub names : ℕ → List Op → Bool
names i ops = list_any (λ op. eqb (hive_of op) i) ops

-- Of changes that are numbered from base + 1 on, m is the number of the last one that has an operation on hive i, or 0
-- if there is none.
pub record IsLastIn (base : ℕ) (changes : List (law.Element TimedOp)) (i m : ℕ) : Type 0 where
  pub none_after : ops_on i (drop (m - base) changes) ≡ []
  pub named : (m ≡ 0) ⊎ ((1 ≤ m) × ¬ (ops_on i (drop (m - 1 - base) changes) ≡ []))

-- For each hive, in their order, this is the number of the last change that names it.
abbrev pub AreLastIn : ℕ → List (law.Element TimedOp) → List ℕ → Type 0
AreLastIn base changes numbers = (i m : ℕ) → slice_get numbers i ≡ Some m → IsLastIn base changes i m

-- Changes, numbered after `below`, are counted in: if the numbers were right for the changes up to `below`, they are
-- now right for those and these.
pub record HasCounted (old : List ℕ) (below : ℕ) (changes : List Element) (new : List ℕ) : Type 0 where
  pub last : (base : ℕ) (known : List (law.Element TimedOp)) → base + length known ≡ below → AreLastIn base known old
      → AreLastIn base (known ++ timed_elements changes) new
  pub many : length new ≡ length old
