-- Changes with their numbers.
use Rattle.std.specs.Prelude.{ℕ, ◌+◌, List, [], ◌∷◌, map}
use Rattle.reg_tree.specs.declared.element.Element.{Element}
use Rattle.crash_model.specs.Changes as law
use Rattle.change_codec.specs.ModelChanges.{TimedOp, timed_element}

-- a change after its number
abbrev pub NumberedChange : Type 0
NumberedChange = ℕ × Element

-- items with consecutive numbers, from `base` + 1 on
abbrev pub numbered : {A : Type 0} → ℕ → List A → List (ℕ × A)
numbered base [] = []
numbered base (x ∷ xs) = (base + 1, x) ∷ numbered (base + 1) xs

-- the same changes as the crash model sees them
abbrev pub timed_changes : List NumberedChange → List (ℕ × law.Element TimedOp)
timed_changes changes = map (λ (c : NumberedChange). (c.0, timed_element c.1)) changes

-- the changes without their numbers
abbrev pub changes_in : List NumberedChange → List Element
changes_in changes = map (λ (c : NumberedChange). c.1) changes
