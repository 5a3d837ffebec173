-- What the laws of operations speak of: all hives' trees, and accepted changes one after another.
use Rattle.std.specs.Prelude.{◌≡◌, ◌≤◌, ℕ, List, [], ◌∷◌, Some, IsOk, slice_get, ⊤}
use Rattle.refusals.specs.declared.limits.TheConstants.{MOST_WEIGHT}
use Rattle.reg_tree.specs.Maps.{TreeMap, IsTree, weight}
use Rattle.reg_tree.specs.Judgement.{legal, applied, applied_one}
use Rattle.reg_tree.specs.declared.op.Op.{Op}
use Rattle.reg_tree.specs.declared.element.Element.{Element}

-- each hive's tree has its root, parents and names
abbrev pub AreTrees : List TreeMap → Type 0
AreTrees trees = (hive : ℕ) (tree : TreeMap) → slice_get trees hive ≡ Some tree → IsTree tree

-- no hive's tree weighs more than the limit
abbrev pub AreWithin : List TreeMap → Type 0
AreWithin trees = (hive : ℕ) (tree : TreeMap) → slice_get trees hive ≡ Some tree → weight tree ≤ MOST_WEIGHT

-- each operation is legal on the trees after those before it
abbrev pub AreLegal : List TreeMap → List Op → ℕ → Type 0
AreLegal trees [] moment = ⊤
AreLegal trees (op ∷ ops) moment = IsOk (legal trees op) × AreLegal (applied_one trees op moment) ops moment

-- the trees after accepted changes, in order
abbrev pub after_elements : List TreeMap → List Element → List TreeMap
after_elements trees [] = trees
after_elements trees (element ∷ elements) = after_elements (applied trees element.ops element.moment) elements

-- each accepted change is legal on the trees after those before it
abbrev pub AreLegalElements : List TreeMap → List Element → Type 0
AreLegalElements trees [] = ⊤
AreLegalElements trees (element ∷ elements) =
    AreLegal trees element.ops element.moment × AreLegalElements (applied trees element.ops element.moment) elements
