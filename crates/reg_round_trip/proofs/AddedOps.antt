-- Operations that are legal one after another, and write no value that is there.
use Rattle.std.proofs.Common.{◌≡◌, ℕ, List, [], ◌∷◌, ◌++◌, Some, None, Ok, ◌∙◌, ap}
use Rattle.std.specs.Prelude.{slice_get, ⊤}
use Rattle.std.specs.Option.{option_and_then}
use Rattle.reg_names.specs.Names.{folded_path}
use Rattle.reg_tree.specs.Maps.{TreeMap}
use Rattle.reg_tree.specs.Reads.{value_at}
use Rattle.reg_tree.specs.TreeLists.{value_in}
use Rattle.reg_tree.specs.Operations.{hive_of}
use Rattle.reg_tree.specs.Judgement.{legal, applied, applied_one}
use Rattle.reg_tree.specs.declared.op.Op.{Op}
use Rattle.reg_tree.specs.declared.op.Op.TheVariants.{CreateKey, DeleteKey, SetValue, DeleteValue}
use Rattle.reg_tree.specs.declared.op.Legality.TheVariants.{Legal}
use Rattle.store_model.specs.Invariant.{AreLegalChanges}

-- an operation writes no value that is there
abbrev pub WritesNew : TreeMap → Op → Type 0
WritesNew tree (CreateKey hive path) = ⊤
WritesNew tree (DeleteKey hive path) = ⊤
WritesNew tree (SetValue hive path name kind bytes) = value_at tree (folded_path path) name ≡ None
WritesNew tree (DeleteValue hive path name) = ⊤

-- the same in the trees of all hives
abbrev pub WritesNewIn : List TreeMap → Op → Type 0
WritesNewIn trees (CreateKey hive path) = ⊤
WritesNewIn trees (DeleteKey hive path) = ⊤
WritesNewIn trees (SetValue hive path name kind bytes) = value_in trees hive (folded_path path) name ≡ None
WritesNewIn trees (DeleteValue hive path name) = ⊤

pub new_among : (trees : List TreeMap) (tree : TreeMap) (op : Op) → slice_get trees (hive_of op) ≡ Some tree → WritesNew tree op → WritesNewIn trees op
new_among trees tree (CreateKey hive path) found new = tt
new_among trees tree (DeleteKey hive path) found new = tt
new_among trees tree (SetValue hive path name kind bytes) found new = ap (option_and_then (λ t. value_at t (folded_path path) name)) found ∙ new
new_among trees tree (DeleteValue hive path name) found new = tt

-- such operations, one after another
abbrev pub AreAdded : List TreeMap → List Op → ℕ → Type 0
AreAdded trees [] moment = ⊤
AreAdded trees (op ∷ ops) moment = ((legal trees op ≡ Ok Legal) × WritesNewIn trees op) × AreAdded (applied_one trees op moment) ops moment

pub added_legal : (trees : List TreeMap) (ops : List Op) (moment : ℕ) → AreAdded trees ops moment → AreLegalChanges trees ops moment
added_legal trees [] moment added = tt
added_legal trees (op ∷ ops) moment added = (added.0.0, added_legal (applied_one trees op moment) ops moment added.1)

-- the first and the last of them
pub added_both : (trees : List TreeMap) (front back : List Op) (moment : ℕ) → AreAdded trees front moment → AreAdded (applied trees front moment) back moment → AreAdded trees (front ++ back) moment
added_both trees [] back moment one two = two
added_both trees (op ∷ front) back moment one two = (one.0, added_both (applied_one trees op moment) front back moment one.1 two)

pub added_front : (trees : List TreeMap) (front back : List Op) (moment : ℕ) → AreAdded trees (front ++ back) moment → AreAdded trees front moment
added_front trees [] back moment added = tt
added_front trees (op ∷ front) back moment added = (added.0, added_front (applied_one trees op moment) front back moment added.1)

pub added_back : (trees : List TreeMap) (front back : List Op) (moment : ℕ) → AreAdded trees (front ++ back) moment → AreAdded (applied trees front moment) back moment
added_back trees [] back moment added = added
added_back trees (op ∷ front) back moment added = added_back (applied_one trees op moment) front back moment added.1
