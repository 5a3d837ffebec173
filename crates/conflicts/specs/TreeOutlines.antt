-- Trees and operations as the law of claims sees them, and lists of operations that may be carried out.
use Rattle.std.specs.Prelude.{◌≡◌, ℕ, ◌==◌, not, Bool, false, is_some, List, [], ◌∷◌, length, nat_lt, Option, Some, None, Result, Ok, Err, slice_get, bit_and, ⊤}
use Rattle.std.specs.List.{AllByRecursion}
use Rattle.std.specs.FinMap as finite
use Rattle.reg_names.specs.Names.{folded, folded_path}
use Rattle.refusals.specs.declared.refusal.Refusal.{Refusal}
use Rattle.refusals.specs.declared.refusal.Refusal.TheVariants.{NotFound}
use Rattle.refusals.specs.declared.limits.TheConstants.{MOST_VALUE_BYTES}
use Rattle.reg_tree_parts.specs.Rows.{Row}
use Rattle.reg_tree.specs.Maps.{TreeMap, row}
use Rattle.reg_tree.specs.Operations.{hive_of}
use Rattle.reg_tree.specs.Judgement.{judged, applied, applied_one}
use Rattle.reg_tree.specs.Sequences.{AreTrees}
use Rattle.reg_tree.specs.TreeLists.{levels_in}
use Rattle.reg_tree.specs.declared.op.Op.{Op}
use Rattle.reg_tree.specs.declared.op.Op.TheVariants.{CreateKey, DeleteKey, SetValue, DeleteValue}
use Rattle.reg_tree.specs.declared.op.Legality.{Legality}
use Rattle.reg_tree.specs.declared.op.Legality.TheVariants.{Legal}
use Rattle.conflicts.specs.Skeleton as law
use Rattle.conflicts.specs.Claims.{key_at, claim_of}

-- the row of a key; a hive that is not there has none
abbrev pub row_if : Option TreeMap → List (List ℕ) → Option Row
row_if None path = None
row_if (Some tree) path = row tree path

abbrev pub row_of : List TreeMap → law.Key → Option Row
row_of trees key = row_if (slice_get trees key.hive) key.path

-- a key is protected from deletion by its flag 0x0008
abbrev pub is_protected : Option Row → Bool
is_protected None = false
is_protected (Some key) = not (bit_and key.flags 8 == 0)

-- whether a key has a value of this folded name
abbrev pub has_value : Option Row → List ℕ → Bool
has_value None name = false
has_value (Some key) name = is_some (finite.get key.values name)

-- the skeleton of trees: which keys are there, which are protected, and which values they have
abbrev pub skeleton : List TreeMap → law.Skeleton
skeleton trees = record {
  there = λ key. is_some (row_of trees key);
  protected = λ key. is_protected (row_of trees key);
  value = λ key name. has_value (row_of trees key) name;
}

-- an operation, without a value's data
abbrev pub outline : Op → law.Op
outline (CreateKey hive path) = law.CreateKey (key_at hive path)
outline (DeleteKey hive path) = law.DeleteKey (key_at hive path)
outline (SetValue hive path name kind bytes) = law.SetValue (key_at hive path) (folded name)
outline (DeleteValue hive path name) = law.DeleteValue (key_at hive path) (folded name)

-- whether an operation may be carried out on trees, weights left out: a hive that is not there is not found
abbrev pub judged_if : Option TreeMap → Op → Result Legality Refusal
judged_if None op = Err NotFound
judged_if (Some tree) op = judged tree op

abbrev pub judged_in : List TreeMap → Op → Result Legality Refusal
judged_in trees op = judged_if (slice_get trees (hive_of op)) op

-- the data of a value that is written are within the limit; no other operation has data
abbrev pub FitsData : Op → Type 0
FitsData (CreateKey hive path) = ⊤
FitsData (DeleteKey hive path) = ⊤
FitsData (SetValue hive path name kind bytes) = nat_lt MOST_VALUE_BYTES (length bytes) ≡ false
FitsData (DeleteValue hive path name) = ⊤

-- each operation may be carried out, and changes something, on the trees after those before it
abbrev pub AreCarriedOut : List TreeMap → List Op → ℕ → Type 0
AreCarriedOut trees [] moment = ⊤
AreCarriedOut trees (op ∷ ops) moment = (judged_in trees op ≡ Ok Legal) × AreCarriedOut (applied_one trees op moment) ops moment

-- no claim of the first operations conflicts with one of the others
abbrev pub OpsDontConflict : List Op → List Op → Type 0
OpsDontConflict first others = AllByRecursion (λ a. AllByRecursion (λ b. law.Conflict (claim_of a) (claim_of b) → ⊥) others) first

-- a creation makes as many keys in these trees as in others; no other operation makes keys
abbrev pub MakesAlike : Op → List TreeMap → List TreeMap → Type 0
MakesAlike (CreateKey hive path) trees others = levels_in trees hive (folded_path path) ≡ levels_in others hive (folded_path path)
MakesAlike (DeleteKey hive path) trees others = ⊤
MakesAlike (SetValue hive path name kind bytes) trees others = ⊤
MakesAlike (DeleteValue hive path name) trees others = ⊤

-- A change beside operations that are carried out one after another on trees which have their roots and parents. None
-- of their claims conflicts with its own. It may be carried out before them, and it makes as many keys after them as
-- before them.
pub record IsBeside (trees : List TreeMap) (ops : List Op) (change : Op) (moment : ℕ) : Type 0 where
  pub are : AreTrees trees
  pub apart : OpsDontConflict ops (change ∷ [])
  pub carried : AreCarriedOut trees ops moment
  pub legal : judged_in trees change ≡ Ok Legal
  pub alike : MakesAlike change (applied trees ops moment) trees
