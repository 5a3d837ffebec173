-- Whether an operation may be carried out, and its first refusal.
use Rattle.std.specs.Prelude.{◌≡◌, ℕ, nat_lt, ◌==◌, Bool, false, not, ◌||◌, is_none, if◌then◌else◌, List, [], ◌∷◌, length, slice_get, slice_set, Option, Some, None, Result, Ok, Err, bit_and}
use Rattle.std.specs.Result.{is_err}
use Rattle.std.specs.FinMap as finite
use Rattle.reg_names.specs.Names.{folded, folded_path}
use Rattle.refusals.specs.declared.refusal.Refusal.{Refusal}
use Rattle.refusals.specs.declared.refusal.Refusal.TheVariants.{NotFound, HasSubkeys, TooDeep, TooLarge, Fixed}
use Rattle.refusals.specs.declared.limits.TheConstants.{MOST_NEW_LEVELS, MOST_VALUE_BYTES, MOST_WEIGHT}
use Rattle.reg_tree_parts.specs.Rows.{Row}
use Rattle.reg_tree.specs.Maps.{TreeMap, row, is_there, subkeys, missing, weight}
use Rattle.reg_tree.specs.Operations.{hive_of, tree_after}
use Rattle.reg_tree.specs.declared.op.Op.{Op}
use Rattle.reg_tree.specs.declared.op.Op.TheVariants.{CreateKey, DeleteKey, SetValue, DeleteValue}
use Rattle.reg_tree.specs.declared.op.Legality.{Legality}
use Rattle.reg_tree.specs.declared.op.Legality.TheVariants.{Legal, Opened}

-- a key that is there is opened; over 32 missing levels are too deep
abbrev pub judged_create : TreeMap → List (List ℕ) → Result Legality Refusal
judged_create tree path =
    if is_there tree path then Ok Opened
    else if nat_lt MOST_NEW_LEVELS (length (missing tree path)) then Err TooDeep
    else Ok Legal

-- a key stays if it is not deletable, by its flag 0x0008, or has subkeys
abbrev pub judged_delete : ℕ → List (List ℕ) → Result Legality Refusal
judged_delete flags below = if not (bit_and flags 8 == 0) then Err Fixed else if not (length below == 0) then Err HasSubkeys else Ok Legal

-- an operation on a key that is not there finds nothing
abbrev pub judged_there : Option Row → (Row → Result Legality Refusal) → Result Legality Refusal
judged_there None judge = Err NotFound
judged_there (Some key) judge = judge key

-- the root is never deleted
abbrev pub judged_delete_at : TreeMap → List (List ℕ) → Result Legality Refusal
judged_delete_at tree [] = Err Fixed
judged_delete_at tree (name ∷ path) = judged_there (row tree (folded_path (name ∷ path))) (λ key. judged_delete key.flags (subkeys tree (folded_path (name ∷ path))))

-- data over 1,048,576 bytes are too large
abbrev pub judged_set : TreeMap → List (List ℕ) → List ℕ → Result Legality Refusal
judged_set tree path bytes = judged_there (row tree path) (λ key. if nat_lt MOST_VALUE_BYTES (length bytes) then Err TooLarge else Ok Legal)

-- a value that is not there is not deleted
abbrev pub judged_unset : TreeMap → List (List ℕ) → List ℕ → Result Legality Refusal
judged_unset tree path name = judged_there (row tree path) (λ key. if is_none (finite.get key.values (folded name)) then Err NotFound else Ok Legal)

-- whether an operation may be carried out on a tree, weights aside
abbrev pub judged : TreeMap → Op → Result Legality Refusal
judged tree (CreateKey hive path) = judged_create tree (folded_path path)
judged tree (DeleteKey hive path) = judged_delete_at tree path
judged tree (SetValue hive path name kind bytes) = judged_set tree (folded_path path) bytes
judged tree (DeleteValue hive path name) = judged_unset tree (folded_path path) name

-- the tree after an operation; one that may not be carried out, or that opens a key, changes nothing
abbrev pub changed_if : Result Legality Refusal → TreeMap → TreeMap → TreeMap
changed_if (Ok Legal) after tree = after
changed_if (Ok Opened) after tree = tree
changed_if (Err refusal) after tree = tree

abbrev pub changed : TreeMap → Op → ℕ → TreeMap
changed tree op moment = changed_if (judged tree op) (tree_after tree op moment) tree

-- a tree that an operation made may not weigh more than the limit
abbrev pub weighed : ℕ → Result Legality Refusal
weighed total = if nat_lt MOST_WEIGHT total then Err TooLarge else Ok Legal

abbrev pub legal_after : Op → Result Legality Refusal → ℕ → Result Legality Refusal
legal_after op (Err refusal) total = Err refusal
legal_after op (Ok Opened) total = Ok Opened
legal_after (CreateKey hive path) (Ok Legal) total = weighed total
legal_after (DeleteKey hive path) (Ok Legal) total = Ok Legal
legal_after (SetValue hive path name kind bytes) (Ok Legal) total = weighed total
legal_after (DeleteValue hive path name) (Ok Legal) total = Ok Legal

-- whether an operation is legal on a tree: it may be carried out, and a creation or a value written leaves the
-- tree within the limit of weight
abbrev pub legal_in : TreeMap → Op → Result Legality Refusal
legal_in tree op = legal_after op (judged tree op) (weight (changed tree op 0))

-- whether an operation is legal on trees: a hive that isn't there is not found, before all else
abbrev pub legal_if : Option TreeMap → Op → Result Legality Refusal
legal_if None op = Err NotFound
legal_if (Some tree) op = legal_in tree op

abbrev pub legal : List TreeMap → Op → Result Legality Refusal
legal trees op = legal_if (slice_get trees (hive_of op)) op

-- the trees after an operation at a moment
abbrev pub applied_if : List TreeMap → Option TreeMap → Op → ℕ → List TreeMap
applied_if trees None op moment = trees
applied_if trees (Some tree) op moment = slice_set trees (hive_of op) (changed tree op moment)

abbrev pub applied_one : List TreeMap → Op → ℕ → List TreeMap
applied_one trees op moment = applied_if trees (slice_get trees (hive_of op)) op moment

-- the trees after a list of operations at one moment, in order
abbrev pub applied : List TreeMap → List Op → ℕ → List TreeMap
applied trees [] moment = trees
applied trees (op ∷ ops) moment = applied (applied_one trees op moment) ops moment

-- what a write of an operation answers, by its judgement and by what it would make: this, if the operation is legal,
-- and nothing if it opens a key
abbrev pub IsWritten : {T : Type 0} → Result Legality Refusal → T → Option T → Type 0
IsWritten judgement after (Some made) = (judgement ≡ Ok Legal) × (made ≡ after)
IsWritten judgement after None = judgement ≡ Ok Opened

-- whether an operation at a moment leaves its hive's tree heavier than the limit: a creation or a value that is written
-- may, a deletion never does, nor any operation on a hive that isn't there
abbrev pub outweighs_if : Option TreeMap → Op → ℕ → Bool
outweighs_if None op moment = false
outweighs_if (Some tree) op moment = is_err (legal_after op (Ok Legal) (weight (changed tree op moment)))

abbrev pub outweighs : List TreeMap → Op → ℕ → Bool
outweighs trees op moment = outweighs_if (slice_get trees (hive_of op)) op moment

-- whether some operation of a list does, on the trees after those before it
abbrev pub any_outweighs : List TreeMap → List Op → ℕ → Bool
any_outweighs trees [] moment = false
any_outweighs trees (op ∷ ops) moment = outweighs trees op moment || any_outweighs (applied_one trees op moment) ops moment
