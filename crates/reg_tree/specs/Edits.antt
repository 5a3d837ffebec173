-- What an operation does at the end of its walk: with the key of its path, or with the nearest one that is there.
use Rattle.std.specs.Prelude.{◌≡◌, ℕ, ◌-◌, nat_lt, ◌⊎◌, false, is_none, if◌then◌else◌, List, [], ◌∷◌, length, take, drop, Option, Some, None, Result, Ok, Err}
use Rattle.std.specs.FinMap as finite
use Rattle.std.specs.Ordering.{eq_by_cmp}
use Rattle.reg_names.specs.Names.{folded}
use Rattle.refusals.specs.declared.refusal.Refusal.{Refusal}
use Rattle.refusals.specs.declared.refusal.Refusal.TheVariants.{NotFound, TooDeep, TooLarge, Fixed, NoMemory}
use Rattle.refusals.specs.declared.limits.TheConstants.{MOST_NEW_LEVELS, MOST_VALUE_BYTES}
use Rattle.reg_tree_parts.specs.Orders.{name_order}
use Rattle.reg_tree_parts.specs.Rows.{Row}
use Rattle.reg_tree_parts.specs.ValueEdits.{values_with, values_without}
use Rattle.reg_tree_parts.specs.Nodes.{Entries, row_at, names_below, branch_row}
use Rattle.reg_tree.specs.Operations.{touched}
use Rattle.reg_tree.specs.Judgement.{judged_there, judged_delete}
use Rattle.reg_tree.specs.declared.op.Op.{Op}
use Rattle.reg_tree.specs.declared.op.Op.TheVariants.{CreateKey, DeleteKey, SetValue, DeleteValue}
use Rattle.reg_tree.specs.declared.op.Legality.{Legality}
use Rattle.reg_tree.specs.declared.op.Legality.TheVariants.{Legal, Opened}

-- the names that an operation walks along: those of its path, or for the deletion of a key those of its parent's path
abbrev pub walk_of : Op → List (List ℕ)
walk_of (CreateKey hive path) = path
walk_of (DeleteKey hive path) = take (length path - 1) path
walk_of (SetValue hive path name kind bytes) = path
walk_of (DeleteValue hive path name) = path

-- a creation, by the names that are missing: if none are, the key is opened; more than 32 are too many
abbrev pub judged_missing : List (List ℕ) → Result Legality Refusal
judged_missing [] = Ok Opened
judged_missing (name ∷ more) = if nat_lt MOST_NEW_LEVELS (length (name ∷ more)) then Err TooDeep else Ok Legal

-- any other operation finds nothing if a name is missing
abbrev pub judged_found : List (List ℕ) → Result Legality Refusal → Result Legality Refusal
judged_found [] judgement = judgement
judged_found (name ∷ more) judgement = Err NotFound

-- a deletion of the subkey of the last name; the root, which has none, stays
abbrev pub judged_last : Entries → List (List ℕ) → Result Legality Refusal
judged_last key [] = Err Fixed
judged_last key (name ∷ more) = judged_there (row_at key (folded name ∷ [])) (λ row. judged_delete row.flags (names_below (folded name ∷ []) key))

-- data of a value
abbrev pub judged_data : List ℕ → Result Legality Refusal
judged_data bytes = if nat_lt MOST_VALUE_BYTES (length bytes) then Err TooLarge else Ok Legal

-- a deletion of a value
abbrev pub judged_value : Entries → List ℕ → Result Legality Refusal
judged_value key name = judged_there (row_at key []) (λ row. if is_none (finite.get row.values (folded name)) then Err NotFound else Ok Legal)

-- how an operation is judged by the nearest key and the names that are missing
abbrev pub judged_at : Op → Entries → List (List ℕ) → Result Legality Refusal
judged_at (CreateKey hive path) key missing = judged_missing missing
judged_at (DeleteKey hive path) key missing = judged_found missing (judged_last key (drop (length path - 1) path))
judged_at (SetValue hive path name kind bytes) key missing = judged_found missing (judged_data bytes)
judged_at (DeleteValue hive path name) key missing = judged_found missing (judged_value key name)

-- new keys are below a key, one of each of these names below the other, and the key is written
pub record IsBranched (key : Entries) (names : List (List ℕ)) (moment : ℕ) (new : Entries) : Type 0 where
  pub name : List ℕ
  pub further : List (List ℕ)
  pub names_are : names ≡ name ∷ further
  pub row : Row
  pub was : row_at key [] ≡ Some row
  pub here : row_at new [] ≡ Some (touched moment row)
  pub branch : Entries
  pub rows : (r : List (List ℕ)) → row_at branch r ≡ branch_row name further row.descriptor moment r
  pub below : (r : List (List ℕ)) → row_at new (folded name ∷ r) ≡ row_at branch r
  pub kept : (m : List ℕ) (r : List (List ℕ)) → eq_by_cmp name_order m (folded name) ≡ false → row_at new (m ∷ r) ≡ row_at key (m ∷ r)

-- a key lacks the subkey of the first of these names, with all below that, and is written
pub record LacksSubkey (key : Entries) (names : List (List ℕ)) (moment : ℕ) (new : Entries) : Type 0 where
  pub name : List ℕ
  pub further : List (List ℕ)
  pub names_are : names ≡ name ∷ further
  pub row : Row
  pub was : row_at key [] ≡ Some row
  pub here : row_at new [] ≡ Some (touched moment row)
  pub gone : (r : List (List ℕ)) → row_at new (folded name ∷ r) ≡ None
  pub kept : (m : List ℕ) (r : List (List ℕ)) → eq_by_cmp name_order m (folded name) ≡ false → row_at new (m ∷ r) ≡ row_at key (m ∷ r)

-- a key's row is edited and written, and its subkeys stay
pub record IsRewritten (key : Entries) (edit : Row → Row) (moment : ℕ) (new : Entries) : Type 0 where
  pub row : Row
  pub was : row_at key [] ≡ Some row
  pub here : row_at new [] ≡ Some (touched moment (edit row))
  pub below : (m : List ℕ) (r : List (List ℕ)) → row_at new (m ∷ r) ≡ row_at key (m ∷ r)

-- what an operation that may be carried out makes of the nearest key
abbrev pub EditsKey : Op → ℕ → Entries → List (List ℕ) → Entries → Type 0
EditsKey (CreateKey hive path) moment key missing new = IsBranched key missing moment new
EditsKey (DeleteKey hive path) moment key missing new = LacksSubkey key (drop (length path - 1) path) moment new
EditsKey (SetValue hive path name kind bytes) moment key missing new = IsRewritten key (λ row. record row { values = values_with row.values name kind bytes }) moment new
EditsKey (DeleteValue hive path name) moment key missing new = IsRewritten key (λ row. record row { values = values_without row.values name }) moment new

-- what is made of the nearest key, or nothing if that is opened
abbrev pub makes : Op → ℕ → Entries → List (List ℕ) → Option Entries → Type 0
makes op moment key missing None = judged_at op key missing ≡ Ok Opened
makes op moment key missing (Some new) = (judged_at op key missing ≡ Ok Legal) × EditsKey op moment key missing new

abbrev pub refuses : Op → ℕ → Entries → List (List ℕ) → Refusal → Type 0
refuses op moment key missing why = (judged_at op key missing ≡ Err why) ⊎ (why ≡ NoMemory)

-- what is counted if this many names were missing: the keys that a creation made
abbrev pub counted : Op → ℕ → Option ℕ
counted (CreateKey hive path) missing = Some missing
counted (DeleteKey hive path) missing = None
counted (SetValue hive path name kind bytes) missing = None
counted (DeleteValue hive path name) missing = None
