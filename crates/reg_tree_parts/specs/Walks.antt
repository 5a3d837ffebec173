-- Walks along a path of names: how far keys are there, and what an edit at the end of the way makes of the whole.
use Rattle.std.specs.Prelude.{◌≡◌, ℕ, ◌+◌, ◌-◌, ◌<◌, ◌≤◌, ◌⊎◌, false, List, [], ◌∷◌, ◌++◌, length, take, drop, Option, Some, None}
use Rattle.refusals.specs.declared.refusal.Refusal.{Refusal}
use Rattle.refusals.specs.declared.refusal.Refusal.TheVariants.{NoMemory}
use Rattle.reg_names.specs.Names.{folded, folded_path}
use Rattle.reg_tree_parts.specs.Rows.{Row}
use Rattle.reg_tree_parts.specs.Nodes.{Entries, root_name, row_at, names_below, begins_path, IsNode}

-- no key is there from the first name of a path on, if it has one
abbrev pub AreMissing : Entries → List (List ℕ) → Type 0
AreMissing entries [] = Unit {0}
AreMissing entries (name ∷ path) = (rest : List (List ℕ)) → row_at entries (folded name ∷ rest) ≡ None

-- a path leads on to a subkey with these entries, and these names come after it
pub record IsStep (entries : Entries) (path : List (List ℕ)) (child : Entries) (rest : List (List ℕ)) : Type 0 where
  pub name : List ℕ
  pub path_is : path ≡ name ∷ rest
  pub there : (q : List (List ℕ)) → row_at entries (folded name ∷ q) ≡ row_at child q
  pub names : (q : List (List ℕ)) → names_below (folded name ∷ q) entries ≡ names_below q child
  pub named : root_name child ≡ folded name

-- the deepest key on the way along a path that is there: this many names lead to it, and it has these entries
pub record IsNearest (entries : Entries) (path : List (List ℕ)) (depth : ℕ) (nearest : Entries) : Type 0 where
  pub within : depth ≤ length path
  pub there : (rest : List (List ℕ)) → row_at entries (folded_path (take depth path) ++ rest) ≡ row_at nearest rest
  pub names : (rest : List (List ℕ)) → names_below (folded_path (take depth path) ++ rest) entries ≡ names_below rest nearest
  pub row : Row
  pub here : row_at nearest [] ≡ Some row
  pub gone : depth < length path → (rest : List (List ℕ)) → row_at entries (folded_path (take (depth + 1) path) ++ rest) ≡ None

-- entries in which those of one key, and of all keys below it, are replaced by others
pub record IsReplaced (entries : Entries) (path : List (List ℕ)) (new made : Entries) : Type 0 where
  pub within : (rest : List (List ℕ)) → row_at made (path ++ rest) ≡ row_at new rest
  pub others : (other : List (List ℕ)) → begins_path path other ≡ false → row_at made other ≡ row_at entries other
  pub root : root_name made ≡ root_name entries
  pub node : IsNode made

-- what an edit of the nearest key makes of the whole, with the number of the names that are missing; nothing if it
-- leaves the key as it is
abbrev pub EditsAt : (Option Entries → Type 0) → Entries → List (List ℕ) → ℕ → Option (Entries × ℕ) → Type 0
EditsAt Makes entries path depth None = Makes None
EditsAt Makes entries path depth (Some made) =
    (new : Entries) × (Makes (Some new) × (IsReplaced entries (folded_path (take depth path)) new made.0 × (made.1 ≡ length path - depth)))

pub record IsEdited (Makes : Entries → List (List ℕ) → Option Entries → Type 0) (entries : Entries) (path : List (List ℕ)) (made : Option (Entries × ℕ)) : Type 0 where
  pub depth : ℕ
  pub nearest : Entries
  pub near : IsNearest entries path depth nearest
  pub edits : EditsAt (Makes nearest (drop depth path)) entries path depth made

-- an edit of the nearest key is refused; or there is no memory for what it makes of the whole
abbrev pub IsRefused : (Entries → List (List ℕ) → Refusal → Type 0) → Entries → List (List ℕ) → Refusal → Type 0
IsRefused Refuses entries path why =
    ((depth : ℕ) × ((nearest : Entries) × (IsNearest entries path depth nearest × Refuses nearest (drop depth path) why))) ⊎ (why ≡ NoMemory)
