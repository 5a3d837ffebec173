-- What the deletion of a key with all keys below it answers, and what it leaves.
use Rattle.std.specs.Prelude.{◌≡◌, ◌⊎◌, ℕ, not, if◌then◌else◌, List, [], ◌∷◌, Option, Some, None, Result, Ok, Err}
use Rattle.std.specs.Option.{option_map}
use Rattle.refusals.specs.declared.refusal.Refusal.{Refusal}
use Rattle.refusals.specs.declared.refusal.Refusal.TheVariants.{NotFound, Fixed}
use Rattle.reg_names.specs.Names.{folded_path}
use Rattle.reg_tree_parts.specs.Rows.{Row}
use Rattle.reg_tree_parts.specs.Nodes.{begins_path, one_below}
use Rattle.reg_tree.specs.Maps.{TreeMap, row, is_there}
use Rattle.reg_tree.specs.Operations.{touched}
use Rattle.key_walk.specs.SubtreeRows.{rows_below}
use Rattle.regtx_c.specs.declared.codes.TheConstants.{OK, NO_MEMORY, NOT_OPEN}
use Rattle.regtx_c.specs.Codes.{refusal_code}
use Rattle.regtx_c.specs.Questions.{names_of}
use Rattle.regtx_c.specs.FixedKeys.{any_fixed}

-- what is left of the row at a path if the key of another path is deleted at a moment, with all below it: nothing at that
-- path and below it; its parent is written; every other row stays
abbrev pub row_without : List (List ℕ) → ℕ → List (List ℕ) → Option Row → Option Row
row_without deleted moment path was =
    if begins_path deleted path then None
    else if one_below path deleted then option_map (touched moment) was
    else was

-- why a key that isn't the root is not deleted with all below it: it isn't there; or it, or a key below it, may not be
-- deleted
abbrev pub why_kept : TreeMap → List (List ℕ) → Option Refusal
why_kept tree path =
    if not (is_there tree path) then Some NotFound
    else if any_fixed (rows_below tree path) then Some Fixed
    else None

-- why a key is not deleted with all below it; the root never is
abbrev pub deletion_refused : TreeMap → List (List ℕ) → Option Refusal
deletion_refused tree [] = Some Fixed
deletion_refused tree (name ∷ path) = why_kept tree (name ∷ path)

-- the key of a folded path is deleted with all below it, if nothing speaks against it; else the tree stays
abbrev pub DeletesUnless : Option Refusal → List (List ℕ) → ℕ → TreeMap → TreeMap → ℕ → Type 0
DeletesUnless None deleted moment before after code = (code ≡ OK) × ((path : List (List ℕ)) → row after path ≡ row_without deleted moment path (row before path))
DeletesUnless (Some why) deleted moment before after code = (code ≡ refusal_code why) × (after ≡ before)

-- memory was not given, and the tree stays
abbrev pub NoMemoryGiven : TreeMap → TreeMap → ℕ → Type 0
NoMemoryGiven before after code = (code ≡ NO_MEMORY) × (after ≡ before)

abbrev pub DeletesNamed : List (List ℕ) → ℕ → TreeMap → TreeMap → ℕ → Type 0
DeletesNamed deleted moment before after code = DeletesUnless (deletion_refused before deleted) deleted moment before after code ⊎ NoMemoryGiven before after code

-- the same of the names of a path, if it has any
abbrev pub DeletesIf : Result (List (List ℕ)) Refusal → ℕ → TreeMap → TreeMap → ℕ → Type 0
DeletesIf (Ok names) moment before after code = DeletesNamed (folded_path names) moment before after code
DeletesIf (Err why) moment before after code = ((code ≡ refusal_code why) × (after ≡ before)) ⊎ NoMemoryGiven before after code

-- the key at a path is deleted with all below it
abbrev pub DeletesTreeOrNoMemory : List ℕ → ℕ → TreeMap → TreeMap → ℕ → Type 0
DeletesTreeOrNoMemory text moment before after code = DeletesIf (names_of text) moment before after code

-- the same of the tree that is open; if none is, none is afterwards
abbrev pub DeletesOpen : List ℕ → ℕ → Option TreeMap → Option TreeMap → ℕ → Type 0
DeletesOpen text moment None None code = code ≡ NOT_OPEN
DeletesOpen text moment None (Some after) code = ⊥
DeletesOpen text moment (Some before) None code = ⊥
DeletesOpen text moment (Some before) (Some after) code = DeletesTreeOrNoMemory text moment before after code
