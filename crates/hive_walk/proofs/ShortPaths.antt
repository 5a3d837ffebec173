-- Keys that were judged lie on no more levels than a path may have names.
use Rattle.std.proofs.Common.{◌≡◌, ◌≤◌, ◌+◌, ℕ, zero, suc, List, [], ◌∷◌, length, Some, sym, ◌∙◌, arith, Bool}
use Rattle.refusals.specs.declared.limits.TheConstants.{MOST_PATH_NAMES}
use Rattle.reg_tree_parts.specs.Rows.{Row}
use Rattle.hive_cells.specs.Bins.{Cells}
use Rattle.reg_tree.specs.Maps.{row}
use Rattle.hive_tree_model.specs.Keys.{KeyParts, Keys, none, key}
use Rattle.hive_tree_model.specs.Trees.{row_from, tree_of}
use Rattle.hive_tree_model.proofs.Rows.{row_of_tree}
use Rattle.hive_load.specs.Answers.{IsShallow}
use Rattle.hive_load.proofs.Ends.{shallow_row}
use Rattle.hive_walk.specs.Walks.{HasShortPaths, HasShortPathsBelow, KeyIsSound}

from_root : (levels : ℕ) (top : Row) (below : Keys Row) → IsShallow levels below → (path : List (List ℕ)) (its : Row) → row_from top below path ≡ Some its → length path ≤ levels
from_root levels top below shallow [] its is = omega arith
from_root levels top below shallow (name ∷ path) its is = shallow_row levels below shallow (name ∷ path) its is

short_rows : (split : Bool) (cells : Cells) (levels at : ℕ) (parts : KeyParts Row) (below : Keys Row) → KeyIsSound split cells levels at parts below → (path : List (List ℕ)) (its : Row) → row (tree_of parts below) path ≡ Some its → length path ≤ levels
short_rows split cells levels at parts below sound path its is =
    from_root levels parts.row below sound.shallow path its (sym (row_of_tree parts below sound.whole.named path) ∙ is)

pub short_paths : (split : Bool) (cells : Cells) (at : ℕ) (parts : KeyParts Row) (below : Keys Row) → KeyIsSound split cells MOST_PATH_NAMES at parts below → HasShortPaths (tree_of parts below)
short_paths split cells at parts below sound path its is = short_rows split cells MOST_PATH_NAMES at parts below sound path its is

pub short_below : (split : Bool) (cells : Cells) (names : List (List ℕ)) (levels at : ℕ) (parts : KeyParts Row) (below : Keys Row) → length names + levels ≡ MOST_PATH_NAMES → KeyIsSound split cells levels at parts below → HasShortPathsBelow names (tree_of parts below)
short_below split cells names levels at parts below depth sound path its is =
    let short : length path ≤ levels = short_rows split cells levels at parts below sound path its is in omega (arith, depth, short)

-- keys on so many levels are on more
shallow_more : (levels most : ℕ) (keys : Keys Row) → levels ≤ most → IsShallow levels keys → IsShallow most keys
shallow_more levels most none le h = tt
shallow_more zero most (key at parts below after) le h = absurd h
shallow_more (suc levels) zero (key at parts below after) le h = absurd (omega (arith, le))
shallow_more (suc levels) (suc most) (key at parts below after) le h = (shallow_more levels most below (omega (arith, le)) h.0, shallow_more (suc levels) (suc most) after le h.1)

pub sound_on_more : (split : Bool) (cells : Cells) (levels most at : ℕ) (parts : KeyParts Row) (below : Keys Row) → levels ≤ most → KeyIsSound split cells levels at parts below → KeyIsSound split cells most at parts below
sound_on_more split cells levels most at parts below le sound = record { whole = sound.whole; apart = sound.apart; shallow = shallow_more levels most below le sound.shallow }
