-- What a node models: the entries of the key and of all keys below it, each a path from it on and a row.
use Rattle.std.specs.Prelude.{if◌then◌else◌, ◌≡◌, ℕ, min, Bool, true, false, ◌&&◌, Option, Some, None, IsSome, filter, List, [], ◌∷◌, ◌++◌, map, sum_by, T}
use Rattle.std.specs.List.{AllByRecursion}
use Rattle.std.specs.FinMap.Entries.{is_sorted, find}
use Rattle.std.specs.Ordering.{eq_by_cmp}
use Rattle.std.below.core.specs.declared.int.u64.TheConstants.{MAX}
use Rattle.std.specs.declared.sync.Arc.{Arc}
use Rattle.std.specs.declared.alloc.Global.{Global}
use Rattle.std.specs.Arc.{arc_value}
use Rattle.reg_names.specs.Names.{folded}
use Rattle.persistent_map.specs.declared.map.SharedMap.{SharedMap}
use Rattle.persistent_map.specs.Listings.{entries}
use Rattle.persistent_map.specs.Children.{FitsMap}
use Rattle.reg_tree_parts.specs.Orders.{name_order, path_order}
use Rattle.reg_tree_parts.specs.Rows.{Row, row_weight}
use Rattle.reg_tree_parts.specs.NewRows.{new_row}

-- paths and the rows at them
abbrev pub Entries : Type 0
Entries = List (List (List ℕ) × Row)

-- the folded name of the key whose entries these are, which is the first of them
abbrev pub root_name : Entries → List ℕ
root_name [] = []
root_name (entry ∷ rest) = let row = entry.1 in folded row.name

-- the name of the first of these entries, as spelled
abbrev pub spelled_root : Entries → List ℕ
spelled_root [] = []
spelled_root (entry ∷ rest) = let row = entry.1 in row.name

-- the entries of a subkey, seen from its parent
abbrev pub below : List ℕ → Entries → Entries
below name entries = map (λ e. (name ∷ e.0, e.1)) entries

-- the entries of a subkey under its own name
abbrev pub subkey_entry : Arc Entries Global → List ℕ × Entries
subkey_entry subkey = (root_name (arc_value subkey), arc_value subkey)

abbrev pub subkey_entries : List (Arc Entries Global) → List (List ℕ × Entries)
subkey_entries subkeys = map subkey_entry subkeys

-- the entries of all subkeys, seen from their parent
abbrev pub all_below : List (List ℕ × Entries) → Entries
all_below [] = []
all_below (subkey ∷ subkeys) = below subkey.0 subkey.1 ++ all_below subkeys

-- the entries of a key with these subkeys
abbrev pub entries_of : Row → List (List ℕ × Entries) → Entries
entries_of row subkeys = ([], row) ∷ all_below subkeys

-- the weight of entries: the weight of their rows together
abbrev pub entries_weight : Entries → ℕ
entries_weight entries = sum_by (λ e. row_weight e.1) entries

-- the row at a path
abbrev pub row_at : Entries → List (List ℕ) → Option Row
row_at entries path = find path_order path entries

-- the entries of one key and those below it: first its own, then others whose paths rise; each key's parent is there,
-- and a key below the first is under the fold of its name
pub record IsNode (entries : Entries) : Type 0 where
  pub row : Row
  pub others : Entries
  pub whole : entries ≡ ([], row) ∷ others
  pub rises : T (is_sorted path_order entries)
  pub parents : (path : List (List ℕ)) (name : List ℕ) → IsSome (row_at entries (path ++ name ∷ [])) → IsSome (row_at entries path)
  pub named : (path : List (List ℕ)) (name : List ℕ) (key : Row) → row_at entries (path ++ name ∷ []) ≡ Some key → folded key.name ≡ name

-- each of a list of subkeys is one
abbrev pub AreNodes : List (List ℕ × Entries) → Type 0
AreNodes [] = Unit {0}
AreNodes (subkey ∷ subkeys) = IsNode subkey.1 × AreNodes subkeys

-- what is so of every node: its subkeys are nodes in the order of their names, whose counts and weights are kept; its
-- weight is the weight of its entries, up to the greatest number of 64 bits
pub record NodeFits (row : Row) (subkeys : SharedMap Entries) (weight : ℕ) : Type 0 where
  pub nodes : AreNodes (entries root_name subkeys)
  pub rises : T (is_sorted name_order (entries root_name subkeys))
  pub fits : FitsMap root_name entries_weight subkeys
  pub weighs : weight ≡ min (entries_weight (entries_of row (entries root_name subkeys))) MAX

-- the row at a path of what was found, if anything was
abbrev pub row_in : Option Entries → List (List ℕ) → Option Row
row_in None path = None
row_in (Some entries) path = row_at entries path

-- the names of the keys one level below a path, in the order of the entries
abbrev pub one_below : List (List ℕ) → List (List ℕ) → Bool
one_below [] [] = false
one_below [] (n ∷ []) = true
one_below [] (n ∷ m ∷ path) = false
one_below (k ∷ path) [] = false
one_below (k ∷ path) (n ∷ other) = eq_by_cmp name_order k n && one_below path other

abbrev pub names_below : List (List ℕ) → Entries → List (List ℕ)
names_below path entries = map (λ e. let row = e.1 in row.name) (filter (λ e. one_below path e.0) entries)

-- whether a path extends another, by folded names
abbrev pub begins_path : List (List ℕ) → List (List ℕ) → Bool
begins_path [] other = true
begins_path (n ∷ path) [] = false
begins_path (n ∷ path) (m ∷ other) = eq_by_cmp name_order m n && begins_path path other

-- the rows of a new key, and below it of one new key of each further name
abbrev pub branch_row : List ℕ → List (List ℕ) → List ℕ → ℕ → List (List ℕ) → Option Row
branch_row name further descriptor time [] = Some (new_row name descriptor time)
branch_row name [] descriptor time (m ∷ path) = None
branch_row name (next ∷ further) descriptor time (m ∷ path) =
    if eq_by_cmp name_order m (folded next) then branch_row next further descriptor time path else None

-- entries below a key by the first names of their paths: one entry more in front, under this name, its path from there
-- on
abbrev pub with_entry : List ℕ → List (List ℕ) × Row → List (List ℕ × Entries) → List (List ℕ × Entries)
with_entry n entry [] = (n, entry ∷ []) ∷ []
with_entry n entry (subkey ∷ subkeys) =
    if eq_by_cmp name_order n subkey.0 then (subkey.0, entry ∷ subkey.1) ∷ subkeys else (n, entry ∷ []) ∷ subkey ∷ subkeys

-- the subkeys of the key whose entries these are, in the order of the entries: each name one level below it, and the
-- entries from there on
abbrev pub subkeys_of : Entries → List (List ℕ × Entries)
subkeys_of [] = []
subkeys_of (([], row) ∷ entries) = subkeys_of entries
subkeys_of ((n ∷ path, row) ∷ entries) = with_entry n (path, row) (subkeys_of entries)

-- entries are those of a key with subkeys, which are nodes under their own names, in their order
pub record HasSubkeys (entries : Entries) (subkeys : List (List ℕ × Entries)) : Type 0 where
  pub whole : (row : Row) → row_at entries [] ≡ Some row → entries ≡ entries_of row subkeys
  pub nodes : AreNodes subkeys
  pub rises : T (is_sorted name_order subkeys)
  pub named : AllByRecursion (λ (subkey : List ℕ × Entries). root_name subkey.1 ≡ subkey.0) subkeys
