-- How lists of subkeys change cell by cell, while one of them gets an element or is split.
use Rattle.std.specs.Prelude.{◌≡◌, ◌≢◌, ◌⊎◌, ℕ, suc, ◌+◌, ◌-◌, ◌*◌, ◌≤◌, ◌<◌, List, ◌∷◌, ◌++◌, length, take, drop, slice_get, slice_index, Some, None, IsSome}
use Rattle.hive_tree_model.specs.Lists.{IsIn, Once}
use Rattle.hive_tree_model.specs.Cells.{SameBut}
use Rattle.hive_cells.specs.Tiles.{cell_data}
use Rattle.hive_cells.specs.Bins.{Cells, Shows}
use Rattle.hive_records.specs.Numbers.{u16_at}
use Rattle.hive_records.specs.Lists.{subkeys_at}
use Rattle.hive_records.specs.Fields.{Gives}
use Rattle.hive_savepoint.specs.Puts.{HasData}
use Rattle.hive_edit_laws.specs.Shifts.{ShiftsIn}
use Rattle.hive_edit_laws.specs.Found.{HoldsList, IsLeaf, leaf_words, list_words}
use Rattle.hive_edit.specs.declared.key_lists.KeyList.{KeyList}
use Rattle.hive_edit.specs.declared.leaf_edit.LeafShape.{LeafShape}
use Rattle.hive_edit.specs.declared.leaf_insert.NewElement.{NewElement}

-- cells that hold no list of subkeys keep their sizes; they keep their data too
abbrev pub KeepsSizes : List ℕ → List ℕ → Type 0
KeepsSizes old_bytes new_bytes = (cell len : ℕ) → ¬ HoldsList old_bytes cell → HasData old_bytes cell len → HasData new_bytes cell len

abbrev pub KeepsCells : List ℕ → List ℕ → Type 0
KeepsCells old_bytes new_bytes = (cell len : ℕ) → ¬ HoldsList old_bytes cell → HasData old_bytes cell len → HasData new_bytes cell len × (cell_data new_bytes cell ≡ cell_data old_bytes cell)

-- a list has one element more than another, at an index, and room for it
pub record GetsElement (old new : List ℕ) (stride count index offset : ℕ) : Type 0 where
  pub letters : u16_at new 0 ≡ u16_at old 0
  pub count_is : u16_at new 2 ≡ suc count
  pub long : 4 + stride * suc count ≤ length new
  pub shifts : ShiftsIn old new 4 stride count index offset

-- A list gets an element in its cell, or in a new one. All other cells stay.
abbrev pub PutsElement : List ℕ → List ℕ → ℕ → LeafShape → NewElement → ℕ → Type 0
PutsElement old_bytes new_bytes list shape new made = (before : Cells) → Shows old_bytes before → ((made ≡ list) ⊎ (before made ≡ None)) × (after : Cells) × Shows new_bytes after × SameBut made before after
    × (now : List ℕ) × (after made ≡ Some now) × GetsElement (cell_data old_bytes list) now shape.stride shape.count new.index new.offset

-- a cell may be freed if it isn't the other one; all other cells stay and keep their sizes
pub record FreesOldList (old_bytes new_bytes : List ℕ) (old new : ℕ) : Type 0 where
  pub cells : (before : Cells) → Shows old_bytes before → (after : Cells) × Shows new_bytes after × ((cell : ℕ) → (cell ≢ old) ⊎ (old ≡ new) → after cell ≡ before cell)
  pub sizes : (cell len : ℕ) → cell ≢ old → HasData old_bytes cell len → HasData new_bytes cell len

-- a list of lists names another leaf at an index
pub record NamesLeaf (old new : List ℕ) (index to : ℕ) : Type 0 where
  pub len : length new ≡ length old
  pub letters : u16_at new 0 ≡ u16_at old 0
  pub count_is : u16_at new 2 ≡ u16_at old 2
  pub words : list_words new ≡ take index (list_words old) ++ to ∷ drop (suc index) (list_words old)

-- A list of lists names a leaf at an index, where it named another. All other cells stay.
abbrev pub PutsLeaf : List ℕ → List ℕ → ℕ → ℕ → ℕ → ℕ → Type 0
PutsLeaf old_bytes new_bytes at index leaf to = (before : Cells) → Shows old_bytes before → (after : Cells) × Shows new_bytes after × SameBut at before after
    × ((its : List ℕ) → before at ≡ Some its → slice_get (list_words its) index ≡ Some leaf → (now : List ℕ) × (after at ≡ Some now) × NamesLeaf its now index to)

-- data of a leaf that has the elements of another leaf from an index on
pub record HasBack (old text : List ℕ) (stride count half : ℕ) : Type 0 where
  pub letters : u16_at text 0 ≡ u16_at old 0
  pub count_is : u16_at text 2 ≡ count - half
  pub len : length text ≡ 4 + stride * (count - half)
  pub elements : (j : ℕ) → j < stride * (count - half) → slice_index text (4 + j) ≡ slice_index old (4 + stride * half + j)

-- two leaves have the elements of one, the second those behind the first's
pub record AreHalves (old first second : List ℕ) : Type 0 where
  pub first_is : IsLeaf first
  pub second_is : IsLeaf second
  pub words : leaf_words old ≡ leaf_words first ++ leaf_words second

-- A leaf keeps its first elements, and a new one gets the others. All other cells stay.
abbrev pub HalvesLeaf : List ℕ → List ℕ → ℕ → ℕ → Type 0
HalvesLeaf old_bytes new_bytes leaf second = (before : Cells) → Shows old_bytes before → (before second ≡ None) × (after : Cells) × Shows new_bytes after × ((cell : ℕ) → cell ≢ leaf → cell ≢ second → after cell ≡ before cell)
    × (front : List ℕ) × (after leaf ≡ Some front) × (back : List ℕ) × (after second ≡ Some back) × (IsLeaf (cell_data old_bytes leaf) → AreHalves (cell_data old_bytes leaf) front back)

-- A key's list has the same subkeys, in cells that were the list's or none. All other cells stay.
pub record ListKept (before after : Cells) (count made : ℕ) (own its : List ℕ) : Type 0 where
  pub own_now : List ℕ
  pub lent_now : List ℕ
  pub reads : Gives (subkeys_at count made) after own_now lent_now its
  pub once : Once own_now
  pub takes : (cell : ℕ) → IsIn cell own_now → IsIn cell own ⊎ (before cell ≡ None)
  pub stays : (cell : ℕ) → IsSome (before cell) → (IsIn cell own → ⊥) → after cell ≡ before cell

-- the same of the lists of two images, if no cell of the list is named twice
abbrev pub KeepsList : List ℕ → List ℕ → KeyList → ℕ → Type 0
KeepsList old_bytes new_bytes list made = (before : Cells) → Shows old_bytes before → (own lent its : List ℕ) → Gives (subkeys_at list.count list.at) before own lent its → Once own
    → (after : Cells) × Shows new_bytes after × ListKept before after list.count made own its
