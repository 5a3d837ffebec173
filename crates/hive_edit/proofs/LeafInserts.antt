-- A list of subkeys, or a copy of it, after it got an element; and cells that keep their data beside.
use Rattle.std.proofs.Common.{◌≡◌, ◌≢◌, inl, inr, ℕ, suc, ◌+◌, ◌*◌, ◌<◌, ◌≤◌, List, [], ◌∷◌, ◌++◌, length, replicate, slice_index, is_some, None, Some, IsSome, refl, sym, ap, subst, ◌∙◌, arith}
use Rattle.std.proofs.Math.Nat.{mul-add}
use Rattle.std.proofs.lemmas.List.{get_or_append_left}
use Rattle.hive_tree_model.specs.Lists.{Once}
use Rattle.hive_cells.specs.Tiles.{Tiles, IsAllocatedCell, cell_data, cell_size}
use Rattle.hive_cells.specs.Bins.{Cells, Shows}
use Rattle.hive_records.specs.Heads.{list_fault}
use Rattle.hive_edit_laws.specs.Found.{HoldsList}
use Rattle.hive_edit_laws.specs.Shifts.{ShiftsIn}
use Rattle.hive_edit_laws.proofs.CellsShown.{shown_some, shown_here}
use Rattle.hive_edit_laws.proofs.CellWrites.{data_long}
use Rattle.hive_edit_laws.proofs.SameBytes.{half_same}
use Rattle.hive_savepoint.specs.Puts.{HasData, ChangesCell, AddsCell}
use Rattle.hive_edit.specs.SubkeyPlaces.{IsShapeOf, LeafGains}
use Rattle.hive_edit.specs.LeafChanges.{KeepsSizes, KeepsCells, GetsElement, PutsElement, FreesOldList}
use Rattle.hive_edit.specs.declared.leaf_edit.LeafShape.{LeafShape}
use Rattle.hive_edit.specs.declared.leaf_insert.NewElement.{NewElement}

pub once_alone : (x : ℕ) → Once (x ∷ [])
once_alone x = ((λ i. i), tt)

pub long_enough : (stride count room len size : ℕ) → 4 + stride * (count + 1) ≤ room → 4 + room ≤ size → len + 4 ≡ size → 4 + stride * suc count ≤ len
long_enough stride count room len size fits has is =
    let s : stride * suc count ≡ stride * (count + 1) = ap (λ (n : ℕ). stride * n) (omega arith) in
    omega (arith, fits, has, is, s)

pub index_within : (stride count index : ℕ) → index ≤ count → stride * index ≤ stride * count
index_within stride count index most = search (arith, most)

-- data that begin like others, and get an element
gets_like : (old source new : List ℕ) (stride count index offset : ℕ) → index ≤ count → ((j : ℕ) → j < 4 + stride * count → slice_index source j ≡ slice_index old j) → 4 + stride * suc count ≤ length source → LeafGains source new stride count index offset → GetsElement old new stride count index offset
gets_like old source new stride count index offset most same long g =
    let within : stride * index ≤ stride * count = index_within stride count index most in
    let s : ShiftsIn source new 4 stride count index offset = g.shifts in
    record {
      letters = g.letters ∙ half_same old source 0 (same 0 (omega arith)) (same 1 (omega arith));
      count_is = g.count_is;
      long = subst (λ (l : ℕ). 4 + stride * suc count ≤ l) (sym g.len) long;
      shifts = record {
        wide = s.wide;
        before = λ j low high. s.before j low high ∙ same j (omega (arith, high, within));
        here = s.here;
        after = λ j low high. s.after j low high ∙ same j high;
      };
    }

-- in place
pub put_here : (bytes new_bytes : List ℕ) (list : ℕ) (shape : LeafShape) (new : NewElement) → Tiles bytes → IsShapeOf bytes list shape → new.index ≤ shape.count → 4 + shape.stride * (shape.count + 1) ≤ shape.room → ChangesCell bytes new_bytes list (λ its now. LeafGains its now shape.stride shape.count new.index new.offset) → PutsElement bytes new_bytes list shape new list
put_here bytes new_bytes list shape new tiles shaped most room put before shows =
    let s = put.cells before shows in
    let d = s.3 (cell_data bytes list) (shown_here bytes before shows list shaped.long.0) in (
      inl refl,
      s.0,
      s.1,
      s.2,
      d.0,
      d.1,
      gets_like (cell_data bytes list) (cell_data bytes list) d.0 shape.stride shape.count new.index new.offset most (λ j l. refl)
          (long_enough shape.stride shape.count shape.room (length (cell_data bytes list)) (cell_size bytes list) room shaped.room_is.1 (data_long bytes list tiles shaped.long.0)) d.2,
    )

pub copy_room : (stride count len more : ℕ) → 4 + stride * count ≤ len → 1 ≤ more → 4 + stride * (count + 1) ≤ len + stride * more
copy_room stride count len more fits some =
    let p : stride * (count + 1) ≡ stride * count + stride * 1 = mul-add stride count 1 in
    let q : stride * 1 ≤ stride * more = index_within stride more 1 some in
    omega (arith, fits, p, q)

pub elements_long : (bytes : List ℕ) (leaf : ℕ) (shape : LeafShape) → Tiles bytes → IsShapeOf bytes leaf shape → 4 + shape.stride * shape.count ≤ length (cell_data bytes leaf)
elements_long bytes leaf shape tiles shaped = by shape.stride shape.count (length (cell_data bytes leaf)) (cell_size bytes leaf) (data_long bytes leaf tiles shaped.long.0) shaped.long.1
  where
    by : (stride count len size : ℕ) → len + 4 ≡ size → 4 + (4 + stride * count) ≤ size → 4 + stride * count ≤ len
    by stride count len size is has = omega (arith, is, has)

pub front_same : (text zeros : List ℕ) (n : ℕ) → n ≤ length text → (j : ℕ) → j < n → slice_index (text ++ zeros) j ≡ slice_index text j
front_same text zeros n long j l = get_or_append_left text zeros 0 j (omega (arith, long, l))

-- in a copy
pub put_copy : (bytes mid new_bytes : List ℕ) (list : ℕ) (shape : LeafShape) (new : NewElement) (to : ℕ) → Tiles bytes → Tiles mid → IsShapeOf bytes list shape → new.index ≤ shape.count → AddsCell bytes mid to (cell_data bytes list) → HasData mid to (4 + shape.stride * (shape.count + 1))
    → ChangesCell mid new_bytes to (λ its now. LeafGains its now shape.stride shape.count new.index new.offset) → PutsElement bytes new_bytes list shape new to
put_copy bytes mid new_bytes list shape new to tiles tiles_mid shaped most adds room put before shows =
    let a = adds.cells before shows in
    let source : List ℕ = cell_data bytes list ++ replicate a.4 0 in
    let s = put.cells a.1 a.2 in
    let d = s.3 source a.5 in
    let mine : source ≡ cell_data mid to = (shown_some mid a.1 a.2 to source a.5).1 in (
      inr a.0,
      s.0,
      s.1,
      (λ cell no. s.2 cell no ∙ a.3 cell no),
      d.0,
      d.1,
      gets_like (cell_data bytes list) source d.0 shape.stride shape.count new.index new.offset most (front_same (cell_data bytes list) (replicate a.4 0) (4 + shape.stride * shape.count) (elements_long bytes list shape tiles shaped))
          (subst (λ (l : ℕ). 4 + shape.stride * suc shape.count ≤ l) (sym (ap length mine)) (long_enough shape.stride shape.count (4 + shape.stride * (shape.count + 1)) (length (cell_data mid to)) (cell_size mid to) (omega arith) room.1 (data_long mid to tiles_mid room.0))) d.2,
    )

-- cells without lists keep their data if they stay and keep their sizes
pub keeps_by : (bytes new_bytes : List ℕ) (before after : Cells) → Shows bytes before → Shows new_bytes after → ((cell : ℕ) → ¬ HoldsList bytes cell → IsSome (before cell) → after cell ≡ before cell) → KeepsSizes bytes new_bytes → KeepsCells bytes new_bytes
keeps_by bytes new_bytes before after shows shown stay sizes cell len bare has =
    let here : before cell ≡ Some (cell_data bytes cell) = shown_here bytes before shows cell has.0 in
    (sizes cell len bare has, sym (shown_some new_bytes after shown cell (cell_data bytes cell) (stay cell bare (ap is_some here) ∙ here)).1)

-- a cell with a list is another than one without
pub apart_from : (bytes : List ℕ) (at cell : ℕ) → HoldsList bytes at → ¬ HoldsList bytes cell → cell ≢ at
apart_from bytes at cell holds bare e = bare (subst (λ (z : ℕ). HoldsList bytes z) (sym e) holds)

-- a list that moves has no part in cells without lists
pub freed_sizes : (bytes mid new_bytes : List ℕ) (at made : ℕ) → HoldsList bytes at → KeepsSizes bytes mid → FreesOldList mid new_bytes at made → KeepsSizes bytes new_bytes
freed_sizes bytes mid new_bytes at made holds sizes frees cell len bare has = frees.sizes cell len (apart_from bytes at cell holds bare) (sizes cell len bare has)

-- a cell that holds no list holds none after it kept its data
pub no_list_still : (bytes new_bytes : List ℕ) (cell : ℕ) → IsAllocatedCell bytes cell → ¬ HoldsList bytes cell → cell_data new_bytes cell ≡ cell_data bytes cell → ¬ HoldsList new_bytes cell
no_list_still bytes new_bytes cell is bare same holds = bare (is, subst (λ (z : List ℕ). list_fault z ≡ None) same holds.1)

-- one step after another
pub sizes_on : (bytes mid new_bytes : List ℕ) → KeepsCells bytes mid → KeepsSizes mid new_bytes → KeepsSizes bytes new_bytes
sizes_on bytes mid new_bytes first then cell len bare has =
    let f = first cell len bare has in
    then cell len (no_list_still bytes mid cell has.0 bare f.1) f.0
