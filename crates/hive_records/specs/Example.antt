-- An image of one cell: a root without name, class, descriptor, values and subkeys.
use Rattle.std.specs.Prelude.{ℕ, ◌==◌, if◌then◌else◌, List, [], ◌∷◌, ◌++◌, replicate, Some, None}
use Rattle.std.specs.FinMap as finite
use Rattle.reg_tree_parts.specs.declared.value.Value.{Value}
use Rattle.reg_tree_parts.specs.Rows.{Row}
use Rattle.reg_tree.specs.Maps.{TreeMap}
use Rattle.hive_cells.specs.Bins.{Cells}

abbrev pub root_record : List ℕ
root_record = (0x6e ∷ 0x6b ∷ 0x2c ∷ 0 ∷ 7 ∷ []) ++ replicate 15 0 ++ replicate 4 0 ++ replicate 12 0xff ++ replicate 4 0 ++ replicate 12 0xff ++ replicate 24 0

abbrev pub one_cell : Cells
one_cell at = if at == 32 then Some root_record else None

abbrev pub root_row : Row
root_row = record { name = []; class = []; flags = 0x0c; descriptor = []; time = 7; values = finite.empty }

abbrev pub one_key : TreeMap
one_key = finite.from_entries (([], root_row) ∷ [])

-- An image with each kind of list: a root with one value, and one subkey, which an ri and an lh lead to; both name one
-- security cell.
abbrev pub full_root : List ℕ
full_root = (0x6e ∷ 0x6b ∷ 0x2c ∷ 0 ∷ 7 ∷ []) ++ replicate 11 0 ++ replicate 4 0xff ++ (1 ∷ 0 ∷ 0 ∷ 0 ∷ []) ++ replicate 4 0 ++ (200 ∷ 0 ∷ 0 ∷ 0 ∷ []) ++ replicate 4 0xff
    ++ (1 ∷ 0 ∷ 0 ∷ 0 ∷ []) ++ (240 ∷ 0 ∷ 0 ∷ 0 ∷ []) ++ (24 ∷ 1 ∷ 0 ∷ 0 ∷ []) ++ replicate 4 0xff ++ replicate 24 0

abbrev pub child_record : List ℕ
child_record = (0x6e ∷ 0x6b ∷ 0x20 ∷ 0 ∷ []) ++ replicate 24 0 ++ replicate 8 0xff ++ replicate 4 0 ++ replicate 4 0xff ++ (24 ∷ 1 ∷ 0 ∷ 0 ∷ []) ++ replicate 4 0xff ++ replicate 20 0 ++ (1 ∷ 0 ∷ 0 ∷ 0 ∷ 0x61 ∷ [])

abbrev pub full_cells : Cells
full_cells at =
    if at == 32 then Some full_root else
    if at == 120 then Some child_record else
    if at == 200 then Some (0x72 ∷ 0x69 ∷ 1 ∷ 0 ∷ 208 ∷ 0 ∷ 0 ∷ 0 ∷ []) else
    if at == 208 then Some (0x6c ∷ 0x68 ∷ 1 ∷ 0 ∷ 120 ∷ 0 ∷ 0 ∷ 0 ∷ 1 ∷ 2 ∷ 3 ∷ 4 ∷ []) else
    if at == 240 then Some (0 ∷ 1 ∷ 0 ∷ 0 ∷ []) else
    if at == 256 then Some ((0x76 ∷ 0x6b ∷ 1 ∷ 0 ∷ 4 ∷ 0 ∷ 0 ∷ 0x80 ∷ []) ++ (1 ∷ 2 ∷ 3 ∷ 4 ∷ 5 ∷ 0 ∷ 0 ∷ 0 ∷ []) ++ (1 ∷ 0 ∷ 0 ∷ 0 ∷ 0x76 ∷ [])) else
    if at == 280 then Some ((0x73 ∷ 0x6b ∷ []) ++ replicate 14 0 ++ (2 ∷ 0 ∷ 0 ∷ 0 ∷ 9 ∷ 8 ∷ [])) else None

abbrev pub full_value : Value
full_value = record { name = 0x76 ∷ []; kind = 5; «data» = 1 ∷ 2 ∷ 3 ∷ 4 ∷ [] }

abbrev pub full_row : Row
full_row = record { name = []; class = []; flags = 0x0c; descriptor = 9 ∷ 8 ∷ []; time = 7; values = finite.from_entries ((0x56 ∷ [], full_value) ∷ []) }

abbrev pub child_row : Row
child_row = record { name = 0x61 ∷ []; class = []; flags = 0; descriptor = 9 ∷ 8 ∷ []; time = 0; values = finite.empty }

abbrev pub two_keys : TreeMap
two_keys = finite.from_entries (([], full_row) ∷ ((0x41 ∷ []) ∷ [], child_row) ∷ [])
