-- Images that were written byte by byte: one with every kind of list, one with big data, and one for each rule that can
-- be broken.
use Rattle.std.specs.Prelude.{ℕ, ◌==◌, if◌then◌else◌, List, [], ◌∷◌, ◌++◌, length, replicate, Some, None}
use Rattle.std.specs.FinMap as finite
use Rattle.reg_tree_parts.specs.declared.value.Value.{Value}
use Rattle.reg_tree_parts.specs.Rows.{Row}
use Rattle.reg_tree.specs.Maps.{TreeMap}
use Rattle.hive_cells.specs.Bins.{Cells}

-- cells by their offsets
abbrev pub cells_of : List (ℕ × List ℕ) → Cells
cells_of [] at = None
cells_of (c ∷ cells) at = if at == c.0 then Some c.1 else cells_of cells at

-- a number below 0x100 in four bytes, and the offset of none
abbrev pub small_word : ℕ → List ℕ
small_word n = n ∷ 0 ∷ 0 ∷ 0 ∷ []

abbrev pub no_offset : List ℕ
no_offset = replicate 4 0xff

-- a key's record by what differs from sample to sample, all of it below 0x100
pub record Sample : Type 0 where
  pub flags : ℕ
  pub subkey_total : ℕ
  pub subkey_list : ℕ
  pub value_count : ℕ
  pub values : ℕ
  pub security : List ℕ
  pub class : ℕ
  pub class_len : ℕ
  pub name : List ℕ

-- nothing but a record, with a name in Latin-1
abbrev pub bare : Sample
bare = record { flags = 0x20; subkey_total = 0; subkey_list = 0; value_count = 0; values = 0; security = no_offset; class = 0; class_len = 0; name = [] }

abbrev pub key_bytes : Sample → List ℕ
key_bytes s =
    (0x6e ∷ 0x6b ∷ s.flags ∷ 0 ∷ []) ++ (replicate 16 0 ++ (small_word s.subkey_total ++ (replicate 4 0 ++ (small_word s.subkey_list ++ (replicate 4 0
    ++ (small_word s.value_count ++ (small_word s.values ++ (s.security ++ (small_word s.class ++ (replicate 20 0
    ++ ((length s.name ∷ 0 ∷ s.class_len ∷ 0 ∷ []) ++ s.name)))))))))))

abbrev pub named : List ℕ → List ℕ
named name = key_bytes (record bare { name = name })

-- a value's record without data, of a name of one unit
abbrev pub value_bytes : ℕ → List ℕ
value_bytes unit = (0x76 ∷ 0x6b ∷ 1 ∷ 0 ∷ []) ++ ((0 ∷ 0 ∷ 0 ∷ 0x80 ∷ []) ++ (replicate 8 0 ++ (1 ∷ 0 ∷ 0 ∷ 0 ∷ unit ∷ [])))

-- lists of subkeys with one element, and with three and two
abbrev pub plain_list : ℕ → List ℕ
plain_list at = 0x6c ∷ 0x69 ∷ 1 ∷ 0 ∷ small_word at

abbrev pub list_of_lists : ℕ → List ℕ
list_of_lists at = 0x72 ∷ 0x69 ∷ 1 ∷ 0 ∷ small_word at

abbrev pub three_lists : List ℕ
three_lists = (0x72 ∷ 0x69 ∷ 3 ∷ 0 ∷ []) ++ (small_word 48 ++ (small_word 56 ++ small_word 64))

abbrev pub two_subkeys : List ℕ
two_subkeys = (0x6c ∷ 0x69 ∷ 2 ∷ 0 ∷ []) ++ (small_word 48 ++ small_word 56)

-- a root with a class, and three subkeys, to which a li, a lf and a lh lead below a ri. One has a name of two bytes
-- a unit.
abbrev pub every_list : Cells
every_list = cells_of (
    (32, key_bytes (record bare { flags = 0x2c; subkey_total = 3; subkey_list = 40; class = 72; class_len = 2 }))
    ∷ (40, three_lists)
    ∷ (48, plain_list 80)
    ∷ (56, (0x6c ∷ 0x66 ∷ 1 ∷ 0 ∷ []) ++ (small_word 88 ++ (0x61 ∷ 0 ∷ 0 ∷ 0 ∷ [])))
    ∷ (64, (0x6c ∷ 0x68 ∷ 1 ∷ 0 ∷ []) ++ (small_word 96 ++ (9 ∷ 9 ∷ 9 ∷ 9 ∷ [])))
    ∷ (72, 5 ∷ 6 ∷ 7 ∷ 8 ∷ [])
    ∷ (80, named (0x61 ∷ []))
    ∷ (88, key_bytes (record bare { flags = 0; name = 0x61 ∷ 0 ∷ 0 ∷ 1 ∷ [] }))
    ∷ (96, named (0x62 ∷ []))
    ∷ [])

abbrev pub row_of : List ℕ → Row
row_of name = record { name = name; class = []; flags = 0; descriptor = []; time = 0; values = finite.from_entries [] }

abbrev pub classed_row : Row
classed_row = record { name = []; class = 5 ∷ 6 ∷ []; flags = 0x0c; descriptor = []; time = 0; values = finite.from_entries [] }

abbrev pub four_keys : TreeMap
four_keys = finite.from_entries (([], classed_row) ∷ ((0x41 ∷ []) ∷ [], row_of (0x61 ∷ [])) ∷ ((0x41 ∷ 0x100 ∷ []) ∷ [], row_of (0x61 ∷ 0x100 ∷ [])) ∷ ((0x42 ∷ []) ∷ [], row_of (0x62 ∷ [])) ∷ [])

-- a value with data of one byte more than a segment has, in a db
abbrev pub big_cells : Cells
big_cells = cells_of (
    (32, (0x76 ∷ 0x6b ∷ 1 ∷ 0 ∷ 0xd9 ∷ 0x3f ∷ 0 ∷ 0 ∷ []) ++ (small_word 64 ++ (small_word 3 ++ (1 ∷ 0 ∷ 0 ∷ 0 ∷ 0x76 ∷ []))))
    ∷ (64, 0x64 ∷ 0x62 ∷ 2 ∷ 0 ∷ small_word 80)
    ∷ (80, small_word 96 ++ small_word 104)
    ∷ (96, replicate 16_344 7)
    ∷ (104, 9 ∷ 0 ∷ 0 ∷ 0 ∷ [])
    ∷ [])

abbrev pub big_value : Value
big_value = record { name = 0x76 ∷ []; kind = 3; «data» = replicate 16_344 7 ++ (9 ∷ []) }

-- ---- one broken rule each

abbrev pub no_cells : Cells
no_cells = cells_of []

abbrev pub empty_cell : Cells
empty_cell = cells_of ((32, []) ∷ [])

abbrev pub handle_in_place : Cells
handle_in_place = cells_of ((32, key_bytes (record bare { flags = 0x60 })) ∷ [])

abbrev pub odd_name : Cells
odd_name = cells_of ((32, key_bytes (record bare { flags = 0; name = 0x61 ∷ [] })) ∷ [])

abbrev pub backslash_in_name : Cells
backslash_in_name = cells_of ((32, named (0x5c ∷ [])) ∷ [])

abbrev pub values_alike : Cells
values_alike = cells_of (
    (32, key_bytes (record bare { value_count = 2; values = 40 }))
    ∷ (40, small_word 48 ++ small_word 56)
    ∷ (48, value_bytes 0x76)
    ∷ (56, value_bytes 0x56)
    ∷ [])

abbrev pub no_list : Cells
no_list = cells_of ((32, key_bytes (record bare { subkey_total = 1; subkey_list = 40 })) ∷ (40, replicate 8 0x78) ∷ [])

abbrev pub list_in_lists : Cells
list_in_lists = cells_of ((32, key_bytes (record bare { subkey_total = 1; subkey_list = 40 })) ∷ (40, list_of_lists 48) ∷ (48, list_of_lists 56) ∷ (56, plain_list 64) ∷ (64, named (0x61 ∷ [])) ∷ [])

abbrev pub other_total : Cells
other_total = cells_of ((32, key_bytes (record bare { subkey_total = 2; subkey_list = 40 })) ∷ (40, plain_list 48) ∷ (48, named (0x61 ∷ [])) ∷ [])

abbrev pub nameless_subkey : Cells
nameless_subkey = cells_of ((32, key_bytes (record bare { subkey_total = 1; subkey_list = 40 })) ∷ (40, plain_list 48) ∷ (48, named []) ∷ [])

abbrev pub subkeys_alike : Cells
subkeys_alike = cells_of ((32, key_bytes (record bare { subkey_total = 2; subkey_list = 40 })) ∷ (40, two_subkeys) ∷ (48, named (0x61 ∷ [])) ∷ (56, named (0x41 ∷ [])) ∷ [])

-- a class in the key's own record; a key that is its own subkey; a class in the security cell
abbrev pub cell_met_twice : Cells
cell_met_twice = cells_of ((32, key_bytes (record bare { class = 32; class_len = 2 })) ∷ [])

abbrev pub key_in_itself : Cells
key_in_itself = cells_of ((32, key_bytes (record bare { subkey_total = 1; subkey_list = 40; name = 0x61 ∷ [] })) ∷ (40, plain_list 32) ∷ [])

abbrev pub lent_and_own : Cells
lent_and_own = cells_of ((32, key_bytes (record bare { security = small_word 40; class = 40; class_len = 2 })) ∷ (40, (0x73 ∷ 0x6b ∷ []) ++ replicate 18 0) ∷ [])
