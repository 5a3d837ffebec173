-- Key nodes with all that is theirs alone: names, class, descriptor, values, and the offsets of subkeys (regf format:
-- nk, sk).
use Rattle.std.specs.Prelude.{ℕ, ◌+◌, ◌-◌, ◌==◌, nat_le, Bool, not, if◌then◌else◌, List, [], length, slice_range, Result, Ok, Err}
use Rattle.std.specs.List.{list_any}
use Rattle.reg_names.specs.Names.{folded}
use Rattle.refusals.specs.declared.refusal.Refusal.{Refusal}
use Rattle.refusals.specs.declared.refusal.Refusal.TheVariants as refusal
use Rattle.refusals.specs.declared.refusal.Cause.TheVariants as cause
use Rattle.reg_tree_parts.specs.Rows.{Row}
use Rattle.hive_cells.specs.Tiles.{u32_at}
use Rattle.hive_tree_model.specs.Keys.{KeyParts, KeyReader}
use Rattle.hive_records.specs.Readers.{Read, Reader, done, barred, rule, choice, look, look_lent, ◌⟫◌}
use Rattle.hive_cells.specs.Bins.{Cells}
use Rattle.hive_records.specs.Numbers.{nil_offset, u16_at, u64_at, begins_with}
use Rattle.hive_records.specs.Names.{has_flag, name_in}
use Rattle.hive_records.specs.Values.{cell_prefix, values_at}
use Rattle.hive_records.specs.Lists.{subkeys_at}

-- the descriptor in a security cell; none for no cell. Links and the count are not read.
abbrev pub descriptor_at : ℕ → Reader (List ℕ)
descriptor_at at =
    choice (at == nil_offset) (done [])
    (look_lent at ⟫ λ bytes.
    rule (begins_with bytes 0x6b73 20) cause.BadRecord ⟫ λ _.
    rule (nat_le (20 + u32_at bytes 16) (length bytes)) cause.BadRecord ⟫ λ _.
    done (slice_range bytes 20 (20 + u32_at bytes 16)))

-- the class of a length
abbrev pub class_at : ℕ → ℕ → Reader (List ℕ)
class_at size at = choice (size == 0) (done []) (cell_prefix size at)

-- the flags of a row are the stored ones but for the flag that says how the name is stored
abbrev pub flags_of : ℕ → ℕ
flags_of stored = if has_flag 0x20 stored then stored - 0x20 else stored

-- what a key's own cells say: its row, and its subkeys' offsets
abbrev pub key_at : Bool → ℕ → Reader (Row × List ℕ)
key_at split at =
    look at ⟫ λ bytes.
    rule (begins_with bytes 0x6b6e 76) cause.BadRecord ⟫ λ _.
    rule (nat_le (76 + u16_at bytes 72) (length bytes)) cause.BadRecord ⟫ λ _.
    barred (has_flag 0x40 (u16_at bytes 2)) refusal.Unsupported ⟫ λ _.
    name_in (has_flag 0x20 (u16_at bytes 2)) (slice_range bytes 76 (76 + u16_at bytes 72)) ⟫ λ name.
    rule (not (list_any (λ u. u == 0x5c) name)) cause.BadName ⟫ λ _.
    class_at (u16_at bytes 74) (u32_at bytes 48) ⟫ λ class.
    descriptor_at (u32_at bytes 44) ⟫ λ descriptor.
    values_at split (u32_at bytes 36) (u32_at bytes 40) ⟫ λ values.
    subkeys_at (u32_at bytes 20) (u32_at bytes 28) ⟫ λ subkey_list.
    done (record { name = name; class = class; flags = flags_of (u16_at bytes 2); descriptor = descriptor; time = u64_at bytes 4; values = values }, subkey_list)

-- the same in the form that the law of shapes requires
abbrev pub parts_if : List ℕ → List ℕ → Result (Row × List ℕ) Refusal → Result (KeyParts Row) Refusal
parts_if own lent (Ok x) = let row = x.0 in Ok (record { name = folded row.name; row = row; subkey_list = x.1; own = own; lent = lent })
parts_if own lent (Err r) = Err r

abbrev pub parts_of : Read (Row × List ℕ) → Result (KeyParts Row) Refusal
parts_of r = parts_if r.own r.lent r.says

abbrev pub keys_in : Bool → Cells → KeyReader Row Refusal
keys_in split cells at = parts_of (key_at split at cells)

-- the cells that are looked at while a key is read
abbrev pub trail_in : Bool → Cells → ℕ → List ℕ
trail_in split cells at = (key_at split at cells).own

-- the security cells that are looked at
abbrev pub lends_in : Bool → Cells → ℕ → List ℕ
lends_in split cells at = (key_at split at cells).lent
