-- How long the encodings of records are.
use Rattle.std.proofs.Common.{◌≡◌, ◌+◌, ◌*◌, ◌≤◌, ◌^◌, ℕ, List, [], ◌∷◌, ◌++◌, length, take, replicate, refl, Bool, true, false, arith, length-append, length-take}
use Rattle.reg_tree_parts.specs.declared.value.Value.{Value}
use Rattle.reg_tree_parts.specs.Rows.{Row}
use Rattle.hive_records.specs.declared.key_node_fields.KeyNodeFields.{KeyNodeFields}
use Rattle.hive_records.specs.Fields.{u16_bytes, u32_bytes}
use Rattle.hive_records.specs.NameEncodings.{is_latin, wide, spelled, name_bytes, latin_flag}
use Rattle.hive_records.specs.ValueEncodings.{value_record, small_value, large_value}
use Rattle.hive_records.specs.ListEncodings.{plain_leaf, hashed_leaf, indirect, Subkey}
use Rattle.hive_records.specs.KeyEncodings.{security_bytes, key_node_bytes}
use Rattle.hive_records.proofs.WordsAgain.{offsets_length, subkeys_length}

long_wide : (name : List ℕ) → length (wide name) ≡ 2 * length name
long_wide [] = omega arith
long_wide (u ∷ name) = let e = long_wide name in let l = length-append (u16_bytes u) (wide name) in omega (arith, e, l)

spelled_most : (latin : Bool) (name : List ℕ) → length (spelled latin name) ≤ 2 * length name
spelled_most true name = omega arith
spelled_most false name = let e = long_wide name in omega (arith, e)

pub name_most : (name : List ℕ) → length (name_bytes name) ≤ 2 * length name
name_most name = spelled_most (is_latin name) name

pub long_key : (row : Row) (its : KeyNodeFields) → length (key_node_bytes row its) ≡ 76 + length (name_bytes row.name)
long_key row its = omega arith

four : (xs : List ℕ) → length (take 4 (xs ++ replicate 4 0)) ≡ 4
four xs = let l = length-append xs (replicate 4 0) in let t = length-take 4 (xs ++ replicate 4 0) in omega (arith, l, t)

long_record : (value : Value) (size : ℕ) (field : List ℕ) → length field ≡ 4 → length (value_record value size field) ≡ 20 + length (name_bytes value.name)
long_record value size field h =
    let kind = u32_bytes value.kind in
    let flags = u16_bytes (latin_flag 1 value.name) in
    let a = length-append field kind in
    let b = length-append (field ++ kind) flags in
    let c = length-append (field ++ kind ++ flags) (u16_bytes 0) in
    let d = length-append (field ++ kind ++ flags ++ u16_bytes 0) (name_bytes value.name) in
    omega (arith, h, a, b, c, d)

pub long_small : (value : Value) → length (small_value value) ≡ 20 + length (name_bytes value.name)
long_small value = long_record value (2 ^ 31 + length value.«data») (take 4 (value.«data» ++ replicate 4 0)) (four value.«data»)

pub long_large : (value : Value) (at : ℕ) → length (large_value value at) ≡ 20 + length (name_bytes value.name)
long_large value at = long_record value (length value.«data») (u32_bytes at) refl

pub long_security : (next previous count : ℕ) (descriptor : List ℕ) → length (security_bytes next previous count descriptor) ≡ 20 + length descriptor
long_security next previous count descriptor = omega arith

pub long_plain : (offsets : List ℕ) → length (plain_leaf offsets) ≡ 4 + 4 * length offsets
long_plain offsets = let e = offsets_length offsets in omega (arith, e)

pub long_indirect : (offsets : List ℕ) → length (indirect offsets) ≡ 4 + 4 * length offsets
long_indirect offsets = let e = offsets_length offsets in omega (arith, e)

pub long_hashed : (subkey_list : List Subkey) → length (hashed_leaf subkey_list) ≡ 4 + 8 * length subkey_list
long_hashed subkey_list = let e = subkeys_length subkey_list in omega (arith, e)
