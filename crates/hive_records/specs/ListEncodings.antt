-- Lists as they are written.
use Rattle.std.specs.Prelude.{ℕ, ◌<◌, ◌+◌, ◌*◌, ◌%◌, ◌^◌, List, [], ◌∷◌, ◌++◌, length, map, flat_map}
use Rattle.std.specs.List.{AllByRecursion}
use Rattle.hive_records.specs.Fields.{u16_bytes, u32_bytes}

-- offsets one after the other, as the list of a key's values and the list of a db's segments have
-- them
abbrev pub offsets_bytes : List ℕ → List ℕ
offsets_bytes offsets = flat_map u32_bytes offsets

-- the hash of a folded name, from the hash of the units before it
abbrev pub hash_from : ℕ → List ℕ → ℕ
hash_from h [] = h
hash_from h (u ∷ units) = hash_from ((37 * h + u) % 2 ^ 32) units

-- a subkey that a list names: its offset, and its folded name
pub record Subkey : Type 0 where
  pub at : ℕ
  pub name : List ℕ

abbrev pub hashed : Subkey → List ℕ
hashed subkey = u32_bytes subkey.at ++ u32_bytes (hash_from 0 subkey.name)

-- a leaf with hashes, one without, and a list of leaves
abbrev pub hashed_leaf : List Subkey → List ℕ
hashed_leaf subkey_list = u16_bytes 0x686c ++ u16_bytes (length subkey_list) ++ flat_map hashed subkey_list

abbrev pub plain_leaf : List ℕ → List ℕ
plain_leaf offsets = u16_bytes 0x696c ++ u16_bytes (length offsets) ++ offsets_bytes offsets

abbrev pub indirect : List ℕ → List ℕ
indirect offsets = u16_bytes 0x6972 ++ u16_bytes (length offsets) ++ offsets_bytes offsets

-- offsets have four bytes
abbrev pub AreOffsets : List ℕ → Type 0
AreOffsets offsets = AllByRecursion (λ at. at < 2 ^ 32) offsets

abbrev pub cell_offsets : List Subkey → List ℕ
cell_offsets subkey_list = map (λ (subkey : Subkey). subkey.at) subkey_list
