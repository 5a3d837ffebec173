-- Lists of subkeys that are written into cells that were not there.
use Rattle.std.specs.Prelude.{◌≡◌, ◌⊎◌, ℕ, ◌<◌, ◌≤◌, ◌^◌, Bool, true, false, List, [], ◌∷◌, length, map, flat_map}
use Rattle.std.specs.List.{AllByRecursion}
use Rattle.reg_tree_parts.specs.Nodes.{Entries}
use Rattle.hive_cells.specs.Bins.{Cells}
use Rattle.hive_records.specs.Numbers.{nil_offset}
use Rattle.hive_records.specs.Fields.{CellHolds}
use Rattle.hive_records.specs.ListEncodings.{Subkey, plain_leaf, hashed_leaf, indirect, cell_offsets, AreOffsets}
use Rattle.hive_emit.specs.CellWrites.{Adds, Lists}

-- the bytes of a leaf: offsets alone, or with hashes
abbrev pub leaf_bytes : Bool → List Subkey → List ℕ
leaf_bytes true subkey_list = plain_leaf (cell_offsets subkey_list)
leaf_bytes false subkey_list = hashed_leaf subkey_list

-- subkeys with the offsets of their cells
abbrev pub placed : List ℕ → List (List ℕ × Entries) → List Subkey
placed [] subkeys = []
placed (at ∷ offsets) [] = []
placed (at ∷ offsets) (subkey ∷ subkeys) = record { at = at; name = subkey.0 } ∷ placed offsets subkeys

-- a leaf below a list of leaves
pub record SubkeyLeaf : Type 0 where
  pub at : ℕ
  pub subkey_list : List Subkey

abbrev pub leaf_own : SubkeyLeaf → List ℕ
leaf_own leaf = leaf.at ∷ []

abbrev pub leaf_offsets : List SubkeyLeaf → List ℕ
leaf_offsets leaves = map (λ (l : SubkeyLeaf). l.at) leaves

-- a leaf is in its cell, and has 1 to 500 subkeys
pub record IsLeaf (plain : Bool) (cells : Cells) (leaf : SubkeyLeaf) : Type 0 where
  pub some : 0 < length leaf.subkey_list
  pub most : length leaf.subkey_list ≤ 500
  pub held : CellHolds cells leaf.at (leaf_bytes plain leaf.subkey_list)

-- at most 500 subkeys have one leaf
pub record HasLeaf (list : ℕ) (plain : Bool) (subkey_list : List Subkey) (own : List ℕ) (cells : Cells) : Type 0 where
  pub is : IsLeaf plain cells (record { at = list; subkey_list = subkey_list })
  pub its_own : own ≡ list ∷ []

-- more subkeys have leaves one after another, and a list of these
pub record HasLeaves (list : ℕ) (plain : Bool) (subkey_list : List Subkey) (own : List ℕ) (cells : Cells) : Type 0 where
  pub many : 500 < length subkey_list
  pub leaves : List SubkeyLeaf
  pub its : flat_map (λ (l : SubkeyLeaf). l.subkey_list) leaves ≡ subkey_list
  pub each : AllByRecursion (IsLeaf plain cells) leaves
  pub held : CellHolds cells list (indirect (leaf_offsets leaves))
  pub its_own : own ≡ list ∷ leaf_offsets leaves
  pub count : length leaves < 2 ^ 16
  pub near : AreOffsets (leaf_offsets leaves)

-- no subkeys have no list, and its offset is the offset of none
pub record HasNone (list : ℕ) (subkey_list : List Subkey) (own : List ℕ) : Type 0 where
  pub none : subkey_list ≡ []
  pub without : list ≡ nil_offset
  pub its_own : own ≡ []

abbrev pub IsListed : ℕ → Bool → List Subkey → List ℕ → Cells → Type 0
IsListed list plain subkey_list own cells = HasNone list subkey_list own ⊎ (HasLeaf list plain subkey_list own cells ⊎ HasLeaves list plain subkey_list own cells)

-- leaves are written one after another, at offsets
pub record ListedLeaves (plain : Bool) (offsets : List ℕ) (subkey_list : List Subkey) (before after : Cells) : Type 0 where
  pub leaves : List SubkeyLeaf
  pub listed : Lists (IsLeaf plain) leaf_own leaves before after
  pub at : leaf_offsets leaves ≡ offsets
  pub its : flat_map (λ (l : SubkeyLeaf). l.subkey_list) leaves ≡ subkey_list
  pub near : AreOffsets offsets

-- the list of a key's subkeys is written
pub record SubkeysAt (list : ℕ) (plain : Bool) (subkey_list : List Subkey) (before after : Cells) : Type 0 where
  pub own : List ℕ
  pub near : list < 2 ^ 32
  pub adds : Adds before after own
  pub is : IsListed list plain subkey_list own after
