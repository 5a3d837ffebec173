-- How an image is written, beside what it encodes: relations over its cells (regf format: key node, key values list,
-- subkeys list, security key).
use Rattle.std.specs.Prelude.{◌≡◌, ◌⊎◌, ℕ, ◌+◌, ◌<◌, ◌==◌, nat_lt, true, Bool, if◌then◌else◌, List, [], ◌∷◌, ◌++◌, length, map, sum_by, slice_get, Some, Ok}
use Rattle.std.specs.List.{AllByRecursion, list_any}
use Rattle.std.specs.Str.{bytes_eq}
use Rattle.std.specs.FinMap as finite
use Rattle.std.specs.declared.cmp.Ordering.TheVariants.{Less}
use Rattle.refusals.specs.declared.refusal.Refusal.{Refusal}
use Rattle.reg_tree_parts.specs.Orders.{name_order}
use Rattle.reg_tree_parts.specs.Rows.{Row}
use Rattle.reg_tree_parts.specs.Nodes.{Entries}
use Rattle.reg_tree.specs.Maps.{TreeMap}
use Rattle.hive_cells.specs.Bins.{Cells, Shows}
use Rattle.hive_tree_model.specs.Lists.{IsIn, Once}
use Rattle.hive_tree_model.specs.Keys.{KeyParts, KeyReader}
use Rattle.hive_records.specs.Numbers.{nil_offset}
use Rattle.hive_records.specs.Fields.{CellHolds}
use Rattle.hive_records.specs.KeyNodes.{keys_in}
use Rattle.hive_records.specs.KeyEncodings.{key_node_bytes, security_bytes}
use Rattle.hive_records.specs.ListEncodings.{Subkey, cell_offsets}
use Rattle.hive_records.specs.declared.key_node_fields.KeyNodeFields.{KeyNodeFields}
use Rattle.hive_emit.specs.Values.{AreListedValues}
use Rattle.hive_emit.specs.KeyLists.{IsListed}

-- ---- keys

-- a name has a unit past ASCII
abbrev pub is_past_ascii : List ℕ → Bool
is_past_ascii name = list_any (λ u. nat_lt 0x7f u) name

-- whether a key's lists have offsets alone: if a subkey's name has a unit past ASCII
abbrev pub is_plain : List Subkey → Bool
is_plain subkeys = list_any (λ (k : Subkey). is_past_ascii k.name) subkeys

-- folded names rise
abbrev pub Rises : List Subkey → Type 0
Rises [] = Unit {0}
Rises (k ∷ subkeys) = AllByRecursion (λ (j : Subkey). name_order k.name j.name ≡ Less) subkeys × Rises subkeys

-- these subkeys are read at their offsets, each under its folded name
abbrev pub AreRead : KeyReader Row Refusal → List Subkey → Type 0
AreRead reads subkeys = AllByRecursion (λ (k : Subkey). (parts : KeyParts Row) × (reads k.at ≡ Ok parts) × (parts.name ≡ k.name)) subkeys

-- a class is in its cell; an empty one has none
abbrev pub IsClass : ℕ → List ℕ → List ℕ → Cells → Type 0
IsClass at class own cells = ((class ≡ []) × (at ≡ nil_offset) × (own ≡ [])) ⊎ ((0 < length class) × CellHolds cells at class × (own ≡ at ∷ []))

-- A key is written, its record at an offset. The record is the encoding of its row and names the parent. Its class is
-- in its cell. Its values are listed in the order of their folded names. Its subkeys are listed in the order of theirs,
-- in one leaf of at most 500, or in leaves of at most 500 and a list of these. There are hashes if no name is past
-- ASCII. The record names the security cell of its descriptor. So the key depends on its record and these cells.
pub record KeyForm (cells : Cells) (Names : List ℕ → ℕ → Type 0) (parent at : ℕ) (parts : KeyParts Row) (subkeys : List Subkey) : Type 0 where
  pub its : KeyNodeFields
  pub encoding : CellHolds cells at (key_node_bytes parts.row its)
  pub parent_is : its.parent ≡ parent
  pub subkey_total : its.subkey_total ≡ length subkeys
  pub value_count : its.value_count ≡ finite.len parts.row.values
  pub class_own : List ℕ
  pub values_own : List ℕ
  pub subkeys_own : List ℕ
  pub own : parts.own ≡ at ∷ (class_own ++ (values_own ++ subkeys_own))
  pub class : IsClass its.class parts.row.class class_own cells
  pub values : AreListedValues its.values parts.row.values values_own cells
  pub subkey_list : IsListed its.subkey_list (is_plain subkeys) subkeys subkeys_own cells
  pub rises : Rises subkeys
  pub security : Names parts.row.descriptor its.security

-- the key at an offset is written so, with the subkeys that are read from its list
pub record IsKeyForm (cells : Cells) (Names : List ℕ → ℕ → Type 0) (parent at : ℕ) : Type 0 where
  pub parts : KeyParts Row
  pub subkeys : List Subkey
  pub reads : keys_in true cells at ≡ Ok parts
  pub listed : cell_offsets subkeys ≡ parts.subkey_list
  pub named : AreRead (keys_in true cells) subkeys
  pub form : KeyForm cells Names parent at parts subkeys

-- a way leads from the key at an offset to the key at another. It is the indexes of subkeys in the lists of one key
-- after another. It leads too from the offset that the first key has for its parent to the offset that the last key has
-- for its own
abbrev pub LeadsUnder : KeyReader Row Refusal → ℕ → ℕ → List ℕ → ℕ → ℕ → Type 0
LeadsUnder reads above at [] parent to = (above ≡ parent) × (at ≡ to)
LeadsUnder reads above at (i ∷ way) parent to = (parts : KeyParts Row) × (subkey : ℕ) × (reads at ≡ Ok parts) × (slice_get parts.subkey_list i ≡ Some subkey) × LeadsUnder reads at subkey way parent to

-- ---- security cells

-- a security cell: where it is, and what it says
pub record SecurityCell : Type 0 where
  pub at : ℕ
  pub next : ℕ
  pub previous : ℕ
  pub count : ℕ
  pub descriptor : List ℕ

-- how many of a tree's keys have a descriptor
abbrev pub has_descriptor : List ℕ → Row → ℕ
has_descriptor descriptor row = if bytes_eq descriptor row.descriptor then 1 else 0

abbrev pub keys_with : List ℕ → Entries → ℕ
keys_with descriptor entries = sum_by (λ e. has_descriptor descriptor e.1) entries

-- the index after one in a ring of a number of elements
abbrev pub behind : ℕ → ℕ → ℕ
behind count i = if i + 1 == count then 0 else i + 1

-- the cells are linked in a ring. Each names the cell after it, and the last one names the first. Each is named by the
-- cell after it as the one before
abbrev pub IsRing : List SecurityCell → Type 0
IsRing all = (i : ℕ) (s t : SecurityCell) → slice_get all i ≡ Some s → slice_get all (behind (length all) i) ≡ Some t → (s.next ≡ t.at) × (t.previous ≡ s.at)

-- the security cells of a tree. No two have one descriptor, and they form one ring. Each counts the keys that have its
-- descriptor, which are one or more
pub record AreSecurities (cells : Cells) (tree : TreeMap) (all : List SecurityCell) : Type 0 where
  pub held : AllByRecursion (λ (s : SecurityCell). CellHolds cells s.at (security_bytes s.next s.previous s.count s.descriptor)) all
  pub apart : Once (map (λ (s : SecurityCell). s.descriptor) all)
  pub ring : IsRing all
  pub counts : AllByRecursion (λ (s : SecurityCell). (0 < s.count) × (s.count ≡ keys_with s.descriptor (finite.entries tree))) all

-- the offset of the cell that has a descriptor; the offset of none for an empty descriptor
abbrev pub IsNamed : List SecurityCell → List ℕ → ℕ → Type 0
IsNamed all descriptor at = ((descriptor ≡ []) × (at ≡ nil_offset)) ⊎ ((s : SecurityCell) × IsIn s all × (s.descriptor ≡ descriptor) × (s.at ≡ at))

-- ---- the whole

-- the data of an image are written so, for a tree: its security cells, and each key that the root leads to, which has
-- no parent itself
pub record IsFormed (bytes : List ℕ) (root : ℕ) (tree : TreeMap) : Type 0 where
  pub cells : Cells
  pub shows : Shows bytes cells
  pub securities : List SecurityCell
  pub ring : AreSecurities cells tree securities
  pub keys : (way : List ℕ) (parent at : ℕ) → LeadsUnder (keys_in true cells) nil_offset root way parent at → IsKeyForm cells (IsNamed securities) parent at
