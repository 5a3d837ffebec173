-- Keys that are written with all that is below them, beside the security cells that they name.
use Rattle.std.specs.Prelude.{◌≡◌, ◌⊎◌, ℕ, ◌<◌, ◌≤◌, ◌^◌, Bool, true, List, [], ◌∷◌, ◌++◌, length, map, slice_get, Some}
use Rattle.std.specs.List.{AllByRecursion, list_any}
use Rattle.std.specs.FinMap as finite
use Rattle.reg_tree_parts.specs.Rows.{Row}
use Rattle.reg_tree_parts.specs.Nodes.{Entries, root_name}
use Rattle.refusals.specs.declared.refusal.Refusal.{Refusal}
use Rattle.refusals.specs.declared.refusal.Refusal.TheVariants as refusal
use Rattle.refusals.specs.declared.limits.TheConstants.{MOST_WEIGHT, MOST_BINS_BYTES}
use Rattle.hive_cells.specs.Bins.{Cells}
use Rattle.hive_tree_model.specs.Lists.{IsIn}
use Rattle.hive_tree_model.specs.Keys.{KeyParts, Keys, none, key, offsets, lent_cells}
use Rattle.hive_tree_model.specs.Cells.{KeyIsWritten, SubkeysAreWritten}
use Rattle.hive_records.specs.Numbers.{nil_offset}
use Rattle.hive_records.specs.Fields.{Gives, CellHolds}
use Rattle.hive_records.specs.KeyNodes.{keys_in, class_at}
use Rattle.hive_records.specs.Values.{values_at}
use Rattle.hive_records.specs.Lists.{subkeys_at}
use Rattle.hive_records.specs.KeyEncodings.{security_bytes, RowFits}
use Rattle.hive_records.specs.ListEncodings.{Subkey, AreOffsets}
use Rattle.hive_records.specs.Nodes.{IsNodeOf}
use Rattle.hive_load_parts.specs.Nodes.{AreListed}
use Rattle.hive_emit.specs.CellWrites.{Adds}
use Rattle.hive_emit.specs.Values.{CanPutAll, AreListedValues}
use Rattle.hive_emit.specs.KeyLists.{placed, IsListed}
use Rattle.hive_records.specs.declared.key_node_fields.KeyNodeFields.{KeyNodeFields}
use Rattle.hive_emit.specs.declared.security.SecurityEntry.{SecurityEntry}
use Rattle.hive_emit.specs.Forms.{is_past_ascii, is_plain, IsClass, KeyForm}

-- a security cell is at its offset, with its links and its count
pub record SecurityIsWritten (cells : Cells) (security : SecurityEntry) : Type 0 where
  pub near : security.at < nil_offset
  pub few : length security.descriptor < 2 ^ 32
  pub encoding : CellHolds cells security.at (security_bytes security.next security.previous security.count security.descriptor)

abbrev pub SecuritiesAreWritten : List SecurityEntry → Cells → Type 0
SecuritiesAreWritten securities cells = AllByRecursion (SecurityIsWritten cells) securities

abbrev pub security_cells : List SecurityEntry → List ℕ
security_cells securities = map (λ (s : SecurityEntry). s.at) securities

-- one of them has a descriptor
pub record Has (securities : List SecurityEntry) (descriptor : List ℕ) : Type 0 where
  pub place : ℕ
  pub security : SecurityEntry
  pub is : slice_get securities place ≡ Some security
  pub same : security.descriptor ≡ descriptor

-- a key that can be put, at its path. Its row can be written, given that its moment is a number of 64 bits. No key but
-- the root has an empty name
pub record CanPutKey (path : List (List ℕ)) (row : Row) : Type 0 where
  pub fits : row.time < 2 ^ 64 → RowFits row
  pub values : CanPutAll row.values
  pub named : 0 < length path → 0 < length row.name
  pub short : length row.descriptor < 2 ^ 32

abbrev pub CanPutKeys : Entries → Type 0
CanPutKeys entries = AllByRecursion (λ (e : List (List ℕ) × Row). CanPutKey e.0 e.1) entries

abbrev pub IsCounted : List SecurityEntry → Row → Type 0
IsCounted securities row = (row.descriptor ≡ []) ⊎ Has securities row.descriptor

abbrev pub AreCounted : List SecurityEntry → Entries → Type 0
AreCounted securities entries = AllByRecursion (λ (e : List (List ℕ) × Row). IsCounted securities e.1) entries

-- whether a subkey's name has a unit past ASCII
abbrev pub any_past_ascii : List (List ℕ × Entries) → Bool
any_past_ascii subkeys = list_any (λ (k : List ℕ × Entries). is_past_ascii k.0) subkeys

-- the offset of a descriptor's cell, or the offset of none for an empty descriptor
pub record IsCellOf (securities : List SecurityEntry) (descriptor : List ℕ) (at : ℕ) : Type 0 where
  pub place : ℕ
  pub security : SecurityEntry
  pub is : slice_get securities place ≡ Some security
  pub same : security.descriptor ≡ descriptor
  pub here : security.at ≡ at

abbrev pub IsOffsetOf : List SecurityEntry → List ℕ → ℕ → Type 0
IsOffsetOf securities descriptor at = ((descriptor ≡ []) × (at ≡ nil_offset)) ⊎ IsCellOf securities descriptor at

-- keys beside one another as a list names them
abbrev pub listed_subkeys : Keys Row → List Subkey
listed_subkeys none = []
listed_subkeys (key at parts below after) = record { at = at; name = parts.name } ∷ listed_subkeys after

-- each of them, and each key below, is written in its form
abbrev pub AreFormed : Cells → (List ℕ → ℕ → Type 0) → ℕ → Keys Row → Type 0
AreFormed cells Names parent none = Unit {0}
AreFormed cells Names parent (key at parts below after) = KeyForm cells Names parent at parts (listed_subkeys below) × AreFormed cells Names at below × AreFormed cells Names parent after

-- a key and all below it are written, its record at an offset
pub record KeyAt (securities : List SecurityEntry) (parent at : ℕ) (entries : Entries) (before after : Cells) : Type 0 where
  pub parts : KeyParts Row
  pub below : Keys Row
  pub written : KeyIsWritten (keys_in true) before after at parts below
  pub node : IsNodeOf entries parts below
  pub name : root_name entries ≡ parts.name
  pub near : at < 2 ^ 32
  pub lent : (cell : ℕ) → IsIn cell (parts.lent ++ lent_cells below) → IsIn cell (security_cells securities)
  pub form : KeyForm after (IsOffsetOf securities) parent at parts (listed_subkeys below)
  pub formed : AreFormed after (IsOffsetOf securities) at below

-- if the security cells are there, the key is written
abbrev pub PutsKey : List SecurityEntry → ℕ → ℕ → Entries → Cells → Cells → Type 0
PutsKey securities parent at entries before after = SecuritiesAreWritten securities before → KeyAt securities parent at entries before after

-- the first of a key's subkeys are written
pub record SubkeysDone (securities : List SecurityEntry) (parent : ℕ) (cell_offsets : List ℕ) (subkey_list : List (List ℕ × Entries)) (before after : Cells) : Type 0 where
  pub keys : Keys Row
  pub writing : SubkeysAreWritten (keys_in true) before after keys
  pub at : offsets keys ≡ cell_offsets
  pub listed : AreListed subkey_list keys
  pub near : AreOffsets cell_offsets
  pub lent : (cell : ℕ) → IsIn cell (lent_cells keys) → IsIn cell (security_cells securities)
  pub formed : AreFormed after (IsOffsetOf securities) parent keys

abbrev pub PutsSubkeys : List SecurityEntry → ℕ → List ℕ → List (List ℕ × Entries) → Cells → Cells → Type 0
PutsSubkeys securities parent cell_offsets subkey_list before after = SecuritiesAreWritten securities before → SubkeysDone securities parent cell_offsets subkey_list before after

-- the other cells of a key's own are written: class, values, and the list of the subkeys at offsets
pub record OwnAt (class values subkey_list : ℕ) (row : Row) (cell_offsets : List ℕ) (subkeys : List (List ℕ × Entries)) (before after : Cells) : Type 0 where
  pub class_own : List ℕ
  pub values_own : List ℕ
  pub subkeys_own : List ℕ
  pub class_near : class < 2 ^ 32
  pub values_near : values < 2 ^ 32
  pub subkeys_near : subkey_list < 2 ^ 32
  pub adds : Adds before after (class_own ++ (values_own ++ subkeys_own))
  pub class_is : IsClass class row.class class_own after
  pub values_is : AreListedValues values row.values values_own after
  pub subkeys_is : IsListed subkey_list (is_plain (placed cell_offsets subkeys)) (placed cell_offsets subkeys) subkeys_own after
  pub class_gives : Gives (class_at (length row.class) class) after class_own [] row.class
  pub values_gives : Gives (values_at true (finite.len row.values) values) after values_own [] row.values
  pub subkeys_gives : Gives (subkeys_at (length cell_offsets) subkey_list) after subkeys_own [] cell_offsets

-- a class is written
pub record ClassAt (at : ℕ) (class : List ℕ) (before after : Cells) : Type 0 where
  pub own : List ℕ
  pub near : at < 2 ^ 32
  pub adds : Adds before after own
  pub is : IsClass at class own after
  pub gives : Gives (class_at (length class) at) after own [] class

-- what a key's record says beside its row: its parent, how many subkeys and values it has, and where its cells are
pub record KeyNodeFieldsAre (its : KeyNodeFields) (row : Row) (parent subkey_total security class values subkey_list : ℕ) : Type 0 where
  pub parent_is : its.parent ≡ parent
  pub subkey_count_is : its.subkey_total ≡ subkey_total
  pub value_count_is : its.value_count ≡ finite.len row.values
  pub security_is : its.security ≡ security
  pub class_is : its.class ≡ class
  pub values_is : its.values ≡ values
  pub subkeys_is : its.subkey_list ≡ subkey_list

abbrev pub AreShort : List SecurityEntry → Type 0
AreShort securities = AllByRecursion (λ (s : SecurityEntry). length s.descriptor < 2 ^ 32) securities

-- descriptors that were there are there
abbrev pub Keeps : List SecurityEntry → List SecurityEntry → Type 0
Keeps old new = (descriptor : List ℕ) → Has old descriptor → Has new descriptor

-- the cells of security entries are kept
abbrev pub KeepsSecurityCells : List SecurityEntry → Cells → Cells → Type 0
KeepsSecurityCells securities before after = SecuritiesAreWritten securities after

-- why no image is made of a tree of a weight, of at least a size. The tree or the size is over its limit; or neither
-- is, and memory was not given
abbrev pub EmitRefused : ℕ → ℕ → Refusal → Type 0
EmitRefused weight least_size refusal.NoMemory = (weight ≤ MOST_WEIGHT) × (least_size ≤ MOST_BINS_BYTES)
EmitRefused weight least_size refusal.TooLarge = (MOST_WEIGHT < weight) ⊎ (MOST_BINS_BYTES < least_size)
EmitRefused weight least_size _ = ⊥
