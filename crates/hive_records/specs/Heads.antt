-- What one record says by itself: the rules that it keeps, in the order in which they are tried, and its fields.
use Rattle.std.specs.Prelude.{◌≡◌, ℕ, ◌+◌, ◌-◌, ◌*◌, ◌%◌, ◌^◌, ◌==◌, nat_le, Bool, true, false, not, ◌||◌, if◌then◌else◌, List, [], ◌∷◌, length, slice_range, Option, Some, None}
use Rattle.std.specs.List.{list_any}
use Rattle.refusals.specs.declared.refusal.Refusal.{Refusal}
use Rattle.refusals.specs.declared.refusal.Refusal.TheVariants as refusal
use Rattle.refusals.specs.declared.refusal.Cause.{Cause}
use Rattle.refusals.specs.declared.refusal.Cause.TheVariants as cause
use Rattle.hive_cells.specs.Tiles.{u32_at}
use Rattle.hive_records.specs.Numbers.{u16_at, u64_at, begins_with}
use Rattle.hive_records.specs.Names.{has_flag, pairs}
use Rattle.hive_records.specs.Values.{segments_of}
use Rattle.hive_records.specs.Lists.{is_plain, is_hinted, is_indirect}
use Rattle.hive_records.specs.KeyNodes.{flags_of}
use Rattle.hive_records.specs.declared.stored_name.StoredName.{StoredName}
use Rattle.hive_records.specs.declared.key_node.KeyNode.{KeyNode}
use Rattle.hive_records.specs.declared.value_record.ValueRec.{ValueRec}
use Rattle.hive_records.specs.declared.security_cell.Security.{Security}
use Rattle.hive_records.specs.declared.list_record.SubkeyList.{SubkeyList}
use Rattle.hive_records.specs.declared.big_data.BigData.{BigData}

-- the refusal of the first rule of a list that isn't kept
abbrev pub first_broken : List (Bool × Refusal) → Option Refusal
first_broken [] = None
first_broken (rule ∷ rules) = if rule.0 then first_broken rules else Some rule.1

abbrev pub hive_damage : Cause → Refusal
hive_damage c = refusal.HiveDamaged 0 c

-- the units that bytes decode to, a byte a unit or two
abbrev pub units_in : Bool → List ℕ → List ℕ
units_in true bytes = bytes
units_in false bytes = pairs bytes

-- bytes decode to whole units
abbrev pub is_even : Bool → List ℕ → Bool
is_even latin bytes = latin || (length bytes % 2 == 0)

-- the name of a record: the bytes of a length after its fields
abbrev pub IsNameAt : StoredName → Bool → List ℕ → ℕ → ℕ → Type 0
IsNameAt name latin bytes from len = (name.latin ≡ latin) × (name.bytes.now ≡ slice_range bytes from (from + len))

-- the bytes of a key's name
abbrev pub key_name_bytes : List ℕ → List ℕ
key_name_bytes bytes = slice_range bytes 76 (76 + u16_at bytes 72)

-- the rules of a key node by itself
abbrev pub key_node_fault : List ℕ → Option Refusal
key_node_fault bytes = first_broken (
    (begins_with bytes 0x6b6e 76, hive_damage cause.BadRecord)
    ∷ (nat_le (76 + u16_at bytes 72) (length bytes), hive_damage cause.BadRecord)
    ∷ (not (has_flag 0x40 (u16_at bytes 2)), refusal.Unsupported)
    ∷ (is_even (has_flag 0x20 (u16_at bytes 2)) (key_name_bytes bytes), hive_damage cause.BadName)
    ∷ (not (list_any (λ u. u == 0x5c) (units_in (has_flag 0x20 (u16_at bytes 2)) (key_name_bytes bytes))), hive_damage cause.BadName)
    ∷ [])

-- its fields
pub record IsKeyNode (node : KeyNode) (bytes : List ℕ) : Type 0 where
  pub flags : node.flags ≡ flags_of (u16_at bytes 2)
  pub time : node.time ≡ u64_at bytes 4
  pub subkey_count : node.subkey_count ≡ u32_at bytes 20
  pub subkeys : node.subkeys ≡ u32_at bytes 28
  pub value_count : node.value_count ≡ u32_at bytes 36
  pub values : node.values ≡ u32_at bytes 40
  pub security : node.security ≡ u32_at bytes 44
  pub class : node.class ≡ u32_at bytes 48
  pub class_len : node.class_len ≡ u16_at bytes 74
  pub name : IsNameAt node.name (has_flag 0x20 (u16_at bytes 2)) bytes 76 (u16_at bytes 72)

-- the rules of a value's record by itself, and its fields
abbrev pub value_fault : List ℕ → Option Refusal
value_fault bytes = first_broken (
    (begins_with bytes 0x6b76 20, hive_damage cause.BadRecord)
    ∷ (nat_le (20 + u16_at bytes 2) (length bytes), hive_damage cause.BadRecord)
    ∷ (is_even (has_flag 1 (u16_at bytes 16)) (slice_range bytes 20 (20 + u16_at bytes 2)), hive_damage cause.BadName)
    ∷ (not (nat_le (2 ^ 31) (u32_at bytes 4)) || nat_le (u32_at bytes 4 - 2 ^ 31) 4, hive_damage cause.BadRecord)
    ∷ [])

pub record IsValueRec (value : ValueRec) (bytes : List ℕ) : Type 0 where
  pub size : value.size ≡ u32_at bytes 4
  pub offset : value.offset ≡ u32_at bytes 8
  pub kind : value.kind ≡ u32_at bytes 12
  pub small : value.small.now ≡ slice_range bytes 8 12
  pub name : IsNameAt value.name (has_flag 1 (u16_at bytes 16)) bytes 20 (u16_at bytes 2)

-- the rules and the fields of a security cell
abbrev pub security_fault : List ℕ → Option Refusal
security_fault bytes = first_broken (
    (begins_with bytes 0x6b73 20, hive_damage cause.BadRecord)
    ∷ (nat_le (20 + u32_at bytes 16) (length bytes), hive_damage cause.BadRecord)
    ∷ [])

pub record IsSecurity (security : Security) (bytes : List ℕ) : Type 0 where
  pub descriptor : security.descriptor.now ≡ slice_range bytes 20 (20 + u32_at bytes 16)

-- the rules and the fields of a list of subkeys: of key nodes, or of lists
abbrev pub stride_of : List ℕ → ℕ
stride_of bytes = if is_hinted bytes then 8 else 4

abbrev pub list_fault : List ℕ → Option Refusal
list_fault bytes = first_broken (
    (is_plain bytes || (is_hinted bytes || is_indirect bytes), hive_damage cause.BadList)
    ∷ (nat_le (4 + stride_of bytes * u16_at bytes 2) (length bytes), hive_damage cause.BadList)
    ∷ [])

pub record IsSubkeyList (list : SubkeyList) (bytes : List ℕ) : Type 0 where
  pub indirect : list.is_indirect ≡ is_indirect bytes
  pub count : list.count ≡ u16_at bytes 2
  pub stride : list.stride ≡ stride_of bytes
  pub elements : list.elements.now ≡ slice_range bytes 4 (4 + stride_of bytes * u16_at bytes 2)

-- the rules and the fields of big data of a size
abbrev pub big_fault : List ℕ → ℕ → Option Refusal
big_fault bytes size = first_broken (
    (begins_with bytes 0x6264 8, hive_damage cause.BadRecord)
    ∷ (u16_at bytes 2 == segments_of size, hive_damage cause.BadRecord)
    ∷ [])

pub record IsBigData (big : BigData) (bytes : List ℕ) : Type 0 where
  pub count : big.count ≡ u16_at bytes 2
  pub segments : big.segments ≡ u32_at bytes 4
