-- Key nodes and records of values by their own cells, with their names; and the lists of a key that lead to them.
use Rattle.std.specs.Prelude.{ℕ, ◌+◌, ◌*◌, ◌==◌, nat_le, Bool, false, List, [], length, slice_range, Option, Some, None, Result, Ok, Err, IsOk}
use Rattle.std.specs.List.{filter, All}
use Rattle.refusals.specs.declared.refusal.Refusal.{Refusal}
use Rattle.refusals.specs.declared.refusal.Cause.TheVariants as cause
use Rattle.reg_names.specs.Names.{folded}
use Rattle.hive_cells.specs.Tiles.{u32_at}
use Rattle.hive_cells.specs.Bins.{Cells}
use Rattle.hive_tree_model.specs.Trees.{same}
use Rattle.hive_records.specs.Readers.{Reader, done, rule, choice, look, ◌⟫◌}
use Rattle.hive_records.specs.Numbers.{u16_at, words_from}
use Rattle.hive_records.specs.Names.{has_flag}
use Rattle.hive_records.specs.Lists.{subkeys_at}
use Rattle.hive_records.specs.Heads.{hive_damage, units_in, key_name_bytes, key_node_fault, value_fault}
use Rattle.hive_lookup.specs.declared.list_kind.ListKind.{ListKind}
use Rattle.hive_lookup.specs.declared.list_kind.ListKind.TheVariants.{Subkeys, Values}

-- the refusal of the first rule that a record breaks by itself: a key node, or a value's record
abbrev pub fault_of : ListKind → List ℕ → Option Refusal
fault_of Subkeys bytes = key_node_fault bytes
fault_of Values bytes = value_fault bytes

abbrev pub data_unless : List ℕ → Option Refusal → Result (List ℕ) Refusal
data_unless bytes None = Ok bytes
data_unless bytes (Some why) = Err why

abbrev pub data_if : ListKind → Option (List ℕ) → Result (List ℕ) Refusal
data_if kind None = Err (hive_damage cause.BadOffset)
data_if kind (Some bytes) = data_unless bytes (fault_of kind bytes)

-- the data of the record at an offset, or why it isn't read: no allocated cell begins there, or it breaks a rule
abbrev pub record_at : ListKind → Cells → ℕ → Result (List ℕ) Refusal
record_at kind cells at = data_if kind (cells at)

-- each of these offsets has a record that is read
abbrev pub AreRecords : ListKind → Cells → List ℕ → Type 0
AreRecords kind cells listed = All (λ at. IsOk (record_at kind cells at)) listed

-- the name in a record's data, as it is spelled
abbrev pub name_in_record : ListKind → List ℕ → List ℕ
name_in_record Subkeys bytes = units_in (has_flag 0x20 (u16_at bytes 2)) (key_name_bytes bytes)
name_in_record Values bytes = units_in (has_flag 1 (u16_at bytes 16)) (slice_range bytes 20 (20 + u16_at bytes 2))

abbrev pub has_name : ListKind → List ℕ → Result (List ℕ) Refusal → Bool
has_name kind name (Ok bytes) = same (folded (name_in_record kind bytes)) name
has_name kind name (Err why) = false

-- whether the record at an offset is read and has this name, folded
abbrev pub is_named : ListKind → Cells → List ℕ → ℕ → Bool
is_named kind cells name at = has_name kind name (record_at kind cells at)

-- the offsets of those that have it, in the order of the list
abbrev pub offsets_named : ListKind → Cells → List ℕ → List ℕ → List ℕ
offsets_named kind cells name listed = filter (is_named kind cells name) listed

-- the offsets in a list of values, of a key that says how many they are and where their list is
abbrev pub value_offsets_at : ℕ → ℕ → Reader (List ℕ)
value_offsets_at count list =
    choice (count == 0) (done [])
    (look list ⟫ λ bytes.
    rule (nat_le (4 * count) (length bytes)) cause.BadRecord ⟫ λ _.
    done (words_from bytes 0 4 count))

-- the offsets of a key's subkeys or of its values, from the data of its node
abbrev pub list_in_node : ListKind → List ℕ → Reader (List ℕ)
list_in_node Subkeys bytes = subkeys_at (u32_at bytes 20) (u32_at bytes 28)
list_in_node Values bytes = value_offsets_at (u32_at bytes 36) (u32_at bytes 40)
