-- How reading goes on from a record that was read by itself: from its fields alone.
use Rattle.std.specs.Prelude.{ℕ, ◌-◌, ◌*◌, ◌^◌, ◌==◌, nat_le, nat_lt, Bool, not, List, [], length, take, flat_map}
use Rattle.refusals.specs.declared.refusal.Cause.TheVariants as cause
use Rattle.reg_tree_parts.specs.declared.value.Value.{Value}
use Rattle.reg_tree_parts.specs.Rows.{Row}
use Rattle.hive_records.specs.Readers.{Reader, done, rule, choice, look, each, ◌⟫◌}
use Rattle.hive_records.specs.Numbers.{words_from}
use Rattle.hive_records.specs.Values.{cell_prefix, segment_bytes, segments_of, segment_sizes, big_data, values_at}
use Rattle.hive_records.specs.Lists.{leaf_at, subkeys_at}
use Rattle.hive_records.specs.KeyNodes.{class_at, descriptor_at}
use Rattle.hive_records.specs.Heads.{units_in}
use Rattle.hive_records.specs.declared.stored_name.StoredName.{StoredName}
use Rattle.hive_records.specs.declared.key_node.KeyNode.{KeyNode}
use Rattle.hive_records.specs.declared.value_record.ValueRec.{ValueRec}
use Rattle.hive_records.specs.declared.list_record.SubkeyList.{SubkeyList}
use Rattle.hive_records.specs.declared.big_data.BigData.{BigData}

-- the units of a name
abbrev pub units_of : StoredName → List ℕ
units_of name = units_in name.latin name.bytes.now

-- a key from its key node on: class, descriptor, values, list of subkeys
abbrev pub key_from : Bool → KeyNode → Reader (Row × List ℕ)
key_from split node =
    class_at node.class_len node.class ⟫ λ class.
    descriptor_at node.security ⟫ λ descriptor.
    values_at split node.value_count node.values ⟫ λ values.
    subkeys_at node.subkey_count node.subkeys ⟫ λ subkey_list.
    done (record { name = units_of node.name; class = class; flags = node.flags; descriptor = descriptor; time = node.time; values = values }, subkey_list)

-- data of a size field, an offset field and the bytes of that field
abbrev pub data_from : Bool → ℕ → ℕ → List ℕ → Reader (List ℕ)
data_from split size offset small =
    choice (nat_le (2 ^ 31) size) (done (take (size - 2 ^ 31) small))
    (choice (size == 0) (done [])
    (choice split
    (choice (nat_lt segment_bytes size) (big_data size offset) (cell_prefix size offset))
    (cell_prefix size offset)))

-- a value from its record on
abbrev pub value_from : Bool → ValueRec → Reader Value
value_from split value =
    data_from split value.size value.offset value.small.now ⟫ λ its_data.
    done (record { name = units_of value.name; kind = value.kind; «data» = its_data })

-- big data of a size from their record on
abbrev pub big_from : ℕ → BigData → Reader (List ℕ)
big_from size big =
    look big.segments ⟫ λ list.
    rule (nat_le (4 * segments_of size) (length list)) cause.BadRecord ⟫ λ _.
    each (λ s. cell_prefix s.0 s.1) (segment_sizes size (words_from list 0 4 (segments_of size))) ⟫ λ pieces.
    done (flat_map (λ p. p) pieces)

-- the offsets in a list of subkeys
abbrev pub elements_of : SubkeyList → List ℕ
elements_of list = words_from list.elements.now 0 list.stride list.count

-- the key nodes that a list below a list of lists leads to; it may not be a list of lists itself
abbrev pub leaf_from : SubkeyList → Reader (List ℕ)
leaf_from list = rule (not list.is_indirect) cause.BadList ⟫ λ _. done (elements_of list)

-- the key nodes that a key's list leads to
abbrev pub list_from : SubkeyList → Reader (List ℕ)
list_from list = choice list.is_indirect
    (each leaf_at (elements_of list) ⟫ λ lists. done (flat_map (λ l. l) lists))
    (done (elements_of list))

-- the subkeys of a key that says how many they are
abbrev pub subkeys_from : ℕ → SubkeyList → Reader (List ℕ)
subkeys_from count list =
    list_from list ⟫ λ subkey_list.
    rule (length subkey_list == count) cause.BadList ⟫ λ _.
    done subkey_list
