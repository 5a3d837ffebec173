-- What a tree takes of an image's free cell at most, in bytes: a sum over its keys, and one over its distinct
-- descriptors.
use Rattle.std.specs.Prelude.{ℕ, ◌+◌, ◌*◌, ◌/◌, List, [], ◌∷◌, length, sum_by}
use Rattle.reg_tree_parts.specs.Rows.{Row}
use Rattle.reg_tree_parts.specs.Nodes.{Entries, subkeys_of}
use Rattle.hive_records.specs.NameEncodings.{name_bytes}
use Rattle.hive_emit.specs.CellWrites.{cell_cost}
use Rattle.hive_emit.specs.CellCosts.{values_cost, subkeys_cost}
use Rattle.hive_emit.specs.declared.security.SecurityEntry.{SecurityEntry}

-- a class: none if it is empty
abbrev pub class_cost : ℕ → ℕ
class_cost len = 16 * ((len + 7) / 8)

-- what a key has of its own: record, class and values
unfoldable pub row_cost : Row → ℕ
row_cost row = cell_cost (76 + length (name_bytes row.name)) + class_cost (length row.class) + values_cost row.values

-- what a key has beside its record: class, values, and the list of a number of subkeys
abbrev pub own_cost : Row → ℕ → ℕ
own_cost row subkey_list = class_cost (length row.class) + values_cost row.values + subkeys_cost subkey_list

-- a key, and all keys below it with what each takes in the list of its parent's subkeys
abbrev pub keys_cost : Entries → ℕ
keys_cost [] = 0
keys_cost (entry ∷ entries) = row_cost entry.1 + sum_by (λ e. 16 + row_cost e.1) entries

-- all keys below a key
abbrev pub below_cost : Entries → ℕ
below_cost entries = sum_by (λ k. keys_cost k.1) (subkeys_of entries)

-- the security cell of a descriptor
abbrev pub descriptor_cost : ℕ → ℕ
descriptor_cost len = cell_cost (20 + len)

abbrev pub security_cost : SecurityEntry → ℕ
security_cost security = descriptor_cost (length security.descriptor)

abbrev pub securities_cost : List SecurityEntry → ℕ
securities_cost securities = sum_by security_cost securities

-- as many as the keys that have them
abbrev pub row_security_cost : Row → ℕ
row_security_cost row = descriptor_cost (length row.descriptor)

abbrev pub descriptors_cost : Entries → ℕ
descriptors_cost entries = sum_by (λ e. row_security_cost e.1) entries
