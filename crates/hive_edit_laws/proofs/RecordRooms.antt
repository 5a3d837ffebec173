-- How long the data of a record are that keeps its own rules.
use Rattle.std.proofs.Common.{◌≡◌, ℕ, ◌≤◌, ◌+◌, ◌*◌, ◌||◌, List, length, refl, sym, Bool, true, false, if◌then◌else◌, Option, Some, None}
use Rattle.refusals.specs.declared.refusal.Refusal.{Refusal}
use Rattle.hive_tree_model.proofs.Basics.{some_none}
use Rattle.hive_records.specs.Numbers.{u16_at}
use Rattle.hive_records.specs.Lists.{is_plain, is_hinted, is_indirect}
use Rattle.hive_records.specs.declared.key_node.KeyNode.{KeyNode}
use Rattle.hive_records.specs.declared.value_record.ValueRec.{ValueRec}
use Rattle.hive_records.specs.RecordReaders.{units_of}
use Rattle.hive_edit_laws.specs.Found.{node_name, value_name}
use Rattle.hive_records.specs.Heads.{IsKeyNode, IsValueRec, units_in, key_node_fault, value_fault, list_fault, stride_of}
use Rattle.hive_edit_laws.proofs.Bools.{at_least}

kept : (b : Bool) (r : Refusal) (rest : Option Refusal) → (if b then rest else Some r) ≡ None → (b ≡ true) × (rest ≡ None)
kept true r rest e = (refl, e)
kept false r rest e = some_none r (sym e)

pub node_long : (bytes : List ℕ) → key_node_fault bytes ≡ None → 76 + u16_at bytes 72 ≤ length bytes
node_long bytes e = at_least (76 + u16_at bytes 72) (length bytes) (kept _ _ _ (kept _ _ _ e).1).0

pub value_long : (bytes : List ℕ) → value_fault bytes ≡ None → 20 + u16_at bytes 2 ≤ length bytes
value_long bytes e = at_least (20 + u16_at bytes 2) (length bytes) (kept _ _ _ (kept _ _ _ e).1).0

pub list_long : (bytes : List ℕ) → list_fault bytes ≡ None → ((is_plain bytes || (is_hinted bytes || is_indirect bytes)) ≡ true) × (4 + stride_of bytes * u16_at bytes 2 ≤ length bytes)
list_long bytes e = ((kept _ _ _ e).0, at_least (4 + stride_of bytes * u16_at bytes 2) (length bytes) (kept _ _ _ (kept _ _ _ e).1).0)

-- and the name that its reader gives
pub node_named : (node : KeyNode) (bytes : List ℕ) → IsKeyNode node bytes → units_of node.name ≡ node_name bytes
node_named node bytes is = λ i. units_in (is.name.0 i) (is.name.1 i)

pub value_named : (value : ValueRec) (bytes : List ℕ) → IsValueRec value bytes → units_of value.name ≡ value_name bytes
value_named value bytes is = λ i. units_in (is.name.0 i) (is.name.1 i)
