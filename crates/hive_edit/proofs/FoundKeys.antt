-- A key that was found level by level.
use Rattle.std.proofs.Common.{◌≡◌, ◌≢◌, ℕ, List, [], ◌∷◌, ◌++◌, ap, subst, ◌∙◌}
use Rattle.reg_tree.specs.Maps.{TreeMap}
use Rattle.hive_cells.specs.Tiles.{u32_at, cell_data}
use Rattle.hive_records.specs.Heads.{IsKeyNode}
use Rattle.hive_records.specs.declared.key_node.KeyNode.{KeyNode}
use Rattle.hive_edit_laws.specs.Found.{KeyFound}
use Rattle.hive_edit_laws.proofs.KeySearch.{subkeys_read, subkey_there}
use Rattle.hive_edit.specs.Searches.{IsNamedAt, IsSlotOf}
use Rattle.hive_edit.specs.declared.search.RecordKind.TheVariants.{Key}
use Rattle.hive_edit.specs.declared.subkeys.SubkeySlot.{SubkeySlot}
use Rattle.hive_tree_model.specs.Keys.{offsets}
use Rattle.hive_edit.proofs.Slots.{slot_listed}

pub slot_found : (bytes : List ℕ) (root minor : ℕ) (tree : TreeMap) (path : List (List ℕ)) (key : ℕ) (name : List ℕ) (cell : List ℕ) (node : KeyNode) (slot : SubkeySlot) →
    KeyFound bytes root minor tree path key → cell ≡ cell_data bytes key → IsKeyNode node cell → node.subkey_count ≢ 0 → IsSlotOf bytes node.subkeys slot → IsNamedAt Key bytes slot.subkey name → KeyFound bytes root minor tree (path ++ name ∷ []) slot.subkey
slot_found bytes root minor tree path key name cell node slot found cell_is is some s named =
    let count : node.subkey_count ≡ u32_at (cell_data bytes key) 20 = is.subkey_count ∙ ap (λ z. u32_at z 20) cell_is in
    let list : node.subkeys ≡ u32_at (cell_data bytes key) 28 = is.subkeys ∙ ap (λ z. u32_at z 28) cell_is in
    let r = subkeys_read bytes root minor tree path key found in
    subkey_there bytes root minor tree path key found slot.subkey name
    (slot_listed bytes found.cells found.shows (u32_at (cell_data bytes key) 20) (u32_at (cell_data bytes key) 28) r.0 [] (offsets found.place.below) r.1 (λ e. some (count ∙ e)) slot (subst (λ l. IsSlotOf bytes l slot) list s))
    named.1.1
