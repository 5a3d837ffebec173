-- What a key's cells say depends on its own cells and on those lent to it.
use Rattle.std.proofs.Common.{◌≡◌, inl, inr, ℕ, List, refl, ◌∙◌, ap, sym, subst, Bool, Ok, Err, Result, ◌^◌}
use Rattle.std.specs.Prelude.{nat_le, nat_lt, ◌==◌}
use Rattle.reg_names.specs.Names.{folded}
use Rattle.refusals.specs.declared.refusal.Refusal.{Refusal}
use Rattle.reg_tree_parts.specs.Rows.{Row}
use Rattle.hive_tree_model.specs.Lists.{IsIn}
use Rattle.hive_tree_model.specs.Keys.{KeyParts}
use Rattle.hive_tree_model.specs.Cells.{IsLocal, IsThere}
use Rattle.hive_tree_model.specs.Encodings.{NamesBy}
use Rattle.hive_tree_model.specs.Faults.{IsTrail, IsLentTrail}
use Rattle.hive_tree_model.proofs.Basics.{ok_same, in_front, in_back, in_either}
use Rattle.hive_cells.specs.Tiles.{u32_at}
use Rattle.hive_records.specs.Readers.{Read}
use Rattle.hive_cells.specs.Bins.{Cells}
use Rattle.hive_records.specs.Numbers.{nil_offset}
use Rattle.hive_records.specs.Names.{name_in}
use Rattle.hive_records.specs.Values.{cell_prefix, segment_bytes, big_data, data_of, value_at, values_at}
use Rattle.hive_records.specs.Lists.{is_plain, is_indirect, offsets_in, leaf_in, list_in, subkeys_at}
use Rattle.hive_records.specs.KeyNodes.{descriptor_at, class_at, key_at, parts_if, parts_of, keys_in, trail_in, lends_in}
use Rattle.hive_records.proofs.Local.{Local, local_done, local_barred, local_choice, local_rule, local_look, local_look_lent, local_bind, local_each, never_ok}

local_name : (latin : Bool) (bytes : List ℕ) → Local (name_in latin bytes)
local_name latin bytes = local_choice latin (local_done _) (local_bind (local_rule _ _) (λ _. (local_done _)))

local_piece : (size at : ℕ) → Local (cell_prefix size at)
local_piece size at = local_bind (local_look _) (λ bytes. local_bind (local_rule _ _) (λ _. (local_done _)))

local_big : (size at : ℕ) → Local (big_data size at)
local_big size at = local_bind (local_look _) (λ bytes. local_bind (local_rule _ _) (λ _. local_bind (local_rule _ _) (λ _. local_bind (local_look _) (λ list. local_bind (local_rule _ _) (λ _. local_bind (local_each (λ s. local_piece s.0 s.1) _) (λ pieces. (local_done _)))))))

local_data : (split : Bool) (size : ℕ) (bytes : List ℕ) → Local (data_of split size bytes)
local_data split size bytes = local_choice (nat_le (2 ^ 31) size) (local_bind (local_rule _ _) (λ _. (local_done _)))
    (local_choice (size == 0) (local_done _) (local_choice split (local_choice (nat_lt segment_bytes size) (local_big size (u32_at bytes 8)) (local_piece size (u32_at bytes 8))) (local_piece size (u32_at bytes 8))))

local_value : (split : Bool) (at : ℕ) → Local (value_at split at)
local_value split at = local_bind (local_look _) (λ bytes. local_bind (local_rule _ _) (λ _. local_bind (local_rule _ _) (λ _. local_bind (local_name _ _) (λ name. local_bind (local_data split (u32_at bytes 4) bytes) (λ its. (local_done _))))))

pub local_values : (split : Bool) (count list : ℕ) → Local (values_at split count list)
local_values split count list = local_choice (count == 0) (local_done _) (local_bind (local_look _) (λ bytes. local_bind (local_rule _ _) (λ _. local_bind (local_each (local_value split) _) (λ values. local_bind (local_rule _ _) (λ _. (local_done _))))))

local_offsets : (stride : ℕ) (bytes : List ℕ) → Local (offsets_in stride bytes)
local_offsets stride bytes = local_bind (local_rule _ _) (λ _. (local_done _))

local_leaf : (bytes : List ℕ) → Local (leaf_in bytes)
local_leaf bytes = local_choice (is_plain bytes) (local_offsets 4 bytes) (local_bind (local_rule _ _) (λ _. local_offsets 8 bytes))

local_list : (bytes : List ℕ) → Local (list_in bytes)
local_list bytes = local_choice (is_indirect bytes) (local_bind (local_offsets 4 bytes) (λ leaves. local_bind (local_each (λ at. local_bind (local_look _) (λ b. local_leaf b)) leaves) (λ lists. (local_done _)))) (local_leaf bytes)

pub local_subkeys : (count list : ℕ) → Local (subkeys_at count list)
local_subkeys count list = local_choice (count == 0) (local_done _) (local_bind (local_look _) (λ bytes. local_bind (local_list bytes) (λ subkey_list. local_bind (local_rule _ _) (λ _. (local_done _)))))

pub local_descriptor : (at : ℕ) → Local (descriptor_at at)
local_descriptor at = local_choice (at == nil_offset) (local_done _) (local_bind (local_look_lent _) (λ bytes. local_bind (local_rule _ _) (λ _. local_bind (local_rule _ _) (λ _. (local_done _)))))

pub local_class : (size at : ℕ) → Local (class_at size at)
local_class size at = local_choice (size == 0) (local_done _) (local_piece size at)

pub local_key : (split : Bool) (at : ℕ) → Local (key_at split at)
local_key split at =
    local_bind (local_look _) (λ bytes.
    local_bind (local_rule _ _) (λ _.
    local_bind (local_rule _ _) (λ _.
    local_bind (local_barred _ _) (λ _.
    local_bind (local_name _ _) (λ name.
    local_bind (local_rule _ _) (λ _.
    local_bind (local_class _ _) (λ class.
    local_bind (local_descriptor _) (λ descriptor.
    local_bind (local_values split _ _) (λ values.
    local_bind (local_subkeys _ _) (λ subkey_list.
    (local_done _)))))))))))

-- what parts that are read have
record Had (own lent : List ℕ) (says : Result (Row × List ℕ) Refusal) (parts : KeyParts Row) : Type 0 where
  pair : Row × List ℕ
  said : says ≡ Ok pair
  own_is : parts.own ≡ own
  lent_is : parts.lent ≡ lent
  name_is : parts.name ≡ folded ((parts.row).name)

had : (own lent : List ℕ) (says : Result (Row × List ℕ) Refusal) (parts : KeyParts Row) → parts_if own lent says ≡ Ok parts → Had own lent says parts
had own lent (Err r) parts e = never_ok r parts e
had own lent (Ok x) parts e = moved (record { name = folded ((x.0).name); row = x.0; subkey_list = x.1; own = own; lent = lent }) parts (ok_same _ parts e) (record { pair = x; said = refl; own_is = refl; lent_is = refl; name_is = refl })
  where
    moved : (p q : KeyParts Row) → p ≡ q → Had own lent (Ok x) p → Had own lent (Ok x) q
    moved p q same h = subst (Had own lent (Ok x)) same h

pub keys_local : (split : Bool) → IsLocal (keys_in split)
keys_local split old new at parts e agree =
    let r : Read (Row × List ℕ) = key_at split at old in
    let h : Had r.own r.lent r.says parts = had r.own r.lent r.says parts e in
    ap parts_of ((local_key split at).stays old new h.pair h.said
    (λ cell i. agree cell (in_front cell parts.own parts.lent (subst (λ z. IsIn cell z) (sym h.own_is) i)))
    (λ cell i. agree cell (in_back cell parts.own parts.lent (subst (λ z. IsIn cell z) (sym h.lent_is) i)))) ∙ e

pub keys_trail : (split : Bool) (cells : Cells) → IsTrail (trail_in split cells) (keys_in split cells)
keys_trail split cells at parts e =
    let r : Read (Row × List ℕ) = key_at split at cells in
    sym (had r.own r.lent r.says parts e).own_is

pub keys_lends : (split : Bool) (cells : Cells) → IsLentTrail (lends_in split cells) (keys_in split cells)
keys_lends split cells at parts e =
    let r : Read (Row × List ℕ) = key_at split at cells in
    sym (had r.own r.lent r.says parts e).lent_is

pub keys_named : (split : Bool) (cells : Cells) → NamesBy (λ (row : Row). folded row.name) (keys_in split cells)
keys_named split cells at parts e =
    let r : Read (Row × List ℕ) = key_at split at cells in
    (had r.own r.lent r.says parts e).name_is

pub keys_there : (split : Bool) → IsThere (keys_in split)
keys_there split cells at parts e cell i =
    let r : Read (Row × List ℕ) = key_at split at cells in
    let h : Had r.own r.lent r.says parts = had r.own r.lent r.says parts e in
    elim (in_either cell parts.own parts.lent i) [
      | inl j ↦ (local_key split at).own_there cells cell (subst (λ z. IsIn cell z) h.own_is j)
      | inr j ↦ (local_key split at).lent_there cells cell (subst (λ z. IsIn cell z) h.lent_is j)
    ]
