-- The name in the record of a key that can be read is the key's name.
use Rattle.std.proofs.Common.{◌≡◌, ℕ, Bool, List, refl, sym, ◌∙◌, ap, Result, Ok, Err, Option, Some, None}
use Rattle.refusals.specs.declared.refusal.Refusal.{Refusal}
use Rattle.reg_tree_parts.specs.Rows.{Row}
use Rattle.hive_cells.specs.Bins.{Cells}
use Rattle.hive_tree_model.specs.Keys.{KeyParts}
use Rattle.hive_records.specs.Readers.{Read, Reader, look, own_if, done, joined_if, ◌⟫◌}
use Rattle.hive_records.specs.Values.{values_at}
use Rattle.hive_records.specs.Lists.{subkeys_at}
use Rattle.hive_records.specs.KeyNodes.{class_at, descriptor_at, key_at, keys_in, parts_if}
use Rattle.hive_records.specs.Heads.{key_node_fault, IsKeyNode}
use Rattle.hive_records.specs.RecordReaders.{units_of, key_from}
use Rattle.hive_records.specs.declared.key_node.KeyNode.{KeyNode}
use Rattle.hive_records.proofs.RecordReaders.{key_on, key_out}

-- what is read by one reader after another is read by the second from something
said : {A B : Type 0} (m : Reader A) (f : A → Reader B) (cells : Cells) (y : B) → ((m ⟫ f) cells).says ≡ Ok y → (x : A) × ((f x cells).says ≡ Ok y)
unfolding ◌⟫◌
said {A = A} {B = B} m f cells y e = by_first (m cells).own (m cells).lent (m cells).says e
  where
    by_first : (own lent : List ℕ) (first : Result A Refusal) → (joined_if own lent first (λ x. f x cells)).says ≡ Ok y → (x : A) × ((f x cells).says ≡ Ok y)
    by_first own lent (Ok x) e = (x, e)
    by_first own lent (Err r) e = absurd (let no : ⊥ = cc in no)

-- and the first reads something
said_first : {A B : Type 0} (m : Reader A) (f : A → Reader B) (cells : Cells) (y : B) → ((m ⟫ f) cells).says ≡ Ok y → (x : A) × ((m cells).says ≡ Ok x)
unfolding ◌⟫◌
said_first {A = A} {B = B} m f cells y e = by_first (m cells).own (m cells).lent (m cells).says e
  where
    by_first : (own lent : List ℕ) (first : Result A Refusal) → (joined_if own lent first (λ x. f x cells)).says ≡ Ok y → (x : A) × (first ≡ Ok x)
    by_first own lent (Ok x) e = (x, refl)
    by_first own lent (Err r) e = absurd (let no : ⊥ = cc in no)

said_done : {A : Type 0} (x y : A) (cells : Cells) → (done x cells).says ≡ Ok y → x ≡ y
unfolding done
said_done x y cells e = cc

named_from : (split : Bool) (node : KeyNode) (cells : Cells) (its : Row × List ℕ) → (key_from split node cells).says ≡ Ok its → units_of node.name ≡ (let row = its.0 in row.name)
named_from split node cells its e =
    let class = said (class_at node.class_len node.class) _ cells its e in
    let descriptor = said (descriptor_at node.security) _ cells its class.1 in
    let values = said (values_at split node.value_count node.values) _ cells its descriptor.1 in
    let subkeys = said (subkeys_at node.subkey_count node.subkeys) _ cells its values.1 in
    ap (λ (x : Row × List ℕ). let row = x.0 in row.name) (said_done _ its cells subkeys.1)

told : (own lent : List ℕ) (says : Result (Row × List ℕ) Refusal) (parts : KeyParts Row) → parts_if own lent says ≡ Ok parts → (its : Row × List ℕ) × (says ≡ Ok its) × (its.0 ≡ parts.row)
told own lent (Ok its) parts e = (its, refl, cc)
told own lent (Err r) parts e = absurd (let no : ⊥ = cc in no)

pub key_named : (split : Bool) (cells : Cells) (at : ℕ) (bytes : List ℕ) (node : KeyNode) (parts : KeyParts Row) → cells at ≡ Some bytes → key_node_fault bytes ≡ None → IsKeyNode node bytes → keys_in split cells at ≡ Ok parts → units_of node.name ≡ parts.row.name
key_named split cells at bytes node parts there sound is e =
    let given : (its : Row × List ℕ) × ((key_at split at cells).says ≡ Ok its) × (its.0 ≡ parts.row) = told (key_at split at cells).own (key_at split at cells).lent (key_at split at cells).says parts e in
    let from : ((look at ⟫ λ _. key_from split node) cells).says ≡ Ok given.0 = sym (ap (λ (r : Read (Row × List ℕ)). r.says) (key_on split cells at bytes node there sound is)) ∙ given.1 in
    let behind = said (look at) (λ _. key_from split node) cells given.0 from in
    named_from split node cells given.0 behind.1 ∙ ap (λ (row : Row). row.name) given.2

-- a key that can be read lies in a cell, and its record breaks no rule

missing : (at : ℕ) (cells : Cells) (bytes : List ℕ) → cells at ≡ None → (look at cells).says ≡ Ok bytes → ⊥
unfolding look
missing at cells bytes none e = let says : (own_if at None).says ≡ Ok bytes = sym (ap (λ (o : Option (List ℕ)). (own_if at o).says) none) ∙ e in let no : ⊥ = cc in no

pub key_there : (split : Bool) (cells : Cells) (at : ℕ) (parts : KeyParts Row) → cells at ≡ None → keys_in split cells at ≡ Ok parts → ⊥
key_there split cells at parts none e =
    let given : (its : Row × List ℕ) × ((key_at split at cells).says ≡ Ok its) × (its.0 ≡ parts.row) = told (key_at split at cells).own (key_at split at cells).lent (key_at split at cells).says parts e in
    let first = said_first (look at) _ cells given.0 given.1 in
    missing at cells first.0 none first.1

pub key_faultless : (split : Bool) (cells : Cells) (at : ℕ) (parts : KeyParts Row) (bytes : List ℕ) (why : Refusal) → cells at ≡ Some bytes → key_node_fault bytes ≡ Some why → keys_in split cells at ≡ Ok parts → ⊥
key_faultless split cells at parts bytes why there fault e =
    let given : (its : Row × List ℕ) × ((key_at split at cells).says ≡ Ok its) × (its.0 ≡ parts.row) = told (key_at split at cells).own (key_at split at cells).lent (key_at split at cells).says parts e in
    let says : Err why ≡ Ok given.0 = sym (ap (λ (r : Read (Row × List ℕ)). r.says) (key_out split cells at bytes why there fault)) ∙ given.1 in
    let no : ⊥ = cc in no
