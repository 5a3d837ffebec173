-- A key, step by step.
use Rattle.std.proofs.Common.{◌≡◌, ◌≢◌, ◌==◌, ℕ, List, [], ◌∙◌, ap, sym, subst, inl, inr, Bool, true, false, Ok, Err, Result, Some, None, Option}
use Rattle.std.proofs.lemmas.Bool.{eq-eqb}
use Rattle.refusals.specs.declared.refusal.Refusal.{Refusal}
use Rattle.refusals.specs.declared.refusal.Refusal.TheVariants as refusal
use Rattle.refusals.specs.declared.refusal.Cause.TheVariants as cause
use Rattle.reg_tree_parts.specs.Rows.{Row, ValueMap}
use Rattle.hive_tree_model.specs.Loads.{CellMarks, Marked}
use Rattle.hive_tree_model.proofs.Basics.{clash}
use Rattle.hive_tree_model.proofs.Loading.{none_marked}
use Rattle.hive_cells.specs.Bins.{Cells}
use Rattle.hive_records.specs.Readers.{Read, look, look_lent, lent_if, ◌⟫◌}
use Rattle.hive_records.specs.Numbers.{nil_offset}
use Rattle.hive_records.specs.Values.{cell_prefix, values_at}
use Rattle.hive_records.specs.Lists.{subkeys_at}
use Rattle.hive_records.specs.KeyNodes.{class_at, descriptor_at, key_at}
use Rattle.hive_records.specs.Follows.{Follows}
use Rattle.hive_records.specs.Heads.{key_node_fault, IsKeyNode, security_fault, IsSecurity}
use Rattle.hive_records.specs.RecordReaders.{units_of, key_from}
use Rattle.hive_records.specs.declared.key_node.KeyNode.{KeyNode}
use Rattle.hive_records.specs.declared.security_cell.Security.{Security}
use Rattle.hive_records.proofs.RecordReaders.{key_out, key_on, descriptor_out, descriptor_on}
use Rattle.hive_records.proofs.Follow.{follows_on, follows_out}
use Rattle.hive_load_parts.proofs.Kit.{moved, says_err, done_follows}
use Rattle.hive_load_parts.proofs.ValueSteps.{looked_at, chosen, not_chosen}

pub no_class : (len at : ℕ) (cells : Cells) (m : CellMarks) (d : List ℕ) → (len == 0) ≡ true → d ≡ [] → Follows (class_at len at) cells m m (Ok d)
no_class len at cells m d z e = chosen cells m m (Ok d) (len == 0) _ _ z (done_follows [] d cells m (sym e))

pub some_class : (len at : ℕ) (cells : Cells) (old new : CellMarks) (r : Result (List ℕ) Refusal) → (len == 0) ≡ false → Follows (cell_prefix len at) cells old new r → Follows (class_at len at) cells old new r
some_class len at cells old new r z h = not_chosen cells old new r (len == 0) _ _ z h

-- ---- descriptors

pub no_descriptor : (at : ℕ) (cells : Cells) (m : CellMarks) (d : List ℕ) → (at == nil_offset) ≡ true → d ≡ [] → Follows (descriptor_at at) cells m m (Ok d)
no_descriptor at cells m d z e = chosen cells m m (Ok d) (at == nil_offset) _ _ z (done_follows [] d cells m (sym e))

unlent : (at : ℕ) (cells : Cells) (m : CellMarks) (r : Refusal) → cells at ≡ None → r ≡ refusal.HiveDamaged 0 cause.BadOffset → Follows (look_lent at) cells m m (Err r)
unfolding look_lent
unlent at cells m r e is = inr (inl (ap (λ (o : Option (List ℕ)). (lent_if at o).says) e ∙ ap Err (sym is)))

module _ (at : ℕ) (cells : Cells) (m : CellMarks) (some : (at == nil_offset) ≡ false) where
  apart : at ≢ nil_offset
  apart e = clash (at == nil_offset) (eq-eqb at nil_offset e) some

  pub descriptor_missing : (r : Refusal) → cells at ≡ None → r ≡ refusal.HiveDamaged 0 cause.BadOffset → Follows (descriptor_at at) cells m m (Err r)
  descriptor_missing r e is = not_chosen cells m m (Err r) (at == nil_offset) _ _ some (follows_out (look_lent at) _ cells m m m r (unlent at cells m r e is))

  pub descriptor_refused : (bytes : List ℕ) (r : Refusal) → cells at ≡ Some bytes → security_fault bytes ≡ Some r → Follows (descriptor_at at) cells m m (Err r)
  descriptor_refused bytes r e f = says_err (descriptor_at at) cells m m r _ _ (descriptor_out cells at bytes r apart e f)

  pub descriptor_read : (bytes : List ℕ) (security : Security) (d : List ℕ) → cells at ≡ Some bytes → (security_fault bytes ≡ None) × IsSecurity security bytes → d ≡ security.descriptor.now → Follows (descriptor_at at) cells m m (Ok d)
  descriptor_read bytes security d e s f =
      let given = descriptor_on cells at bytes security apart e s.0 s.1 in
      (ap (λ (z : Read (List ℕ)). z.says) given ∙ ap Ok (sym f), subst (λ (z : Read (List ℕ)). Marked m m z.own) (sym given) (none_marked m))

-- ---- keys

module _ (split : Bool) (at : ℕ) (cells : Cells) (old a : CellMarks) where
  pub key_unseen : (r : Refusal) → Follows (look at) cells old a (Err r) → Follows (key_at split at) cells old a (Err r)
  key_unseen r h = follows_out (look at) _ cells old a a r h

  module _ (bytes : List ℕ) (here : Follows (look at) cells old a (Ok bytes)) where
    pub key_refused : (r : Refusal) → key_node_fault bytes ≡ Some r → Follows (key_at split at) cells old a (Err r)
    key_refused r f = says_err (key_at split at) cells old a r _ _ (key_out split cells at bytes r (looked_at at cells old a bytes here) f)

    module _ (node : KeyNode) (sound : (key_node_fault bytes ≡ None) × IsKeyNode node bytes) where
      behind : (new : CellMarks) (r : Result (Row × List ℕ) Refusal) → Follows (key_from split node) cells a new r → Follows (key_at split at) cells old new r
      behind new r h = moved (key_at split at) (look at ⟫ λ _. key_from split node) cells old new r (key_on split cells at bytes node (looked_at at cells old a bytes here) sound.0 sound.1)
          (follows_on (look at) (λ _. key_from split node) cells old a new bytes r here h)

      pub key_classless : (b : CellMarks) (r : Refusal) → Follows (class_at node.class_len node.class) cells a b (Err r) → Follows (key_at split at) cells old b (Err r)
      key_classless b r h = behind b (Err r) (follows_out (class_at node.class_len node.class) _ cells a b b r h)

      module _ (b : CellMarks) (class : List ℕ) (classed : Follows (class_at node.class_len node.class) cells a b (Ok class)) where
        pub key_undescribed : (r : Refusal) → Follows (descriptor_at node.security) cells b b (Err r) → Follows (key_at split at) cells old b (Err r)
        key_undescribed r h = behind b (Err r) (follows_on (class_at node.class_len node.class) _ cells a b b class (Err r) classed (follows_out (descriptor_at node.security) _ cells b b b r h))

        module _ (descriptor : List ℕ) (described : Follows (descriptor_at node.security) cells b b (Ok descriptor)) (d : CellMarks) where
          pub key_valueless : (r : Refusal) → Follows (values_at split node.value_count node.values) cells b d (Err r) → Follows (key_at split at) cells old d (Err r)
          key_valueless r h = behind d (Err r) (follows_on (class_at node.class_len node.class) _ cells a b d class (Err r) classed (follows_on (descriptor_at node.security) _ cells b b d descriptor (Err r) described
              (follows_out (values_at split node.value_count node.values) _ cells b d d r h)))

          module _ (values : ValueMap) (valued : Follows (values_at split node.value_count node.values) cells b d (Ok values)) (e : CellMarks) where
            pub key_kidless : (r : Refusal) → Follows (subkeys_at node.subkey_count node.subkeys) cells d e (Err r) → Follows (key_at split at) cells old e (Err r)
            key_kidless r h = behind e (Err r) (follows_on (class_at node.class_len node.class) _ cells a b e class (Err r) classed (follows_on (descriptor_at node.security) _ cells b b e descriptor (Err r) described
                (follows_on (values_at split node.value_count node.values) _ cells b d e values (Err r) valued (follows_out (subkeys_at node.subkey_count node.subkeys) _ cells d e e r h))))

            pub key_read : (subkey_list name : List ℕ) (row : Row) → Follows (subkeys_at node.subkey_count node.subkeys) cells d e (Ok subkey_list) → name ≡ units_of node.name →
                row ≡ record { name = name; class = class; flags = node.flags; descriptor = descriptor; time = node.time; values = values } → Follows (key_at split at) cells old e (Ok (row, subkey_list))
            key_read subkey_list name row h n is = behind e (Ok (row, subkey_list)) (follows_on (class_at node.class_len node.class) _ cells a b e class (Ok (row, subkey_list)) classed (follows_on (descriptor_at node.security) _ cells b b e descriptor (Ok (row, subkey_list)) described
                (follows_on (values_at split node.value_count node.values) _ cells b d e values (Ok (row, subkey_list)) valued (follows_on (subkeys_at node.subkey_count node.subkeys) _ cells d e e subkey_list (Ok (row, subkey_list)) h
                (done_follows (record { name = units_of node.name; class = class; flags = node.flags; descriptor = descriptor; time = node.time; values = values }, subkey_list) (row, subkey_list) cells e
                (λ i. ((ap (λ (z : List ℕ). record { name = z; class = class; flags = node.flags; descriptor = descriptor; time = node.time; values = values }) (sym n) ∙ sym is) i, subkey_list)))))))
