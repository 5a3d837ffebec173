-- The steps in which a key is read, and a key whose node is new but for flags, class, descriptor and name.
use Rattle.std.proofs.Common.{◌≡◌, ◌<◌, ◌≤◌, ◌+◌, ◌==◌, nat_le, ℕ, List, ◌∷◌, ◌++◌, length, refl, ◌∙◌, ap, sym, subst, Bool, true, false, not, Ok, Err, Result, Some, slice_range, arith, append-nil}
use Rattle.std.specs.List.{list_any}
use Rattle.reg_names.specs.Names.{folded}
use Rattle.refusals.specs.declared.refusal.Refusal.{Refusal}
use Rattle.refusals.specs.declared.refusal.Refusal.TheVariants as refusal
use Rattle.refusals.specs.declared.refusal.Cause.TheVariants as cause
use Rattle.reg_tree_parts.specs.Rows.{Row, ValueMap}
use Rattle.hive_tree_model.specs.Lists.{IsIn}
use Rattle.hive_tree_model.specs.Keys.{KeyParts}
use Rattle.hive_tree_model.proofs.Basics.{ok_same, in_front, in_back}
use Rattle.hive_cells.specs.Tiles.{u32_at}
use Rattle.hive_cells.specs.Bins.{Cells}
use Rattle.hive_records.specs.Readers.{Read, Reader, done, rule, barred, ◌⟫◌}
use Rattle.hive_records.specs.Numbers.{u16_at, u64_at, begins_with}
use Rattle.hive_records.specs.Names.{has_flag, name_in}
use Rattle.hive_records.specs.Values.{values_at}
use Rattle.hive_records.specs.KeyNodes.{flags_of, class_at, descriptor_at, key_at, keys_in, parts_of, parts_if}
use Rattle.hive_records.specs.Lists.{subkeys_at}
use Rattle.hive_records.specs.Fields.{Gives}
use Rattle.hive_records.proofs.Local.{never_ok}
use Rattle.hive_records.proofs.Keys.{local_descriptor, local_class}
use Rattle.hive_records.proofs.StepsAgain.{gives_on, gives_last, gives_same, gives_rule, gives_allowed, gives_look}
use Rattle.hive_edit_laws.specs.RecordEdits.{NodeListsChange}
use Rattle.hive_edit_laws.proofs.ReaderSteps.{BindStep, split_of, rule_of, barred_of, LookStep, look_of, done_of}
use Rattle.hive_edit_laws.proofs.EachSwaps.{same_reading}
use Rattle.hive_edit_laws.proofs.SameBytes.{half_same, word_same, begins_same, tail_same}
use Rattle.hive_edit_laws.proofs.ValueRecords.{name_again}

module _ (split : Bool) (cells : Cells) (node : List ℕ) where
  abbrev row_of : List ℕ → List ℕ → List ℕ → ValueMap → Row
  row_of name class descriptor values = record { name = name; class = class; flags = flags_of (u16_at node 2); descriptor = descriptor; time = u64_at node 4; values = values }

  abbrev pub after_values : List ℕ → List ℕ → List ℕ → ValueMap → Reader (Row × List ℕ)
  after_values name class descriptor values = subkeys_at (u32_at node 20) (u32_at node 28) ⟫ λ subkey_list. done (row_of name class descriptor values, subkey_list)

  abbrev pub after_descriptor : List ℕ → List ℕ → List ℕ → Reader (Row × List ℕ)
  after_descriptor name class descriptor = values_at split (u32_at node 36) (u32_at node 40) ⟫ λ values. after_values name class descriptor values

  abbrev pub after_class : List ℕ → List ℕ → Reader (Row × List ℕ)
  after_class name class = descriptor_at (u32_at node 44) ⟫ λ descriptor. after_descriptor name class descriptor

  abbrev pub after_name : List ℕ → Reader (Row × List ℕ)
  after_name name = rule (not (list_any (λ u. u == 0x5c) name)) cause.BadName ⟫ λ _. class_at (u16_at node 74) (u32_at node 48) ⟫ λ class. after_class name class

  pub record SubkeysStep (name class descriptor : List ℕ) (values : ValueMap) (own lent : List ℕ) (x : Row × List ℕ) : Type 0 where
    pub ko : List ℕ
    pub kl : List ℕ
    pub subkey_list : List ℕ
    pub listed : Gives (subkeys_at (u32_at node 20) (u32_at node 28)) cells ko kl subkey_list
    pub own_is : own ≡ ko
    pub lent_is : lent ≡ kl
    pub is : (row_of name class descriptor values, subkey_list) ≡ x

  subkeys_step : (name class descriptor : List ℕ) (values : ValueMap) (own lent : List ℕ) (x : Row × List ℕ) → Gives (after_values name class descriptor values) cells own lent x → SubkeysStep name class descriptor values own lent x
  subkeys_step name class descriptor values own lent x h = by (split_of (subkeys_at (u32_at node 20) (u32_at node 28)) (λ subkey_list. done (row_of name class descriptor values, subkey_list)) cells own lent x h)
    where
      by : BindStep (subkeys_at (u32_at node 20) (u32_at node 28)) (λ subkey_list. done (row_of name class descriptor values, subkey_list)) cells own lent x → SubkeysStep name class descriptor values own lent x
      by k = let z = done_of (row_of name class descriptor values, k.x) cells k.own_next k.lent_next x k.next in record {
        ko = k.own_first;
        kl = k.lent_first;
        subkey_list = k.x;
        listed = k.first;
        own_is = k.own_is ∙ ap (λ (l : List ℕ). k.own_first ++ l) z.0 ∙ append-nil k.own_first;
        lent_is = k.lent_is ∙ ap (λ (l : List ℕ). k.lent_first ++ l) z.1 ∙ append-nil k.lent_first;
        is = z.2;
      }

  pub record ClassStep (name class : List ℕ) (own lent : List ℕ) (x : Row × List ℕ) : Type 0 where
    pub eo : List ℕ
    pub dl : List ℕ
    pub descriptor : List ℕ
    pub described : Gives (descriptor_at (u32_at node 44)) cells eo dl descriptor
    pub vo : List ℕ
    pub vl : List ℕ
    pub values : ValueMap
    pub valued : Gives (values_at split (u32_at node 36) (u32_at node 40)) cells vo vl values
    pub ko : List ℕ
    pub kl : List ℕ
    pub subkey_list : List ℕ
    pub listed : Gives (subkeys_at (u32_at node 20) (u32_at node 28)) cells ko kl subkey_list
    pub own_is : own ≡ eo ++ (vo ++ ko)
    pub lent_is : lent ≡ dl ++ (vl ++ kl)
    pub is : (row_of name class descriptor values, subkey_list) ≡ x

  class_step : (name class : List ℕ) (own lent : List ℕ) (x : Row × List ℕ) → Gives (after_class name class) cells own lent x → ClassStep name class own lent x
  class_step name class own lent x h = by (split_of (descriptor_at (u32_at node 44)) (λ descriptor. after_descriptor name class descriptor) cells own lent x h)
    where
      more : (d : BindStep (descriptor_at (u32_at node 44)) (λ descriptor. after_descriptor name class descriptor) cells own lent x) (v : BindStep (values_at split (u32_at node 36) (u32_at node 40)) (λ values. after_values name class d.x values) cells d.own_next d.lent_next x) → SubkeysStep name class d.x v.x v.own_next v.lent_next x → ClassStep name class own lent x
      more d v k = record {
        eo = d.own_first;
        dl = d.lent_first;
        descriptor = d.x;
        described = d.first;
        vo = v.own_first;
        vl = v.lent_first;
        values = v.x;
        valued = v.first;
        ko = k.ko;
        kl = k.kl;
        subkey_list = k.subkey_list;
        listed = k.listed;
        own_is = d.own_is ∙ ap (λ (l : List ℕ). d.own_first ++ l) (v.own_is ∙ ap (λ (l : List ℕ). v.own_first ++ l) k.own_is);
        lent_is = d.lent_is ∙ ap (λ (l : List ℕ). d.lent_first ++ l) (v.lent_is ∙ ap (λ (l : List ℕ). v.lent_first ++ l) k.lent_is);
        is = k.is;
      }

      on : (d : BindStep (descriptor_at (u32_at node 44)) (λ descriptor. after_descriptor name class descriptor) cells own lent x) → BindStep (values_at split (u32_at node 36) (u32_at node 40)) (λ values. after_values name class d.x values) cells d.own_next d.lent_next x → ClassStep name class own lent x
      on d v = more d v (subkeys_step name class d.x v.x v.own_next v.lent_next x v.next)

      by : BindStep (descriptor_at (u32_at node 44)) (λ descriptor. after_descriptor name class descriptor) cells own lent x → ClassStep name class own lent x
      by d = on d (split_of (values_at split (u32_at node 36) (u32_at node 40)) (λ values. after_values name class d.x values) cells d.own_next d.lent_next x d.next)

  abbrev pub after_marks : Reader (Row × List ℕ)
  after_marks = name_in (has_flag 0x20 (u16_at node 2)) (slice_range node 76 (76 + u16_at node 72)) ⟫ λ name. after_name name

  pub record NameStep (own lent : List ℕ) (x : Row × List ℕ) : Type 0 where
    pub begins : begins_with node 0x6b6e 76 ≡ true
    pub long : nat_le (76 + u16_at node 72) (length node) ≡ true
    pub plain : has_flag 0x40 (u16_at node 2) ≡ false
    pub na : List ℕ
    pub nl : List ℕ
    pub name : List ℕ
    pub named : Gives (name_in (has_flag 0x20 (u16_at node 2)) (slice_range node 76 (76 + u16_at node 72))) cells na nl name
    pub whole_name : not (list_any (λ u. u == 0x5c) name) ≡ true
    pub co : List ℕ
    pub cl : List ℕ
    pub class : List ℕ
    pub classed : Gives (class_at (u16_at node 74) (u32_at node 48)) cells co cl class
    pub eo : List ℕ
    pub dl : List ℕ
    pub descriptor : List ℕ
    pub described : Gives (descriptor_at (u32_at node 44)) cells eo dl descriptor
    pub vo : List ℕ
    pub vl : List ℕ
    pub values : ValueMap
    pub valued : Gives (values_at split (u32_at node 36) (u32_at node 40)) cells vo vl values
    pub ko : List ℕ
    pub kl : List ℕ
    pub subkey_list : List ℕ
    pub listed : Gives (subkeys_at (u32_at node 20) (u32_at node 28)) cells ko kl subkey_list
    pub own_is : own ≡ na ++ (co ++ (eo ++ (vo ++ ko)))
    pub lent_is : lent ≡ nl ++ (cl ++ (dl ++ (vl ++ kl)))
    pub is : (row_of name class descriptor values, subkey_list) ≡ x

  abbrev pub after_look_at : Reader (Row × List ℕ)
  after_look_at = rule (begins_with node 0x6b6e 76) cause.BadRecord ⟫ λ _. rule (nat_le (76 + u16_at node 72) (length node)) cause.BadRecord ⟫ λ _. barred (has_flag 0x40 (u16_at node 2)) refusal.Unsupported ⟫ λ _. after_marks

  pub name_step : (own lent : List ℕ) (x : Row × List ℕ) → Gives after_look_at cells own lent x → NameStep own lent x
  name_step own lent x h = first (rule_of (begins_with node 0x6b6e 76) cause.BadRecord (λ _. rule (nat_le (76 + u16_at node 72) (length node)) cause.BadRecord ⟫ λ _. barred (has_flag 0x40 (u16_at node 2)) refusal.Unsupported ⟫ λ _. after_marks) cells own lent x h)
    where
      last : begins_with node 0x6b6e 76 ≡ true → nat_le (76 + u16_at node 72) (length node) ≡ true → has_flag 0x40 (u16_at node 2) ≡ false →
          (n : BindStep (name_in (has_flag 0x20 (u16_at node 2)) (slice_range node 76 (76 + u16_at node 72))) (λ name. after_name name) cells own lent x) → not (list_any (λ u. u == 0x5c) n.x) ≡ true →
          (c : BindStep (class_at (u16_at node 74) (u32_at node 48)) (λ class. after_class n.x class) cells n.own_next n.lent_next x) → ClassStep n.x c.x c.own_next c.lent_next x → NameStep own lent x
      last begins long plain n whole c d = record {
        begins = begins;
        long = long;
        plain = plain;
        na = n.own_first;
        nl = n.lent_first;
        name = n.x;
        named = n.first;
        whole_name = whole;
        co = c.own_first;
        cl = c.lent_first;
        class = c.x;
        classed = c.first;
        eo = d.eo;
        dl = d.dl;
        descriptor = d.descriptor;
        described = d.described;
        vo = d.vo;
        vl = d.vl;
        values = d.values;
        valued = d.valued;
        ko = d.ko;
        kl = d.kl;
        subkey_list = d.subkey_list;
        listed = d.listed;
        own_is = n.own_is ∙ ap (λ (l : List ℕ). n.own_first ++ l) (c.own_is ∙ ap (λ (l : List ℕ). c.own_first ++ l) d.own_is);
        lent_is = n.lent_is ∙ ap (λ (l : List ℕ). n.lent_first ++ l) (c.lent_is ∙ ap (λ (l : List ℕ). c.lent_first ++ l) d.lent_is);
        is = d.is;
      }

      classes : begins_with node 0x6b6e 76 ≡ true → nat_le (76 + u16_at node 72) (length node) ≡ true → has_flag 0x40 (u16_at node 2) ≡ false →
          (n : BindStep (name_in (has_flag 0x20 (u16_at node 2)) (slice_range node 76 (76 + u16_at node 72))) (λ name. after_name name) cells own lent x) →
          (not (list_any (λ u. u == 0x5c) n.x) ≡ true) × Gives (class_at (u16_at node 74) (u32_at node 48) ⟫ λ class. after_class n.x class) cells n.own_next n.lent_next x → NameStep own lent x
      classes begins long plain n w = go (split_of (class_at (u16_at node 74) (u32_at node 48)) (λ class. after_class n.x class) cells n.own_next n.lent_next x w.1)
        where
          go : BindStep (class_at (u16_at node 74) (u32_at node 48)) (λ class. after_class n.x class) cells n.own_next n.lent_next x → NameStep own lent x
          go c = last begins long plain n w.0 c (class_step n.x c.x c.own_next c.lent_next x c.next)

      names : begins_with node 0x6b6e 76 ≡ true → nat_le (76 + u16_at node 72) (length node) ≡ true → has_flag 0x40 (u16_at node 2) ≡ false →
          BindStep (name_in (has_flag 0x20 (u16_at node 2)) (slice_range node 76 (76 + u16_at node 72))) (λ name. after_name name) cells own lent x → NameStep own lent x
      names begins long plain n = classes begins long plain n (rule_of (not (list_any (λ u. u == 0x5c) n.x)) cause.BadName (λ _. class_at (u16_at node 74) (u32_at node 48) ⟫ λ class. after_class n.x class) cells n.own_next n.lent_next x n.next)

      third : begins_with node 0x6b6e 76 ≡ true → nat_le (76 + u16_at node 72) (length node) ≡ true → (has_flag 0x40 (u16_at node 2) ≡ false) × Gives after_marks cells own lent x → NameStep own lent x
      third begins long c = names begins long c.0 (split_of (name_in (has_flag 0x20 (u16_at node 2)) (slice_range node 76 (76 + u16_at node 72))) (λ name. after_name name) cells own lent x c.1)

      second : begins_with node 0x6b6e 76 ≡ true → (nat_le (76 + u16_at node 72) (length node) ≡ true) × Gives (barred (has_flag 0x40 (u16_at node 2)) refusal.Unsupported ⟫ λ _. after_marks) cells own lent x → NameStep own lent x
      second begins b = third begins b.0 (barred_of (has_flag 0x40 (u16_at node 2)) refusal.Unsupported (λ _. after_marks) cells own lent x b.1)

      first : (begins_with node 0x6b6e 76 ≡ true) × Gives (rule (nat_le (76 + u16_at node 72) (length node)) cause.BadRecord ⟫ λ _. barred (has_flag 0x40 (u16_at node 2)) refusal.Unsupported ⟫ λ _. after_marks) cells own lent x → NameStep own lent x
      first a = second a.0 (rule_of (nat_le (76 + u16_at node 72) (length node)) cause.BadRecord (λ _. barred (has_flag 0x40 (u16_at node 2)) refusal.Unsupported ⟫ λ _. after_marks) cells own lent x a.1)

module _ (split : Bool) (key : ℕ) (cells : Cells) where
  -- the steps in which a key's cells are read
  pub record Steps (parts : KeyParts Row) : Type 0 where
    pub node : List ℕ
    pub here : cells key ≡ Some node
    pub begins : begins_with node 0x6b6e 76 ≡ true
    pub long : nat_le (76 + u16_at node 72) (length node) ≡ true
    pub plain : has_flag 0x40 (u16_at node 2) ≡ false
    pub na : List ℕ
    pub nl : List ℕ
    pub named : Gives (name_in (has_flag 0x20 (u16_at node 2)) (slice_range node 76 (76 + u16_at node 72))) cells na nl (parts.row).name
    pub whole_name : not (list_any (λ u. u == 0x5c) (parts.row).name) ≡ true
    pub co : List ℕ
    pub cl : List ℕ
    pub classed : Gives (class_at (u16_at node 74) (u32_at node 48)) cells co cl (parts.row).class
    pub eo : List ℕ
    pub dl : List ℕ
    pub described : Gives (descriptor_at (u32_at node 44)) cells eo dl (parts.row).descriptor
    pub vo : List ℕ
    pub vl : List ℕ
    pub valued : Gives (values_at split (u32_at node 36) (u32_at node 40)) cells vo vl (parts.row).values
    pub ko : List ℕ
    pub kl : List ℕ
    pub listed : Gives (subkeys_at (u32_at node 20) (u32_at node 28)) cells ko kl parts.subkey_list
    pub own_is : parts.own ≡ key ∷ (na ++ (co ++ (eo ++ (vo ++ ko))))
    pub lent_is : parts.lent ≡ nl ++ (cl ++ (dl ++ (vl ++ kl)))
    pub name_is : parts.name ≡ folded (parts.row).name
    pub flags_are : (parts.row).flags ≡ flags_of (u16_at node 2)
    pub time_is : (parts.row).time ≡ u64_at node 4

  gives_of : (own lent : List ℕ) (x : Row × List ℕ) (r : Read (Row × List ℕ)) → r ≡ record { own = own; lent = lent; says = Ok x } → parts_of r ≡ Ok (record { name = folded (x.0).name; row = x.0; subkey_list = x.1; own = own; lent = lent })
  gives_of own lent x r e = ap parts_of e

  steps_for : (own lent : List ℕ) (x : Row × List ℕ) → Gives (key_at split key) cells own lent x → Steps (record { name = folded (x.0).name; row = x.0; subkey_list = x.1; own = own; lent = lent })
  steps_for own lent x h = from_head (look_of key (λ bytes. after_look_at split cells bytes) cells own lent x h)
    where
      from_head : LookStep key (λ bytes. after_look_at split cells bytes) cells own lent x → Steps (record { name = folded (x.0).name; row = x.0; subkey_list = x.1; own = own; lent = lent })
      from_head l = from_name (name_step split cells l.bytes l.own_next lent x l.next)
        where
          from_name : NameStep split cells l.bytes l.own_next lent x → Steps (record { name = folded (x.0).name; row = x.0; subkey_list = x.1; own = own; lent = lent })
          from_name n = record {
            node = l.bytes;
            here = l.here;
            begins = n.begins;
            long = n.long;
            plain = n.plain;
            na = n.na;
            nl = n.nl;
            named = gives_same (ap (λ (y : Row × List ℕ). (y.0).name) n.is) n.named;
            whole_name = ap (λ (y : Row × List ℕ). not (list_any (λ u. u == 0x5c) (y.0).name)) (sym n.is) ∙ n.whole_name;
            co = n.co;
            cl = n.cl;
            classed = gives_same (ap (λ (y : Row × List ℕ). (y.0).class) n.is) n.classed;
            eo = n.eo;
            dl = n.dl;
            described = gives_same (ap (λ (y : Row × List ℕ). (y.0).descriptor) n.is) n.described;
            vo = n.vo;
            vl = n.vl;
            valued = gives_same (ap (λ (y : Row × List ℕ). (y.0).values) n.is) n.valued;
            ko = n.ko;
            kl = n.kl;
            listed = gives_same (ap (λ (y : Row × List ℕ). y.1) n.is) n.listed;
            own_is = l.own_is ∙ ap (λ (z : List ℕ). key ∷ z) n.own_is;
            lent_is = n.lent_is;
            name_is = refl;
            flags_are = sym (ap (λ (y : Row × List ℕ). (y.0).flags) n.is);
            time_is = sym (ap (λ (y : Row × List ℕ). (y.0).time) n.is);
          }

  pub steps_of : (parts : KeyParts Row) → keys_in split cells key ≡ Ok parts → Steps parts
  steps_of parts e = go (key_at split key cells).says refl
    where
      go : (s : Result (Row × List ℕ) Refusal) → (key_at split key cells).says ≡ s → Steps parts
      go (Err r) g = never_ok r parts (sym (ap (parts_if (key_at split key cells).own (key_at split key cells).lent) g) ∙ e)
      go (Ok x) g =
          let is : record { name = folded (x.0).name; row = x.0; subkey_list = x.1; own = (key_at split key cells).own; lent = (key_at split key cells).lent } ≡ parts = ok_same _ parts (sym (ap (parts_if (key_at split key cells).own (key_at split key cells).lent) g) ∙ e) in
          subst Steps is (steps_for (key_at split key cells).own (key_at split key cells).lent x (record { reads = λ i. record { own = (key_at split key cells).own; lent = (key_at split key cells).lent; says = g i } }))

  -- and how they are joined
  pub steps_to : (row : Row) (subkey_list na nl co cl eo dl vo vl ko kl node : List ℕ) → cells key ≡ Some node → begins_with node 0x6b6e 76 ≡ true → nat_le (76 + u16_at node 72) (length node) ≡ true → has_flag 0x40 (u16_at node 2) ≡ false →
      Gives (name_in (has_flag 0x20 (u16_at node 2)) (slice_range node 76 (76 + u16_at node 72))) cells na nl row.name → not (list_any (λ u. u == 0x5c) row.name) ≡ true →
      Gives (class_at (u16_at node 74) (u32_at node 48)) cells co cl row.class → Gives (descriptor_at (u32_at node 44)) cells eo dl row.descriptor →
      Gives (values_at split (u32_at node 36) (u32_at node 40)) cells vo vl row.values → Gives (subkeys_at (u32_at node 20) (u32_at node 28)) cells ko kl subkey_list →
      row.flags ≡ flags_of (u16_at node 2) → row.time ≡ u64_at node 4 →
      keys_in split cells key ≡ Ok (record { name = folded row.name; row = row; subkey_list = subkey_list; own = key ∷ (na ++ (co ++ (eo ++ (vo ++ ko)))); lent = nl ++ (cl ++ (dl ++ (vl ++ kl))) })
  steps_to row subkey_list na nl co cl eo dl vo vl ko kl node here begins long plain named whole classed described valued listed flags time =
      gives_of (key ∷ (na ++ (co ++ (eo ++ (vo ++ ko))))) (nl ++ (cl ++ (dl ++ (vl ++ kl)))) (row, subkey_list) (key_at split key cells) (read.reads)
    where
      read : Gives (key_at split key) cells (key ∷ (na ++ (co ++ (eo ++ (vo ++ ko))))) (nl ++ (cl ++ (dl ++ (vl ++ kl)))) (row, subkey_list)
      read = gives_on _ (gives_look key cells node here)
          (gives_on _ (gives_rule (begins_with node 0x6b6e 76) _ cells begins)
          (gives_on _ (gives_rule (nat_le (76 + u16_at node 72) (length node)) _ cells long)
          (gives_on _ (gives_allowed (has_flag 0x40 (u16_at node 2)) _ cells plain)
          (gives_on _ named
          (gives_on _ (gives_rule (not (list_any (λ u. u == 0x5c) row.name)) _ cells whole)
          (gives_on _ classed
          (gives_on _ described
          (gives_on _ valued
          (gives_same (λ i. (record row { flags = sym flags i; time = sym time i }, subkey_list))
          (gives_last (λ subkey_list. (record { name = row.name; class = row.class; flags = flags_of (u16_at node 2); descriptor = row.descriptor; time = u64_at node 4; values = row.values }, subkey_list)) listed))))))))))

pub in_five : (a b c d e : List ℕ) (cell : ℕ) → IsIn cell d → IsIn cell (a ++ (b ++ (c ++ (d ++ e))))
in_five a b c d e cell h = in_back cell a (b ++ (c ++ (d ++ e))) (in_back cell b (c ++ (d ++ e)) (in_back cell c (d ++ e) (in_front cell d e h)))

-- A key whose node is new but for flags, class, descriptor and name. It reads as its new time, and as its values and its
-- list of subkeys then read, whatever cells these have. All edits of a key come to this.
module _ (split : Bool) (key : ℕ) (before after : Cells) (parts : KeyParts Row) (s : Steps split key before parts) (new_node : List ℕ) (there : after key ≡ Some new_node) (r : NodeListsChange s.node new_node)
    (class_stays : (cell : ℕ) → IsIn cell s.co → after cell ≡ before cell) (class_lent : (cell : ℕ) → IsIn cell s.cl → after cell ≡ before cell)
    (descriptor_stays : (cell : ℕ) → IsIn cell s.eo → after cell ≡ before cell) (descriptor_lent : (cell : ℕ) → IsIn cell s.dl → after cell ≡ before cell)
    (values : ValueMap) (subkey_list vo vl ko kl : List ℕ) (valued : Gives (values_at split (u32_at new_node 36) (u32_at new_node 40)) after vo vl values) (listed : Gives (subkeys_at (u32_at new_node 20) (u32_at new_node 28)) after ko kl subkey_list) where
  abbrev changed_row : Row
  changed_row = record parts.row { time = u64_at new_node 4; values = values }

  two_same : u16_at new_node 2 ≡ u16_at s.node 2
  two_same = half_same s.node new_node 2 (r.before 2 (omega arith)) (r.before 3 (omega arith))

  size_same : u16_at new_node 72 ≡ u16_at s.node 72
  size_same = half_same s.node new_node 72 (r.after 72 (omega arith)) (r.after 73 (omega arith))

  class_size_same : u16_at new_node 74 ≡ u16_at s.node 74
  class_size_same = half_same s.node new_node 74 (r.after 74 (omega arith)) (r.after 75 (omega arith))

  word_here : (n : ℕ) → 44 ≤ n → n + 3 < 52 → u32_at new_node n ≡ u32_at s.node n
  word_here n h g = word_same s.node new_node n (r.cells n h (omega (arith, g))) (r.cells (n + 1) (omega (arith, h)) (omega (arith, g))) (r.cells (n + 2) (omega (arith, h)) (omega (arith, g))) (r.cells (n + 3) (omega (arith, h)) g)

  name_same : slice_range new_node 76 (76 + u16_at new_node 72) ≡ slice_range s.node 76 (76 + u16_at s.node 72)
  name_same = ap (λ n. slice_range new_node 76 (76 + n)) size_same ∙ tail_same s.node new_node 76 (76 + u16_at s.node 72) r.len (λ i g. r.after i (omega (arith, g)))

  so : {A : Type 0} {m n : Reader A} {o l : List ℕ} {x : A} → n ≡ m → Gives m after o l x → Gives n after o l x
  so {A} {m} {n} {o} {l} {x} e h = subst (λ (z : Reader A). Gives z after o l x) (sym e) h

  pub key_again : keys_in split after key ≡ Ok (record { name = parts.name; row = record parts.row { time = u64_at new_node 4; values = values }; subkey_list = subkey_list; own = key ∷ (s.na ++ (s.co ++ (s.eo ++ (vo ++ ko)))); lent = s.nl ++ (s.cl ++ (s.dl ++ (vl ++ kl))) })
  key_again = steps_to split key after changed_row subkey_list s.na s.nl s.co s.cl s.eo s.dl vo vl ko kl new_node there
      (begins_same s.node new_node 0x6b6e 76 r.len (half_same s.node new_node 0 (r.before 0 (omega arith)) (r.before 1 (omega arith))) ∙ s.begins)
      ((λ i. nat_le (76 + size_same i) (r.len i)) ∙ s.long)
      (ap (has_flag 0x40) two_same ∙ s.plain)
      (so (λ i. name_in (has_flag 0x20 (two_same i)) (name_same i)) (name_again (has_flag 0x20 (u16_at s.node 2)) (slice_range s.node 76 (76 + u16_at s.node 72)) before after s.na s.nl (parts.row).name s.named))
      s.whole_name
      (so (λ i. class_at (class_size_same i) (word_here 48 (omega arith) (omega arith) i)) (same_reading (class_at (u16_at s.node 74) (u32_at s.node 48)) (local_class (u16_at s.node 74) (u32_at s.node 48)) before after s.co s.cl (parts.row).class s.classed class_stays class_lent))
      (so (λ i. descriptor_at (word_here 44 (omega arith) (omega arith) i)) (same_reading (descriptor_at (u32_at s.node 44)) (local_descriptor (u32_at s.node 44)) before after s.eo s.dl (parts.row).descriptor s.described descriptor_stays descriptor_lent))
      valued listed
      (s.flags_are ∙ ap flags_of (sym two_same))
      refl
      ∙ (λ i. Ok (record { name = sym s.name_is i; row = changed_row; subkey_list = subkey_list; own = key ∷ (s.na ++ (s.co ++ (s.eo ++ (vo ++ ko)))); lent = s.nl ++ (s.cl ++ (s.dl ++ (vl ++ kl))) }))
