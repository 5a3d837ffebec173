-- Key nodes that are written read back.
use Rattle.std.proofs.Common.{◌≡◌, ◌+◌, ◌-◌, ℕ, Bool, true, false, not, List, [], ◌∷◌, ◌++◌, length, take, refl, ◌∙◌, ap, sym, subst, arith, eqb, leb, le-leb, Some, Ok, length-append, append-nil}
use Rattle.std.specs.List.{list_any}
use Rattle.reg_names.specs.Names.{folded}
use Rattle.reg_tree_parts.specs.Rows.{Row}
use Rattle.hive_cells.specs.Tiles.{u32_at}
use Rattle.hive_cells.specs.Bins.{Cells}
use Rattle.hive_records.specs.Numbers.{u16_at, u64_at, begins_with}
use Rattle.hive_records.specs.Names.{has_flag}
use Rattle.hive_records.specs.Values.{values_at}
use Rattle.hive_records.specs.Lists.{subkeys_at}
use Rattle.hive_records.specs.KeyNodes.{descriptor_at, class_at, flags_of, key_at, keys_in, parts_of}
use Rattle.hive_records.specs.Fields.{Gives, CellHolds}
use Rattle.hive_records.specs.NameEncodings.{is_latin, name_bytes, latin_flag}
use Rattle.hive_records.specs.declared.key_node_fields.KeyNodeFields.{KeyNodeFields}
use Rattle.hive_records.specs.KeyEncodings.{key_node_bytes, RowFits, KeyNodeFieldsFit}
use Rattle.hive_records.proofs.StepsAgain.{both, gives_on, gives_last, gives_same, gives_rule, gives_allowed, gives_look}
use Rattle.hive_records.proofs.NumbersAgain.{half_back, word_back, long_back, cut}
use Rattle.hive_records.proofs.ValuesAgain.{name_given}
use Rattle.hive_records.proofs.KeysAgain.{spelling_back, not_barred, flags_small, flags_back}

module _ (row : Row) (its : KeyNodeFields) (rest : List ℕ) (fits : RowFits row) (near : KeyNodeFieldsFit its) where
  abbrev node : List ℕ
  node = key_node_bytes row its ++ rest

  begins : begins_with node 0x6b6e 76 ≡ true
  unfolding u16_at
  begins = both (leb 76 (length node)) true (le-leb 76 (length node) (omega arith)) refl

  stored : u16_at node 2 ≡ row.flags + latin_flag 0x20 row.name
  unfolding u16_at
  stored = half_back (row.flags + latin_flag 0x20 row.name) [] (flags_small row.flags (is_latin row.name) fits.flags fits.not_spelling)

  time_back : u64_at node 4 ≡ row.time
  unfolding u64_at u32_at
  time_back = long_back row.time [] fits.time

  subkey_count_back : u32_at node 20 ≡ its.subkey_total
  unfolding u32_at
  subkey_count_back = word_back its.subkey_total [] near.subkey_total

  subkeys_back : u32_at node 28 ≡ its.subkey_list
  unfolding u32_at
  subkeys_back = word_back its.subkey_list [] near.subkey_list

  value_count_back : u32_at node 36 ≡ its.value_count
  unfolding u32_at
  value_count_back = word_back its.value_count [] near.value_count

  values_back : u32_at node 40 ≡ its.values
  unfolding u32_at
  values_back = word_back its.values [] near.values

  security_back : u32_at node 44 ≡ its.security
  unfolding u32_at
  security_back = word_back its.security [] near.security

  class_back : u32_at node 48 ≡ its.class
  unfolding u32_at
  class_back = word_back its.class [] near.class

  name_size : u16_at node 72 ≡ length (name_bytes row.name)
  unfolding u16_at
  name_size = half_back (length (name_bytes row.name)) [] fits.name

  class_size : u16_at node 74 ≡ length row.class
  unfolding u16_at
  class_size = half_back (length row.class) [] fits.class

  latin_back : has_flag 0x20 (u16_at node 2) ≡ is_latin row.name
  latin_back = ap (has_flag 0x20) stored ∙ spelling_back row.flags (is_latin row.name) fits.not_spelling

  allowed : has_flag 0x40 (u16_at node 2) ≡ false
  allowed = ap (has_flag 0x40) stored ∙ not_barred row.flags (is_latin row.name) fits.not_spelling fits.not_predefined

  row_flags : flags_of (u16_at node 2) ≡ row.flags
  row_flags = ap flags_of stored ∙ flags_back row.flags (is_latin row.name) fits.not_spelling

  long_enough : leb (76 + u16_at node 72) (length node) ≡ true
  long_enough = le-leb (76 + u16_at node 72) (length node) (let e = name_size in let l = length-append (name_bytes row.name) rest in omega (arith, e, l))

  pub key_given : (split : Bool) (cells : Cells) (at : ℕ) (c s v k subkey_list : List ℕ) → cells at ≡ Some node → Gives (class_at (length row.class) its.class) cells c [] row.class → Gives (descriptor_at its.security) cells [] s row.descriptor →
      Gives (values_at split its.value_count its.values) cells v [] row.values → Gives (subkeys_at its.subkey_total its.subkey_list) cells k [] subkey_list → Gives (key_at split at) cells (at ∷ (c ++ (v ++ k))) s (row, subkey_list)
  key_given split cells at c s v k subkey_list here class descriptor values listed =
      subst (λ (l : List ℕ). Gives (key_at split at) cells (at ∷ (c ++ (v ++ k))) l (row, subkey_list)) (append-nil s)
      (gives_on _ (gives_look at cells node here)
      (gives_on _ (gives_rule (begins_with node 0x6b6e 76) _ cells begins)
      (gives_on _ (gives_rule (leb (76 + u16_at node 72) (length node)) _ cells long_enough)
      (gives_on _ (gives_allowed (has_flag 0x40 (u16_at node 2)) _ cells allowed)
      (gives_on _ (name_given cells row.name (has_flag 0x20 (u16_at node 2)) (take (76 + u16_at node 72 - 76) (name_bytes row.name ++ rest)) fits.units latin_back (cut (name_bytes row.name) rest 76 (u16_at node 72) name_size))
      (gives_on _ (gives_rule (not (list_any (λ u. eqb u 0x5c) row.name)) _ cells (ap not fits.no_backslash))
      (gives_on _ class_here
      (gives_on _ descriptor_here
      (gives_on _ values_here
      (gives_same (λ i. (record { name = row.name; class = row.class; flags = row_flags i; descriptor = row.descriptor; time = time_back i; values = row.values }, subkey_list))
      (gives_last (λ (subkey_list : List ℕ). (record { name = row.name; class = row.class; flags = flags_of (u16_at node 2); descriptor = row.descriptor; time = u64_at node 4; values = row.values }, subkey_list)) subkeys_here)))))))))))
    where
      class_here : Gives (class_at (u16_at node 74) (u32_at node 48)) cells c [] row.class
      class_here = subst (λ (n : ℕ). Gives (class_at n (u32_at node 48)) cells c [] row.class) (sym class_size) (subst (λ (n : ℕ). Gives (class_at (length row.class) n) cells c [] row.class) (sym class_back) class)

      descriptor_here : Gives (descriptor_at (u32_at node 44)) cells [] s row.descriptor
      descriptor_here = subst (λ (n : ℕ). Gives (descriptor_at n) cells [] s row.descriptor) (sym security_back) descriptor

      values_here : Gives (values_at split (u32_at node 36) (u32_at node 40)) cells v [] row.values
      values_here = subst (λ (n : ℕ). Gives (values_at split n (u32_at node 40)) cells v [] row.values) (sym value_count_back) (subst (λ (n : ℕ). Gives (values_at split its.value_count n) cells v [] row.values) (sym values_back) values)

      subkeys_here : Gives (subkeys_at (u32_at node 20) (u32_at node 28)) cells k [] subkey_list
      subkeys_here = subst (λ (n : ℕ). Gives (subkeys_at n (u32_at node 28)) cells k [] subkey_list) (sym subkey_count_back) (subst (λ (n : ℕ). Gives (subkeys_at its.subkey_total n) cells k [] subkey_list) (sym subkeys_back) listed)

pub key_again : (split : Bool) (cells : Cells) (at : ℕ) (row : Row) (its : KeyNodeFields) (c s v k subkey_list : List ℕ) → RowFits row → KeyNodeFieldsFit its → CellHolds cells at (key_node_bytes row its) → Gives (class_at (length row.class) its.class) cells c [] row.class →
    Gives (descriptor_at its.security) cells [] s row.descriptor → Gives (values_at split its.value_count its.values) cells v [] row.values → Gives (subkeys_at its.subkey_total its.subkey_list) cells k [] subkey_list →
    keys_in split cells at ≡ Ok (record { name = folded row.name; row = row; subkey_list = subkey_list; own = at ∷ (c ++ (v ++ k)); lent = s })
key_again split cells at row its c s v k subkey_list fits near h class descriptor values listed = ap parts_of (key_given row its h.0 fits near split cells at c s v k subkey_list h.1 class descriptor values listed).reads
