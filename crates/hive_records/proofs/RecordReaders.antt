-- If a record breaks a rule by itself, the definition of the whole refuses for that rule; else it goes on from the
-- record's fields.
use Rattle.std.proofs.Common.{◌≡◌, ◌≢◌, ℕ, ◌+◌, ◌-◌, ◌*◌, ◌≤◌, ◌^◌, ◌%◌, ◌==◌, nat_le, nat_lt, Bool, true, false, not, ◌||◌, if◌then◌else◌, List, [], ◌∷◌, length, take, drop, slice_range, flat_map, refl, ◌∙◌, ap, sym, Ok, Err, Option, Some, None, arith}
use Rattle.std.specs.List.{list_any}
use Rattle.std.proofs.lemmas.Bool.{ne_eqb}
use Rattle.std.proofs.lemmas.List.{take-take}
use Rattle.refusals.specs.declared.refusal.Refusal.{Refusal}
use Rattle.refusals.specs.declared.refusal.Refusal.TheVariants as refusal
use Rattle.refusals.specs.declared.refusal.Cause.{Cause}
use Rattle.refusals.specs.declared.refusal.Cause.TheVariants as cause
use Rattle.reg_tree_parts.specs.declared.value.Value.{Value}
use Rattle.reg_tree_parts.specs.Rows.{Row}
use Rattle.hive_tree_model.proofs.Basics.{never, some_same, some_none}
use Rattle.hive_cells.specs.Tiles.{u32_at}
use Rattle.hive_cells.specs.Bins.{Cells}
use Rattle.hive_records.specs.Readers.{Read, Reader, done, refuse, joined_if, own_if, lent_if, look, look_lent, choice, rule, barred, each, ◌⟫◌}
use Rattle.hive_records.specs.Numbers.{nil_offset, u16_at, u64_at, begins_with, words_from}
use Rattle.hive_records.specs.Names.{has_flag, pairs, name_in}
use Rattle.hive_records.specs.Values.{cell_prefix, segment_bytes, segments_of, segment_sizes, big_data, data_of, value_at, values_at}
use Rattle.hive_records.specs.Lists.{subkeys_at}
use Rattle.hive_records.specs.KeyNodes.{class_at, descriptor_at, flags_of, key_at}
use Rattle.hive_records.specs.Heads.{first_broken, hive_damage, units_in, is_even, key_name_bytes, key_node_fault, IsKeyNode, value_fault, IsValueRec, security_fault, IsSecurity, big_fault, IsBigData}
use Rattle.hive_records.specs.RecordReaders.{key_from, data_from, value_from, big_from}
use Rattle.hive_records.specs.declared.key_node.KeyNode.{KeyNode}
use Rattle.hive_records.specs.declared.value_record.ValueRec.{ValueRec}
use Rattle.hive_records.specs.declared.security_cell.Security.{Security}
use Rattle.hive_records.specs.declared.big_data.BigData.{BigData}
use Rattle.hive_records.proofs.Each.{done_bind}

-- ---- rules one after another, and what comes after them

module _ {A : Type 0} where
  abbrev pub guarded : List (Bool × Refusal) → Reader A → Reader A
  guarded [] m = m
  guarded (r ∷ rules) m = choice r.0 (guarded rules m) (refuse r.1)

  out_if : (b : Bool) (q r : Refusal) (rest : Option Refusal) (m : Reader A) → (rest ≡ Some r → m ≡ refuse r) → (if b then rest else Some q) ≡ Some r → choice b m (refuse q) ≡ refuse r
  unfolding choice
  out_if true q r rest m on e = on e
  out_if false q r rest m on e = ap refuse (some_same q r e)

  pub guarded_out : (rules : List (Bool × Refusal)) (m : Reader A) (r : Refusal) → first_broken rules ≡ Some r → guarded rules m ≡ refuse r
  guarded_out [] m r e = some_none r e
  guarded_out (q ∷ rules) m r e = out_if q.0 q.1 r (first_broken rules) (guarded rules m) (guarded_out rules m r) e

  on_if : (b : Bool) (q : Refusal) (rest : Option Refusal) (m n : Reader A) → (rest ≡ None → m ≡ n) → (if b then rest else Some q) ≡ None → choice b m (refuse q) ≡ n
  unfolding choice
  on_if true q rest m n on e = on e
  on_if false q rest m n on e = some_none q (sym e)

  pub guarded_on : (rules : List (Bool × Refusal)) (m : Reader A) → first_broken rules ≡ None → guarded rules m ≡ m
  guarded_on [] m e = refl
  guarded_on (q ∷ rules) m e = on_if q.0 q.1 (first_broken rules) (guarded rules m) m (guarded_on rules m) e

-- of rules that are all kept the first is kept, and the others are
first_kept : (q : Bool × Refusal) (rules : List (Bool × Refusal)) → first_broken (q ∷ rules) ≡ None → (q.0 ≡ true) × (first_broken rules ≡ None)
first_kept q rules e = kept_if q.0 q.1 (first_broken rules) e
  where
    kept_if : (b : Bool) (r : Refusal) (rest : Option Refusal) → (if b then rest else Some r) ≡ None → (b ≡ true) × (rest ≡ None)
    kept_if true r rest h = (refl, h)
    kept_if false r rest h = some_none r (sym h)

module _ {B : Type 0} where
  rule_as : (b : Bool) (c : Cause) (g : Unit {0} → Reader B) → (rule b c ⟫ g) ≡ choice b (g tt) (refuse (hive_damage c))
  unfolding rule choice done refuse ◌⟫◌
  rule_as true c g = refl
  rule_as false c g = refl

  pub rule_on : (b : Bool) (c : Cause) (g : Unit {0} → Reader B) {m : Reader B} → g tt ≡ m → (rule b c ⟫ g) ≡ choice b m (refuse (hive_damage c))
  rule_on b c g e = rule_as b c g ∙ ap (λ (z : Reader B). choice b z (refuse (hive_damage c))) e

  barred_as : (b : Bool) (r : Refusal) (g : Unit {0} → Reader B) → (barred b r ⟫ g) ≡ choice (not b) (g tt) (refuse r)
  unfolding barred choice done refuse ◌⟫◌
  barred_as true r g = refl
  barred_as false r g = refl

  barred_on : (b : Bool) (r : Refusal) (g : Unit {0} → Reader B) {m : Reader B} → g tt ≡ m → (barred b r ⟫ g) ≡ choice (not b) m (refuse r)
  barred_on b r g e = barred_as b r g ∙ ap (λ (z : Reader B). choice (not b) z (refuse r)) e

module _ {A B : Type 0} where
  pub given_as : (b : Bool) (c : Cause) (x : A) (g : A → Reader B) → ((rule b c ⟫ λ _. done x) ⟫ g) ≡ choice b (g x) (refuse (hive_damage c))
  unfolding rule choice done refuse ◌⟫◌
  given_as true c x g = refl
  given_as false c x g = refl

module _ {B : Type 0} where
  name_as : (latin : Bool) (bytes : List ℕ) (g : List ℕ → Reader B) → (name_in latin bytes ⟫ g) ≡ choice (is_even latin bytes) (g (units_in latin bytes)) (refuse (hive_damage cause.BadName))
  unfolding choice
  name_as true bytes g = done_bind bytes g
  name_as false bytes g = given_as (length bytes % 2 == 0) cause.BadName (pairs bytes) g

  name_on : (latin : Bool) (bytes : List ℕ) (g : List ℕ → Reader B) {m : Reader B} → g (units_in latin bytes) ≡ m → (name_in latin bytes ⟫ g) ≡ choice (is_even latin bytes) m (refuse (hive_damage cause.BadName))
  name_on latin bytes g e = name_as latin bytes g ∙ ap (λ (z : Reader B). choice (is_even latin bytes) z (refuse (hive_damage cause.BadName))) e

  -- after a cell that is there
  pub looked_as : (at : ℕ) (cells : Cells) (bytes : List ℕ) (f : List ℕ → Reader B) → cells at ≡ Some bytes → (look at ⟫ f) cells ≡ record { own = at ∷ (f bytes cells).own; lent = (f bytes cells).lent; says = (f bytes cells).says }
  unfolding look ◌⟫◌
  looked_as at cells bytes f e = ap (λ (o : Option (List ℕ)). joined_if (own_if at o).own (own_if at o).lent (own_if at o).says (λ x. f x cells)) e

  pub looked_out : (at : ℕ) (cells : Cells) (bytes : List ℕ) (f : List ℕ → Reader B) (r : Refusal) → cells at ≡ Some bytes → f bytes ≡ refuse r → (look at ⟫ f) cells ≡ record { own = at ∷ []; lent = []; says = Err r }
  unfolding refuse
  looked_out at cells bytes f r e h = looked_as at cells bytes f e ∙ ap (λ (m : Reader B). record { own = at ∷ (m cells).own; lent = (m cells).lent; says = (m cells).says }) h

  pub looked_on : (at : ℕ) (cells : Cells) (bytes : List ℕ) (f : List ℕ → Reader B) (m : Reader B) → cells at ≡ Some bytes → f bytes ≡ m → (look at ⟫ f) cells ≡ (look at ⟫ λ _. m) cells
  looked_on at cells bytes f m e h = looked_as at cells bytes f e ∙ ap (λ (n : Reader B). record { own = at ∷ (n cells).own; lent = (n cells).lent; says = (n cells).says }) h ∙ sym (looked_as at cells bytes (λ _. m) e)

-- ---- key nodes

abbrev key_behind : Bool → List ℕ → Reader (Row × List ℕ)
key_behind split bytes =
    class_at (u16_at bytes 74) (u32_at bytes 48) ⟫ λ class.
    descriptor_at (u32_at bytes 44) ⟫ λ descriptor.
    values_at split (u32_at bytes 36) (u32_at bytes 40) ⟫ λ values.
    subkeys_at (u32_at bytes 20) (u32_at bytes 28) ⟫ λ subkey_list.
    done (record { name = units_in (has_flag 0x20 (u16_at bytes 2)) (key_name_bytes bytes); class = class; flags = flags_of (u16_at bytes 2); descriptor = descriptor; time = u64_at bytes 4; values = values }, subkey_list)

abbrev key_rules : List ℕ → List (Bool × Refusal)
key_rules bytes =
    (begins_with bytes 0x6b6e 76, hive_damage cause.BadRecord)
    ∷ (nat_le (76 + u16_at bytes 72) (length bytes), hive_damage cause.BadRecord)
    ∷ (not (has_flag 0x40 (u16_at bytes 2)), refusal.Unsupported)
    ∷ (is_even (has_flag 0x20 (u16_at bytes 2)) (key_name_bytes bytes), hive_damage cause.BadName)
    ∷ (not (list_any (λ u. u == 0x5c) (units_in (has_flag 0x20 (u16_at bytes 2)) (key_name_bytes bytes))), hive_damage cause.BadName)
    ∷ []

abbrev key_tail : Bool → List ℕ → Reader (Row × List ℕ)
key_tail split bytes =
    rule (begins_with bytes 0x6b6e 76) cause.BadRecord ⟫ λ _.
    rule (nat_le (76 + u16_at bytes 72) (length bytes)) cause.BadRecord ⟫ λ _.
    barred (has_flag 0x40 (u16_at bytes 2)) refusal.Unsupported ⟫ λ _.
    name_in (has_flag 0x20 (u16_at bytes 2)) (slice_range bytes 76 (76 + u16_at bytes 72)) ⟫ λ name.
    rule (not (list_any (λ u. u == 0x5c) name)) cause.BadName ⟫ λ _.
    class_at (u16_at bytes 74) (u32_at bytes 48) ⟫ λ class.
    descriptor_at (u32_at bytes 44) ⟫ λ descriptor.
    values_at split (u32_at bytes 36) (u32_at bytes 40) ⟫ λ values.
    subkeys_at (u32_at bytes 20) (u32_at bytes 28) ⟫ λ subkey_list.
    done (record { name = name; class = class; flags = flags_of (u16_at bytes 2); descriptor = descriptor; time = u64_at bytes 4; values = values }, subkey_list)

key_guarded : (split : Bool) (bytes : List ℕ) → key_tail split bytes ≡ guarded (key_rules bytes) (key_behind split bytes)
key_guarded split bytes = rule_on _ _ _ (rule_on _ _ _ (barred_on _ _ _ (name_on _ _ _ (rule_on _ _ _ refl))))

key_same : (split : Bool) (bytes : List ℕ) (node : KeyNode) → IsKeyNode node bytes → key_behind split bytes ≡ key_from split node
key_same split bytes node h = λ i.
    class_at (sym h.class_len i) (sym h.class i) ⟫ λ class.
    descriptor_at (sym h.security i) ⟫ λ descriptor.
    values_at split (sym h.value_count i) (sym h.values i) ⟫ λ values.
    subkeys_at (sym h.subkey_count i) (sym h.subkeys i) ⟫ λ subkey_list.
    done (record { name = units_in (sym (h.name.0) i) (sym (h.name.1) i); class = class; flags = sym h.flags i; descriptor = descriptor; time = sym h.time i; values = values }, subkey_list)

pub key_out : (split : Bool) (cells : Cells) (at : ℕ) (bytes : List ℕ) (r : Refusal) → cells at ≡ Some bytes → key_node_fault bytes ≡ Some r → key_at split at cells ≡ record { own = at ∷ []; lent = []; says = Err r }
key_out split cells at bytes r e f = looked_out at cells bytes (key_tail split) r e (key_guarded split bytes ∙ guarded_out (key_rules bytes) (key_behind split bytes) r f)

pub key_on : (split : Bool) (cells : Cells) (at : ℕ) (bytes : List ℕ) (node : KeyNode) → cells at ≡ Some bytes → key_node_fault bytes ≡ None → IsKeyNode node bytes → key_at split at cells ≡ (look at ⟫ λ _. key_from split node) cells
key_on split cells at bytes node e f h = looked_on at cells bytes (key_tail split) (key_from split node) e (key_guarded split bytes ∙ guarded_on (key_rules bytes) (key_behind split bytes) f ∙ key_same split bytes node h)

-- ---- values

module _ {A B : Type 0} where
  -- a rule that holds of the first of two
  small_as : (a b : Bool) (c : Cause) (x : A) (m : Reader A) (g : A → Reader B) → (choice a (rule b c ⟫ λ _. done x) m ⟫ g) ≡ choice (not a || b) (choice a (done x) m ⟫ g) (refuse (hive_damage c))
  unfolding choice
  small_as true true c x m g = given_as true c x g ∙ sym (done_bind x g)
  small_as true false c x m g = given_as false c x g
  small_as false b c x m g = refl

small_same : {A : Type 0} (a b : Bool) (x y : A) (m : Reader A) → (a ≡ true → b ≡ true → x ≡ y) → (not a || b) ≡ true → choice a (done x) m ≡ choice a (done y) m
unfolding choice
small_same true b x y m h e = ap done (h refl e)
small_same false b x y m h e = refl

abbrev its_rest : Bool → ℕ → ℕ → Reader (List ℕ)
its_rest split size offset =
    choice (size == 0) (done [])
    (choice split
    (choice (nat_lt segment_bytes size) (big_data size offset) (cell_prefix size offset))
    (cell_prefix size offset))

abbrev named : List ℕ → List ℕ → List ℕ → Reader Value
named name bytes its_data = done (record { name = name; kind = u32_at bytes 12; «data» = its_data })

abbrev value_units : List ℕ → List ℕ
value_units bytes = units_in (has_flag 1 (u16_at bytes 16)) (slice_range bytes 20 (20 + u16_at bytes 2))

abbrev value_tail : Bool → List ℕ → Reader Value
value_tail split bytes =
    rule (begins_with bytes 0x6b76 20) cause.BadRecord ⟫ λ _.
    rule (nat_le (20 + u16_at bytes 2) (length bytes)) cause.BadRecord ⟫ λ _.
    name_in (has_flag 1 (u16_at bytes 16)) (slice_range bytes 20 (20 + u16_at bytes 2)) ⟫ λ name.
    data_of split (u32_at bytes 4) bytes ⟫ λ its_data.
    done (record { name = name; kind = u32_at bytes 12; «data» = its_data })

abbrev value_rules : List ℕ → List (Bool × Refusal)
value_rules bytes =
    (begins_with bytes 0x6b76 20, hive_damage cause.BadRecord)
    ∷ (nat_le (20 + u16_at bytes 2) (length bytes), hive_damage cause.BadRecord)
    ∷ (is_even (has_flag 1 (u16_at bytes 16)) (slice_range bytes 20 (20 + u16_at bytes 2)), hive_damage cause.BadName)
    ∷ (not (nat_le (2 ^ 31) (u32_at bytes 4)) || nat_le (u32_at bytes 4 - 2 ^ 31) 4, hive_damage cause.BadRecord)
    ∷ []

abbrev value_behind : Bool → List ℕ → Reader Value
value_behind split bytes =
    choice (nat_le (2 ^ 31) (u32_at bytes 4)) (done (slice_range bytes 8 (8 + (u32_at bytes 4 - 2 ^ 31)))) (its_rest split (u32_at bytes 4) (u32_at bytes 8))
    ⟫ named (value_units bytes) bytes

value_guarded : (split : Bool) (bytes : List ℕ) → value_tail split bytes ≡ guarded (value_rules bytes) (value_behind split bytes)
value_guarded split bytes = rule_on _ _ _ (rule_on _ _ _ (name_on _ _ _
    (small_as (nat_le (2 ^ 31) (u32_at bytes 4)) (nat_le (u32_at bytes 4 - 2 ^ 31) 4) cause.BadRecord (slice_range bytes 8 (8 + (u32_at bytes 4 - 2 ^ 31))) (its_rest split (u32_at bytes 4) (u32_at bytes 8)) (named (value_units bytes) bytes))))

last_rule : (bytes : List ℕ) → value_fault bytes ≡ None → (not (nat_le (2 ^ 31) (u32_at bytes 4)) || nat_le (u32_at bytes 4 - 2 ^ 31) 4) ≡ true
last_rule bytes f =
    let second = (first_kept (begins_with bytes 0x6b76 20, hive_damage cause.BadRecord) (
    (nat_le (20 + u16_at bytes 2) (length bytes), hive_damage cause.BadRecord)
    ∷ (is_even (has_flag 1 (u16_at bytes 16)) (slice_range bytes 20 (20 + u16_at bytes 2)), hive_damage cause.BadName)
    ∷ (not (nat_le (2 ^ 31) (u32_at bytes 4)) || nat_le (u32_at bytes 4 - 2 ^ 31) 4, hive_damage cause.BadRecord)
    ∷ []) f).1 in
    let third = (first_kept (nat_le (20 + u16_at bytes 2) (length bytes), hive_damage cause.BadRecord) (
    (is_even (has_flag 1 (u16_at bytes 16)) (slice_range bytes 20 (20 + u16_at bytes 2)), hive_damage cause.BadName)
    ∷ (not (nat_le (2 ^ 31) (u32_at bytes 4)) || nat_le (u32_at bytes 4 - 2 ^ 31) 4, hive_damage cause.BadRecord)
    ∷ []) second).1 in
    let fourth = (first_kept (is_even (has_flag 1 (u16_at bytes 16)) (slice_range bytes 20 (20 + u16_at bytes 2)), hive_damage cause.BadName) (
    (not (nat_le (2 ^ 31) (u32_at bytes 4)) || nat_le (u32_at bytes 4 - 2 ^ 31) 4, hive_damage cause.BadRecord)
    ∷ []) third).1 in
    (first_kept (not (nat_le (2 ^ 31) (u32_at bytes 4)) || nat_le (u32_at bytes 4 - 2 ^ 31) 4, hive_damage cause.BadRecord) [] fourth).0

few : (n : ℕ) → nat_le n 4 ≡ true → n ≤ 4
few n e = search (arith, e)

cut_four : (n : ℕ) (xs : List ℕ) → n ≤ 4 → take (8 + n - 8) xs ≡ take n (take 4 xs)
cut_four n xs h = ap (λ (k : ℕ). take k xs) (omega arith) ∙ sym (take-take n 4 xs h)

value_same : (split : Bool) (bytes : List ℕ) (value : ValueRec) → IsValueRec value bytes → value_fault bytes ≡ None → value_behind split bytes ≡ value_from split value
value_same split bytes value h f =
    ap (λ (m : Reader (List ℕ)). m ⟫ named (value_units bytes) bytes)
    (small_same (nat_le (2 ^ 31) (u32_at bytes 4)) (nat_le (u32_at bytes 4 - 2 ^ 31) 4) (slice_range bytes 8 (8 + (u32_at bytes 4 - 2 ^ 31))) (take (u32_at bytes 4 - 2 ^ 31) (slice_range bytes 8 12)) (its_rest split (u32_at bytes 4) (u32_at bytes 8))
    (λ _ e. cut_four (u32_at bytes 4 - 2 ^ 31) (drop 8 bytes) (few (u32_at bytes 4 - 2 ^ 31) e)) (last_rule bytes f))
    ∙ (λ i. data_from split (sym h.size i) (sym h.offset i) (sym h.small i) ⟫ λ its_data.
    done (record { name = units_in (sym (h.name.0) i) (sym (h.name.1) i); kind = sym h.kind i; «data» = its_data }))

pub value_out : (split : Bool) (cells : Cells) (at : ℕ) (bytes : List ℕ) (r : Refusal) → cells at ≡ Some bytes → value_fault bytes ≡ Some r → value_at split at cells ≡ record { own = at ∷ []; lent = []; says = Err r }
value_out split cells at bytes r e f = looked_out at cells bytes (value_tail split) r e (value_guarded split bytes ∙ guarded_out (value_rules bytes) (value_behind split bytes) r f)

pub value_on : (split : Bool) (cells : Cells) (at : ℕ) (bytes : List ℕ) (value : ValueRec) → cells at ≡ Some bytes → value_fault bytes ≡ None → IsValueRec value bytes → value_at split at cells ≡ (look at ⟫ λ _. value_from split value) cells
value_on split cells at bytes value e f h = looked_on at cells bytes (value_tail split) (value_from split value) e (value_guarded split bytes ∙ guarded_on (value_rules bytes) (value_behind split bytes) f ∙ value_same split bytes value h f)

-- ---- security cells

abbrev security_tail : List ℕ → Reader (List ℕ)
security_tail bytes =
    rule (begins_with bytes 0x6b73 20) cause.BadRecord ⟫ λ _.
    rule (nat_le (20 + u32_at bytes 16) (length bytes)) cause.BadRecord ⟫ λ _.
    done (slice_range bytes 20 (20 + u32_at bytes 16))

abbrev security_rules : List ℕ → List (Bool × Refusal)
security_rules bytes =
    (begins_with bytes 0x6b73 20, hive_damage cause.BadRecord)
    ∷ (nat_le (20 + u32_at bytes 16) (length bytes), hive_damage cause.BadRecord)
    ∷ []

security_guarded : (bytes : List ℕ) → security_tail bytes ≡ guarded (security_rules bytes) (done (slice_range bytes 20 (20 + u32_at bytes 16)))
security_guarded bytes = rule_on _ _ _ (rule_on _ _ _ refl)

module _ {B : Type 0} where
  lent_as : (at : ℕ) (cells : Cells) (bytes : List ℕ) (f : List ℕ → Reader B) → cells at ≡ Some bytes → (look_lent at ⟫ f) cells ≡ record { own = (f bytes cells).own; lent = at ∷ (f bytes cells).lent; says = (f bytes cells).says }
  unfolding look_lent ◌⟫◌
  lent_as at cells bytes f e = ap (λ (o : Option (List ℕ)). joined_if (lent_if at o).own (lent_if at o).lent (lent_if at o).says (λ x. f x cells)) e

pub not_chosen : {A : Type 0} (b : Bool) (m n : Reader A) → b ≡ false → choice b m n ≡ n
unfolding choice
not_chosen true m n e = never (sym e)
not_chosen false m n e = refl

there : (at : ℕ) → (m : Reader (List ℕ)) → at ≢ nil_offset → choice (at == nil_offset) (done []) m ≡ m
there at m apart = not_chosen (at == nil_offset) (done []) m (ne_eqb at nil_offset apart)

as_lent : (at : ℕ) (cells : Cells) (m n : Reader (List ℕ)) → m ≡ n → ◌≡◌ {A = Read (List ℕ)} (record { own = (m cells).own; lent = at ∷ (m cells).lent; says = (m cells).says }) (record { own = (n cells).own; lent = at ∷ (n cells).lent; says = (n cells).says })
as_lent at cells m n e = ap (λ (z : Reader (List ℕ)). record { own = (z cells).own; lent = at ∷ (z cells).lent; says = (z cells).says }) e

pub descriptor_out : (cells : Cells) (at : ℕ) (bytes : List ℕ) (r : Refusal) → at ≢ nil_offset → cells at ≡ Some bytes → security_fault bytes ≡ Some r → descriptor_at at cells ≡ record { own = []; lent = at ∷ []; says = Err r }
unfolding refuse
descriptor_out cells at bytes r apart e f = ap (λ (m : Reader (List ℕ)). m cells) (there at (look_lent at ⟫ security_tail) apart) ∙ lent_as at cells bytes security_tail e
    ∙ as_lent at cells (security_tail bytes) (refuse r) (security_guarded bytes ∙ guarded_out (security_rules bytes) (done (slice_range bytes 20 (20 + u32_at bytes 16))) r f)

pub descriptor_on : (cells : Cells) (at : ℕ) (bytes : List ℕ) (security : Security) → at ≢ nil_offset → cells at ≡ Some bytes → security_fault bytes ≡ None → IsSecurity security bytes → descriptor_at at cells ≡ record { own = []; lent = at ∷ []; says = Ok security.descriptor.now }
unfolding done
descriptor_on cells at bytes security apart e f h = ap (λ (m : Reader (List ℕ)). m cells) (there at (look_lent at ⟫ security_tail) apart) ∙ lent_as at cells bytes security_tail e
    ∙ as_lent at cells (security_tail bytes) (done security.descriptor.now) (security_guarded bytes ∙ guarded_on (security_rules bytes) (done (slice_range bytes 20 (20 + u32_at bytes 16))) f ∙ ap done (sym h.descriptor))

-- ---- big data

abbrev big_tail : ℕ → List ℕ → Reader (List ℕ)
big_tail size bytes =
    rule (begins_with bytes 0x6264 8) cause.BadRecord ⟫ λ _.
    rule (u16_at bytes 2 == segments_of size) cause.BadRecord ⟫ λ _.
    look (u32_at bytes 4) ⟫ λ list.
    rule (nat_le (4 * segments_of size) (length list)) cause.BadRecord ⟫ λ _.
    each (λ s. cell_prefix s.0 s.1) (segment_sizes size (words_from list 0 4 (segments_of size))) ⟫ λ pieces.
    done (flat_map (λ p. p) pieces)

abbrev big_rules : ℕ → List ℕ → List (Bool × Refusal)
big_rules size bytes =
    (begins_with bytes 0x6264 8, hive_damage cause.BadRecord)
    ∷ (u16_at bytes 2 == segments_of size, hive_damage cause.BadRecord)
    ∷ []

abbrev big_behind : ℕ → ℕ → Reader (List ℕ)
big_behind size at =
    look at ⟫ λ list.
    rule (nat_le (4 * segments_of size) (length list)) cause.BadRecord ⟫ λ _.
    each (λ s. cell_prefix s.0 s.1) (segment_sizes size (words_from list 0 4 (segments_of size))) ⟫ λ pieces.
    done (flat_map (λ p. p) pieces)

big_guarded : (size : ℕ) (bytes : List ℕ) → big_tail size bytes ≡ guarded (big_rules size bytes) (big_behind size (u32_at bytes 4))
big_guarded size bytes = rule_on _ _ _ (rule_on _ _ _ refl)

pub big_out : (cells : Cells) (size at : ℕ) (bytes : List ℕ) (r : Refusal) → cells at ≡ Some bytes → big_fault bytes size ≡ Some r → big_data size at cells ≡ record { own = at ∷ []; lent = []; says = Err r }
big_out cells size at bytes r e f = looked_out at cells bytes (big_tail size) r e (big_guarded size bytes ∙ guarded_out (big_rules size bytes) (big_behind size (u32_at bytes 4)) r f)

pub big_on : (cells : Cells) (size at : ℕ) (bytes : List ℕ) (big : BigData) → cells at ≡ Some bytes → big_fault bytes size ≡ None → IsBigData big bytes → big_data size at cells ≡ (look at ⟫ λ _. big_from size big) cells
big_on cells size at bytes big e f h = looked_on at cells bytes (big_tail size) (big_from size big) e (big_guarded size bytes ∙ guarded_on (big_rules size bytes) (big_behind size (u32_at bytes 4)) f ∙ ap (big_behind size) (sym h.segments))
