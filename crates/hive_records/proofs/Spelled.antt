-- What was read of the records of a file is what a tree may contain.
use Rattle.std.proofs.Common.{◌≡◌, ◌≢◌, ℕ, zero, suc, ◌+◌, ◌-◌, ◌*◌, ◌/◌, ◌%◌, ◌<◌, ◌≤◌, ◌^◌, inl, inr, List, [], ◌∷◌, length, take, drop, get_or, refl, ◌∙◌, ap, sym, subst, Bool, true, false, not, cond, ◌||◌, Option, Some, None, Ok, Err, Result, arith, eqb}
use Rattle.std.specs.Prelude.{slice_range, nat_lt, bit_and, map, MatchOption}
use Rattle.std.specs.List.{list_all, list_any, AllByRecursion}
use Rattle.std.specs.FinMap as finite
use Rattle.std.specs.FinMap.Entries.{find}
use Rattle.std.proofs.lemmas.Bool.{cases_Bool, cases_eq, eq-eqb, ne_eqb, lt-ltb, and_from}
use Rattle.std.proofs.lemmas.List.{length-take}
use Rattle.std.proofs.lemmas.Nat.Bits.{and_high}
use Rattle.refusals.specs.declared.refusal.Refusal.{Refusal}
use Rattle.refusals.specs.declared.refusal.Refusal.TheVariants as refusal
use Rattle.refusals.specs.declared.refusal.Cause.{Cause}
use Rattle.reg_names.specs.Names.{folded}
use Rattle.reg_tree_parts.specs.declared.value.Value.{Value}
use Rattle.reg_tree_parts.specs.Orders.{name_order}
use Rattle.reg_tree_parts.specs.Rows.{Row, ValueMap}
use Rattle.reg_tree.specs.Maps.{TreeMap}
use Rattle.reg_tree.specs.Encodable.{stored_len, IsEncodableName, IsEncodableValue, IsEncodableRow}
use Rattle.hive_cells.specs.Tiles.{u32_at, cell_data, cell_size, IsAllocatedCell}
use Rattle.hive_cells.specs.Bins.{Cells, Shows}
use Rattle.hive_tree_model.specs.Keys.{KeyParts}
use Rattle.hive_tree_model.specs.Chains.{PathReachesRow}
use Rattle.hive_tree_model.specs.Trees.{same}
use Rattle.hive_tree_model.proofs.Basics.{ok_same, never, clash, decided, yes_if, no_if, some_same, some_none, same_is, names_total}
use Rattle.hive_tree_model.proofs.ChainsAre.{chains}
use Rattle.hive_records.specs.Bytes.{AreBytes, HoldBytes}
use Rattle.hive_records.specs.Readers.{Read, Reader, done, refuse, joined_if, own_if, look, choice, rule, barred, each, ◌⟫◌}
use Rattle.hive_records.specs.Numbers.{u16_at}
use Rattle.hive_records.specs.Names.{has_flag, pairs, name_in}
use Rattle.hive_records.specs.Values.{data_of, value_at, map_of, values_at}
use Rattle.hive_records.specs.KeyNodes.{flags_of, class_at, descriptor_at, key_at, parts_if, keys_in}
use Rattle.hive_records.specs.Lists.{subkeys_at}
use Rattle.hive_records.specs.Images.{BinsEncodeTree, splits}
use Rattle.hive_records.proofs.Local.{never_ok}

-- ---- what all that a reader may give has

pub record Yields {A : Type 0} (m : Reader A) (cells : Cells) (P : A → Type 0) : Type 0 where
  pub gives : (x : A) → (m cells).says ≡ Ok x → P x

yields_any : {A : Type 0} (m : Reader A) (cells : Cells) → Yields m cells (λ x. Unit {0})
yields_any m cells = record { gives = λ x e. tt }

yields_done : {A : Type 0} (x : A) (cells : Cells) (P : A → Type 0) → P x → Yields (done x) cells P
unfolding done
yields_done x cells P p = record { gives = λ y e. subst P (ok_same x y e) p }

yields_refuse : {A : Type 0} (r : Refusal) (cells : Cells) (P : A → Type 0) → Yields (refuse r) cells P
unfolding refuse
yields_refuse r cells P = record { gives = λ y e. never_ok r y e }

yields_choice : {A : Type 0} {m n : Reader A} {cells : Cells} {P : A → Type 0} (b : Bool) → (b ≡ true → Yields m cells P) → (b ≡ false → Yields n cells P) → Yields (choice b m n) cells P
unfolding choice
yields_choice true h g = h refl
yields_choice false h g = g refl

yields_rule : (b : Bool) (c : Cause) (cells : Cells) → Yields (rule b c) cells (λ x. b ≡ true)
unfolding rule
yields_rule b c cells = yields_choice b (λ e. yields_done tt cells (λ x. b ≡ true) e) (λ e. yields_refuse (refusal.HiveDamaged 0 c) cells (λ x. b ≡ true))

yields_barred : (b : Bool) (r : Refusal) (cells : Cells) → Yields (barred b r) cells (λ x. b ≡ false)
unfolding barred
yields_barred b r cells = yields_choice b (λ e. yields_refuse r cells (λ x. b ≡ false)) (λ e. yields_done tt cells (λ x. b ≡ false) e)

looked : (at : ℕ) (o : Option (List ℕ)) (x : List ℕ) → (own_if at o).says ≡ Ok x → o ≡ Some x
looked at None x e = never_ok (refusal.HiveDamaged 0 _) x e
looked at (Some d) x e = ap Some (ok_same d x e)

yields_look : (at : ℕ) (cells : Cells) → HoldBytes cells → Yields (look at) cells AreBytes
unfolding look
yields_look at cells held = record { gives = λ x e. held at x (looked at (cells at) x e) }

joined_gives : {A B : Type 0} (own lent : List ℕ) (s : Result A Refusal) (f : A → Read B) (Q : B → Type 0) → ((x : A) → s ≡ Ok x → (y : B) → (f x).says ≡ Ok y → Q y) → (y : B) → (joined_if own lent s f).says ≡ Ok y → Q y
joined_gives own lent (Ok x) f Q h y e = h x refl y e
joined_gives own lent (Err r) f Q h y e = never_ok r y e

yields_on : {A B : Type 0} {m : Reader A} {f : A → Reader B} {cells : Cells} {P : A → Type 0} {Q : B → Type 0} → Yields m cells P → ((x : A) → P x → Yields (f x) cells Q) → Yields (m ⟫ f) cells Q
unfolding ◌⟫◌
yields_on {A} {B} {m} {f} {cells} {P} {Q} h g = record { gives = λ y e. joined_gives (m cells).own (m cells).lent (m cells).says (λ x. f x cells) Q (λ x s z t. (g x (h.gives x s)).gives z t) y e }

yields_each : {A B : Type 0} {f : A → Reader B} {cells : Cells} {P : B → Type 0} → ((x : A) → Yields (f x) cells P) → (xs : List A) → Yields (each f xs) cells (AllByRecursion P)
unfolding each
yields_each {A} {B} {f} {cells} {P} h [] = yields_done [] cells (AllByRecursion P) tt
yields_each {A} {B} {f} {cells} {P} h (x ∷ xs) = yields_on (h x) (λ y p. yields_on (yields_each h xs) (λ ys ps. yields_done (y ∷ ys) cells (AllByRecursion P) (p, ps)))

-- ---- bytes

byte_small : (bytes : List ℕ) (i : ℕ) → AreBytes bytes → get_or bytes i 0 < 0x100
byte_small [] i h = omega arith
byte_small (b ∷ bytes) zero h = h.0
byte_small (b ∷ bytes) (suc i) h = byte_small bytes i h.1

half_small : (bytes : List ℕ) (at : ℕ) → AreBytes bytes → u16_at bytes at < 0x1_0000
unfolding u16_at
half_small bytes at h = omega (arith, byte_small bytes at h, byte_small bytes (at + 1) h)

taken : (n : ℕ) (bytes : List ℕ) → AreBytes bytes → AreBytes (take n bytes)
taken zero bytes h = tt
taken (suc n) [] h = tt
taken (suc n) (b ∷ bytes) h = (h.0, taken n bytes h.1)

dropped : (n : ℕ) (bytes : List ℕ) → AreBytes bytes → AreBytes (drop n bytes)
dropped zero bytes h = h
dropped (suc n) [] h = tt
dropped (suc n) (b ∷ bytes) h = dropped n bytes h.1

pub ranged : (bytes : List ℕ) (from to : ℕ) → AreBytes bytes → AreBytes (slice_range bytes from to)
ranged bytes from to h = taken (to - from) (drop from bytes) (dropped from bytes h)

short_range : (bytes : List ℕ) (from n : ℕ) → length (slice_range bytes from (from + n)) ≤ n
short_range bytes from n = omega (arith, length-take (from + n - from) (drop from bytes))

-- ---- names

units_of : (bytes : List ℕ) → AreBytes bytes → AllByRecursion (λ u. u < 2 ^ 16) bytes
units_of [] h = tt
units_of (b ∷ bytes) h = (omega (arith, h.0), units_of bytes h.1)

all_latin : (bytes : List ℕ) → AreBytes bytes → list_all (λ u. nat_lt u 0x100) bytes ≡ true
all_latin [] h = refl
all_latin (b ∷ bytes) h = and_from _ _ (lt-ltb b 0x100 h.0) (all_latin bytes h.1)

stored_most : (name : List ℕ) → stored_len name ≤ 2 * length name
stored_most name = elim (cases_Bool (list_all (λ u. nat_lt u 0x100) name)) [
  | inl e ↦ let is : stored_len name ≡ length name = ap (λ (b : Bool). cond b (length name) (2 * length name)) e in omega (arith, is)
  | inr e ↦ let is : stored_len name ≡ 2 * length name = ap (λ (b : Bool). cond b (length name) (2 * length name)) e in omega (arith, is)
]

pair_units : (bytes : List ℕ) → AreBytes bytes → AllByRecursion (λ u. u < 2 ^ 16) (pairs bytes) × (2 * length (pairs bytes) ≤ length bytes)
pair_units [] h = (tt, omega arith)
pair_units (a ∷ []) h = (tt, omega arith)
pair_units (a ∷ b ∷ rest) h = ((omega (arith, h.0, h.1.0), (pair_units rest h.1.1).0), omega (arith, (pair_units rest h.1.1).1))

name_latin : (bytes : List ℕ) → AreBytes bytes → length bytes ≤ 65535 → IsEncodableName bytes
name_latin bytes h short =
    let is : stored_len bytes ≡ length bytes = ap (λ (b : Bool). cond b (length bytes) (2 * length bytes)) (all_latin bytes h) in
    record { units = units_of bytes h; short = omega (arith, is) }

name_wide : (bytes : List ℕ) → AreBytes bytes → length bytes ≤ 65535 → IsEncodableName (pairs bytes)
name_wide bytes h short = record { units = (pair_units bytes h).0; short = omega (arith, stored_most (pairs bytes), (pair_units bytes h).1) }

yields_name : (latin : Bool) (bytes : List ℕ) (cells : Cells) → AreBytes bytes → length bytes ≤ 65535 → Yields (name_in latin bytes) cells IsEncodableName
yields_name latin bytes cells h short = yields_choice latin
    (λ e. yields_done bytes cells IsEncodableName (name_latin bytes h short))
    (λ e. yields_on (yields_rule _ _ cells) (λ x rule_holds. yields_done (pairs bytes) cells IsEncodableName (name_wide bytes h short)))

-- ---- values

yields_value : (split : Bool) (at : ℕ) (cells : Cells) → HoldBytes cells → Yields (value_at split at) cells (λ (v : Value). IsEncodableName v.name)
yields_value split at cells held =
    yields_on (yields_look at cells held) (λ bytes are.
    yields_on (yields_rule _ _ cells) (λ x a.
    yields_on (yields_rule _ _ cells) (λ y b.
    yields_on (yields_name _ _ cells (ranged bytes 20 (20 + u16_at bytes 2) are) (omega (arith, short_range bytes 20 (u16_at bytes 2), half_small bytes 2 are))) (λ name spelled.
    yields_on (yields_any (data_of split (u32_at bytes 4) bytes) cells) (λ its d.
    yields_done _ cells (λ (v : Value). IsEncodableName v.name) spelled)))))

-- a value that is found is under the fold of its name
found_filed : (values : List Value) (name : List ℕ) (value : Value) → AllByRecursion (λ (v : Value). IsEncodableName v.name) values → find name_order name (map (λ (v : Value). (folded v.name, v)) values) ≡ Some value → IsEncodableValue name value
found_filed [] name value h e = some_none value e
found_filed (v ∷ values) name value h e =
    let rest : Option Value = find name_order name (map (λ (w : Value). (folded w.name, w)) values) in
    elim (decided (same name (folded v.name))) [
      | inl here ↦
          let is : v ≡ value = some_same v value (sym (yes_if (same name (folded v.name)) (Some v) rest here) ∙ e) in
          subst (λ (w : Value). IsEncodableValue name w) is (record { filed = sym (same_is name (folded v.name) here); spelled = h.0 })
      | inr there ↦ found_filed values name value h.1 (sym (no_if (same name (folded v.name)) (Some v) rest there) ∙ e)
    ]

abbrev AreEncodable : ValueMap → Type 0
AreEncodable values = (name : List ℕ) (value : Value) → finite.get values name ≡ Some value → IsEncodableValue name value

map_spelled : (values : List Value) → AllByRecursion (λ (v : Value). IsEncodableName v.name) values → AreEncodable (map_of values)
map_spelled values h name value e = found_filed values name value h (sym (finite.get-from_entries names_total (map (λ (v : Value). (folded v.name, v)) values) name) ∙ e)

yields_values : (split : Bool) (count list : ℕ) (cells : Cells) → HoldBytes cells → Yields (values_at split count list) cells AreEncodable
yields_values split count list cells held = yields_choice (eqb count 0)
    (λ e. yields_done (map_of []) cells AreEncodable (map_spelled [] tt))
    (λ e. yields_on (yields_any (look list) cells) (λ bytes a.
    yields_on (yields_rule _ _ cells) (λ x b.
    yields_on (yields_each (λ at. yields_value split at cells held) _) (λ values spelled.
    yields_on (yields_rule _ _ cells) (λ y d.
    yields_done (map_of values) cells AreEncodable (map_spelled values spelled))))))

-- ---- keys

yields_class : (size at : ℕ) (cells : Cells) → Yields (class_at size at) cells (λ class. length class ≤ size)
yields_class size at cells = yields_choice (eqb size 0)
    (λ e. yields_done [] cells (λ class. length class ≤ size) (omega arith))
    (λ e. yields_on (yields_any (look at) cells) (λ bytes a. yields_on (yields_rule _ _ cells) (λ x b.
    yields_done (take size bytes) cells (λ class. length class ≤ size) (omega (arith, length-take size bytes)))))

no_backslash : (name : List ℕ) → not (list_any (λ u. eqb u 0x5c) name) ≡ true → AllByRecursion (λ u. u ≢ 0x5c) name
no_backslash [] h = tt
no_backslash (u ∷ name) h = elim (decided (eqb u 0x5c)) [
  | inl here ↦ absurd (bad (list_any (λ v. eqb v 0x5c) name) (eqb u 0x5c) here h)
  | inr other ↦ ((λ e. clash (eqb u 0x5c) (eq-eqb u 0x5c e) other), no_backslash name (ap (λ (b : Bool). not (b || list_any (λ v. eqb v 0x5c) name)) (sym other) ∙ h))
]
  where
    bad : (b c : Bool) → c ≡ true → not (c || b) ≡ true → ⊥
    bad b true e f = never f
    bad b false e f = never e

flags_small : (stored : ℕ) → stored < 0x1_0000 → flags_of stored < 2 ^ 16
flags_small stored h = elim (decided (has_flag 0x20 stored)) [
  | inl e ↦ let is : flags_of stored ≡ stored - 0x20 = yes_if (has_flag 0x20 stored) (stored - 0x20) stored e in omega (arith, is)
  | inr e ↦ let is : flags_of stored ≡ stored = no_if (has_flag 0x20 stored) (stored - 0x20) stored e in omega (arith, is)
]

flags_unmarked : (stored : ℕ) → has_flag 0x40 stored ≡ false → bit_and (flags_of stored) 0x60 ≡ 0
flags_unmarked stored free =
    let high : stored / 64 % 2 ≡ 0 = elim (cases_eq (stored / 64 % 2) 1) [ inl e ↦ clash (has_flag 0x40 stored) (eq-eqb (stored / 64 % 2) 1 e) free | inr e ↦ omega arith ] in
    let none : flags_of stored / 32 % 4 ≡ 0 = elim (cases_eq (stored / 32 % 2) 1) [
      | inl e ↦ let is : flags_of stored ≡ stored - 0x20 = yes_if (has_flag 0x20 stored) (stored - 0x20) stored (eq-eqb (stored / 32 % 2) 1 e) in omega (arith, is)
      | inr e ↦ let is : flags_of stored ≡ stored = no_if (has_flag 0x20 stored) (stored - 0x20) stored (ne_eqb (stored / 32 % 2) 1 e) in omega (arith, is)
    ] in
    and_high (flags_of stored) 2 5 ∙ ap (λ (n : ℕ). n * 2 ^ 5) none

abbrev OfRow : Row × List ℕ → Type 0
OfRow pair = IsEncodableRow pair.0

yields_key : (split : Bool) (at : ℕ) (cells : Cells) → HoldBytes cells → Yields (key_at split at) cells OfRow
yields_key split at cells held =
    yields_on (yields_look at cells held) (λ bytes are.
    yields_on (yields_rule _ _ cells) (λ x a.
    yields_on (yields_rule _ _ cells) (λ y b.
    yields_on (yields_barred _ _ cells) (λ z free.
    yields_on (yields_name _ _ cells (ranged bytes 76 (76 + u16_at bytes 72) are) (omega (arith, short_range bytes 76 (u16_at bytes 72), half_small bytes 72 are))) (λ name spelled.
    yields_on (yields_rule _ _ cells) (λ w apart.
    yields_on (yields_class (u16_at bytes 74) (u32_at bytes 48) cells) (λ class short.
    yields_on (yields_any (descriptor_at (u32_at bytes 44)) cells) (λ descriptor d.
    yields_on (yields_values split (u32_at bytes 36) (u32_at bytes 40) cells held) (λ values filed.
    yields_on (yields_any (subkeys_at (u32_at bytes 20) (u32_at bytes 28)) cells) (λ subkey_list k.
    yields_done _ cells OfRow (record {
      name = spelled;
      no_backslash = no_backslash name apart;
      flags = flags_small (u16_at bytes 2) (half_small bytes 2 are);
      unmarked = flags_unmarked (u16_at bytes 2) free;
      class = omega (arith, short, half_small bytes 74 are);
      values = filed;
    })))))))))))

parts_row : (own lent : List ℕ) (says : Result (Row × List ℕ) Refusal) (parts : KeyParts Row) → parts_if own lent says ≡ Ok parts → ((pair : Row × List ℕ) → says ≡ Ok pair → OfRow pair) → IsEncodableRow parts.row
parts_row own lent (Err r) parts e h = never_ok r parts e
parts_row own lent (Ok x) parts e h = subst (λ (p : KeyParts Row). IsEncodableRow p.row) (ok_same _ parts e) (h x refl)

pub row_spelled : (cells : Cells) → HoldBytes cells → (split : Bool) (at : ℕ) (parts : KeyParts Row) → keys_in split cells at ≡ Ok parts → IsEncodableRow parts.row
row_spelled cells held split at parts e =
    let r : Read (Row × List ℕ) = key_at split at cells in
    parts_row r.own r.lent r.says parts e (λ pair said. (yields_key split at cells held).gives pair said)

-- ---- images

shown_bytes : (bytes : List ℕ) (at : ℕ) (o : Option (List ℕ)) → AreBytes bytes → MatchOption o (¬ IsAllocatedCell bytes at) (λ its. IsAllocatedCell bytes at × (its ≡ cell_data bytes at)) → (d : List ℕ) → o ≡ Some d → AreBytes d
shown_bytes bytes at None are h d e = some_none d e
shown_bytes bytes at (Some x) are h d e = subst AreBytes (sym h.1 ∙ some_same x d e) (ranged bytes (at + 4) (at + cell_size bytes at) are)

pub cells_bytes : (bytes : List ℕ) (cells : Cells) → AreBytes bytes → Shows bytes cells → HoldBytes cells
cells_bytes bytes cells are shows at d e = shown_bytes bytes at (cells at) are (shows at) d e

spelled_on : (cells : Cells) (split : Bool) → HoldBytes cells → (at : ℕ) (path : List (List ℕ)) (row : Row) → PathReachesRow (keys_in split cells) at path row → IsEncodableRow row
spelled_on cells split held at [] row s = subst (λ (r : Row). IsEncodableRow r) s.2 (row_spelled cells held split at s.0 s.1)
spelled_on cells split held at (n ∷ path) row s = spelled_on cells split held s.1 path row s.7

pub tree_spelled : (bytes : List ℕ) (root minor : ℕ) (tree : TreeMap) → AreBytes bytes → BinsEncodeTree bytes root minor tree → (path : List (List ℕ)) (key : Row) → finite.get tree path ≡ Some key → IsEncodableRow key
tree_spelled bytes root minor tree are s path key e =
    spelled_on s.1 (splits minor) (cells_bytes bytes s.1 are s.2) root path key ((chains (keys_in (splits minor) s.1) root tree s.3 path key).0 e)
