-- What no reader does but the reader of a descriptor: it lends no cell.
use Rattle.std.proofs.Common.{◌≡◌, ◌==◌, ◌+◌, ◌-◌, ◌*◌, ◌^◌, nat_le, nat_lt, ℕ, List, [], ◌∷◌, ◌++◌, length, map, refl, ◌∙◌, ap, Bool, true, false, Option, Some, None, Ok, Err, Result, slice_range}
use Rattle.refusals.specs.declared.refusal.Refusal.{Refusal}
use Rattle.refusals.specs.declared.refusal.Cause.{Cause}
use Rattle.refusals.specs.declared.refusal.Cause.TheVariants as cause
use Rattle.reg_names.specs.Names.{folded}
use Rattle.reg_tree_parts.specs.declared.value.Value.{Value}
use Rattle.hive_cells.specs.Tiles.{u32_at}
use Rattle.hive_cells.specs.Bins.{Cells}
use Rattle.hive_records.specs.Readers.{Read, Reader, done, refuse, damaged, joined_if, own_if, look, choice, rule, each, ◌⟫◌}
use Rattle.hive_records.specs.Numbers.{u16_at, words_from, begins_with}
use Rattle.hive_records.specs.Names.{has_flag, name_in, all_apart}
use Rattle.hive_records.specs.Values.{cell_prefix, segment_bytes, segments_of, segment_sizes, big_data, data_of, value_at, map_of, values_at}
use Rattle.hive_records.specs.Lists.{is_plain, is_hinted, is_indirect, offsets_in, leaf_in, leaf_at, list_in, subkeys_at}
use Rattle.hive_records.specs.KeyNodes.{class_at}

abbrev pub LendsNone : {A : Type 0} → Reader A → Type 0
LendsNone m = (cells : Cells) → (m cells).lent ≡ []

module _ {A : Type 0} where
  pub none_done : (x : A) → LendsNone (done x)
  unfolding done
  none_done x cells = refl

  pub none_choice : (b : Bool) (m n : Reader A) → LendsNone m → LendsNone n → LendsNone (choice b m n)
  unfolding choice
  none_choice true m n h g = h
  none_choice false m n h g = g

none_refuse : (A : Type 0) (r : Refusal) → LendsNone {A = A} (refuse r)
unfolding refuse
none_refuse A r cells = refl

pub none_look : (at : ℕ) → LendsNone (look at)
unfolding look
none_look at cells = by_cell (cells at)
  where
    by_cell : (o : Option (List ℕ)) → (own_if at o).lent ≡ []
    by_cell None = refl
    by_cell (Some bytes) = refl

pub none_rule : (b : Bool) (c : Cause) → LendsNone (rule b c)
unfolding rule
none_rule b c = none_choice b (done tt) (damaged c) (none_done tt) (none_refuse (Unit {0}) _)

module _ {A B : Type 0} where
  joined_none : (own lent : List ℕ) (s : Result A Refusal) (next : A → Read B) → lent ≡ [] → ((x : A) → (next x).lent ≡ []) → (joined_if own lent s next).lent ≡ []
  joined_none own lent (Ok x) next e h = ap (λ (l : List ℕ). l ++ (next x).lent) e ∙ h x
  joined_none own lent (Err r) next e h = e

  pub none_on : (m : Reader A) (f : A → Reader B) → LendsNone m → ((x : A) → LendsNone (f x)) → LendsNone (m ⟫ f)
  unfolding ◌⟫◌
  none_on m f h g cells = joined_none (m cells).own (m cells).lent (m cells).says (λ x. f x cells) (h cells) (λ x. g x cells)

module _ {A B : Type 0} where
  pub none_each : (f : A → Reader B) → ((x : A) → LendsNone (f x)) → (xs : List A) → LendsNone (each f xs)
  unfolding each
  none_each f h [] = none_done []
  none_each f h (x ∷ xs) = none_on (f x) _ (h x) (λ y. none_on (each f xs) _ (none_each f h xs) (λ ys. none_done (y ∷ ys)))

none_piece : (size at : ℕ) → LendsNone (cell_prefix size at)
none_piece size at = none_on (look at) _ (none_look at) (λ bytes. none_on (rule (nat_le size (length bytes)) cause.BadRecord) _ (none_rule _ _) (λ _. none_done _))

pub none_class : (size at : ℕ) → LendsNone (class_at size at)
none_class size at = none_choice (size == 0) (done []) (cell_prefix size at) (none_done []) (none_piece size at)

none_big : (size at : ℕ) → LendsNone (big_data size at)
none_big size at = none_on (look at) _ (none_look at) (λ bytes.
    none_on (rule (begins_with bytes 0x6264 8) cause.BadRecord) _ (none_rule _ _) (λ _.
    none_on (rule (u16_at bytes 2 == segments_of size) cause.BadRecord) _ (none_rule _ _) (λ _.
    none_on (look (u32_at bytes 4)) _ (none_look _) (λ list.
    none_on (rule (nat_le (4 * segments_of size) (length list)) cause.BadRecord) _ (none_rule _ _) (λ _.
    none_on (each (λ s. cell_prefix s.0 s.1) (segment_sizes size (words_from list 0 4 (segments_of size)))) _ (none_each (λ (s : ℕ × ℕ). cell_prefix s.0 s.1) (λ s. none_piece s.0 s.1) _) (λ pieces.
    none_done _))))))

none_data : (split : Bool) (size : ℕ) (bytes : List ℕ) → LendsNone (data_of split size bytes)
none_data split size bytes =
    none_choice (nat_le (2 ^ 31) size) _ _ (none_on (rule (nat_le (size - 2 ^ 31) 4) cause.BadRecord) _ (none_rule _ _) (λ _. none_done _))
    (none_choice (size == 0) _ _ (none_done [])
    (none_choice split _ _
    (none_choice (nat_lt segment_bytes size) _ _ (none_big size (u32_at bytes 8)) (none_piece size (u32_at bytes 8)))
    (none_piece size (u32_at bytes 8))))

none_name : (latin : Bool) (bytes : List ℕ) → LendsNone (name_in latin bytes)
none_name latin bytes = none_choice latin _ _ (none_done bytes) (none_on (rule _ cause.BadName) _ (none_rule _ _) (λ _. none_done _))

none_value : (split : Bool) (at : ℕ) → LendsNone (value_at split at)
none_value split at = none_on (look at) _ (none_look at) (λ bytes.
    none_on (rule (begins_with bytes 0x6b76 20) cause.BadRecord) _ (none_rule _ _) (λ _.
    none_on (rule (nat_le (20 + u16_at bytes 2) (length bytes)) cause.BadRecord) _ (none_rule _ _) (λ _.
    none_on (name_in (has_flag 1 (u16_at bytes 16)) (slice_range bytes 20 (20 + u16_at bytes 2))) _ (none_name _ _) (λ name.
    none_on (data_of split (u32_at bytes 4) bytes) _ (none_data split _ bytes) (λ its_data.
    none_done _)))))

pub none_values : (split : Bool) (count list : ℕ) → LendsNone (values_at split count list)
none_values split count list = none_choice (count == 0) _ _ (none_done (map_of [])) (none_on (look list) _ (none_look list) (λ bytes.
    none_on (rule (nat_le (4 * count) (length bytes)) cause.BadRecord) _ (none_rule _ _) (λ _.
    none_on (each (value_at split) (words_from bytes 0 4 count)) _ (none_each (value_at split) (none_value split) _) (λ values.
    none_on (rule (all_apart (map (λ (v : Value). folded v.name) values)) cause.BadName) _ (none_rule _ _) (λ _.
    none_done _)))))

none_offsets : (stride : ℕ) (bytes : List ℕ) → LendsNone (offsets_in stride bytes)
none_offsets stride bytes = none_on (rule (nat_le (4 + stride * u16_at bytes 2) (length bytes)) cause.BadList) _ (none_rule _ _) (λ _. none_done _)

none_leaf_in : (bytes : List ℕ) → LendsNone (leaf_in bytes)
none_leaf_in bytes = none_choice (is_plain bytes) _ _ (none_offsets 4 bytes) (none_on (rule (is_hinted bytes) cause.BadList) _ (none_rule _ _) (λ _. none_offsets 8 bytes))

none_leaf : (at : ℕ) → LendsNone (leaf_at at)
none_leaf at = none_on (look at) leaf_in (none_look at) none_leaf_in

none_list : (bytes : List ℕ) → LendsNone (list_in bytes)
none_list bytes = none_choice (is_indirect bytes) _ _
    (none_on (offsets_in 4 bytes) _ (none_offsets 4 bytes) (λ leaves. none_on (each leaf_at leaves) _ (none_each leaf_at none_leaf leaves) (λ lists. none_done _)))
    (none_leaf_in bytes)

pub none_subkeys : (count list : ℕ) → LendsNone (subkeys_at count list)
none_subkeys count list = none_choice (count == 0) _ _ (none_done []) (none_on (look list) _ (none_look list) (λ bytes.
    none_on (list_in bytes) _ (none_list bytes) (λ subkey_list.
    none_on (rule (length subkey_list == count) cause.BadList) _ (none_rule _ _) (λ _.
    none_done subkey_list))))
