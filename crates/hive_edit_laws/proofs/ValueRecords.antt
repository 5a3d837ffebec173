-- A value's record that is new but for its name, and how its data are read then.
use Rattle.std.proofs.Common.{◌≡◌, inl, inr, ◌<◌, ◌≤◌, ◌+◌, ◌-◌, ◌^◌, ◌%◌, ◌==◌, nat_le, nat_lt, ℕ, List, [], ◌∷◌, ◌++◌, length, refl, ◌∙◌, ap, sym, subst, Bool, true, false, Some, slice_range, arith, leb, le-leb, le-ltb, lt-ltb, ltb, eqb, ne_eqb, append-nil}
use Rattle.std.proofs.lemmas.Bool.{lt-leb}
use Rattle.refusals.specs.declared.refusal.Cause.{Cause}
use Rattle.refusals.specs.declared.refusal.Cause.TheVariants as cause
use Rattle.reg_tree_parts.specs.declared.value.Value.{Value}
use Rattle.hive_tree_model.proofs.Basics.{some_same}
use Rattle.hive_cells.specs.Tiles.{u32_at}
use Rattle.hive_cells.specs.Bins.{Cells}
use Rattle.hive_records.specs.Readers.{Read, Reader, done, refuse, choice, rule, ◌⟫◌}
use Rattle.hive_records.specs.Numbers.{u16_at, begins_with}
use Rattle.hive_records.specs.Names.{has_flag, name_in}
use Rattle.hive_records.specs.Values.{cell_prefix, segment_bytes, big_data, data_of, value_at}
use Rattle.hive_records.specs.Fields.{Gives}
use Rattle.hive_records.proofs.Local.{Local, local_done, local_choice, local_rule, local_look, local_bind, local_each}
use Rattle.hive_records.proofs.StepsAgain.{gives_on, gives_last, gives_done, gives_same, gives_rule, gives_yes, gives_no, gives_look}
use Rattle.hive_records.proofs.ValuesAgain.{piece_back}
use Rattle.hive_edit_laws.specs.RecordEdits.{ValueFieldsChange}
use Rattle.hive_edit_laws.specs.ValueEdits.{data_cells}
use Rattle.hive_edit_laws.proofs.ReaderSteps.{split_of, rule_of, look_of, choice_of, done_of}
use Rattle.hive_edit_laws.proofs.SameBytes.{half_same, begins_same, tail_same}

-- names depend on no cells
same_checked : (b : Bool) (c : Cause) (x : List ℕ) (new old : Cells) → (rule b c ⟫ λ _. done x) new ≡ (rule b c ⟫ λ _. done x) old
unfolding ◌⟫◌ rule choice done refuse
same_checked true c x new old = refl
same_checked false c x new old = refl

same_name : (latin : Bool) (bytes : List ℕ) (new old : Cells) → name_in latin bytes new ≡ name_in latin bytes old
unfolding choice done
same_name true bytes new old = refl
same_name false bytes new old = same_checked (length bytes % 2 == 0) _ _ new old

pub name_again : (latin : Bool) (bytes : List ℕ) (old new : Cells) (own lent name : List ℕ) → Gives (name_in latin bytes) old own lent name → Gives (name_in latin bytes) new own lent name
name_again latin bytes old new own lent name h = record { reads = same_name latin bytes new old ∙ h.reads }

pub name_nothing : (latin : Bool) (bytes : List ℕ) (cells : Cells) (own lent name : List ℕ) → Gives (name_in latin bytes) cells own lent name → (own ≡ []) × (lent ≡ [])
name_nothing latin bytes cells own lent name h = elim (choice_of latin _ _ cells own lent name h) [
  | inl g ↦ let k = done_of bytes cells own lent name g.1 in (k.0, k.1)
  | inr g ↦ let m = rule_of _ _ _ cells own lent name g.1 in let k = done_of _ cells own lent name m.1 in (k.0, k.1)
]

local_prefix : (size at : ℕ) → Local (cell_prefix size at)
local_prefix size at = local_bind (local_look _) (λ bytes. local_bind (local_rule _ _) (λ _. (local_done _)))

local_big : (size at : ℕ) → Local (big_data size at)
local_big size at = local_bind (local_look _) (λ bytes. local_bind (local_rule _ _) (λ _. local_bind (local_rule _ _) (λ _. local_bind (local_look _) (λ list. local_bind (local_rule _ _) (λ _. local_bind (local_each (λ s. local_prefix s.0 s.1) _) (λ pieces. (local_done _)))))))

local_data : (split : Bool) (size : ℕ) (bytes : List ℕ) → Local (data_of split size bytes)
local_data split size bytes = local_choice (nat_le (2 ^ 31) size) (local_bind (local_rule _ _) (λ _. (local_done _)))
    (local_choice (size == 0) (local_done _) (local_choice split (local_choice (nat_lt segment_bytes size) (local_big size (u32_at bytes 8)) (local_prefix size (u32_at bytes 8))) (local_prefix size (u32_at bytes 8))))

local_name : (latin : Bool) (bytes : List ℕ) → Local (name_in latin bytes)
local_name latin bytes = local_choice latin (local_done _) (local_bind (local_rule _ _) (λ _. (local_done _)))

pub local_value : (split : Bool) (at : ℕ) → Local (value_at split at)
local_value split at = local_bind (local_look _) (λ bytes. local_bind (local_rule _ _) (λ _. local_bind (local_rule _ _) (λ _. local_bind (local_name _ _) (λ name. local_bind (local_data split (u32_at bytes 4) bytes) (λ its. (local_done _))))))

-- A value whose record is new but for its name, whatever its data were and are. It has the name, the new type, and the
-- data that are read as the record now says.
pub value_again : (split : Bool) (at : ℕ) (before after : Cells) (own lent : List ℕ) (was : Value) (old new its_own value_bytes : List ℕ) (kind : ℕ) → before at ≡ Some old → after at ≡ Some new → ValueFieldsChange old new kind →
    Gives (data_of split (u32_at new 4) new) after its_own [] value_bytes → Gives (value_at split at) before own lent was →
    (own ≡ at ∷ data_cells split before old) × Gives (value_at split at) after (at ∷ its_own) [] (record { name = was.name; kind = kind; «data» = value_bytes })
value_again split at before after own lent was old new its_own value_bytes kind here there r its h =
    let l = look_of at _ before own lent was h in
    let same_old : l.bytes ≡ old = some_same l.bytes old (sym l.here ∙ here) in
    let g = by l.own_next (subst (λ (z : List ℕ). Gives (from z) before l.own_next lent was) same_old l.next) in
    (l.own_is ∙ ap (λ (z : List ℕ). at ∷ z) g.0, g.1)
  where
    from : List ℕ → Reader Value
    from bytes = rule (begins_with bytes 0x6b76 20) cause.BadRecord ⟫ λ _.
        rule (nat_le (20 + u16_at bytes 2) (length bytes)) cause.BadRecord ⟫ λ _.
        name_in (has_flag 1 (u16_at bytes 16)) (slice_range bytes 20 (20 + u16_at bytes 2)) ⟫ λ name.
        data_of split (u32_at bytes 4) bytes ⟫ λ its_data.
        done (record { name = name; kind = u32_at bytes 12; «data» = its_data })

    two : u16_at new 2 ≡ u16_at old 2
    two = half_same old new 2 (r.before 2 (omega arith)) (r.before 3 (omega arith))

    flag : u16_at new 16 ≡ u16_at old 16
    flag = half_same old new 16 (r.after 16 (omega arith)) (r.after 17 (omega arith))

    letters : u16_at new 0 ≡ u16_at old 0
    letters = half_same old new 0 (r.before 0 (omega arith)) (r.before 1 (omega arith))

    name_bytes : slice_range new 20 (20 + u16_at new 2) ≡ slice_range old 20 (20 + u16_at old 2)
    name_bytes = ap (λ n. slice_range new 20 (20 + n)) two ∙ tail_same old new 20 (20 + u16_at old 2) r.len (λ i g. r.after i (omega (arith, g)))

    by : (rest : List ℕ) → Gives (from old) before rest lent was → (rest ≡ data_cells split before old) × Gives (value_at split at) after (at ∷ its_own) [] (record { name = was.name; kind = kind; «data» = value_bytes })
    by rest g =
        let a = rule_of _ _ _ before rest lent was g in
        let b = rule_of _ _ _ before rest lent was a.1 in
        let c = split_of (name_in (has_flag 1 (u16_at old 16)) (slice_range old 20 (20 + u16_at old 2))) _ before rest lent was b.1 in
        let d = split_of (data_of split (u32_at old 4) old) _ before c.own_next c.lent_next was c.next in
        let e = done_of _ before d.own_next d.lent_next was d.next in
        let name_none = name_nothing (has_flag 1 (u16_at old 16)) (slice_range old 20 (20 + u16_at old 2)) before c.own_first c.lent_first c.x c.first in
        let name_is : c.x ≡ was.name = ap (λ (v : Value). v.name) e.2 in (
          c.own_is ∙ ap (λ (z : List ℕ). z ++ c.own_next) name_none.0 ∙ d.own_is ∙ ap (λ (z : List ℕ). d.own_first ++ z) e.0 ∙ append-nil d.own_first ∙ sym (ap (λ (z : Read (List ℕ)). z.own) (d.first).reads),
          gives_on _ (gives_look at after new there)
              (gives_on _ (gives_rule (begins_with new 0x6b76 20) _ after (begins_same old new 0x6b76 20 r.len letters ∙ a.0))
              (gives_on _ (gives_rule (nat_le (20 + u16_at new 2) (length new)) _ after ((λ i. nat_le (20 + two i) (r.len i)) ∙ b.0))
              (gives_on _ (named c.own_first c.lent_first c.x c.first name_none.0 name_none.1 name_is)
              (gives_same (λ i. record { name = was.name; kind = r.kind_is i; «data» = value_bytes }) (gives_last (λ its_data. record { name = was.name; kind = u32_at new 12; «data» = its_data }) its))))),
        )
      where
        named : (o l : List ℕ) (x : List ℕ) → Gives (name_in (has_flag 1 (u16_at old 16)) (slice_range old 20 (20 + u16_at old 2))) before o l x → o ≡ [] → l ≡ [] → x ≡ was.name →
            Gives (name_in (has_flag 1 (u16_at new 16)) (slice_range new 20 (20 + u16_at new 2))) after [] [] was.name
        named o l x h eo el ex =
            let moved : Gives (name_in (has_flag 1 (u16_at old 16)) (slice_range old 20 (20 + u16_at old 2))) after o l x = name_again (has_flag 1 (u16_at old 16)) (slice_range old 20 (20 + u16_at old 2)) before after o l x h in
            let none : Gives (name_in (has_flag 1 (u16_at old 16)) (slice_range old 20 (20 + u16_at old 2))) after [] [] was.name =
            gives_same ex (subst (λ (z : List ℕ). Gives (name_in (has_flag 1 (u16_at old 16)) (slice_range old 20 (20 + u16_at old 2))) after [] z x) el (subst (λ (z : List ℕ). Gives (name_in (has_flag 1 (u16_at old 16)) (slice_range old 20 (20 + u16_at old 2))) after z l x) eo moved)) in
            record { reads = (λ i. name_in (has_flag 1 (flag i)) (name_bytes i) after) ∙ none.reads }

-- data in the record
pub in_record : (split : Bool) (cells : Cells) (fields value_bytes : List ℕ) → u32_at fields 4 ≡ 2 ^ 31 + length value_bytes → length value_bytes ≤ 4 → slice_range fields 8 (8 + length value_bytes) ≡ value_bytes → Gives (data_of split (u32_at fields 4) fields) cells [] [] value_bytes
in_record split cells fields value_bytes size few bytes_are = subst (λ (n : ℕ). Gives (data_of split n fields) cells [] [] value_bytes) (sym size)
    (gives_yes _ (leb (2 ^ 31) (2 ^ 31 + length value_bytes)) (le-leb (2 ^ 31) (2 ^ 31 + length value_bytes) (omega arith))
    (gives_on _ (gives_rule (leb (2 ^ 31 + length value_bytes - 2 ^ 31) 4) _ cells (le-leb (2 ^ 31 + length value_bytes - 2 ^ 31) 4 (omega (arith, few))))
    (gives_same (ap (λ n. slice_range fields 8 (8 + n)) (omega arith) ∙ bytes_are) (gives_done (slice_range fields 8 (8 + (2 ^ 31 + length value_bytes - 2 ^ 31))) cells))))

-- data in one cell
pub in_cell : (split : Bool) (cells : Cells) (fields value_bytes more : List ℕ) (to : ℕ) → u32_at fields 4 ≡ length value_bytes → u32_at fields 8 ≡ to → 0 < length value_bytes → length value_bytes < 2 ^ 31 → (split ≡ true → length value_bytes ≤ 16_344) → cells to ≡ Some (value_bytes ++ more) →
    Gives (data_of split (u32_at fields 4) fields) cells (to ∷ []) [] value_bytes
in_cell split cells fields value_bytes more to size place some few one here = subst (λ (n : ℕ). Gives (data_of split n fields) cells (to ∷ []) [] value_bytes) (sym size)
    (gives_no _ (leb (2 ^ 31) (length value_bytes)) (lt-leb (2 ^ 31) (length value_bytes) few)
    (gives_no _ (eqb (length value_bytes) 0) (ne_eqb (length value_bytes) 0 (λ e. omega (arith, some, e)))
    (by split one)))
  where
    prefix_now : Gives (cell_prefix (length value_bytes) (u32_at fields 8)) cells (to ∷ []) [] value_bytes
    prefix_now = subst (λ (n : ℕ). Gives (cell_prefix (length value_bytes) n) cells (to ∷ []) [] value_bytes) (sym place) (piece_back cells to value_bytes (more, here))

    by : (b : Bool) → (b ≡ true → length value_bytes ≤ 16_344) → Gives (choice b (choice (ltb 16_344 (length value_bytes)) (big_data (length value_bytes) (u32_at fields 8)) (cell_prefix (length value_bytes) (u32_at fields 8))) (cell_prefix (length value_bytes) (u32_at fields 8))) cells (to ∷ []) [] value_bytes
    by true one = gives_yes _ true refl (gives_no _ (ltb 16_344 (length value_bytes)) (le-ltb 16_344 (length value_bytes) (one refl)) prefix_now)
    by false one = gives_no _ false refl prefix_now

-- no data
pub no_data : (split : Bool) (cells : Cells) (fields : List ℕ) → u32_at fields 4 ≡ 0 → Gives (data_of split (u32_at fields 4) fields) cells [] [] []
no_data split cells fields size = subst (λ (n : ℕ). Gives (data_of split n fields) cells [] [] []) (sym size) (gives_no _ false refl (gives_yes _ true refl (gives_done [] cells)))

-- data in segments
pub in_segments : (cells : Cells) (fields own value_bytes : List ℕ) → u32_at fields 4 ≡ length value_bytes → 16_344 < length value_bytes → length value_bytes < 2 ^ 31 → Gives (big_data (length value_bytes) (u32_at fields 8)) cells own [] value_bytes → Gives (data_of true (u32_at fields 4) fields) cells own [] value_bytes
in_segments cells fields own value_bytes size many less big = subst (λ (n : ℕ). Gives (data_of true n fields) cells own [] value_bytes) (sym size)
    (gives_no _ (leb (2 ^ 31) (length value_bytes)) (lt-leb (2 ^ 31) (length value_bytes) less)
    (gives_no _ (eqb (length value_bytes) 0) (ne_eqb (length value_bytes) 0 (λ e. omega (arith, many, e)))
    (gives_yes _ true refl (gives_yes _ (ltb 16_344 (length value_bytes)) (lt-ltb 16_344 (length value_bytes) many) big))))
