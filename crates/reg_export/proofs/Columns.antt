-- The column at which a list of bytes begins, up to the greatest number of 64 bits.
use Rattle.std.proofs.Common.{◌≡◌, ℕ, ◌+◌, ◌-◌, ◌^◌, List, [], ◌∷◌, ◌++◌, length, refl, ◌∙◌, ap, arith, codes}
use Rattle.std.specs.Prelude.{min, ◌==◌, ◌&&◌, if◌then◌else◌}
use Rattle.std.specs.List.{flat_map}
use Rattle.std.specs.Int.{w32, from_le_bytes}
use Rattle.std.proofs.lemmas.Bool.Decides.{nat_tests}
use Rattle.hex.specs.Hex.{encode_lower}
use Rattle.reg_tree_parts.specs.declared.value.Value.{Value}
use Rattle.reg_export.specs.ByteUnits.{units_of, front_units, is_plain_text}
use Rattle.reg_export.specs.RegTexts.{line, quoted, number_text, next_column, next_byte, at_columns, byte_list, list_label, list_text, data_text, value_head, reg_value_line}

pub capped_column : (n k : ℕ) → next_column (min n (2 ^ 64 - 1) + k) ≡ next_column (n + k)
capped_column n k = grind (arith, nat_tests)

capped_here : (n : ℕ) → next_column (min n (2 ^ 64 - 1)) ≡ next_column n
capped_here n = grind (arith, nat_tests)

pub same_list : (one other : ℕ) (bytes : List ℕ) → next_column one ≡ next_column other → byte_list one bytes ≡ byte_list other bytes
same_list one other [] e = refl
same_list one other (byte ∷ bytes) e = ap (λ column. encode_lower (byte ∷ []) ++ flat_map next_byte (at_columns column bytes)) e

capped_data : (n kind : ℕ) (bytes : List ℕ) → data_text (min n (2 ^ 64 - 1)) kind bytes ≡ data_text n kind bytes
capped_data n kind bytes =
    ap (λ list. if kind == 1 && is_plain_text bytes then quoted (units_of (front_units bytes)) else (if kind == 4 && length bytes == 4 then number_text (from_le_bytes w32 bytes) else list_label kind ++ list))
    (same_list (min n (2 ^ 64 - 1) + length (list_label kind)) (n + length (list_label kind)) bytes (capped_column n (length (list_label kind))))

-- a label and bytes are the list, at whatever column it begins
pub list_line : (column total kind : ℕ) (label bytes : List ℕ) → label ≡ list_label kind → total ≡ min (column + length label) (2 ^ 64 - 1) → label ++ byte_list total bytes ≡ list_text column kind bytes
list_line column total kind label bytes l t =
    ap (λ n. label ++ byte_list n bytes) t ∙ ap (λ (list : List ℕ). label ++ list) (same_list (min (column + length label) (2 ^ 64 - 1)) (column + length label) bytes (capped_here (column + length label)))
    ∙ ap (λ (it : List ℕ). it ++ byte_list (column + length it) bytes) l

pub value_line : (value : Value) (name bytes : List ℕ) (columns : ℕ) → name ≡ value.name → bytes ≡ value.«data» → columns ≡ min (length (value_head name)) (2 ^ 64 - 1)
    → (value_head name ++ data_text columns value.kind bytes) ++ codes "\r\n" ≡ reg_value_line value
value_line value name bytes columns n b c =
    ap (λ column. line (value_head name ++ data_text column value.kind bytes)) c ∙ ap (λ text. line (value_head name ++ text)) (capped_data (length (value_head name)) value.kind bytes)
    ∙ ap (λ name. line (value_head name ++ data_text (length (value_head name)) value.kind bytes)) n ∙ ap (λ bytes. line (value_head value.name ++ data_text (length (value_head value.name)) value.kind bytes)) b
