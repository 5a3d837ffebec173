-- The lines of a value are a value by the grammar, are texts if its name is one, and are not too many.
use Rattle.std.proofs.Common.{◌≡◌, ℕ, zero, suc, ◌+◌, ◌*◌, ◌-◌, ◌<◌, ◌≤◌, ◌^◌, true, false, cond, ◌&&◌, ◌||◌, List, [], ◌∷◌, ◌++◌, length, take, refl, ◌∙◌, ap, inl, inr, arith, append_assoc, append-nil, codes}
use Rattle.std.specs.Prelude.{◌==◌}
use Rattle.std.specs.List.{AllByRecursion, flat_map}
use Rattle.std.specs.Fmt.{digits}
use Rattle.std.specs.Int.{w32, from_le_bytes, to_be_bytes, byte_at}
use Rattle.std.proofs.lemmas.List.{length-append}
use Rattle.std.proofs.lemmas.Bool.Decides.{Decides-eqb}
use Rattle.refusals.specs.declared.limits.TheConstants.{MOST_ELEMENT_BYTES, MOST_VALUE_BYTES}
use Rattle.hex.specs.Hex.{encode_lower}
use Rattle.reg_tree_parts.specs.declared.value.Value.{Value}
use Rattle.reg_export.specs.ByteUnits.{units_of, front_units, is_plain_text}
use Rattle.reg_export.specs.RegTexts.{escaped_unit, quoted, value_name_text, next_column, next_byte, at_columns, list_label, number_text, value_head}
use Rattle.reg_file.specs.Grammar as grammar
use Rattle.reg_file.specs.Grammar.{HasNoZero, IsHead, IsText, IsNumber, AreBytes, IsList, IsType, IsTextData, IsNumberData, IsListData, IsListValue, IsPlainValue, IsValue}
use Rattle.reg_round_trip.specs.Exports.{IsValueOfLimits}
use Rattle.reg_round_trip.proofs.Units.{all_then, both_true, by_test, not_true}
use Rattle.reg_round_trip.proofs.TextFacts.{AreTexts}
use Rattle.reg_round_trip.proofs.HexText.{kind_digits, eight_digits, be_bytes, bytes_printable, pair_length, eight_long}
use Rattle.reg_round_trip.proofs.TextLines.{returned_lines, return_tail, units_of_text}
use Rattle.reg_round_trip.proofs.DataLines.{line_rest, further_lines, read_bytes, rest_printable, further_printable, bytes_length}
use Rattle.reg_round_trip.proofs.Values.{Printable, list_lines, value_lines, list_lines_text, head_read, type_read, IsPlain, plain_read, no_zero, IsNumberOf, number_read}

-- by the grammar
text_value : (name : List ℕ) (kind : ℕ) (bytes : List ℕ) → HasNoZero name → kind ≡ 1 → IsPlain bytes → IsValue false (returned_lines ((value_head name ++ quoted (units_of (front_units bytes))) ∷ [])) name kind bytes
text_value name kind bytes h k p =
    let text = units_of (front_units bytes) in
    let quotes = flat_map escaped_unit text in
    let rest : List ℕ = 34 ∷ (quotes ++ 34 ∷ 13 ∷ []) in
    let shape : (value_head name ++ quoted text) ++ 13 ∷ [] ≡ value_head name ++ rest =
    append_assoc (value_head name) (quoted text) (13 ∷ []) ∙ ap (λ xs. value_head name ++ 34 ∷ xs) (append_assoc quotes (34 ∷ []) (13 ∷ [])) in
    inl (value_head name ++ rest, rest, [], ap (λ l. l ∷ []) shape, head_read name rest h, inl (quotes ++ 34 ∷ 13 ∷ [], text, refl, (13 ∷ [], refl, no_zero text p.units, return_tail), k, p.same))

number_value : (name : List ℕ) (kind : ℕ) (bytes : List ℕ) → HasNoZero name → kind ≡ 4 → IsNumberOf bytes (from_le_bytes w32 bytes) → IsValue false (returned_lines ((value_head name ++ number_text (from_le_bytes w32 bytes)) ∷ [])) name kind bytes
number_value name kind bytes h k p =
    let number = from_le_bytes w32 bytes in
    let digits = encode_lower (to_be_bytes w32 number) in
    let rest : List ℕ = codes "dword:" ++ (digits ++ 13 ∷ []) in
    let shape : (value_head name ++ number_text number) ++ 13 ∷ [] ≡ value_head name ++ rest = append_assoc (value_head name) (number_text number) (13 ∷ []) in
    inl (value_head name ++ rest, rest, [], ap (λ l. l ∷ []) shape, head_read name rest h, inr (digits, number, 13 ∷ [], refl, refl, eight_digits number p.small, return_tail, k, p.same))

list_value : (name : List ℕ) (kind : ℕ) (bytes : List ℕ) → HasNoZero name → kind < 2 ^ 32 → AllByRecursion (λ b. b < 256) bytes → IsValue false (returned_lines (list_lines (value_head name) kind bytes)) name kind bytes
list_value name kind [] h k all =
    let label = list_label kind in
    let rest = label ++ 13 ∷ [] in
    let shape : (value_head name ++ (label ++ [])) ++ 13 ∷ [] ≡ value_head name ++ rest = append_assoc (value_head name) (label ++ []) (13 ∷ []) ∙ ap (λ xs. value_head name ++ (xs ++ 13 ∷ [])) (append-nil label) in
    inr ([], (value_head name ++ rest, rest, [], ap (λ l. l ∷ []) shape, head_read name rest h, (label, 13 ∷ [], refl, type_read kind k, inl (13 ∷ [], refl, return_tail, refl))), refl)
list_value name kind (byte ∷ bytes) h k all =
    let label = list_label kind in
    let column = next_column (length (value_head name) + length label) in
    let digits = encode_lower (byte ∷ []) ++ line_rest column bytes in
    let more = returned_lines (further_lines column bytes) in
    let rest = label ++ (digits ++ 13 ∷ []) in
    let shape : (value_head name ++ (label ++ digits)) ++ 13 ∷ [] ≡ value_head name ++ rest = append_assoc (value_head name) (label ++ digits) (13 ∷ []) ∙ ap (λ xs. value_head name ++ xs) (append_assoc label digits (13 ∷ [])) in
    inr (byte ∷ bytes, (value_head name ++ rest, rest, more, ap (λ l. l ∷ more) shape, head_read name rest h, (label, digits ++ 13 ∷ [], refl, type_read kind k, inr (read_bytes column byte bytes all.0 all.1 [] tt))), refl)

pub value_read : (value : Value) → IsValueOfLimits value → HasNoZero value.name → IsValue false (returned_lines (value_lines value)) value.name value.kind value.«data»
value_read value v h =
    let name = value.name in
    let kind = value.kind in
    let bytes = value.«data» in
    let head = value_head name in
    let Reads : List (List ℕ) → Type 0 = λ lines. IsValue false (returned_lines lines) name kind bytes in
    by_test Reads (kind == 1 && is_plain_text bytes) ((head ++ quoted (units_of (front_units bytes))) ∷ []) (cond (kind == 4 && length bytes == 4) ((head ++ number_text (from_le_bytes w32 bytes)) ∷ []) (list_lines head kind bytes))
    (λ is_text. let two = both_true (kind == 1) (is_plain_text bytes) is_text in text_value name kind bytes h ((Decides-eqb kind 1).0 two.0) (plain_read bytes v.bytes two.1))
    (λ no_text. by_test Reads (kind == 4 && length bytes == 4) ((head ++ number_text (from_le_bytes w32 bytes)) ∷ []) (list_lines head kind bytes)
    (λ is_number. let two = both_true (kind == 4) (length bytes == 4) is_number in number_value name kind bytes h ((Decides-eqb kind 4).0 two.0) (number_read bytes v.bytes ((Decides-eqb (length bytes) 4).0 two.1)))
    (λ other. list_value name kind bytes h v.kind v.bytes))

-- what holds of their texts
module _ (G : List ℕ → Type 0) (t : AreTexts G) where
  quoted_text : (text : List ℕ) → G text → G (quoted text)
  quoted_text text g = t.both (34 ∷ []) (flat_map escaped_unit text ++ 34 ∷ []) (t.prints (34 ∷ []) (refl, tt)) (t.both (flat_map escaped_unit text) (34 ∷ []) (t.escaped text g) (t.prints (34 ∷ []) (refl, tt)))

  head_text : (name : List ℕ) → G name → G (value_head name)
  head_text name g =
      t.both (value_name_text name) (61 ∷ []) (by_test G (length name == 0) (64 ∷ []) (quoted name) (λ e. t.prints (64 ∷ []) (refl, tt)) (λ e. quoted_text name g)) (t.prints (61 ∷ []) (refl, tt))

  label_text : (kind : ℕ) → kind < 2 ^ 32 → G (list_label kind)
  label_text kind h = by_test G (kind == 3) (codes "hex:") (codes "hex(" ++ digits 16 false kind ++ codes "):")
      (λ e. t.prints (codes "hex:") (refl, (refl, (refl, (refl, tt)))))
      (λ e. t.both (codes "hex(" ++ digits 16 false kind) (codes "):") (t.both (codes "hex(") (digits 16 false kind) (t.prints (codes "hex(") (refl, (refl, (refl, (refl, tt))))) (t.prints (digits 16 false kind) (kind_digits kind h).1)) (t.prints (codes "):") (refl, (refl, tt))))

  list_texts : (head : List ℕ) (kind : ℕ) (bytes : List ℕ) → G head → kind < 2 ^ 32 → AllByRecursion (λ b. b < 256) bytes → AllByRecursion G (list_lines head kind bytes)
  list_texts head kind [] h k all = (t.both head (list_label kind ++ []) h (t.both (list_label kind) [] (label_text kind k) (t.prints [] tt)), tt)
  list_texts head kind (byte ∷ bytes) h k all =
      let column = next_column (length head + length (list_label kind)) in
      let digits = encode_lower (byte ∷ []) in
      let rest = line_rest column bytes in (
        t.both head (list_label kind ++ (digits ++ rest)) h (t.both (list_label kind) (digits ++ rest) (label_text kind k) (t.both digits rest (t.prints digits (bytes_printable (byte ∷ []) (all.0, tt))) (t.prints rest (rest_printable column bytes all.1)))),
        all_then Printable G t.prints (further_lines column bytes) (further_printable column bytes all.1),
      )

  pub value_texts : (value : Value) → IsValueOfLimits value → G value.name → AllByRecursion G (value_lines value)
  value_texts value v h =
      let kind = value.kind in
      let bytes = value.«data» in
      let head = value_head value.name in
      let text = units_of (front_units bytes) in
      let number = number_text (from_le_bytes w32 bytes) in
      by_test (AllByRecursion G) (kind == 1 && is_plain_text bytes) ((head ++ quoted text) ∷ []) (cond (kind == 4 && length bytes == 4) ((head ++ number) ∷ []) (list_lines head kind bytes))
      (λ is_text. let two = both_true (kind == 1) (is_plain_text bytes) is_text in let p = plain_read bytes v.bytes two.1 in (t.both head (quoted text) (head_text value.name h) (quoted_text text (t.prints text p.units)), tt))
      (λ no_text. by_test (AllByRecursion G) (kind == 4 && length bytes == 4) ((head ++ number) ∷ []) (list_lines head kind bytes)
      (λ is_number.
      (t.both head number (head_text value.name h) (t.both (codes "dword:") (encode_lower (to_be_bytes w32 (from_le_bytes w32 bytes))) (t.prints (codes "dword:") (refl, (refl, (refl, (refl, (refl, (refl, tt))))))) (t.prints _ (bytes_printable _ (be_bytes (from_le_bytes w32 bytes))))), tt))
      (λ other. list_texts head kind bytes (head_text value.name h) v.kind v.bytes))

-- how many there are
escaped_length : (text : List ℕ) → length (flat_map escaped_unit text) ≤ 2 * length text
escaped_length [] = omega arith
escaped_length (u ∷ text) =
    let one : length (escaped_unit u) ≤ 2 = by_test (λ xs. length xs ≤ 2) (u == 34 || u == 92) (92 ∷ u ∷ []) (u ∷ []) (λ e. omega arith) (λ e. omega arith) in
    let whole = length-append (escaped_unit u) (flat_map escaped_unit text) in
    let rest = escaped_length text in
    omega (arith, one, whole, rest)

quoted_length : (text : List ℕ) → length (quoted text) ≤ 2 * length text + 2
quoted_length text =
    let inner = escaped_length text in
    let whole = length-append (flat_map escaped_unit text) (34 ∷ []) in
    omega (arith, inner, whole)

head_length : (name : List ℕ) → length (value_head name) ≤ 2 * length name + 3
head_length name =
    let one : length (value_name_text name) ≤ 2 * length name + 2 = by_test (λ xs. length xs ≤ 2 * length name + 2) (length name == 0) (64 ∷ []) (quoted name) (λ e. omega arith) (λ e. quoted_length name) in
    let whole = length-append (value_name_text name) (61 ∷ []) in
    omega (arith, one, whole)

label_length : (kind : ℕ) → kind < 2 ^ 32 → length (list_label kind) ≤ 14
label_length kind h = by_test (λ xs. length xs ≤ 14) (kind == 3) (codes "hex:") (codes "hex(" ++ digits 16 false kind ++ codes "):") (λ e. omega arith)
    (λ e. let few = let number = (kind_digits kind h).0 in number.few in let whole = length-append (codes "hex(" ++ digits 16 false kind) (codes "):") in let front = length-append (codes "hex(") (digits 16 false kind) in omega (arith, few, whole, front))

units_length : (bytes : List ℕ) → length (units_of bytes) ≤ length bytes
units_length [] = omega arith
units_length (low ∷ []) = omega arith
units_length (low ∷ high ∷ bytes) = let rest = units_length bytes in omega (arith, rest)

one_line_length : (head text : List ℕ) → grammar.units_of (returned_lines ((head ++ text) ∷ [])) ≡ length head + length text + 1
one_line_length head text =
    let whole = length-append (head ++ text) (13 ∷ []) in
    let parts = length-append head text in
    omega (arith, whole, parts)

list_length : (head : List ℕ) (kind : ℕ) (bytes : List ℕ) → kind < 2 ^ 32 → length head ≤ 131_073 → length bytes ≤ MOST_VALUE_BYTES → grammar.units_of (returned_lines (list_lines head kind bytes)) ≤ MOST_ELEMENT_BYTES
list_length head kind [] k h b =
    let label = label_length kind k in
    let whole = one_line_length head (list_label kind ++ []) in
    let none = length-append (list_label kind) [] in
    omega (arith, label, whole, none, h)
list_length head kind (byte ∷ bytes) k h b =
    let label = label_length kind k in
    let before = length head + length (list_label kind) in
    let column = next_column before in
    let digits = encode_lower (byte ∷ []) in
    let next = flat_map next_byte (at_columns column bytes) in
    let whole = units_of_text (head ++ (list_label kind ++ (digits ++ line_rest column bytes))) (further_lines column bytes) in
    let text = ap length (list_lines_text head kind (byte ∷ bytes)) in
    let one = length-append (head ++ (list_label kind ++ (digits ++ next))) (13 ∷ 10 ∷ []) in
    let two = length-append head (list_label kind ++ (digits ++ next)) in
    let three = length-append (list_label kind) (digits ++ next) in
    let four = length-append digits next in
    let five = pair_length byte in
    let six = bytes_length before bytes in
    omega (arith, label, whole, text, one, two, three, four, five, six, h, b)

pub value_length : (value : Value) → IsValueOfLimits value → grammar.units_of (returned_lines (value_lines value)) ≤ MOST_ELEMENT_BYTES
value_length value v =
    let kind = value.kind in
    let bytes = value.«data» in
    let head = value_head value.name in
    let text = units_of (front_units bytes) in
    let number = number_text (from_le_bytes w32 bytes) in
    let Fits : List (List ℕ) → Type 0 = λ lines. grammar.units_of (returned_lines lines) ≤ MOST_ELEMENT_BYTES in
    let short = v.short in
    let few = v.few in
    let head_short = head_length value.name in
    by_test Fits (kind == 1 && is_plain_text bytes) ((head ++ quoted text) ∷ []) (cond (kind == 4 && length bytes == 4) ((head ++ number) ∷ []) (list_lines head kind bytes))
    (λ is_text. let whole = one_line_length head (quoted text) in let q = quoted_length text in let u = units_length (front_units bytes) in let f = front_length bytes in omega (arith, whole, q, u, f, head_short, short, few))
    (λ no_text. by_test Fits (kind == 4 && length bytes == 4) ((head ++ number) ∷ []) (list_lines head kind bytes)
    (λ is_number. let whole = one_line_length head number in let eight = number_length (from_le_bytes w32 bytes) in omega (arith, whole, eight, head_short, short))
    (λ other. list_length head kind bytes v.kind (omega (arith, head_short, short)) few))
  where
    front_length : (xs : List ℕ) → length (front_units xs) ≤ length xs
    front_length xs = take_length (length xs - 2) xs
      where
        take_length : (n : ℕ) (ys : List ℕ) → length (take n ys) ≤ length ys
        take_length zero ys = omega arith
        take_length (suc n) [] = omega arith
        take_length (suc n) (y ∷ ys) = let rest = take_length n ys in omega (arith, rest)

    number_length : (n : ℕ) → length (number_text n) ≤ 14
    number_length n = let long = eight_long (byte_at 3 n) (byte_at 2 n) (byte_at 1 n) (byte_at 0 n) in omega (arith, long)
