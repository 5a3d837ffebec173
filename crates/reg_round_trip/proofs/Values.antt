-- The lines of a value, as they are written and as the grammar reads them.
use Rattle.std.proofs.Common.{◌≡◌, ◌≢◌, ℕ, zero, suc, ◌+◌, ◌%◌, ◌-◌, ◌<◌, ◌^◌, Bool, true, false, cond, ◌&&◌, List, [], ◌∷◌, ◌++◌, length, take, refl, sym, ◌∙◌, ap, ap₂, inl, inr, arith, append_assoc, append-nil, codes}
use Rattle.std.specs.Prelude.{◌==◌}
use Rattle.std.specs.List.{AllByRecursion, list_all, flat_map}
use Rattle.std.specs.Fmt.{digits}
use Rattle.std.specs.Int.{w16, w32, to_le_bytes, from_le_bytes, byte_at}
use Rattle.std.proofs.Math.Dec.{eqb-suc-zero}
use Rattle.std.proofs.lemmas.List.{length-append}
use Rattle.std.proofs.lemmas.Slice.Eq.{ends_is}
use Rattle.std.proofs.lemmas.Bool.Decides.{Decides-eqb}
use Rattle.hex.specs.Hex.{encode_lower}
use Rattle.reg_names.specs.Printable.{is_printable}
use Rattle.reg_tree_parts.specs.declared.value.Value.{Value}
use Rattle.reg_export.specs.ByteUnits.{units_of, are_whole, ends_in_zero, front_units, is_plain_text}
use Rattle.reg_export.specs.RegTexts.{escaped_unit, quoted, next_column, next_byte, at_columns, list_label, list_text, number_text, value_head, reg_value_line}
use Rattle.reg_file.specs.Reading.{text_data}
use Rattle.reg_file.specs.Grammar.{HasNoZero, IsHead, IsType}
use Rattle.reg_round_trip.proofs.Units.{all_then, all_pass, both_true, by_test, not_false}
use Rattle.reg_round_trip.proofs.HexText.{kind_digits}
use Rattle.reg_round_trip.proofs.TextLines.{text_of}
use Rattle.reg_round_trip.proofs.DataLines.{line_rest, further_lines, middle, rest_text}

abbrev pub Printable : List ℕ → Type 0
Printable units = AllByRecursion (λ u. is_printable u ≡ true) units

-- the lines of a list behind the head of its value
abbrev pub list_lines : List ℕ → ℕ → List ℕ → List (List ℕ)
list_lines head kind [] = (head ++ (list_label kind ++ [])) ∷ []
list_lines head kind (byte ∷ bytes) =
    (head ++ (list_label kind ++ (encode_lower (byte ∷ []) ++ line_rest (next_column (length head + length (list_label kind))) bytes))) ∷ further_lines (next_column (length head + length (list_label kind))) bytes

abbrev pub data_lines : List ℕ → ℕ → List ℕ → List (List ℕ)
data_lines head kind bytes =
    cond (kind == 1 && is_plain_text bytes) ((head ++ quoted (units_of (front_units bytes))) ∷ [])
    (cond (kind == 4 && length bytes == 4) ((head ++ number_text (from_le_bytes w32 bytes)) ∷ []) (list_lines head kind bytes))

abbrev pub value_lines : Value → List (List ℕ)
value_lines value = data_lines (value_head value.name) value.kind value.«data»

-- their text is that of the value
one_text : (text : List ℕ) → text_of (text ∷ []) ≡ text ++ 13 ∷ 10 ∷ []
one_text text = append-nil (text ++ 13 ∷ 10 ∷ [])

pub list_lines_text : (head : List ℕ) (kind : ℕ) (bytes : List ℕ) → text_of (list_lines head kind bytes) ≡ (head ++ list_text (length head) kind bytes) ++ 13 ∷ 10 ∷ []
list_lines_text head kind [] = one_text (head ++ (list_label kind ++ []))
list_lines_text head kind (byte ∷ bytes) =
    let column = next_column (length head + length (list_label kind)) in
    let digits = encode_lower (byte ∷ []) in
    let rest = line_rest column bytes in
    let next = flat_map next_byte (at_columns column bytes) in
    let further = text_of (further_lines column bytes) in
    let end : List ℕ = 13 ∷ 10 ∷ [] in
    middle head (list_label kind ++ (digits ++ rest)) further (list_label kind ++ (digits ++ next)) end (middle (list_label kind) (digits ++ rest) further (digits ++ next) end (middle digits rest further next end (rest_text column bytes)))

by_kind : (test other : Bool) (head text number list : List ℕ) (lines : List (List ℕ)) → text_of lines ≡ (head ++ list) ++ 13 ∷ 10 ∷ []
    → text_of (cond test ((head ++ text) ∷ []) (cond other ((head ++ number) ∷ []) lines)) ≡ (head ++ cond test text (cond other number list)) ++ 13 ∷ 10 ∷ []
by_kind true other head text number list lines e = one_text (head ++ text)
by_kind false true head text number list lines e = one_text (head ++ number)
by_kind false false head text number list lines e = e

pub value_text : (value : Value) → text_of (value_lines value) ≡ reg_value_line value
value_text value =
    let head = value_head value.name in
    by_kind (value.kind == 1 && is_plain_text value.«data») (value.kind == 4 && length value.«data» == 4) head (quoted (units_of (front_units value.«data»))) (number_text (from_le_bytes w32 value.«data»)) (list_text (length head) value.kind value.«data»)
    (list_lines head value.kind value.«data») (list_lines_text head value.kind value.«data»)

-- the head is read
pub head_read : (name rest : List ℕ) → HasNoZero name → IsHead (value_head name ++ rest) name rest
head_read [] rest h = record { before = []; between = []; behind = []; word = 64 ∷ 61 ∷ rest; parsed = refl; before_blanks = tt; between_blanks = tt; behind_blanks = tt; named = inl (refl, refl) }
head_read (unit ∷ units) rest h =
    let quotes = flat_map escaped_unit (unit ∷ units) in
    let shape : value_head (unit ∷ units) ++ rest ≡ 34 ∷ (quotes ++ 34 ∷ 61 ∷ rest) =
    ap (λ test. (cond test (codes "@") (quoted (unit ∷ units)) ++ 61 ∷ []) ++ rest) (eqb-suc-zero (length units))
    ∙ ap (λ xs. 34 ∷ xs) (append_assoc (quotes ++ 34 ∷ []) (61 ∷ []) rest ∙ append_assoc quotes (34 ∷ []) (61 ∷ rest)) in
    record { before = []; between = []; behind = []; word = value_head (unit ∷ units) ++ rest; parsed = refl; before_blanks = tt; between_blanks = tt; behind_blanks = tt; named = inr (shape, h) }

-- the type of a list is read
pub type_read : (kind : ℕ) → kind < 2 ^ 32 → IsType (list_label kind) kind
type_read kind h = by_test (λ word. IsType word kind) (kind == 3) (codes "hex:") (codes "hex(" ++ digits 16 false kind ++ codes "):")
    (λ three. inl (refl, (Decides-eqb kind 3).0 three)) (λ other. inr (digits 16 false kind, append_assoc (codes "hex(") (digits 16 false kind) (codes "):"), (kind_digits kind h).0))

-- data of two bytes for each unit are read back
unit_bytes : (low high : ℕ) → low < 256 → high < 256 → to_le_bytes w16 (from_le_bytes w16 (low ∷ high ∷ [])) ≡ low ∷ high ∷ []
unit_bytes low high l h =
    let number = from_le_bytes w16 (low ∷ high ∷ []) in
    let first : byte_at 0 number ≡ low = omega (arith, l, h) in
    let second : byte_at 1 number ≡ high = omega (arith, l, h) in
    ap₂ (λ x y. x ∷ y ∷ []) first second

pub units_back : (bytes : List ℕ) → AllByRecursion (λ b. b < 256) bytes → length bytes % 2 ≡ 0 → flat_map (to_le_bytes w16) (units_of bytes) ≡ bytes
units_back [] all even = refl
units_back (low ∷ []) all even = absurd (omega (arith, even))
units_back (low ∷ high ∷ bytes) all even =
    ap (λ xs. xs ++ flat_map (to_le_bytes w16) (units_of bytes)) (unit_bytes low high all.0 all.1.0) ∙ ap (λ xs. low ∷ high ∷ xs) (units_back bytes all.1.1 (omega (arith, even)))

pub all_front : (P : ℕ → Type 0) (n : ℕ) (bytes : List ℕ) → AllByRecursion P bytes → AllByRecursion P (take n bytes)
all_front P zero bytes all = tt
all_front P (suc n) [] all = tt
all_front P (suc n) (b ∷ bytes) all = (all.0, all_front P n bytes all.1)

pub record IsPlain (bytes : List ℕ) : Type 0 where
  pub units : Printable (units_of (front_units bytes))
  pub same : bytes ≡ text_data (units_of (front_units bytes))

pub plain_read : (bytes : List ℕ) → AllByRecursion (λ b. b < 256) bytes → is_plain_text bytes ≡ true → IsPlain bytes
plain_read bytes all h =
    let two = both_true (are_whole bytes && ends_in_zero bytes) (list_all is_printable (units_of (front_units bytes))) h in
    let one = both_true (are_whole bytes) (ends_in_zero bytes) two.0 in
    let front = front_units bytes in
    let ended : bytes ≡ front ++ 0 ∷ 0 ∷ [] = (ends_is Decides-eqb bytes (0 ∷ 0 ∷ []) _ refl).0 one.1 in
    let long : length bytes ≡ length front + 2 = ap length ended ∙ length-append front (0 ∷ 0 ∷ []) in
    let even : length bytes % 2 ≡ 0 = (Decides-eqb (length bytes % 2) 0).0 one.0 in
    record {
      units = all_pass is_printable (units_of front) two.1;
      same = ended ∙ ap (λ xs. xs ++ 0 ∷ 0 ∷ []) (sym (units_back front (all_front (λ b. b < 256) (length bytes - 2) bytes all) (omega (arith, long, even))));
    }

pub no_zero : (text : List ℕ) → Printable text → HasNoZero text
no_zero text all = all_then (λ u. is_printable u ≡ true) (λ u. u ≢ 0) (λ u h e. not_false (sym h ∙ ap is_printable e)) text all

-- data of a number are read back
pub record IsNumberOf (bytes : List ℕ) (number : ℕ) : Type 0 where
  pub small : number < 2 ^ 32
  pub same : bytes ≡ to_le_bytes w32 number

pub number_read : (bytes : List ℕ) → AllByRecursion (λ b. b < 256) bytes → length bytes ≡ 4 → IsNumberOf bytes (from_le_bytes w32 bytes)
number_read [] all four = absurd (omega (arith, four))
number_read (a ∷ []) all four = absurd (omega (arith, four))
number_read (a ∷ b ∷ []) all four = absurd (omega (arith, four))
number_read (a ∷ b ∷ c ∷ []) all four = absurd (omega (arith, four))
number_read (a ∷ b ∷ c ∷ d ∷ []) all four =
    let number = from_le_bytes w32 (a ∷ b ∷ c ∷ d ∷ []) in
    let h0 : a < 256 = all.0 in
    let h1 : b < 256 = all.1.0 in
    let h2 : c < 256 = all.1.1.0 in
    let h3 : d < 256 = all.1.1.1.0 in
    let first : a ≡ byte_at 0 number = omega (arith, h0, h1, h2, h3) in
    let second : b ≡ byte_at 1 number = omega (arith, h0, h1, h2, h3) in
    let third : c ≡ byte_at 2 number = omega (arith, h0, h1, h2, h3) in
    let fourth : d ≡ byte_at 3 number = omega (arith, h0, h1, h2, h3) in
    record { small = omega (arith, h0, h1, h2, h3); same = ap₂ (λ x xs. x ∷ xs) first (ap₂ (λ x xs. x ∷ xs) second (ap₂ (λ x y. x ∷ y ∷ []) third fourth)) }
number_read (a ∷ b ∷ c ∷ d ∷ e ∷ bytes) all four = absurd (omega (arith, four))
