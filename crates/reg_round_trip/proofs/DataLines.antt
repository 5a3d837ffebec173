-- A list of bytes as lines of a file, as it is written and as the grammar reads it.
use Rattle.std.proofs.Common.{◌≡◌, ℕ, ◌+◌, ◌*◌, ◌<◌, ◌≤◌, Bool, true, false, cond, List, [], ◌∷◌, ◌++◌, length, refl, sym, ◌∙◌, ap, subst, arith, append_assoc, append-nil}
use Rattle.std.specs.Prelude.{◌==◌, nat_lt}
use Rattle.std.specs.List.{AllByRecursion, flat_map}
use Rattle.std.proofs.lemmas.List.{length-append}
use Rattle.std.proofs.lemmas.Bool.Decides.{nat_tests}
use Rattle.hex.specs.Hex.{encode_lower}
use Rattle.reg_names.specs.Printable.{is_printable}
use Rattle.reg_export.specs.RegTexts.{next_column, next_byte, at_columns}
use Rattle.reg_file.specs.Grammar.{AreBlanks, IsPair, IsBrokenLine, AreBytes}
use Rattle.reg_round_trip.proofs.Units.{all_both, by_test}
use Rattle.reg_round_trip.proofs.HexText.{byte_pair, bytes_printable, pair_length}
use Rattle.reg_round_trip.proofs.TextLines.{text_of, returned_lines, return_tail}

-- what stands on a line behind a byte, and the further lines, if the next byte stands at this column
abbrev pub line_rest : ℕ → List ℕ → List ℕ
line_rest column [] = []
line_rest column (byte ∷ bytes) = cond (column == 2) (44 ∷ 92 ∷ []) (44 ∷ (encode_lower (byte ∷ []) ++ line_rest (next_column column) bytes))

abbrev pub further_lines : ℕ → List ℕ → List (List ℕ)
further_lines column [] = []
further_lines column (byte ∷ bytes) =
    cond (column == 2) ((32 ∷ 32 ∷ (encode_lower (byte ∷ []) ++ line_rest (next_column column) bytes)) ∷ further_lines (next_column column) bytes) (further_lines (next_column column) bytes)

-- the text of these lines is that of the bytes
pub middle : (digits rest further next end : List ℕ) → (rest ++ end) ++ further ≡ next ++ end → ((digits ++ rest) ++ end) ++ further ≡ (digits ++ next) ++ end
middle digits rest further next end e =
    ap (λ xs. xs ++ further) (append_assoc digits rest end) ∙ append_assoc digits (rest ++ end) further ∙ ap (λ xs. digits ++ xs) e ∙ sym (append_assoc digits next end)

one_more : (test : Bool) (digits rest next : List ℕ) (further : List (List ℕ)) → (rest ++ 13 ∷ 10 ∷ []) ++ text_of further ≡ next ++ 13 ∷ 10 ∷ []
    → (cond test (44 ∷ 92 ∷ []) (44 ∷ (digits ++ rest)) ++ 13 ∷ 10 ∷ []) ++ text_of (cond test ((32 ∷ 32 ∷ (digits ++ rest)) ∷ further) further) ≡ ((cond test (44 ∷ 92 ∷ 13 ∷ 10 ∷ 32 ∷ 32 ∷ []) (44 ∷ []) ++ digits) ++ next) ++ 13 ∷ 10 ∷ []
one_more true digits rest next further e = ap (λ xs. 44 ∷ 92 ∷ 13 ∷ 10 ∷ 32 ∷ 32 ∷ xs) (middle digits rest (text_of further) next (13 ∷ 10 ∷ []) e)
one_more false digits rest next further e = ap (λ xs. 44 ∷ xs) (middle digits rest (text_of further) next (13 ∷ 10 ∷ []) e)

pub rest_text : (column : ℕ) (bytes : List ℕ) → (line_rest column bytes ++ 13 ∷ 10 ∷ []) ++ text_of (further_lines column bytes) ≡ flat_map next_byte (at_columns column bytes) ++ 13 ∷ 10 ∷ []
rest_text column [] = refl
rest_text column (byte ∷ bytes) =
    one_more (column == 2) (encode_lower (byte ∷ [])) (line_rest (next_column column) bytes) (flat_map next_byte (at_columns (next_column column) bytes)) (further_lines (next_column column) bytes) (rest_text (next_column column) bytes)

-- the grammar reads the bytes back
one_broken : (blanks digits : List ℕ) (byte : ℕ) → AreBlanks blanks → IsPair digits byte → IsBrokenLine ((blanks ++ (digits ++ 44 ∷ 92 ∷ [])) ++ 13 ∷ []) (byte ∷ [])
one_broken blanks digits byte b p =
    (blanks, digits, 92 ∷ 13 ∷ [], append_assoc blanks (digits ++ 44 ∷ 92 ∷ []) (13 ∷ []) ∙ ap (λ xs. blanks ++ xs) (append_assoc digits (44 ∷ 92 ∷ []) (13 ∷ [])), b, p, ([], 13 ∷ [], refl, tt, return_tail))

-- a byte in front of others on the same line
onto_bytes : (blanks digits rest : List ℕ) (lines : List (List ℕ)) (byte next : ℕ) (bytes : List ℕ) → AreBlanks blanks → IsPair digits byte
    → AreBytes (rest ∷ lines) (next ∷ bytes) → AreBytes ((blanks ++ (digits ++ 44 ∷ rest)) ∷ lines) (byte ∷ next ∷ bytes)
onto_bytes blanks digits rest [] byte next bytes b p a = (blanks, digits, rest, refl, b, p, a)
onto_bytes blanks digits rest (line ∷ lines) byte next bytes b p a = (byte ∷ a.0, a.1, (blanks, digits, rest, refl, b, p, a.2), a.3, ap (λ xs. byte ∷ xs) a.4)

one_line : (blanks digits rest : List ℕ) → (blanks ++ (digits ++ 44 ∷ rest)) ++ 13 ∷ [] ≡ blanks ++ (digits ++ 44 ∷ (rest ++ 13 ∷ []))
one_line blanks digits rest = append_assoc blanks (digits ++ 44 ∷ rest) (13 ∷ []) ∙ ap (λ xs. blanks ++ xs) (append_assoc digits (44 ∷ rest) (13 ∷ []))

last_line : (blanks digits : List ℕ) → (blanks ++ (digits ++ [])) ++ 13 ∷ [] ≡ blanks ++ (digits ++ 13 ∷ [])
last_line blanks digits = append_assoc blanks (digits ++ []) (13 ∷ []) ∙ ap (λ xs. blanks ++ (xs ++ 13 ∷ [])) (append-nil digits)

read_more : (test : Bool) (blanks digits more rest : List ℕ) (further : List (List ℕ)) (byte next : ℕ) (bytes : List ℕ) → AreBlanks blanks → IsPair digits byte
    → ((front : List ℕ) → AreBlanks front → AreBytes (returned_lines ((front ++ (more ++ rest)) ∷ further)) (next ∷ bytes))
    → AreBytes (returned_lines ((blanks ++ (digits ++ cond test (44 ∷ 92 ∷ []) (44 ∷ (more ++ rest)))) ∷ cond test ((32 ∷ 32 ∷ (more ++ rest)) ∷ further) further)) (byte ∷ next ∷ bytes)
read_more true blanks digits more rest further byte next bytes b p a = (byte ∷ [], next ∷ bytes, one_broken blanks digits byte b p, a (32 ∷ 32 ∷ []) (refl, (refl, tt)), refl)
read_more false blanks digits more rest further byte next bytes b p a =
    subst (λ line. AreBytes (line ∷ returned_lines further) (byte ∷ next ∷ bytes)) (sym (one_line blanks digits (more ++ rest))) (onto_bytes blanks digits ((more ++ rest) ++ 13 ∷ []) (returned_lines further) byte next bytes b p (a [] tt))

pub read_bytes : (column byte : ℕ) (bytes : List ℕ) → byte < 256 → AllByRecursion (λ b. b < 256) bytes → (blanks : List ℕ) → AreBlanks blanks
    → AreBytes (returned_lines ((blanks ++ (encode_lower (byte ∷ []) ++ line_rest column bytes)) ∷ further_lines column bytes)) (byte ∷ bytes)
read_bytes column byte [] h all blanks b = (blanks, encode_lower (byte ∷ []), 13 ∷ [], last_line blanks (encode_lower (byte ∷ [])), b, byte_pair byte h, return_tail)
read_bytes column byte (next ∷ bytes) h all blanks b =
    read_more (column == 2) blanks (encode_lower (byte ∷ [])) (encode_lower (next ∷ [])) (line_rest (next_column column) bytes) (further_lines (next_column column) bytes) byte next bytes b (byte_pair byte h)
    (λ front f. read_bytes (next_column column) next bytes all.0 all.1 front f)

-- all units of these lines are printable
abbrev Printable : List ℕ → Type 0
Printable units = AllByRecursion (λ u. is_printable u ≡ true) units

rest_by_test : (test : Bool) (digits rest : List ℕ) → Printable digits → Printable rest → Printable (cond test (44 ∷ 92 ∷ []) (44 ∷ (digits ++ rest)))
rest_by_test true digits rest d r = (refl, (refl, tt))
rest_by_test false digits rest d r = (refl, all_both (λ u. is_printable u ≡ true) digits rest d r)

pub rest_printable : (column : ℕ) (bytes : List ℕ) → AllByRecursion (λ b. b < 256) bytes → Printable (line_rest column bytes)
rest_printable column [] all = tt
rest_printable column (byte ∷ bytes) all =
    rest_by_test (column == 2) (encode_lower (byte ∷ [])) (line_rest (next_column column) bytes) (bytes_printable (byte ∷ []) (all.0, tt)) (rest_printable (next_column column) bytes all.1)

further_by_test : (test : Bool) (digits rest : List ℕ) (further : List (List ℕ)) → Printable digits → Printable rest → AllByRecursion Printable further → AllByRecursion Printable (cond test ((32 ∷ 32 ∷ (digits ++ rest)) ∷ further) further)
further_by_test true digits rest further d r f = ((refl, (refl, all_both (λ u. is_printable u ≡ true) digits rest d r)), f)
further_by_test false digits rest further d r f = f

pub further_printable : (column : ℕ) (bytes : List ℕ) → AllByRecursion (λ b. b < 256) bytes → AllByRecursion Printable (further_lines column bytes)
further_printable column [] all = tt
further_printable column (byte ∷ bytes) all =
    further_by_test (column == 2) (encode_lower (byte ∷ [])) (line_rest (next_column column) bytes) (further_lines (next_column column) bytes) (bytes_printable (byte ∷ []) (all.0, tt)) (rest_printable (next_column column) bytes all.1) (further_printable (next_column column) bytes all.1)

-- how long the text is: 16 fifteenths of 3 units for a byte, since a break comes after 25 bytes at least
separator_length : (test : Bool) (digits rest : List ℕ) → length digits ≡ 2 → length ((cond test (44 ∷ 92 ∷ 13 ∷ 10 ∷ 32 ∷ 32 ∷ []) (44 ∷ []) ++ digits) ++ rest) ≡ cond test 8 3 + length rest
separator_length true digits rest e = let whole = length-append digits rest in omega (arith, whole, e)
separator_length false digits rest e = let whole = length-append digits rest in omega (arith, whole, e)

at_break : (before byte : ℕ) (bytes : List ℕ) → 15 * length (flat_map next_byte (at_columns (next_column 2) bytes)) ≤ 48 * length bytes + 2 → nat_lt 76 (before + 3) ≡ true
    → 15 * length (flat_map next_byte (at_columns 2 (byte ∷ bytes))) ≤ 48 * length (byte ∷ bytes) + before
at_break before byte bytes rest e =
    let far : 74 ≤ before = grind (arith, nat_tests, e) in
    let long = separator_length true (encode_lower (byte ∷ [])) (flat_map next_byte (at_columns (next_column 2) bytes)) (pair_length byte) in
    omega (arith, far, long, rest)

at_next : (before byte : ℕ) (bytes : List ℕ) → 15 * length (flat_map next_byte (at_columns (next_column (before + 3)) bytes)) ≤ 48 * length bytes + (before + 3)
    → 15 * length (flat_map next_byte (at_columns (before + 3) (byte ∷ bytes))) ≤ 48 * length (byte ∷ bytes) + before
at_next before byte bytes rest =
    let other : (before + 3 == 2) ≡ false = grind (arith, nat_tests) in
    let long = separator_length (before + 3 == 2) (encode_lower (byte ∷ [])) (flat_map next_byte (at_columns (next_column (before + 3)) bytes)) (pair_length byte) in
    let three : ◌≡◌ {A = ℕ} (cond (before + 3 == 2) 8 3) 3 = ap (λ t. cond t 8 3) other in
    omega (arith, long, three, rest)

pub bytes_length : (before : ℕ) (bytes : List ℕ) → 15 * length (flat_map next_byte (at_columns (next_column before) bytes)) ≤ 48 * length bytes + before
bytes_length before [] = omega arith
bytes_length before (byte ∷ bytes) = by_test (λ c. 15 * length (flat_map next_byte (at_columns c (byte ∷ bytes))) ≤ 48 * length (byte ∷ bytes) + before) (nat_lt 76 (before + 3)) 2 (before + 3)
    (λ far. at_break before byte bytes (bytes_length 2 bytes) far) (λ near. at_next before byte bytes (bytes_length (before + 3) bytes))
