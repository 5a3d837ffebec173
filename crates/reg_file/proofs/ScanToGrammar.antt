-- What a line comes to is what the grammar has.
use Rattle.std.proofs.Common.{◌≡◌, ℕ, ◌==◌, Bool, true, false, cond, List, [], ◌∷◌, ◌++◌, length, drop, Option, Some, None, refl, sym, ◌∙◌, ap, subst, inl, inr, append_assoc}
use Rattle.std.specs.Prelude.{codes, reverse}
use Rattle.std.specs.Int.{w32, to_le_bytes}
use Rattle.reg_file.specs.Scanning.{skip_blanks, is_tail, ends_statement, strip, from_bracket, number_at, QuoteScan, QuoteCloses, QuoteStaysOpen, NoQuote, quote_at, onto_quote, ListScan, ListEnds, ListGoesOn, NoList, Before, list_at, list_scan, onto_list, goes_on}
use Rattle.reg_file.specs.Reading.{text_data, text_scan, list_data, list_value, wrong_list, bytes_scan, number_scan, typed_list, kind_scan, kind_or_not, list_or_kind, number_or_list, typed_scan, data_scan, closed_name, name_at, equals_scan, value_scan, without_separator, key_between, closed_key, key_scan, first_scan, line_scan}
use Rattle.reg_file.specs.Grammar.{AreBlanks, IsNamed, IsHead, IsText, AreBytes, IsType, IsNumber, IsListValue, IsPlainValue, IsKeyLine, IsTail, quoted, IsPair, IsStatement, IsWrongList, MayGoOn}
use Rattle.reg_file.specs.declared.statement.Statement.TheVariants.{CreateKey, DeleteKey, SetValue, DeleteValue}
use Rattle.reg_file.specs.declared.scan.Pending.{Pending}
use Rattle.reg_file.specs.declared.scan.Pending.TheVariants.{Text, List as PendingList, WrongList}
use Rattle.reg_file.specs.declared.scan.Scan.{Scan}
use Rattle.reg_file.specs.declared.scan.Scan.TheVariants.{Nothing, Complete, GoesOn, NotUnderstood}
use Rattle.reg_file.proofs.BlankRuns.{by_test, same_unit, Skips, skips, tails, strips}
use Rattle.reg_file.proofs.QuotedText.{IsScanned, is_scanned}
use Rattle.reg_file.proofs.HexNumbers.{number_goes}
use Rattle.reg_file.proofs.ListLines.{IsListScanned, list_scanned}
use Rattle.reg_file.proofs.KeyLines.{path_is, IsBracketed, bracket_first, bracketed}

-- what ends a statement that goes on behind these lines
abbrev pub Ends : Bool → List (List ℕ) → Pending → Type 0
Ends old lines (Text name text) = (tail : List (List ℕ)) (back : List ℕ) → IsText tail back → IsPlainValue (lines ++ tail) name 1 (text_data (text ++ back))
Ends old lines (PendingList name kind bytes) = (tail : List (List ℕ)) (back : List ℕ) → AreBytes tail back → IsListValue (lines ++ tail) name kind (bytes ++ back)
Ends old lines WrongList = IsWrongList lines

-- what a scan says of the lines that it comes from
abbrev pub Means : Bool → List (List ℕ) → Scan → Type 0
Means old lines Nothing = (line : List ℕ) × (lines ≡ line ∷ []) × IsTail line
Means old lines (Complete statement) = IsStatement old lines statement
Means old lines (GoesOn pending) = Ends old lines pending
Means old lines NotUnderstood = Unit {0}

-- a list that ends
list_value_means : (old : Bool) (lines : List (List ℕ)) (name : List ℕ) (kind : ℕ) (bytes : List ℕ) → IsListValue lines name kind bytes → Means old lines (list_value old name kind bytes)
list_value_means old lines name kind bytes v = inr (bytes, v, refl)

wrong_list_means : (old : Bool) (front : List (List ℕ)) (line before rest : List ℕ) → line ≡ before ++ rest → Means old (front ++ line ∷ []) (wrong_list rest)
wrong_list_means old front line before rest e = by_test (Means old (front ++ line ∷ [])) (goes_on rest) (GoesOn WrongList) NotUnderstood (λ more. (front, line, before, rest, refl, e, more)) (λ no. tt)

-- a line ends with its data
head_tail : (line name data_line : List ℕ) → IsHead line name data_line → (front : List ℕ) × (line ≡ front ++ data_line)
head_tail line name data_line head = by_name head.named
  where
    behind : List ℕ → List ℕ
    behind word = head.before ++ (word ++ (head.between ++ 61 ∷ head.behind))

    joined : (word : List ℕ) → head.before ++ (word ++ (head.between ++ 61 ∷ (head.behind ++ data_line))) ≡ (head.before ++ (word ++ (head.between ++ 61 ∷ head.behind))) ++ data_line
    joined word =
        sym (append_assoc head.before (word ++ (head.between ++ 61 ∷ head.behind)) data_line
        ∙ ap (λ xs. head.before ++ xs) (append_assoc word (head.between ++ 61 ∷ head.behind) data_line ∙ ap (λ xs. word ++ xs) (append_assoc head.between (61 ∷ head.behind) data_line)))

    by_name : IsNamed head.word name (head.between ++ 61 ∷ (head.behind ++ data_line)) → (front : List ℕ) × (line ≡ front ++ data_line)
    by_name (inl (word, none)) = (head.before ++ ((64 ∷ []) ++ (head.between ++ 61 ∷ head.behind)), head.parsed ∙ ap (λ xs. head.before ++ xs) word ∙ joined (64 ∷ []))
    by_name (inr (word, some)) =
        let quote = 34 ∷ (quoted name ++ 34 ∷ []) in
        let tail = head.between ++ 61 ∷ (head.behind ++ data_line) in
        (head.before ++ (quote ++ (head.between ++ 61 ∷ head.behind)), head.parsed ∙ ap (λ xs. head.before ++ xs) (word ∙ ap (λ xs. 34 ∷ xs) (sym (append_assoc (quoted name) (34 ∷ []) tail))) ∙ joined quote)

-- where an entry may go on
pub may_go_on : (old : Bool) (lines : List (List ℕ)) (pending : Pending) → Ends old lines pending → MayGoOn old lines
may_go_on old lines (Text name text) more = inr (inl ((34 ∷ []) ∷ [], SetValue name 1 (text_data (text ++ [])), inl (more ((34 ∷ []) ∷ []) [] ([], refl, tt, nothing_left))))
  where
    nothing_left : IsTail []
    nothing_left = inl (record { blanks = []; are_blanks = tt; parsed = inl refl })
may_go_on old lines (PendingList name kind bytes) more =
    inr (inl ((48 ∷ 48 ∷ []) ∷ [], SetValue name kind (list_data old kind (bytes ++ 0 ∷ [])), inr (bytes ++ 0 ∷ [], more ((48 ∷ 48 ∷ []) ∷ []) (0 ∷ []) ([], 48 ∷ 48 ∷ [], [], refl, tt, zero_pair, nothing_left), refl)))
  where
    nothing_left : IsTail []
    nothing_left = inl (record { blanks = []; are_blanks = tt; parsed = inl refl })

    zero_pair : IsPair (48 ∷ 48 ∷ []) 0
    zero_pair = record { first = 48; second = 48; high = 0; low = 0; parsed = refl; high_is = refl; low_is = refl; value = refl }
may_go_on old lines WrongList more = inr (inr more)

module _ (old : Bool) (line name : List ℕ) where
  -- the first line of a list
  first_bytes_mean : (data_line word rest : List ℕ) (kind : ℕ) → IsHead line name data_line → data_line ≡ word ++ rest → IsType word kind → (scan : ListScan) → IsListScanned rest scan → Means old (line ∷ []) (bytes_scan old name kind rest scan)
  first_bytes_mean data_line word rest kind head e t (ListEnds bytes) s =
      list_value_means old (line ∷ []) name kind bytes (line, data_line, [], refl, head, (word, rest, e, t, inr s))
  first_bytes_mean data_line word rest kind head e t (ListGoesOn bytes) s = λ tail back b. more tail back b
    where
      more : (tail : List (List ℕ)) (back : List ℕ) → AreBytes tail back → IsListValue ((line ∷ []) ++ tail) name kind (bytes ++ back)
      more [] back b = absurd b
      more (next ∷ lines) back b = (line, data_line, next ∷ lines, refl, head, (word, rest, e, t, inr (bytes, back, s, b, refl)))
  first_bytes_mean data_line word rest kind head e t NoList s =
      let front = head_tail line name data_line head in
      wrong_list_means old [] line (front.0 ++ word) rest (front.1 ∙ ap (λ xs. front.0 ++ xs) e ∙ sym (append_assoc front.0 word rest))

  first_list_means : (data_line word rest : List ℕ) (kind : ℕ) → IsHead line name data_line → data_line ≡ word ++ rest → IsType word kind → Means old (line ∷ []) (bytes_scan old name kind rest (list_scan rest))
  first_list_means data_line word rest kind head e t =
      by_test (λ scan. Means old (line ∷ []) (bytes_scan old name kind rest scan)) (ends_statement rest) (ListEnds []) (list_at Before rest)
      (λ ended. list_value_means old (line ∷ []) name kind [] (line, data_line, [], refl, head, (word, rest, e, t, inl (rest, refl, tails rest ended, refl))))
      (λ some. first_bytes_mean data_line word rest kind head e t (list_at Before rest) (list_scanned rest))

  -- a list with a type
  kind_means : (data_line rest : List ℕ) → IsHead line name data_line → data_line ≡ codes "hex(" ++ rest → Means old (line ∷ []) (kind_scan old name (number_at rest))
  kind_means data_line rest head e = at_number (number_at rest) refl
    where
      at_list : (digits behind : List ℕ) (kind : ℕ) → rest ≡ digits ++ behind → IsNumber digits kind → (stripped : Option (List ℕ)) → strip (codes "):") behind ≡ stripped → Means old (line ∷ []) (typed_list old name kind stripped)
      at_list digits behind kind f n None g = tt
      at_list digits behind kind f n (Some list) g =
          first_list_means data_line (codes "hex(" ++ (digits ++ codes "):")) list kind head
          (e ∙ ap (λ xs. codes "hex(" ++ xs) (f ∙ ap (λ xs. digits ++ xs) (strips (codes "):") behind list g) ∙ sym (append_assoc digits (codes "):") list)) ∙ sym (append_assoc (codes "hex(") (digits ++ codes "):") list))
          (inr (digits, refl, n))

      at_number : (found : Option (ℕ × List ℕ)) → number_at rest ≡ found → Means old (line ∷ []) (kind_scan old name found)
      at_number None f = tt
      at_number (Some (kind, behind)) f = let n = number_goes rest kind behind f in at_list n.0 behind kind n.1 n.2 (strip (codes "):") behind) refl

  -- a number
  number_means : (data_line rest : List ℕ) → IsHead line name data_line → data_line ≡ codes "dword:" ++ rest → Means old (line ∷ []) (number_scan name (number_at rest))
  number_means data_line rest head e = at_number (number_at rest) refl
    where
      at_number : (found : Option (ℕ × List ℕ)) → number_at rest ≡ found → Means old (line ∷ []) (number_scan name found)
      at_number None f = tt
      at_number (Some (number, behind)) f =
          let n = number_goes rest number behind f in
          by_test (Means old (line ∷ [])) (ends_statement behind) (Complete (SetValue name 4 (to_le_bytes w32 number))) NotUnderstood
          (λ ended. inl (line, data_line, [], refl, head, inr (n.0, number, behind, e ∙ ap (λ xs. codes "dword:" ++ xs) n.1, refl, n.2, tails behind ended, refl, refl)))
          (λ no. tt)

  typed_means : (data_line : List ℕ) → IsHead line name data_line → Means old (line ∷ []) (typed_scan old name data_line)
  typed_means data_line head = at_number (strip (codes "dword:") data_line) refl
    where
      at_kind : (found : Option (List ℕ)) → strip (codes "hex(") data_line ≡ found → Means old (line ∷ []) (kind_or_not old name found)
      at_kind None f = tt
      at_kind (Some rest) f = kind_means data_line rest head (strips (codes "hex(") data_line rest f)

      at_list : (found : Option (List ℕ)) → strip (codes "hex:") data_line ≡ found → Means old (line ∷ []) (list_or_kind old name data_line found)
      at_list None f = at_kind (strip (codes "hex(") data_line) refl
      at_list (Some rest) f = first_list_means data_line (codes "hex:") rest 3 head (strips (codes "hex:") data_line rest f) (inl (refl, refl))

      at_number : (found : Option (List ℕ)) → strip (codes "dword:") data_line ≡ found → Means old (line ∷ []) (number_or_list old name data_line found)
      at_number None f = at_list (strip (codes "hex:") data_line) refl
      at_number (Some rest) f = number_means data_line rest head (strips (codes "dword:") data_line rest f)

  -- the first line of a text
  first_text_means : (units : List ℕ) → IsHead line name (34 ∷ units) → (scan : QuoteScan) → IsScanned units scan → Means old (line ∷ []) (text_scan name scan)
  first_text_means units head (QuoteCloses text rest) s =
      by_test (Means old (line ∷ [])) (ends_statement rest) (Complete (SetValue name 1 (text_data text))) NotUnderstood
      (λ ended. inl (line, 34 ∷ units, [], refl, head, inl (units, text, refl, (rest, s.0, s.1, tails rest ended), refl, refl)))
      (λ no. tt)
  first_text_means units head (QuoteStaysOpen text) s = λ tail back t. more tail back t
    where
      more : (tail : List (List ℕ)) (back : List ℕ) → IsText tail back → IsPlainValue ((line ∷ []) ++ tail) name 1 (text_data ((text ++ 10 ∷ []) ++ back))
      more [] back t = absurd t
      more (next ∷ lines) back t =
          (line, 34 ∷ units, next ∷ lines, refl, head, inl (units, text ++ 10 ∷ back, refl, (text, back, s.0, s.1, t, refl), refl, ap text_data (append_assoc text (10 ∷ []) back)))
  first_text_means units head NoQuote s = tt

  -- the data
  data_means : (data_line : List ℕ) → IsHead line name data_line → Means old (line ∷ []) (data_scan old name data_line)
  data_means [] head = tt
  data_means (unit ∷ units) head =
      by_test (Means old (line ∷ [])) (unit == 34) (text_scan name (quote_at false units)) (cond (unit == 45) (cond (ends_statement units) (Complete (DeleteValue name)) NotUnderstood) (typed_scan old name (unit ∷ units)))
      (λ quote. first_text_means units (subst (λ u. IsHead line name (u ∷ units)) (same_unit unit 34 quote) head) (quote_at false units) (is_scanned false units))
      (λ no_quote. by_test (Means old (line ∷ [])) (unit == 45) (cond (ends_statement units) (Complete (DeleteValue name)) NotUnderstood) (typed_scan old name (unit ∷ units))
      (λ minus. by_test (Means old (line ∷ [])) (ends_statement units) (Complete (DeleteValue name)) NotUnderstood
      (λ ended. (line, units, refl, subst (λ u. IsHead line name (u ∷ units)) (same_unit unit 45 minus) head, tails units ended))
      (λ no. tt))
      (λ typed. typed_means (unit ∷ units) head))

-- a name
abbrev NameMeans : List ℕ → Option (List ℕ × List ℕ) → Type 0
NameMeans word None = Unit {0}
NameMeans word (Some (name, rest)) = IsNamed word name rest

closed_means : (units : List ℕ) (scan : QuoteScan) → IsScanned units scan → NameMeans (34 ∷ units) (closed_name scan)
closed_means units (QuoteCloses name rest) s = inr (ap (λ xs. 34 ∷ xs) s.0, s.1)
closed_means units (QuoteStaysOpen name) s = tt
closed_means units NoQuote s = tt

name_means : (word : List ℕ) → NameMeans word (name_at word)
name_means [] = tt
name_means (unit ∷ units) =
    by_test (NameMeans (unit ∷ units)) (unit == 64) (Some ([], units)) (cond (unit == 34) (closed_name (quote_at false units)) None)
    (λ at. inl (ap (λ u. u ∷ units) (same_unit unit 64 at), refl))
    (λ other. by_test (NameMeans (unit ∷ units)) (unit == 34) (closed_name (quote_at false units)) None
    (λ quote. subst (λ u. NameMeans (u ∷ units) (closed_name (quote_at false units))) (sym (same_unit unit 34 quote)) (closed_means units (quote_at false units) (is_scanned false units)))
    (λ no. tt))

module _ (old : Bool) (line before word : List ℕ) (parsed : line ≡ before ++ word) (blanks : AreBlanks before) where
  equals_means : (name rest : List ℕ) → IsNamed word name rest → Means old (line ∷ []) (equals_scan old name (skip_blanks rest))
  equals_means name rest named = at_equals (skip_blanks rest) (skips rest)
    where
      head : (between behind data_line : List ℕ) → AreBlanks between → AreBlanks behind → rest ≡ between ++ 61 ∷ (behind ++ data_line) → IsHead line name data_line
      head between behind data_line b c e =
          record { before = before; between = between; behind = behind; word = word; parsed = parsed; before_blanks = blanks; between_blanks = b; behind_blanks = c; named = subst (IsNamed word name) e named }

      at_equals : (found : List ℕ) → Skips rest found → Means old (line ∷ []) (equals_scan old name found)
      at_equals [] s = tt
      at_equals (unit ∷ units) s =
          by_test (Means old (line ∷ [])) (unit == 61) (data_scan old name (skip_blanks units)) NotUnderstood
          (λ equals. let d = skips units in
          data_means old line name (skip_blanks units) (head s.blanks d.blanks (skip_blanks units) s.are_blanks d.are_blanks (s.parsed ∙ ap (λ u. s.blanks ++ u ∷ units) (same_unit unit 61 equals) ∙ ap (λ xs. s.blanks ++ 61 ∷ xs) d.parsed)))
          (λ no. tt)

  value_means : (found : Option (List ℕ × List ℕ)) → NameMeans word found → Means old (line ∷ []) (value_scan old found)
  value_means None n = tt
  value_means (Some (name, rest)) n = equals_means name rest n

-- a key
key_between_means : (old : Bool) (line inside : List ℕ) → IsKeyLine line inside → Means old (line ∷ []) (key_between inside)
key_between_means old line [] k = (line, [], refl, k, λ rest e. bad rest e, path_is [])
  where
    bad : (rest : List ℕ) → ◌≡◌ {A = List ℕ} [] (45 ∷ rest) → ⊥
    bad rest e = cc
key_between_means old line (unit ∷ units) k =
    by_test (Means old (line ∷ [])) (unit == 45) (Complete (DeleteKey (without_separator units))) (Complete (CreateKey (without_separator (unit ∷ units))))
    (λ minus. (line, units, refl, subst (λ u. IsKeyLine line (u ∷ units)) (same_unit unit 45 minus) k, path_is units))
    (λ other. (line, unit ∷ units, refl, k, λ rest e. no_minus rest (first rest e) other, path_is (unit ∷ units)))
  where
    first : (rest : List ℕ) → unit ∷ units ≡ 45 ∷ rest → unit ≡ 45
    first rest e = cc

    no_minus : (rest : List ℕ) → unit ≡ 45 → (unit == 45) ≡ false → ⊥
    no_minus rest e h = bad (sym (ap (λ u. u == 45) e) ∙ h)
      where
        bad : true ≡ false → ⊥
        bad k = cc

key_means : (old : Bool) (line before units : List ℕ) → line ≡ before ++ 91 ∷ units → AreBlanks before → Means old (line ∷ []) (key_scan units)
key_means old line before units e h = at_back (from_bracket (reverse units)) refl
  where
    key_line : (back : List ℕ) (b : IsBracketed units back) → IsTail b.end → IsKeyLine line (reverse back)
    key_line back b tail = record { before = before; end = b.end; parsed = e ∙ ap (λ xs. before ++ 91 ∷ xs) b.parsed; before_blanks = h; is_tail = tail; last = b.last }

    at_back : (back : List ℕ) → from_bracket (reverse units) ≡ back → Means old (line ∷ []) (closed_key back (drop (length back) units))
    at_back [] f = tt
    at_back (unit ∷ back) f =
        let b = bracketed units back (f ∙ ap (λ u. u ∷ back) (bracket_first (reverse units) unit back f)) in
        by_test (Means old (line ∷ [])) (ends_statement (drop (length (unit ∷ back)) units)) (key_between (reverse back)) NotUnderstood
        (λ tail. key_between_means old line (reverse back) (key_line back b (tails b.end (sym (ap ends_statement b.behind) ∙ tail))))
        (λ no. tt)

-- the first line of something
pub first_line_means : (old : Bool) (line : List ℕ) → Means old (line ∷ []) (line_scan old None line)
first_line_means old line = at_word (skip_blanks line) (skips line) refl
  where
    blank : (word : List ℕ) → skip_blanks line ≡ word → is_tail word ≡ true → IsTail line
    blank word e h = tails line (ap is_tail e ∙ h)

    at_word : (word : List ℕ) → Skips line word → skip_blanks line ≡ word → Means old (line ∷ []) (first_scan old word)
    at_word [] s e = (line, refl, blank [] e refl)
    at_word (unit ∷ units) s e =
        by_test (Means old (line ∷ [])) (is_tail (unit ∷ units)) Nothing (cond (unit == 91) (key_scan units) (value_scan old (name_at (unit ∷ units))))
        (λ ended. (line, refl, blank (unit ∷ units) e ended))
        (λ some. by_test (Means old (line ∷ [])) (unit == 91) (key_scan units) (value_scan old (name_at (unit ∷ units)))
        (λ bracket. key_means old line s.blanks units (s.parsed ∙ ap (λ u. s.blanks ++ u ∷ units) (same_unit unit 91 bracket)) s.are_blanks)
        (λ value. value_means old line s.blanks (unit ∷ units) s.parsed s.are_blanks (name_at (unit ∷ units)) (name_means (unit ∷ units))))

-- a further line
text_line_means : (old : Bool) (lines : List (List ℕ)) (line name text : List ℕ) → Ends old lines (Text name text) → (scan : QuoteScan) → IsScanned line scan → Means old (lines ++ line ∷ []) (text_scan name (onto_quote text scan))
text_line_means old lines line name text more (QuoteCloses back rest) s =
    by_test (Means old (lines ++ line ∷ [])) (ends_statement rest) (Complete (SetValue name 1 (text_data (text ++ back)))) NotUnderstood
    (λ ended. inl (more (line ∷ []) back (rest, s.0, s.1, tails rest ended)))
    (λ no. tt)
text_line_means old lines line name text more (QuoteStaysOpen front) s = λ tail back t. further tail back t
  where
    further : (tail : List (List ℕ)) (back : List ℕ) → IsText tail back → IsPlainValue ((lines ++ line ∷ []) ++ tail) name 1 (text_data (((text ++ front) ++ 10 ∷ []) ++ back))
    further [] back t = absurd t
    further (next ∷ tail) back t =
        let same : text ++ (front ++ 10 ∷ back) ≡ ((text ++ front) ++ 10 ∷ []) ++ back = sym (append_assoc text front (10 ∷ back)) ∙ sym (append_assoc (text ++ front) (10 ∷ []) back) in
        subst (λ units. IsPlainValue ((lines ++ line ∷ []) ++ next ∷ tail) name 1 (text_data units)) same
        (subst (λ all. IsPlainValue all name 1 (text_data (text ++ (front ++ 10 ∷ back)))) (sym (append_assoc lines (line ∷ []) (next ∷ tail))) (more (line ∷ next ∷ tail) (front ++ 10 ∷ back) (front, back, s.0, s.1, t, refl)))
text_line_means old lines line name text more NoQuote s = tt

list_line_means : (old : Bool) (lines : List (List ℕ)) (line name : List ℕ) (kind : ℕ) (bytes : List ℕ) → Ends old lines (PendingList name kind bytes) → (scan : ListScan) → IsListScanned line scan → Means old (lines ++ line ∷ []) (bytes_scan old name kind line (onto_list bytes scan))
list_line_means old lines line name kind bytes more (ListEnds back) s = list_value_means old (lines ++ line ∷ []) name kind (bytes ++ back) (more (line ∷ []) back s)
list_line_means old lines line name kind bytes more (ListGoesOn front) s = λ tail back b. further tail back b
  where
    further : (tail : List (List ℕ)) (back : List ℕ) → AreBytes tail back → IsListValue ((lines ++ line ∷ []) ++ tail) name kind ((bytes ++ front) ++ back)
    further [] back b = absurd b
    further (next ∷ tail) back b =
        subst (λ all. IsListValue ((lines ++ line ∷ []) ++ next ∷ tail) name kind all) (sym (append_assoc bytes front back))
        (subst (λ all. IsListValue all name kind (bytes ++ (front ++ back))) (sym (append_assoc lines (line ∷ []) (next ∷ tail))) (more (line ∷ next ∷ tail) (front ++ back) (front, back, s, b, refl)))
list_line_means old lines line name kind bytes more NoList s = wrong_list_means old lines line [] line refl

pub further_line_means : (old : Bool) (lines : List (List ℕ)) (line : List ℕ) (pending : Pending) → Ends old lines pending → Means old (lines ++ line ∷ []) (line_scan old (Some pending) line)
further_line_means old lines line (Text name text) more = text_line_means old lines line name text more (quote_at false line) (is_scanned false line)
further_line_means old lines line (PendingList name kind bytes) more = list_line_means old lines line name kind bytes more (list_at Before line) (list_scanned line)
further_line_means old lines line WrongList more = wrong_list_means old lines line [] line refl
