-- What the grammar has is what its lines come to.
use Rattle.std.proofs.Common.{◌≡◌, ◌≢◌, ℕ, Bool, true, false, cond, List, [], ◌∷◌, ◌++◌, Option, Some, None, refl, sym, ◌∙◌, ap, subst, inl, inr, append_assoc, arith}
use Rattle.std.specs.Prelude.{codes}
use Rattle.std.specs.Int.{w32, to_le_bytes}
use Rattle.reg_file.specs.Scanning.{is_blank, skip_blanks, is_tail, ends_statement, QuoteCloses, quote_at, onto_quote, ListEnds, ListGoesOn, NoList, Before, list_at, list_scan, onto_list}
use Rattle.reg_file.specs.Reading.{text_data, text_scan, list_value, bytes_scan, number_scan, typed_list, kind_scan, kind_or_not, list_or_kind, number_or_list, data_scan, closed_name, equals_scan, value_scan, first_scan, line_scan}
use Rattle.reg_file.specs.Grammar.{AreBlanks, IsTail, quoted, IsNamed, IsHead, IsText, AreBytes, IsList, IsType, IsNumber, IsListValue, IsPlainValue, IsStatement}
use Rattle.reg_file.specs.declared.statement.Statement.{Statement}
use Rattle.reg_file.specs.declared.statement.Statement.TheVariants.{CreateKey, DeleteKey, SetValue, DeleteValue}
use Rattle.reg_file.specs.declared.scan.Pending.{Pending}
use Rattle.reg_file.specs.declared.scan.Pending.TheVariants.{Text, List as PendingList}
use Rattle.reg_file.specs.declared.scan.Scan.{Scan}
use Rattle.reg_file.specs.declared.scan.Scan.TheVariants.{Nothing, Complete, GoesOn, NotUnderstood}
use Rattle.reg_file.proofs.BlankRuns.{is_or_not, skipped_to, tail_ends, tails, not_tail, stripped}
use Rattle.reg_file.proofs.QuotedText.{text_closes, text_stays_open}
use Rattle.reg_file.proofs.HexNumbers.{number_scanned, tail_no_digit}
use Rattle.reg_file.proofs.ListLines.{blanks_before, last_line_scanned, broken_line_scanned}
use Rattle.reg_file.proofs.KeyLines.{key_line_scanned, created, deleted}

-- lines come to a scan: each but the last goes on
abbrev pub Comes : Bool → Option Pending → List (List ℕ) → Scan → Type 0
Comes old pending [] scan = ⊥
Comes old pending (line ∷ []) scan = line_scan old pending line ≡ scan
Comes old pending (line ∷ next ∷ lines) scan = (more : Pending) × (line_scan old pending line ≡ GoesOn more) × Comes old (Some more) (next ∷ lines) scan

module _ (old : Bool) where
  -- an equals sign and the data, behind a name
  equals_scanned : (name between behind : List ℕ) (unit : ℕ) (rest : List ℕ) → AreBlanks between → AreBlanks behind → is_blank unit ≡ false → equals_scan old name (skip_blanks (between ++ 61 ∷ (behind ++ unit ∷ rest))) ≡ data_scan old name (unit ∷ rest)
  equals_scanned name between behind unit rest b c h =
      ap (equals_scan old name) (skipped_to between 61 (behind ++ unit ∷ rest) b refl) ∙ ap (data_scan old name) (skipped_to behind unit rest c h)

  at_name : (units : List ℕ) → first_scan old (64 ∷ units) ≡ equals_scan old [] (skip_blanks units)
  at_name units = ap (λ test. cond test Nothing (equals_scan old [] (skip_blanks units))) (not_tail 64 units (λ e. omega (arith, e)) (λ e. omega (arith, e)))

  at_quote : (units : List ℕ) → first_scan old (34 ∷ units) ≡ value_scan old (closed_name (quote_at false units))
  at_quote units = ap (λ test. cond test Nothing (value_scan old (closed_name (quote_at false units)))) (not_tail 34 units (λ e. omega (arith, e)) (λ e. omega (arith, e)))

  -- a line that begins with a name
  head_scanned : (line name : List ℕ) (unit : ℕ) (rest : List ℕ) → IsHead line name (unit ∷ rest) → is_blank unit ≡ false → line_scan old None line ≡ data_scan old name (unit ∷ rest)
  head_scanned line name unit rest head h = by_name head.named
    where
      tail : List ℕ
      tail = head.between ++ 61 ∷ (head.behind ++ unit ∷ rest)

      by_name : IsNamed head.word name (head.between ++ 61 ∷ (head.behind ++ unit ∷ rest)) → line_scan old None line ≡ data_scan old name (unit ∷ rest)
      by_name (inl (word, none)) =
          ap (line_scan old None) (head.parsed ∙ ap (λ xs. head.before ++ xs) word) ∙ ap (first_scan old) (skipped_to head.before 64 (head.between ++ 61 ∷ (head.behind ++ unit ∷ rest)) head.before_blanks refl)
          ∙ at_name (head.between ++ 61 ∷ (head.behind ++ unit ∷ rest)) ∙ equals_scanned [] head.between head.behind unit rest head.between_blanks head.behind_blanks h ∙ ap (λ xs. data_scan old xs (unit ∷ rest)) (sym none)
      by_name (inr (word, some)) =
          let behind = head.between ++ 61 ∷ (head.behind ++ unit ∷ rest) in
          ap (line_scan old None) (head.parsed ∙ ap (λ xs. head.before ++ xs) word) ∙ ap (first_scan old) (skipped_to head.before 34 (quoted name ++ 34 ∷ behind) head.before_blanks refl)
          ∙ at_quote (quoted name ++ 34 ∷ behind) ∙ ap (λ scan. value_scan old (closed_name scan)) (text_closes name behind some) ∙ equals_scanned name head.between head.behind unit rest head.between_blanks head.behind_blanks h

  -- text in quotes
  text_ends : (name text end : List ℕ) → IsTail end → text_scan name (QuoteCloses text end) ≡ Complete (SetValue name 1 (text_data text))
  text_ends name text end e = ap (λ test. cond test (Complete (SetValue name 1 (text_data text))) NotUnderstood) (tail_ends end e)

  text_comes : (name text : List ℕ) (lines : List (List ℕ)) (back : List ℕ) → IsText lines back → Comes old (Some (Text name text)) lines (Complete (SetValue name 1 (text_data (text ++ back))))
  text_comes name text [] back t = absurd t
  text_comes name text (line ∷ []) back (end, e, some, ended) =
      ap (λ units. text_scan name (onto_quote text (quote_at false units))) e ∙ ap (λ scan. text_scan name (onto_quote text scan)) (text_closes back end some) ∙ text_ends name (text ++ back) end ended
  text_comes name text (line ∷ next ∷ lines) back (front, further, e, some, more, same) =
      let all : ((text ++ front) ++ 10 ∷ []) ++ further ≡ text ++ back = append_assoc (text ++ front) (10 ∷ []) further ∙ append_assoc text front (10 ∷ further) ∙ ap (λ xs. text ++ xs) (sym same) in (
        Text name ((text ++ front) ++ 10 ∷ []),
        ap (λ units. text_scan name (onto_quote text (quote_at false units))) e ∙ ap (λ scan. text_scan name (onto_quote text scan)) (text_stays_open front some),
        subst (λ units. Comes old (Some (Text name ((text ++ front) ++ 10 ∷ []))) (next ∷ lines) (Complete (SetValue name 1 (text_data units)))) all (text_comes name ((text ++ front) ++ 10 ∷ []) (next ∷ lines) further more),
      )

  -- the first line of a text, and those behind it
  text_value_comes : (line name rest : List ℕ) (lines : List (List ℕ)) (text : List ℕ) → IsHead line name (34 ∷ rest) → IsText (rest ∷ lines) text → Comes old None (line ∷ lines) (Complete (SetValue name 1 (text_data text)))
  text_value_comes line name rest [] text head (end, e, some, ended) =
      head_scanned line name 34 rest head refl ∙ ap (λ units. text_scan name (quote_at false units)) e ∙ ap (text_scan name) (text_closes text end some) ∙ text_ends name text end ended
  text_value_comes line name rest (next ∷ lines) text head (front, back, e, some, more, same) =
      let all : (front ++ 10 ∷ []) ++ back ≡ text = append_assoc front (10 ∷ []) back ∙ sym same in (
        Text name (front ++ 10 ∷ []),
        head_scanned line name 34 rest head refl ∙ ap (λ units. text_scan name (quote_at false units)) e ∙ ap (text_scan name) (text_stays_open front some),
        subst (λ units. Comes old (Some (Text name (front ++ 10 ∷ []))) (next ∷ lines) (Complete (SetValue name 1 (text_data units)))) all (text_comes name (front ++ 10 ∷ []) (next ∷ lines) back more),
      )

  -- a number
  number_data : (name digits end : List ℕ) (number : ℕ) → IsNumber digits number → IsTail end → data_scan old name (codes "dword:" ++ (digits ++ end)) ≡ Complete (SetValue name 4 (to_le_bytes w32 number))
  number_data name digits end number n e =
      ap (number_or_list old name (codes "dword:" ++ (digits ++ end))) (stripped (codes "dword:") (digits ++ end))
      ∙ ap (number_scan name) (number_scanned digits end number n (tail_no_digit end e))
      ∙ ap (λ test. cond test (Complete (SetValue name 4 (to_le_bytes w32 number))) NotUnderstood) (tail_ends end e)

  -- the type of a list
  type_scanned : (name word rest : List ℕ) (kind : ℕ) → IsType word kind → data_scan old name (word ++ rest) ≡ bytes_scan old name kind rest (list_scan rest)
  type_scanned name word rest kind (inl (e, three)) =
      ap (λ xs. data_scan old name (xs ++ rest)) e ∙ ap (list_or_kind old name (codes "hex:" ++ rest)) (stripped (codes "hex:") rest) ∙ ap (λ k. bytes_scan old name k rest (list_scan rest)) (sym three)
  type_scanned name word rest kind (inr (digits, e, n)) =
      let behind = codes "):" ++ rest in
      let whole : word ++ rest ≡ codes "hex(" ++ (digits ++ behind) =
      ap (λ xs. xs ++ rest) e ∙ append_assoc (codes "hex(") (digits ++ codes "):") rest ∙ ap (λ xs. codes "hex(" ++ xs) (append_assoc digits (codes "):") rest) in
      ap (data_scan old name) whole ∙ ap (kind_or_not old name) (stripped (codes "hex(") (digits ++ behind))
      ∙ ap (kind_scan old name) (number_scanned digits behind kind n refl) ∙ ap (typed_list old name kind) (stripped (codes "):") rest)

  -- the end of a line, and a remark, is no list
  tail_no_list : (line : List ℕ) → IsTail line → list_at Before line ≡ NoList
  tail_no_list line (inl e) = elim e.parsed [
    | inl only ↦ ap (list_at Before) (only ∙ sym (nil_behind e.blanks)) ∙ blanks_before e.blanks [] e.are_blanks
    | inr return ↦ ap (list_at Before) return ∙ blanks_before e.blanks (13 ∷ []) e.are_blanks
  ]
    where
      nil_behind : (xs : List ℕ) → xs ++ [] ≡ xs
      nil_behind [] = refl
      nil_behind (x ∷ xs) = ap (λ ys. x ∷ ys) (nil_behind xs)
  tail_no_list line (inr (blanks, rest, e, h)) = ap (list_at Before) e ∙ blanks_before blanks (59 ∷ rest) h ∙ at_remark rest
    where
      at_remark : (units : List ℕ) → list_at Before (59 ∷ units) ≡ NoList
      at_remark [] = refl
      at_remark (unit ∷ units) = refl

  first_list : (line : List ℕ) → list_at Before line ≢ NoList → list_scan line ≡ list_at Before line
  first_list line some = elim (is_or_not (ends_statement line)) [
    | inl ended ↦ absurd (some (tail_no_list line (tails line ended)))
    | inr other ↦ ap (λ test. cond test (ListEnds []) (list_at Before line)) other
  ]

  -- the lines of a list
  list_comes : (name : List ℕ) (kind : ℕ) (bytes : List ℕ) (lines : List (List ℕ)) (back : List ℕ) → AreBytes lines back → Comes old (Some (PendingList name kind bytes)) lines (list_value old name kind (bytes ++ back))
  list_comes name kind bytes [] back b = absurd b
  list_comes name kind bytes (line ∷ []) back b = ap (λ scan. bytes_scan old name kind line (onto_list bytes scan)) (last_line_scanned line back b)
  list_comes name kind bytes (line ∷ next ∷ lines) back (front, further, b, more, same) =
      let all : (bytes ++ front) ++ further ≡ bytes ++ back = append_assoc bytes front further ∙ ap (λ xs. bytes ++ xs) (sym same) in (
        PendingList name kind (bytes ++ front),
        ap (λ scan. bytes_scan old name kind line (onto_list bytes scan)) (broken_line_scanned line front b),
        subst (λ xs. Comes old (Some (PendingList name kind (bytes ++ front))) (next ∷ lines) (list_value old name kind xs)) all (list_comes name kind (bytes ++ front) (next ∷ lines) further more),
      )

  ends_is_list : (bytes : List ℕ) → ListEnds bytes ≢ NoList
  ends_is_list bytes e = cc

  goes_on_is_list : (bytes : List ℕ) → ListGoesOn bytes ≢ NoList
  goes_on_is_list bytes e = cc

  first_of_lines : (line : List ℕ) (rest : List ℕ) (lines : List (List ℕ)) → line ∷ lines ≡ rest ∷ [] → (line ≡ rest) × (lines ≡ [])
  first_of_lines line rest lines e = (cc, cc)

  first_lines : (line name data_line rest : List ℕ) (kind : ℕ) (lines : List (List ℕ)) (bytes : List ℕ) → line_scan old None line ≡ bytes_scan old name kind rest (list_scan rest) → IsList (rest ∷ lines) bytes → Comes old None (line ∷ lines) (list_value old name kind bytes)
  first_lines line name data_line rest kind lines bytes scan (inl (only, e, ended, none)) =
      let same = first_of_lines rest only lines e in
      let here : line_scan old None line ≡ list_value old name kind bytes =
      scan ∙ ap (λ test. bytes_scan old name kind rest (cond test (ListEnds []) (list_at Before rest))) (tail_ends rest (subst IsTail (sym same.0) ended)) ∙ ap (list_value old name kind) (sym none) in
      subst (λ more. Comes old None (line ∷ more) (list_value old name kind bytes)) (sym same.1) here
  first_lines line name data_line rest kind [] bytes scan (inr b) =
      let here = last_line_scanned rest bytes b in
      scan ∙ ap (bytes_scan old name kind rest) (first_list rest (λ e. ends_is_list bytes (sym here ∙ e)) ∙ here)
  first_lines line name data_line rest kind (next ∷ lines) bytes scan (inr (front, back, b, more, same)) =
      let here = broken_line_scanned rest front b in (
        PendingList name kind front,
        scan ∙ ap (bytes_scan old name kind rest) (first_list rest (λ e. goes_on_is_list front (sym here ∙ e)) ∙ here),
        subst (λ xs. Comes old (Some (PendingList name kind front)) (next ∷ lines) (list_value old name kind xs)) (sym same) (list_comes name kind front (next ∷ lines) back more),
      )

  -- what data begin with is no blank
  no_blank_first : (word rest : List ℕ) (kind : ℕ) → IsType word kind → (unit : ℕ) × (units : List ℕ) × (word ++ rest ≡ unit ∷ units) × (is_blank unit ≡ false)
  no_blank_first word rest kind (inl (e, three)) = (104, codes "ex:" ++ rest, ap (λ xs. xs ++ rest) e, refl)
  no_blank_first word rest kind (inr (digits, e, n)) = (104, (codes "ex(" ++ (digits ++ codes "):")) ++ rest, ap (λ xs. xs ++ rest) e, refl)

  pub list_value_comes : (lines : List (List ℕ)) (name : List ℕ) (kind : ℕ) (bytes : List ℕ) → IsListValue lines name kind bytes → Comes old None lines (list_value old name kind bytes)
  list_value_comes lines name kind bytes (line, data_line, more, e, head, (word, rest, f, t, list)) =
      let first = no_blank_first word rest kind t in
      let begins : data_line ≡ first.0 ∷ first.1 = f ∙ first.2 in
      let scan = head_scanned line name first.0 first.1 (subst (IsHead line name) begins head) first.3 ∙ ap (data_scan old name) (sym first.2) ∙ type_scanned name word rest kind t in
      subst (λ all. Comes old None all (list_value old name kind bytes)) (sym e) (first_lines line name data_line rest kind more bytes scan list)

  pub plain_value_comes : (lines : List (List ℕ)) (name : List ℕ) (kind : ℕ) (bytes : List ℕ) → IsPlainValue lines name kind bytes → Comes old None lines (Complete (SetValue name kind bytes))
  plain_value_comes lines name kind bytes (line, data_line, more, e, head, inl (rest, text, f, t, k, b)) =
      let here = text_value_comes line name rest more text (subst (IsHead line name) f head) t in
      subst (λ all. Comes old None all (Complete (SetValue name kind bytes))) (sym e) (subst (λ n. Comes old None (line ∷ more) (Complete (SetValue name n bytes))) (sym k) (subst (λ xs. Comes old None (line ∷ more) (Complete (SetValue name 1 xs))) (sym b) here))
  plain_value_comes lines name kind bytes (line, data_line, more, e, head, inr (digits, number, end, f, none, n, ended, k, b)) =
      let here : line_scan old None line ≡ Complete (SetValue name 4 (to_le_bytes w32 number)) = head_scanned line name 100 (codes "word:" ++ (digits ++ end)) (subst (IsHead line name) f head) refl ∙ number_data name digits end number n ended in
      let value : line_scan old None line ≡ Complete (SetValue name kind bytes) = here ∙ ap (λ m. Complete (SetValue name m (to_le_bytes w32 number))) (sym k) ∙ ap (λ xs. Complete (SetValue name kind xs)) (sym b) in
      subst (λ all. Comes old None all (Complete (SetValue name kind bytes))) (sym (e ∙ ap (λ xs. line ∷ xs) none)) value

  -- the lines of a statement come to it
  pub statement_comes : (lines : List (List ℕ)) (statement : Statement) → IsStatement old lines statement → Comes old None lines (Complete statement)
  statement_comes lines (CreateKey path) (line, written, e, k, other, p) =
      subst (λ all. Comes old None all (Complete (CreateKey path))) (sym e) (key_line_scanned old line written k ∙ created written path other p)
  statement_comes lines (DeleteKey path) (line, written, e, k, p) =
      subst (λ all. Comes old None all (Complete (DeleteKey path))) (sym e) (key_line_scanned old line (45 ∷ written) k ∙ deleted written path p)
  statement_comes lines (SetValue name kind bytes) (inl plain) = plain_value_comes lines name kind bytes plain
  statement_comes lines (SetValue name kind bytes) (inr (written, list, same)) =
      subst (λ xs. Comes old None lines (Complete (SetValue name kind xs))) (sym same) (list_value_comes lines name kind written list)
  statement_comes lines (DeleteValue name) (line, end, e, head, ended) =
      subst (λ all. Comes old None all (Complete (DeleteValue name))) (sym e) (head_scanned line name 45 end head refl ∙ ap (λ test. cond test (Complete (DeleteValue name)) NotUnderstood) (tail_ends end ended))

  -- an empty line or a remark
  pub blank_comes : (line : List ℕ) → IsTail line → line_scan old None line ≡ Nothing
  blank_comes line tail = at_word (skip_blanks line) (tail_ends line tail)
    where
      at_word : (word : List ℕ) → is_tail word ≡ true → first_scan old word ≡ Nothing
      at_word [] h = refl
      at_word (unit ∷ units) h = rw h refl
