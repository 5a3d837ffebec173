-- What a line comes to, by itself or as a further line of a statement.
use Rattle.std.specs.Prelude.{ℕ, ◌==◌, ◌&&◌, ◌||◌, Bool, false, if◌then◌else◌, List, [], ◌∷◌, ◌++◌, reverse, length, drop, Option, Some, None, codes, flat_map}
use Rattle.std.specs.Int.{w16, w32, to_le_bytes}
use Rattle.reg_file.specs.Scanning.{skip_blanks, is_tail, ends_statement, strip, from_bracket, number_at, QuoteScan, QuoteCloses, QuoteStaysOpen, NoQuote, quote_at, onto_quote, ListScan, ListEnds, ListGoesOn, NoList, Before, list_at, list_scan, onto_list, goes_on}
use Rattle.reg_file.specs.CodePage.{ansi_data}
use Rattle.reg_file.specs.declared.statement.Statement.TheVariants.{CreateKey, DeleteKey, SetValue, DeleteValue}
use Rattle.reg_file.specs.declared.scan.Pending.{Pending}
use Rattle.reg_file.specs.declared.scan.Pending.TheVariants.{Text, List as PendingList, WrongList}
use Rattle.reg_file.specs.declared.scan.Scan.{Scan}
use Rattle.reg_file.specs.declared.scan.Scan.TheVariants.{Nothing, Complete, GoesOn, NotUnderstood}

-- the data of a text: its units in the order of little-endian bytes, and a terminator
abbrev pub text_data : List ℕ → List ℕ
text_data units = flat_map (to_le_bytes w16) units ++ 0 ∷ 0 ∷ []

-- a text in quotes, which ends its line or goes on
abbrev pub text_scan : List ℕ → QuoteScan → Scan
text_scan name (QuoteCloses text rest) = if ends_statement rest then Complete (SetValue name 1 (text_data text)) else NotUnderstood
text_scan name (QuoteStaysOpen text) = GoesOn (Text name (text ++ 10 ∷ []))
text_scan name NoQuote = NotUnderstood

-- types whose data are text
abbrev pub is_text_kind : ℕ → Bool
is_text_kind kind = kind == 1 || kind == 2 || kind == 7

-- the data of a list: its bytes, but in the old form those of a type of text are text in the code page
abbrev pub list_data : Bool → ℕ → List ℕ → List ℕ
list_data old kind bytes = if old && is_text_kind kind then ansi_data bytes else bytes

abbrev pub list_value : Bool → List ℕ → ℕ → List ℕ → Scan
list_value old name kind bytes = Complete (SetValue name kind (list_data old kind bytes))

abbrev pub wrong_list : List ℕ → Scan
wrong_list line = if goes_on line then GoesOn WrongList else NotUnderstood

abbrev pub bytes_scan : Bool → List ℕ → ℕ → List ℕ → ListScan → Scan
bytes_scan old name kind line (ListEnds bytes) = list_value old name kind bytes
bytes_scan old name kind line (ListGoesOn bytes) = GoesOn (PendingList name kind bytes)
bytes_scan old name kind line NoList = wrong_list line

-- the data of a value: a number, a list, or a list with a type
abbrev pub number_scan : List ℕ → Option (ℕ × List ℕ) → Scan
number_scan name None = NotUnderstood
number_scan name (Some (number, rest)) = if ends_statement rest then Complete (SetValue name 4 (to_le_bytes w32 number)) else NotUnderstood

abbrev pub typed_list : Bool → List ℕ → ℕ → Option (List ℕ) → Scan
typed_list old name kind None = NotUnderstood
typed_list old name kind (Some line) = bytes_scan old name kind line (list_scan line)

abbrev pub kind_scan : Bool → List ℕ → Option (ℕ × List ℕ) → Scan
kind_scan old name None = NotUnderstood
kind_scan old name (Some (kind, rest)) = typed_list old name kind (strip (codes "):") rest)

abbrev pub kind_or_not : Bool → List ℕ → Option (List ℕ) → Scan
kind_or_not old name None = NotUnderstood
kind_or_not old name (Some rest) = kind_scan old name (number_at rest)

abbrev pub list_or_kind : Bool → List ℕ → List ℕ → Option (List ℕ) → Scan
list_or_kind old name line None = kind_or_not old name (strip (codes "hex(") line)
list_or_kind old name line (Some rest) = typed_list old name 3 (Some rest)

abbrev pub number_or_list : Bool → List ℕ → List ℕ → Option (List ℕ) → Scan
number_or_list old name line None = list_or_kind old name line (strip (codes "hex:") line)
number_or_list old name line (Some rest) = number_scan name (number_at rest)

abbrev pub typed_scan : Bool → List ℕ → List ℕ → Scan
typed_scan old name line = number_or_list old name line (strip (codes "dword:") line)

-- what stands behind the equals sign
abbrev pub data_scan : Bool → List ℕ → List ℕ → Scan
data_scan old name [] = NotUnderstood
data_scan old name (unit ∷ units) =
    if unit == 34 then text_scan name (quote_at false units)
    else if unit == 45 then (if ends_statement units then Complete (DeleteValue name) else NotUnderstood)
    else typed_scan old name (unit ∷ units)

-- a value's name, and what follows it
abbrev pub closed_name : QuoteScan → Option (List ℕ × List ℕ)
closed_name (QuoteCloses name rest) = Some (name, rest)
closed_name (QuoteStaysOpen name) = None
closed_name NoQuote = None

abbrev pub name_at : List ℕ → Option (List ℕ × List ℕ)
name_at [] = None
name_at (unit ∷ units) = if unit == 64 then Some ([], units) else if unit == 34 then closed_name (quote_at false units) else None

abbrev pub equals_scan : Bool → List ℕ → List ℕ → Scan
equals_scan old name [] = NotUnderstood
equals_scan old name (unit ∷ units) = if unit == 61 then data_scan old name (skip_blanks units) else NotUnderstood

abbrev pub value_scan : Bool → Option (List ℕ × List ℕ) → Scan
value_scan old None = NotUnderstood
value_scan old (Some (name, rest)) = equals_scan old name (skip_blanks rest)

-- a path without one backslash at its end
abbrev pub skip_separator : List ℕ → List ℕ
skip_separator [] = []
skip_separator (unit ∷ units) = if unit == 92 then units else unit ∷ units

abbrev pub without_separator : List ℕ → List ℕ
without_separator path = reverse (skip_separator (reverse path))

-- what stands between the brackets
abbrev pub key_between : List ℕ → Scan
key_between [] = Complete (CreateKey [])
key_between (unit ∷ units) = if unit == 45 then Complete (DeleteKey (without_separator units)) else Complete (CreateKey (without_separator (unit ∷ units)))

-- a key by the units up to the last closing bracket, from the last to the first, and by those behind it
abbrev pub closed_key : List ℕ → List ℕ → Scan
closed_key [] rest = NotUnderstood
closed_key (unit ∷ units) rest = if ends_statement rest then key_between (reverse units) else NotUnderstood

abbrev pub key_scan : List ℕ → Scan
key_scan line = closed_key (from_bracket (reverse line)) (drop (length (from_bracket (reverse line))) line)

-- the first line of a statement, a remark, or an empty line
abbrev pub first_scan : Bool → List ℕ → Scan
first_scan old [] = Nothing
first_scan old (unit ∷ units) =
    if is_tail (unit ∷ units) then Nothing
    else if unit == 91 then key_scan units
    else value_scan old (name_at (unit ∷ units))

-- a line, behind those of a statement that goes on
abbrev pub line_scan : Bool → Option Pending → List ℕ → Scan
line_scan old None line = first_scan old (skip_blanks line)
line_scan old (Some (Text name text)) line = text_scan name (onto_quote text (quote_at false line))
line_scan old (Some (PendingList name kind bytes)) line = bytes_scan old name kind line (onto_list bytes (list_at Before line))
line_scan old (Some WrongList) line = wrong_list line
