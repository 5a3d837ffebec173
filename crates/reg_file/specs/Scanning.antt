-- What the front of a line is parsed to: blanks, remarks, fixed text, hex digits, text in quotes, pairs of digits.
use Rattle.std.specs.Prelude.{ℕ, ◌+◌, ◌-◌, ◌*◌, ◌==◌, nat_le, ◌&&◌, ◌||◌, Bool, true, false, if◌then◌else◌, List, [], ◌∷◌, ◌++◌, reverse, Option, Some, None}
use Rattle.std.specs.Option.{option_and_then}

-- a blank or a tab
abbrev pub is_blank : ℕ → Bool
is_blank unit = unit == 32 || unit == 9

abbrev pub skip_blanks : List ℕ → List ℕ
skip_blanks [] = []
skip_blanks (unit ∷ units) = if is_blank unit then skip_blanks units else unit ∷ units

-- nothing, or a carriage return
abbrev pub is_end : List ℕ → Bool
is_end [] = true
is_end (unit ∷ []) = unit == 13
is_end (unit ∷ other ∷ units) = false

-- a line may end here: blanks and a carriage return are all that follows
abbrev pub ends_line : List ℕ → Bool
ends_line units = is_end (skip_blanks units)

-- the end of a line, or a remark: a semicolon and what follows it
abbrev pub is_tail : List ℕ → Bool
is_tail [] = true
is_tail (unit ∷ units) = unit == 59 || is_end (unit ∷ units)

-- a statement may end here: behind blanks the line ends, or a remark begins
abbrev pub ends_statement : List ℕ → Bool
ends_statement units = is_tail (skip_blanks units)

-- what follows a text, if the units begin with it
abbrev pub strip : List ℕ → List ℕ → Option (List ℕ)
strip [] units = Some units
strip (byte ∷ bytes) [] = None
strip (byte ∷ bytes) (unit ∷ units) = if unit == byte then strip bytes units else None

-- the units without one carriage return and the blanks before it, from the last to the first
abbrev pub skip_return : List ℕ → List ℕ
skip_return [] = []
skip_return (unit ∷ units) = if unit == 13 then units else unit ∷ units

abbrev pub backwards : List ℕ → List ℕ
backwards units = skip_blanks (skip_return (reverse units))

-- units from the last to the first: from the first closing bracket on
abbrev pub from_bracket : List ℕ → List ℕ
from_bracket [] = []
from_bracket (unit ∷ units) = if unit == 93 then unit ∷ units else from_bracket units

-- the value of a hex digit, in either case
abbrev pub digit_of : ℕ → Option ℕ
digit_of unit =
    if nat_le 48 unit && nat_le unit 57 then Some (unit - 48)
    else if nat_le 65 unit && nat_le unit 70 then Some (unit - 55)
    else if nat_le 97 unit && nat_le unit 102 then Some (unit - 87)
    else None

-- a number goes on with as many hex digits as there are, but not with more than some
abbrev pub digits_from : ℕ → ℕ → List ℕ → Option (ℕ × List ℕ)
digits_from left number [] = Some (number, [])
digits_from left number (unit ∷ units) = one_more left number (unit ∷ units) (λ digit. digits_from (left - 1) (16 * number + digit) units) (digit_of unit)
  where
    one_more : ℕ → ℕ → List ℕ → (ℕ → Option (ℕ × List ℕ)) → Option ℕ → Option (ℕ × List ℕ)
    one_more left number units more None = Some (number, units)
    one_more left number units more (Some digit) = if left == 0 then None else more digit

-- a number of 1 to 8 hex digits, and what follows it
abbrev pub number_at : List ℕ → Option (ℕ × List ℕ)
number_at [] = None
number_at (unit ∷ units) = option_and_then (λ digit. digits_from 7 digit units) (digit_of unit)

-- what comes of text in quotes on one line: it is closed, with units behind it; or it goes on; or it is none
pub data QuoteScan : Type 0 where
  QuoteCloses : (text rest : List ℕ) → QuoteScan
  QuoteStaysOpen : (text : List ℕ) → QuoteScan
  NoQuote : QuoteScan

abbrev pub onto_quote : List ℕ → QuoteScan → QuoteScan
onto_quote front (QuoteCloses text rest) = QuoteCloses (front ++ text) rest
onto_quote front (QuoteStaysOpen text) = QuoteStaysOpen (front ++ text)
onto_quote front NoQuote = NoQuote

-- behind an opening quote, or behind a backslash in it, which only a quote or a backslash follows
abbrev pub quote_at : Bool → List ℕ → QuoteScan
quote_at false [] = QuoteStaysOpen []
quote_at true [] = NoQuote
quote_at false (unit ∷ units) =
    if unit == 34 then QuoteCloses [] units
    else if unit == 92 then quote_at true units
    else if unit == 0 then NoQuote
    else onto_quote (unit ∷ []) (quote_at false units)
quote_at true (unit ∷ units) = if unit == 34 || unit == 92 then onto_quote (unit ∷ []) (quote_at false units) else NoQuote

-- the byte of a pair of hex digits, and what follows it
abbrev pub pair_from : Option ℕ → Option ℕ → List ℕ → Option (ℕ × List ℕ)
pair_from (Some high) (Some low) units = Some (16 * high + low, units)
pair_from (Some high) None units = None
pair_from None low units = None

abbrev pub pair_at : List ℕ → Option (ℕ × List ℕ)
pair_at [] = None
pair_at (high ∷ []) = None
pair_at (high ∷ low ∷ units) = pair_from (digit_of high) (digit_of low) units

-- what comes of a list of bytes on one line: it ends, or it goes on on the next line, or it is none
pub data ListScan : Type 0 where
  ListEnds : (bytes : List ℕ) → ListScan
  ListGoesOn : (bytes : List ℕ) → ListScan
  NoList : ListScan

abbrev pub onto_list : List ℕ → ListScan → ListScan
onto_list front (ListEnds bytes) = ListEnds (front ++ bytes)
onto_list front (ListGoesOn bytes) = ListGoesOn (front ++ bytes)
onto_list front NoList = NoList

-- a place in a list: before a pair of digits, behind its first digit, or behind the pair
pub data Place : Type 0 where
  Before : Place
  Within : (high : Option ℕ) → Place
  Behind : Place

abbrev pub onto_pair : Option ℕ → Option ℕ → ListScan → ListScan
onto_pair (Some high) (Some low) scan = onto_list ((16 * high + low) ∷ []) scan
onto_pair (Some high) None scan = NoList
onto_pair None low scan = NoList

abbrev pub list_at : Place → List ℕ → ListScan
list_at Before [] = NoList
list_at Before (unit ∷ units) =
    if is_blank unit then list_at Before units
    else if unit == 92 then (if ends_statement units then ListGoesOn [] else NoList)
    else list_at (Within (digit_of unit)) units
list_at (Within high) [] = NoList
list_at (Within high) (unit ∷ units) = onto_pair high (digit_of unit) (list_at Behind units)
list_at Behind [] = ListEnds []
list_at Behind (unit ∷ units) = if unit == 44 then list_at Before units else if ends_statement (unit ∷ units) then ListEnds [] else NoList

-- a list on its first line may be empty
abbrev pub list_scan : List ℕ → ListScan
list_scan units = if ends_statement units then ListEnds [] else list_at Before units

-- whether a line that is wrong in a list goes on: it ends with a backslash, behind a comma, a colon or nothing
abbrev pub is_joint : List ℕ → Bool
is_joint [] = true
is_joint (unit ∷ units) = unit == 44 || unit == 58

abbrev pub is_broken : List ℕ → Bool
is_broken [] = false
is_broken (unit ∷ units) = if unit == 92 then is_joint (skip_blanks units) else false

abbrev pub goes_on : List ℕ → Bool
goes_on line = is_broken (backwards line)
