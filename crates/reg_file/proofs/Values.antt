-- What begins with nothing in front.
use Rattle.std.proofs.Common.{◌≡◌, ℕ, List, [], ◌∷◌, refl, sym, ◌∙◌, ap, false, Bool}
use Rattle.reg_file.specs.Scanning.{QuoteScan, QuoteCloses, QuoteStaysOpen, NoQuote, quote_at, onto_quote, ListScan, ListEnds, ListGoesOn, NoList, onto_list, list_scan}
use Rattle.reg_file.specs.Reading.{closed_name, name_at, text_scan, data_scan, bytes_scan}

onto_no_quote : (scan : QuoteScan) → onto_quote [] scan ≡ scan
onto_no_quote (QuoteCloses text rest) = refl
onto_no_quote (QuoteStaysOpen text) = refl
onto_no_quote NoQuote = refl

onto_no_list : (scan : ListScan) → onto_list [] scan ≡ scan
onto_no_list (ListEnds bytes) = refl
onto_no_list (ListGoesOn bytes) = refl
onto_no_list NoList = refl

from_nothing : (front others : List ℕ) (scan : QuoteScan) → front ≡ [] → scan ≡ onto_quote front (quote_at false others) → scan ≡ quote_at false others
from_nothing front others scan e f = f ∙ ap (λ text. onto_quote text (quote_at false others)) e ∙ onto_no_quote (quote_at false others)

-- a name in quotes
pub name_quote : (line others front : List ℕ) (unit : ℕ) (scan : QuoteScan) → line ≡ unit ∷ others → unit ≡ 34 → front ≡ [] → scan ≡ onto_quote front (quote_at false others) → closed_name scan ≡ name_at line
name_quote line others front unit scan e f g h =
    ap closed_name (from_nothing front others scan g h) ∙ ap (λ quote. name_at (quote ∷ others)) (sym f) ∙ ap name_at (sym e)

-- a text in quotes behind the equals sign
pub data_quote : (old : Bool) (name line others front : List ℕ) (unit : ℕ) → line ≡ unit ∷ others → unit ≡ 34 → front ≡ [] → text_scan name (onto_quote front (quote_at false others)) ≡ data_scan old name line
data_quote old name line others front unit e f g =
    ap (text_scan name) (from_nothing front others (onto_quote front (quote_at false others)) g refl) ∙ ap (λ quote. data_scan old name (quote ∷ others)) (sym f) ∙ ap (data_scan old name) (sym e)

-- the first line of a list
pub first_bytes : (old : Bool) (name : List ℕ) (kind : ℕ) (line front : List ℕ) (scan : ListScan) → front ≡ [] → scan ≡ onto_list front (list_scan line) → bytes_scan old name kind line scan ≡ bytes_scan old name kind line (list_scan line)
first_bytes old name kind line front scan e f = ap (bytes_scan old name kind line) (f ∙ ap (λ bytes. onto_list bytes (list_scan line)) e ∙ onto_no_list (list_scan line))
