-- What the values that functions hand to each other mean.
use Rattle.std.specs.Prelude.{◌≡◌, ◌⊎◌, Bool, ℕ, ◌+◌, ◌≤◌, List, [], ◌∷◌, length, Option, Some, None}
use Rattle.std.specs.Borrow.{Bor}
use Rattle.reg_file.specs.Scanning.{QuoteScan, QuoteCloses, QuoteStaysOpen, NoQuote, ListScan, ListEnds, ListGoesOn, NoList}
use Rattle.reg_file.specs.declared.quote.QuoteEnd.{QuoteEnd}
use Rattle.reg_file.specs.declared.quote.QuoteEnd.TheVariants.{Closed, Open, Wrong}
use Rattle.reg_file.specs.declared.list.ListEnd.{ListEnd}
use Rattle.reg_file.specs.declared.list.ListEnd.TheVariants as list
use Rattle.reg_file.specs.declared.lines.NextLine.{NextLine}
use Rattle.reg_file.specs.declared.lines.NextLine.TheVariants as next
use Rattle.std.specs.Option.{option_copied}
use Rattle.reg_file.specs.Lines.{encoded_lines, lines_left}
use Rattle.reg_file.specs.Files.{file_from, after_turn}
use Rattle.reg_file.specs.declared.lines.Encoding.{Encoding}
use Rattle.reg_file.specs.declared.lines.Lines.{Lines}
use Rattle.reg_file.specs.declared.turn.Item.{Item}
use Rattle.reg_file.specs.declared.turn.Turn.{Turn}
use Rattle.reg_file.specs.declared.turn.Turn.TheVariants.{Next, Done, Stop}

-- an end of text in quotes, with the units read so far
abbrev pub quote_view : QuoteEnd → List ℕ → QuoteScan
quote_view (Closed rest) text = QuoteCloses text rest.now
quote_view Open text = QuoteStaysOpen text
quote_view Wrong text = NoQuote

-- an end of a list on one line, with the bytes read so far
abbrev pub list_view : ListEnd → List ℕ → ListScan
list_view list.Whole bytes = ListEnds bytes
list_view list.Broken bytes = ListGoesOn bytes
list_view list.Wrong bytes = NoList

-- a number and what is behind it
abbrev pub number_view : ℕ × Bor (List ℕ) → ℕ × List ℕ
number_view found = (found.0, found.1.now)

-- a name and what is behind it
abbrev pub name_view : List ℕ × Bor (List ℕ) → List ℕ × List ℕ
name_view found = (found.0, found.1.now)

-- what the next line is, of those that were left and those that are left behind it
abbrev pub LineGives : NextLine → List (Option (List ℕ)) → List ℕ → List (Option (List ℕ)) → Type 0
LineGives next.Text old line new = old ≡ Some line ∷ new
LineGives next.NotText old line new = old ≡ None ∷ new
LineGives next.End old line new = (old ≡ []) × (new ≡ [])

-- how many bytes there are, and one more while there is a line
abbrev pub bytes_left : Option (List ℕ) → ℕ
bytes_left None = 0
bytes_left (Some bytes) = length bytes + 1

-- unless a file stops at a line, fewer bytes are left behind it
abbrev pub StopsOrLess : Turn → ℕ → ℕ → Type 0
StopsOrLess (Next has_key item) old new = new + 1 ≤ old
StopsOrLess (Done has_key statement) old new = new + 1 ≤ old
StopsOrLess (Stop fault) old new = Unit {0}

-- the lines of a file that are left, and how many bytes they have
abbrev pub lines_of : Lines → List (Option (List ℕ))
lines_of lines = lines_left lines.encoding (option_copied lines.rest)

abbrev pub left_of : Lines → ℕ
left_of lines = bytes_left (option_copied lines.rest)

-- a line was read: what it is, and that fewer bytes are left behind it
abbrev pub ReadsLine : Lines → NextLine → List ℕ → Lines → Type 0
ReadsLine old found line new = LineGives found (lines_of old) line (lines_of new)

abbrev pub LeavesLess : Lines → NextLine → Lines → Type 0
LeavesLess old found new = ((found ≡ next.End) × (left_of new ≤ left_of old)) ⊎ (left_of new + 1 ≤ left_of old)

-- the first line of bytes was read, and these bytes are left behind it
abbrev pub ReadsFirst : Encoding → List ℕ → NextLine × Option (Bor (List ℕ)) → List ℕ → Type 0
ReadsFirst encoding bytes found line = LineGives found.0 (encoded_lines encoding bytes) line (lines_left encoding (option_copied found.1))

-- a file with these lines left goes on as a line of it did
abbrev pub GoesOnBy : Bool → Bool → ℕ → Option Item → Lines → Turn → Lines → Type 0
GoesOnBy old has_key number item before turn behind =
    file_from old has_key number item (lines_of before) ≡ after_turn (λ key pending. file_from old key (number + 1) pending (lines_of behind)) turn
