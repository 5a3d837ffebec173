-- Which lines are which statement, stated as relations. A line has no line feed; what parts two lines is one.
use Rattle.std.specs.Prelude.{◌≡◌, ◌≢◌, ℕ, ◌+◌, ◌*◌, ◌==◌, ◌<◌, ◌≤◌, ◌⊎◌, ◌||◌, Bool, true, false, if◌then◌else◌, List, [], ◌∷◌, ◌++◌, length, Option, Some, None, codes, flat_map, map}
use Rattle.std.specs.List.{AllByRecursion}
use Rattle.std.specs.Int.{w32, to_le_bytes}
use Rattle.refusals.specs.declared.limits.TheConstants.{MOST_ELEMENT_BYTES}
use Rattle.reg_file.specs.Scanning.{is_blank, digit_of, goes_on}
use Rattle.reg_file.specs.Reading.{text_data, list_data}
use Rattle.reg_file.specs.Files.{key_after, wants_key}
use Rattle.reg_file.specs.declared.statement.Statement.{Statement}
use Rattle.reg_file.specs.declared.statement.Statement.TheVariants.{CreateKey, DeleteKey, SetValue, DeleteValue}
use Rattle.reg_file.specs.declared.statement.NumberedStatement.{NumberedStatement}
use Rattle.reg_file.specs.declared.fault.Fault.{Fault}
use Rattle.reg_file.specs.declared.fault.FaultKind.{FaultKind}
use Rattle.reg_file.specs.declared.fault.FaultKind.TheVariants.{NoHeader, NotText, NotUnderstood, NoKey, TooLarge}

-- blanks and tabs
abbrev pub AreBlanks : List ℕ → Type 0
AreBlanks units = AllByRecursion (λ unit. is_blank unit ≡ true) units

-- what may stand at the end of a line: blanks, and a carriage return behind them
pub record IsLineEnd (units : List ℕ) : Type 0 where
  pub blanks : List ℕ
  pub are_blanks : AreBlanks blanks
  pub parsed : (units ≡ blanks) ⊎ (units ≡ blanks ++ 13 ∷ [])

-- what may stand behind a statement: the end of the line, or blanks and a remark, which begins with a semicolon
abbrev pub IsTail : List ℕ → Type 0
IsTail units = IsLineEnd units ⊎ ((blanks : List ℕ) × (rest : List ℕ) × (units ≡ blanks ++ 59 ∷ rest) × AreBlanks blanks)

-- text in quotes: a quote and a backslash have a backslash before them, and no unit is 0
abbrev pub quoted_unit : ℕ → List ℕ
quoted_unit unit = if unit == 34 || unit == 92 then 92 ∷ unit ∷ [] else unit ∷ []

abbrev pub quoted : List ℕ → List ℕ
quoted text = flat_map quoted_unit text

abbrev pub HasNoZero : List ℕ → Type 0
HasNoZero text = AllByRecursion (λ unit. unit ≢ 0) text

-- a line begins with a value's name: it stands in quotes, and the empty one may be `@`
abbrev pub IsNamed : List ℕ → List ℕ → List ℕ → Type 0
IsNamed line name rest = ((line ≡ 64 ∷ rest) × (name ≡ [])) ⊎ ((line ≡ 34 ∷ (quoted name ++ 34 ∷ rest)) × HasNoZero name)

-- a line begins with a name and an equals sign, and goes on with the data
pub record IsHead (line name rest : List ℕ) : Type 0 where
  pub before : List ℕ
  pub between : List ℕ
  pub behind : List ℕ
  pub word : List ℕ
  pub parsed : line ≡ before ++ word
  pub before_blanks : AreBlanks before
  pub between_blanks : AreBlanks between
  pub behind_blanks : AreBlanks behind
  pub named : IsNamed word name (between ++ 61 ∷ (behind ++ rest))

-- the lines of a text behind its opening quote: line ends within it are line feeds of the text
abbrev pub IsText : List (List ℕ) → List ℕ → Type 0
IsText [] text = ⊥
IsText (line ∷ []) text = (end : List ℕ) × (line ≡ quoted text ++ 34 ∷ end) × HasNoZero text × IsTail end
IsText (line ∷ next ∷ lines) text = (front : List ℕ) × (back : List ℕ) × (line ≡ quoted front) × HasNoZero front × IsText (next ∷ lines) back × (text ≡ front ++ 10 ∷ back)

-- hex digits in either case go on a number
abbrev pub GoOn : ℕ → List ℕ → ℕ → Type 0
GoOn front [] number = number ≡ front
GoOn front (unit ∷ units) number = (digit : ℕ) × (digit_of unit ≡ Some digit) × GoOn (16 * front + digit) units number

-- a number of 1 to 8 hex digits
pub record IsNumber (digits : List ℕ) (number : ℕ) : Type 0 where
  pub some : 0 < length digits
  pub few : length digits ≤ 8
  pub value : GoOn 0 digits number

-- a byte as two hex digits
pub record IsPair (pair : List ℕ) (byte : ℕ) : Type 0 where
  pub first : ℕ
  pub second : ℕ
  pub high : ℕ
  pub low : ℕ
  pub parsed : pair ≡ first ∷ second ∷ []
  pub high_is : digit_of first ≡ Some high
  pub low_is : digit_of second ≡ Some low
  pub value : byte ≡ 16 * high + low

-- the last line of a list: bytes with commas between them, and blanks before any of them
abbrev pub IsLastLine : List ℕ → List ℕ → Type 0
IsLastLine line [] = ⊥
IsLastLine line (byte ∷ []) = (blanks : List ℕ) × (pair : List ℕ) × (end : List ℕ) × (line ≡ blanks ++ (pair ++ end)) × AreBlanks blanks × IsPair pair byte × IsTail end
IsLastLine line (byte ∷ next ∷ bytes) = (blanks : List ℕ) × (pair : List ℕ) × (rest : List ℕ) × (line ≡ blanks ++ (pair ++ 44 ∷ rest)) × AreBlanks blanks × IsPair pair byte × IsLastLine rest (next ∷ bytes)

-- any other line of a list: a comma behind each byte, and a backslash at the end
abbrev pub IsBrokenLine : List ℕ → List ℕ → Type 0
IsBrokenLine line [] = (blanks : List ℕ) × (end : List ℕ) × (line ≡ blanks ++ 92 ∷ end) × AreBlanks blanks × IsTail end
IsBrokenLine line (byte ∷ bytes) = (blanks : List ℕ) × (pair : List ℕ) × (rest : List ℕ) × (line ≡ blanks ++ (pair ++ 44 ∷ rest)) × AreBlanks blanks × IsPair pair byte × IsBrokenLine rest bytes

-- the lines of a list with at least one byte
abbrev pub AreBytes : List (List ℕ) → List ℕ → Type 0
AreBytes [] bytes = ⊥
AreBytes (line ∷ []) bytes = IsLastLine line bytes
AreBytes (line ∷ next ∷ lines) bytes = (front : List ℕ) × (back : List ℕ) × IsBrokenLine line front × AreBytes (next ∷ lines) back × (bytes ≡ front ++ back)

-- the lines of a list
abbrev pub IsList : List (List ℕ) → List ℕ → Type 0
IsList lines bytes = ((line : List ℕ) × (lines ≡ line ∷ []) × IsTail line × (bytes ≡ [])) ⊎ AreBytes lines bytes

-- the type of a list: `hex:` is 3, `hex(N):` is N
abbrev pub IsType : List ℕ → ℕ → Type 0
IsType word kind = ((word ≡ codes "hex:") × (kind ≡ 3)) ⊎ ((digits : List ℕ) × (word ≡ codes "hex(" ++ (digits ++ codes "):")) × IsNumber digits kind)

-- the lines of a value's data behind the equals sign: a text, a number, or a list
abbrev pub IsTextData : List ℕ → List (List ℕ) → ℕ → List ℕ → Type 0
IsTextData line lines kind bytes = (rest : List ℕ) × (text : List ℕ) × (line ≡ 34 ∷ rest) × IsText (rest ∷ lines) text × (kind ≡ 1) × (bytes ≡ text_data text)

abbrev pub IsNumberData : List ℕ → List (List ℕ) → ℕ → List ℕ → Type 0
IsNumberData line lines kind bytes =
    (digits : List ℕ) × (number : ℕ) × (end : List ℕ) × (line ≡ codes "dword:" ++ (digits ++ end)) × (lines ≡ []) × IsNumber digits number × IsTail end × (kind ≡ 4) × (bytes ≡ to_le_bytes w32 number)

abbrev pub IsListData : List ℕ → List (List ℕ) → ℕ → List ℕ → Type 0
IsListData line lines kind bytes = (word : List ℕ) × (rest : List ℕ) × (line ≡ word ++ rest) × IsType word kind × IsList (rest ∷ lines) bytes

-- the lines of a value whose data are a list
abbrev pub IsListValue : List (List ℕ) → List ℕ → ℕ → List ℕ → Type 0
IsListValue lines name kind bytes = (line : List ℕ) × (rest : List ℕ) × (more : List (List ℕ)) × (lines ≡ line ∷ more) × IsHead line name rest × IsListData rest more kind bytes

-- the lines of a value that is no list
abbrev pub IsPlainValue : List (List ℕ) → List ℕ → ℕ → List ℕ → Type 0
IsPlainValue lines name kind bytes =
    (line : List ℕ) × (rest : List ℕ) × (more : List (List ℕ)) × (lines ≡ line ∷ more) × IsHead line name rest × (IsTextData rest more kind bytes ⊎ IsNumberData rest more kind bytes)

-- the lines of a value; the bytes of a list that is a text in the old form are text in the code page
abbrev pub IsValue : Bool → List (List ℕ) → List ℕ → ℕ → List ℕ → Type 0
IsValue old lines name kind bytes = IsPlainValue lines name kind bytes ⊎ ((written : List ℕ) × IsListValue lines name kind written × (bytes ≡ list_data old kind written))

-- a path loses one backslash at its end
abbrev pub IsPath : List ℕ → List ℕ → Type 0
IsPath written path = (written ≡ path ++ 92 ∷ []) ⊎ ((written ≡ path) × ((front : List ℕ) → path ≢ front ++ 92 ∷ []))

-- no unit is a closing bracket
abbrev pub HasNoBracket : List ℕ → Type 0
HasNoBracket units = AllByRecursion (λ unit. unit ≢ 93) units

-- a line names a key: what stands between an opening bracket and the last closing one of the line
pub record IsKeyLine (line inside : List ℕ) : Type 0 where
  pub before : List ℕ
  pub end : List ℕ
  pub parsed : line ≡ before ++ 91 ∷ (inside ++ 93 ∷ end)
  pub before_blanks : AreBlanks before
  pub is_tail : IsTail end
  pub last : HasNoBracket end

-- the lines of a statement
abbrev pub IsStatement : Bool → List (List ℕ) → Statement → Type 0
IsStatement old lines (CreateKey path) = (line : List ℕ) × (written : List ℕ) × (lines ≡ line ∷ []) × IsKeyLine line written × ((rest : List ℕ) → written ≢ 45 ∷ rest) × IsPath written path
IsStatement old lines (DeleteKey path) = (line : List ℕ) × (written : List ℕ) × (lines ≡ line ∷ []) × IsKeyLine line (45 ∷ written) × IsPath written path
IsStatement old lines (SetValue name kind bytes) = IsValue old lines name kind bytes
IsStatement old lines (DeleteValue name) = (line : List ℕ) × (end : List ℕ) × (lines ≡ line ∷ []) × IsHead line name (45 ∷ end) × IsTail end

-- an entry of a file: the lines of a statement, or one line without one, which is empty or a remark
pub record Entry : Type 0 where
  pub lines : List (List ℕ)
  pub statement : Option Statement

abbrev pub IsEntry : Bool → List (List ℕ) → Option Statement → Type 0
IsEntry old lines None = (line : List ℕ) × (lines ≡ line ∷ []) × IsTail line
IsEntry old lines (Some statement) = IsStatement old lines statement

-- how many units lines have, with the line feeds between them
abbrev pub units_of : List (List ℕ) → ℕ
units_of [] = 0
units_of (line ∷ []) = length line
units_of (line ∷ next ∷ lines) = length line + 1 + units_of (next ∷ lines)

-- a value stands where a key is current, and no statement is too large
abbrev pub IsPlaced : Bool → List (List ℕ) → Option Statement → Type 0
IsPlaced has_key lines None = Unit {0}
IsPlaced has_key lines (Some statement) = (wants_key statement ≡ true → has_key ≡ true) × (units_of lines ≤ MOST_ELEMENT_BYTES)

abbrev pub key_behind_entry : Option Statement → Bool → Bool
key_behind_entry None has_key = has_key
key_behind_entry (Some statement) has_key = key_after statement has_key

-- entries one after another, and whether a key is current behind them
abbrev pub AreEntries : Bool → Bool → List Entry → Type 0
AreEntries old has_key [] = Unit {0}
AreEntries old has_key (entry ∷ entries) =
    IsEntry old entry.lines entry.statement × IsPlaced has_key entry.lines entry.statement × AreEntries old (key_behind_entry entry.statement has_key) entries

abbrev pub key_behind : Bool → List Entry → Bool
key_behind has_key [] = has_key
key_behind has_key (entry ∷ entries) = key_behind (key_behind_entry entry.statement has_key) entries

-- their lines
abbrev pub entry_lines : List Entry → List (List ℕ)
entry_lines [] = []
entry_lines (entry ∷ entries) = entry.lines ++ entry_lines entries

-- their statements, each with the number of its first line
abbrev pub one_numbered : ℕ → Option Statement → List NumberedStatement
one_numbered number None = []
one_numbered number (Some statement) = record { line = number; statement = statement } ∷ []

abbrev pub numbered : ℕ → List Entry → List NumberedStatement
numbered number [] = []
numbered number (entry ∷ entries) = one_numbered number entry.statement ++ numbered (number + length entry.lines) entries

-- the first line of a file, in the old form and in the new one
abbrev pub header_text : Bool → List ℕ
header_text true = codes "REGEDIT4"
header_text false = codes "Windows Registry Editor Version 5.00"

pub record IsHeader (old : Bool) (line : List ℕ) : Type 0 where
  pub blanks : List ℕ
  pub end : List ℕ
  pub parsed : line ≡ blanks ++ (header_text old ++ end)
  pub are_blanks : AreBlanks blanks
  pub is_end : IsLineEnd end

-- lines are a file with these statements: a header, and entries
pub record IsFile (lines : List (List ℕ)) (statements : List NumberedStatement) : Type 0 where
  pub old : Bool
  pub header : List ℕ
  pub entries : List Entry
  pub parsed : lines ≡ header ∷ entry_lines entries
  pub is_header : IsHeader old header
  pub are_entries : AreEntries old false entries
  pub spelled : statements ≡ numbered 2 entries

-- what stands at a fault: lines that are left, where a key is current or none is
abbrev pub BeginsNoEntry : Bool → List (Option (List ℕ)) → Type 0
BeginsNoEntry old left = (lines : List (List ℕ)) (statement : Option Statement) (more : List (Option (List ℕ))) → left ≡ map Some lines ++ more → IsEntry old lines statement → ⊥

-- lines with which an entry may begin: none; those that others complete to a statement; or those of a list with something
-- wrong in it, of which the last one goes on
abbrev pub IsWrongList : List (List ℕ) → Type 0
IsWrongList lines = (front : List (List ℕ)) × (line : List ℕ) × (before : List ℕ) × (rest : List ℕ) × (lines ≡ front ++ line ∷ []) × (line ≡ before ++ rest) × (goes_on rest ≡ true)

abbrev pub MayGoOn : Bool → List (List ℕ) → Type 0
MayGoOn old lines = (lines ≡ []) ⊎ ((tail : List (List ℕ)) × (statement : Statement) × IsStatement old (lines ++ tail) statement) ⊎ IsWrongList lines

-- a line that isn't well formed is behind lines that may go on
abbrev pub HasNoText : Bool → List (Option (List ℕ)) → Type 0
HasNoText old left = (lines : List (List ℕ)) × (more : List (Option (List ℕ))) × (left ≡ map Some lines ++ None ∷ more) × MayGoOn old lines

-- a statement begins here for which a fact holds
abbrev pub BeginsStatement : Bool → (List (List ℕ) → Statement → Type 0) → List (Option (List ℕ)) → Type 0
BeginsStatement old Holds left =
    (lines : List (List ℕ)) × (statement : Statement) × (more : List (Option (List ℕ))) × (left ≡ map Some lines ++ more) × IsStatement old lines statement × Holds lines statement

abbrev pub Stands : Bool → Bool → List (Option (List ℕ)) → FaultKind → Type 0
Stands old has_key left NoHeader = ⊥
Stands old has_key left NotText = HasNoText old left × BeginsNoEntry old left
Stands old has_key left NotUnderstood = BeginsNoEntry old left
Stands old has_key left NoKey = (has_key ≡ false) × BeginsStatement old (λ lines statement. wants_key statement ≡ true) left
Stands old has_key left TooLarge = BeginsStatement old (λ lines statement. MOST_ELEMENT_BYTES < units_of lines) left

-- the statements before a fault, and the fault
pub record IsStopped (lines : List (Option (List ℕ))) (statements : List NumberedStatement) (fault : Fault) : Type 0 where
  pub old : Bool
  pub header : List ℕ
  pub entries : List Entry
  pub left : List (Option (List ℕ))
  pub parsed : lines ≡ Some header ∷ (map Some (entry_lines entries) ++ left)
  pub is_header : IsHeader old header
  pub are_entries : AreEntries old false entries
  pub spelled : statements ≡ numbered 2 entries
  pub number : fault.line ≡ 2 + length (entry_lines entries)
  pub stands : Stands old (key_behind false entries) left fault.kind

-- a fault of the first line
pub record IsNoHeader (lines : List (Option (List ℕ))) (statements : List NumberedStatement) (fault : Fault) : Type 0 where
  pub none : statements ≡ []
  pub number : fault.line ≡ 1
  pub line : Option (List ℕ)
  pub more : List (Option (List ℕ))
  pub parsed : lines ≡ line ∷ more
  pub is : ((line ≡ None) × (fault.kind ≡ NotText)) ⊎ ((text : List ℕ) × (line ≡ Some text) × (fault.kind ≡ NoHeader) × ((old : Bool) → IsHeader old text → ⊥))
