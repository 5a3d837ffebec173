-- Which bytes are which line, stated as relations: a word and its value, part by part.
use Rattle.std.specs.Prelude.{◌≡◌, ◌≢◌, ℕ, ◌-◌, ◌^◌, ◌<◌, ◌≤◌, ◌⊎◌, true, List, [], ◌∷◌, ◌++◌, length, replicate, Some, Ok, codes}
use Rattle.std.specs.List.{list_all}
use Rattle.std.specs.Char.{is_ascii_digit, is_ascii_alphanumeric}
use Rattle.std.specs.Str.Parse.{digits_value}
use Rattle.std.specs.Int.{from_be_bytes, w16}
use Rattle.hex.specs.Hex.{decode_of, decode_sized}
use Rattle.refusals.specs.declared.limits.TheConstants.{MOST_HIVES, MOST_HISTORY}
use Rattle.script_syntax.specs.Words.{words, uuid_of}
use Rattle.script_syntax.specs.declared.label.TheConstants.{LONGEST_LABEL}
use Rattle.script_syntax.specs.declared.line.KeyRef.{KeyRef}
use Rattle.script_syntax.specs.declared.line.Request.{Request}
use Rattle.script_syntax.specs.declared.line.Request.TheVariants.{Create, Delete, Set, Unset, Get, Keys, Values, Info}
use Rattle.script_syntax.specs.declared.line.Line.{Line}
use Rattle.script_syntax.specs.declared.line.Line.TheVariants.{Hives, History, At, Session, End, Plain, Begin, Inside, Commit, Rollback, Close, Outcome, Kept, Flush, Fold, Served, Lab}
use Rattle.script_syntax.specs.declared.served_line.ServedLine.{ServedLine}
use Rattle.script_syntax.specs.declared.served_line.ServedLine.TheVariants.{Backup, Follow, Watch, Stats}
use Rattle.script_syntax.specs.declared.lab_line.LabLine.{LabLine}
use Rattle.script_syntax.specs.declared.lab_line.LabLine.TheVariants.{Accept, JournalStep, FlusherStep, TrimStep, FlushWhole, StopAt, FailAt, Crash}
use Rattle.script_syntax.specs.declared.lab_line.CrashTear.{CrashTear}
use Rattle.script_syntax.specs.declared.lab_line.CrashTear.TheVariants.{Old, New, Torn}

-- one decimal digit or more, and the number that they write
pub record IsDecimal (word : List ℕ) (number : ℕ) : Type 0 where
  pub some : 0 < length word
  pub digits : list_all is_ascii_digit word ≡ true
  pub value : number ≡ digits_value 10 word

-- a unit except `%` is written as the byte of its number, and any unit as `%` and four hex digits
abbrev pub IsPlain : List ℕ → ℕ → Type 0
IsPlain piece unit = (unit ≢ 37) × (piece ≡ unit ∷ [])

pub record IsEscape (piece : List ℕ) (unit : ℕ) : Type 0 where
  pub digits : List ℕ
  pub pair : List ℕ
  pub parsed : piece ≡ 37 ∷ digits
  pub four : length digits ≡ 4
  pub decoded : decode_sized digits 2 ≡ Ok pair
  pub is : unit ≡ from_be_bytes w16 pair

-- units, one after another
abbrev pub SpellsUnits : List ℕ → List ℕ → Type 0
SpellsUnits word [] = word ≡ []
SpellsUnits word (unit ∷ units) = (piece : List ℕ) × (rest : List ℕ) × (word ≡ piece ++ rest) × (IsPlain piece unit ⊎ IsEscape piece unit) × SpellsUnits rest units

-- a hive's number, a colon, and the text of a path
pub record IsKeyRef (word : List ℕ) (key_ref : KeyRef) : Type 0 where
  pub number : List ℕ
  pub text : List ℕ
  pub parsed : word ≡ number ++ 58 ∷ text
  pub hive : IsDecimal number key_ref.hive
  pub within : key_ref.hive ≤ 255
  pub path : SpellsUnits text key_ref.path

-- the name of a value: `@` is the empty one, and nothing else is
abbrev pub IsName : List ℕ → List ℕ → Type 0
IsName word units = ((word ≡ codes "@") × (units ≡ [])) ⊎ ((word ≢ codes "@") × (word ≢ []) × SpellsUnits word units)

-- bytes: a minus for none, or pairs of hex digits, at least one pair
abbrev pub IsData : List ℕ → List ℕ → Type 0
IsData word bytes = ((word ≡ codes "-") × (bytes ≡ [])) ⊎ ((word ≢ codes "-") × (word ≢ []) × (decode_of word ≡ Ok bytes))

-- a label: ASCII letters or digits, at least one and at most 16, filled up with zeros
pub record IsLabel (word label : List ℕ) : Type 0 where
  pub some : 0 < length word
  pub short : length word ≤ LONGEST_LABEL
  pub letters : list_all is_ascii_alphanumeric word ≡ true
  pub filled : label ≡ word ++ replicate (LONGEST_LABEL - length word) 0

-- a text form of a UUID, by its parser
abbrev pub IsUuid : List ℕ → List ℕ → Type 0
IsUuid word id = uuid_of word ≡ Some id

-- a word with a key after it; with a key and a name; with a number; with a label
abbrev pub VerbAndKeyRef : List ℕ → KeyRef → List (List ℕ) → Type 0
VerbAndKeyRef verb at said = (key_ref : List ℕ) × (said ≡ verb ∷ key_ref ∷ []) × IsKeyRef key_ref at

abbrev pub VerbKeyRefAndName : List ℕ → KeyRef → List ℕ → List (List ℕ) → Type 0
VerbKeyRefAndName verb at name said = (key_ref : List ℕ) × (named : List ℕ) × (said ≡ verb ∷ key_ref ∷ named ∷ []) × IsKeyRef key_ref at × IsName named name

abbrev pub VerbAndNumber : List ℕ → ℕ → List (List ℕ) → Type 0
VerbAndNumber verb number said = (digits : List ℕ) × (said ≡ verb ∷ digits ∷ []) × IsDecimal digits number

abbrev pub VerbAndLabel : List ℕ → List ℕ → List (List ℕ) → Type 0
VerbAndLabel verb label said = (word : List ℕ) × (said ≡ verb ∷ word ∷ []) × IsLabel word label

-- the words of a request: the first says which it is, and the others what it asks for
abbrev pub RequestWords : Request → List (List ℕ) → Type 0
RequestWords (Create at) said = VerbAndKeyRef (codes "create") at said
RequestWords (Delete at) said = VerbAndKeyRef (codes "delete") at said
RequestWords (Set at name kind bytes) said =
    (key_ref : List ℕ) × (named : List ℕ) × (number : List ℕ) × (digits : List ℕ) × (said ≡ codes "set" ∷ key_ref ∷ named ∷ number ∷ digits ∷ [])
    × IsKeyRef key_ref at × IsName named name × IsDecimal number kind × (kind < 2 ^ 32) × IsData digits bytes
RequestWords (Unset at name) said = VerbKeyRefAndName (codes "unset") at name said
RequestWords (Get at name) said = VerbKeyRefAndName (codes "get") at name said
RequestWords (Keys at) said = VerbAndKeyRef (codes "keys") at said
RequestWords (Values at) said = VerbAndKeyRef (codes "values") at said
RequestWords (Info at) said = VerbAndKeyRef (codes "info") at said

-- the word of what a loss of power leaves
abbrev pub tear_word : CrashTear → List ℕ
tear_word Old = codes "old"
tear_word New = codes "new"
tear_word Torn = codes "torn"

-- the words of a line that only a laboratory takes; calls of the device are counted from 1
abbrev pub LabLineWords : LabLine → List (List ℕ) → Type 0
LabLineWords (Accept label) said = VerbAndLabel (codes "accept") label said
LabLineWords JournalStep said = said ≡ codes "jstep" ∷ []
LabLineWords (FlusherStep hive) said = VerbAndNumber (codes "fstep") hive said × (hive ≤ 255)
LabLineWords TrimStep said = said ≡ codes "tstep" ∷ []
LabLineWords (FlushWhole hive) said = VerbAndNumber (codes "fall") hive said × (hive ≤ 255)
LabLineWords (StopAt call) said = VerbAndNumber (codes "stop") call said × (1 ≤ call) × (call < 2 ^ 64)
LabLineWords (FailAt call) said = VerbAndNumber (codes "fail") call said × (1 ≤ call) × (call < 2 ^ 64)
LabLineWords (Crash tear) said = said ≡ codes "crash" ∷ tear_word tear ∷ []

-- the words of a line that only a session of a served store takes
abbrev pub ServedLineWords : ServedLine → List (List ℕ) → Type 0
ServedLineWords (Backup name) said = (word : List ℕ) × (said ≡ codes "backup" ∷ word ∷ []) × IsName word name
ServedLineWords (Follow number) said = VerbAndNumber (codes "follow") number said × (number < 2 ^ 64)
ServedLineWords (Watch at) said = VerbAndKeyRef (codes "watch") at said
ServedLineWords Stats said = said ≡ codes "stats" ∷ []

-- the words of a line, likewise; a request is alone, or after `tx` and a label
abbrev pub LineWords : Line → List (List ℕ) → Type 0
LineWords (Hives count) said = VerbAndNumber (codes "hives") count said × (1 ≤ count) × (count ≤ MOST_HIVES)
LineWords (History limit) said = VerbAndNumber (codes "history") limit said × (1 ≤ limit) × (limit ≤ MOST_HISTORY)
LineWords (At moment) said = VerbAndNumber (codes "at") moment said × (moment < 2 ^ 64)
LineWords (Session number) said = VerbAndNumber (codes "session") number said × (number < 2 ^ 32)
LineWords (End number) said = VerbAndNumber (codes "end") number said × (number < 2 ^ 32)
LineWords (Plain request) said = RequestWords request said
LineWords (Begin label id) said =
    (word : List ℕ) × (text : List ℕ) × (said ≡ codes "begin" ∷ word ∷ text ∷ []) × IsLabel word label × IsUuid text id
LineWords (Inside label request) said =
    (word : List ℕ) × (asked : List (List ℕ)) × (said ≡ codes "tx" ∷ word ∷ asked) × IsLabel word label × RequestWords request asked
LineWords (Commit label) said = VerbAndLabel (codes "commit") label said
LineWords (Rollback label) said = VerbAndLabel (codes "rollback") label said
LineWords (Close label) said = VerbAndLabel (codes "close") label said
LineWords (Outcome label) said = VerbAndLabel (codes "outcome") label said
LineWords (Kept id) said = (text : List ℕ) × (said ≡ codes "kept" ∷ text ∷ []) × IsUuid text id
LineWords Flush said = said ≡ codes "flush" ∷ []
LineWords Fold said = said ≡ codes "fold" ∷ []
LineWords (Served line) said = ServedLineWords line said
LineWords (Lab line) said = LabLineWords line said

-- bytes are a line if their parts between blanks are
abbrev pub BytesParseTo : List ℕ → Line → Type 0
BytesParseTo bytes line = LineWords line (words bytes)
