-- Hives of which a registration file says all: what prefixes, names and values have to be.
use Rattle.std.specs.Prelude.{◌≡◌, ◌≢◌, ℕ, ◌+◌, ◌<◌, ◌≤◌, ◌^◌, true, List, [], ◌∷◌, ◌++◌, length, map, Some, None}
use Rattle.std.specs.List.{AllByRecursion}
use Rattle.std.specs.FinMap as finite
use Rattle.refusals.specs.declared.limits.TheConstants.{MOST_ELEMENT_BYTES, MOST_VALUE_BYTES}
use Rattle.reg_names.specs.Printable.{is_printable}
use Rattle.reg_tree_parts.specs.declared.value.Value.{Value}
use Rattle.key_walk.specs.KeyRows.{NamedRow}
use Rattle.reg_export.specs.RegTexts.{reg_path}
use Rattle.reg_file.specs.Files.{reg_file_of}
use Rattle.reg_file.specs.Lines.{file_lines}
use Rattle.reg_file.specs.Grammar.{IsFile}
use Rattle.reg_file.specs.declared.statement.Statement.{Statement}
use Rattle.reg_file.specs.declared.statement.NumberedStatement.{NumberedStatement}

-- units of 16 bits
abbrev pub AreUtf16Units : List ℕ → Type 0
AreUtf16Units units = AllByRecursion (λ u. u < 2 ^ 16) units

-- no unit is a backslash
abbrev pub HasNoBackslash : List ℕ → Type 0
HasNoBackslash name = AllByRecursion (λ u. u ≢ 92) name

-- a prefix: units from 0x20 to 0x7e, which neither begin with a minus nor end with a backslash
pub record IsPrefixText (prefix : List ℕ) : Type 0 where
  pub units : AllByRecursion (λ u. is_printable u ≡ true) prefix
  pub no_minus : (rest : List ℕ) → prefix ≢ 45 ∷ rest
  pub no_separator : (front : List ℕ) → prefix ≢ front ++ 92 ∷ []

-- the name of a key below the root: some units, none of which is a backslash
pub record IsBelowName (name : List ℕ) : Type 0 where
  pub units : AreUtf16Units name
  pub some : name ≢ []
  pub no_backslash : HasNoBackslash name

-- a value: a name of at most 65,535 units, a type of 32 bits, and at most 1,048,576 bytes
pub record IsValueOfLimits (value : Value) : Type 0 where
  pub units : AreUtf16Units value.name
  pub short : length value.name ≤ 65535
  pub kind : value.kind < 2 ^ 32
  pub bytes : AllByRecursion (λ b. b < 256) value.«data»
  pub few : length value.«data» ≤ MOST_VALUE_BYTES

-- a key behind a prefix: its path in brackets is no larger than a statement may be
pub record IsKeyOfLimits (prefix : List ℕ) (key : NamedRow) : Type 0 where
  pub names : AllByRecursion IsBelowName key.0
  pub short : length (reg_path prefix key.0) + 3 ≤ MOST_ELEMENT_BYTES
  pub values : AllByRecursion IsValueOfLimits (finite.values (let row = key.1 in row.values))

-- a hive: a prefix and keys
pub record IsHiveOfLimits (hive : List ℕ × List NamedRow) : Type 0 where
  pub prefix : IsPrefixText hive.0
  pub keys : AllByRecursion (IsKeyOfLimits hive.0) hive.1

-- Bytes are read as these statements: their lines are a file by the grammar, they are parsed to it without a fault, and
-- its statements, apart from the numbers of their lines, are these.
pub record AreReadAs (bytes : List ℕ) (statements : List Statement) : Type 0 where
  pub lines : List (List ℕ)
  pub numbered : List NumberedStatement
  pub are_lines : file_lines bytes ≡ map Some lines
  pub is_file : IsFile lines numbered
  pub is_parsed : reg_file_of bytes ≡ record { statements = numbered; fault = None }
  pub are_statements : map (λ (n : NumberedStatement). n.statement) numbered ≡ statements
