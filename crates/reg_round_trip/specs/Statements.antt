-- The statements of a registration file of hives.
use Rattle.std.specs.Prelude.{ℕ, List, ◌∷◌, map}
use Rattle.std.specs.List.{flat_map}
use Rattle.std.specs.FinMap as finite
use Rattle.reg_tree_parts.specs.declared.value.Value.{Value}
use Rattle.key_walk.specs.KeyRows.{NamedRow}
use Rattle.reg_export.specs.RegTexts.{reg_path}
use Rattle.reg_file.specs.declared.statement.Statement.{Statement}
use Rattle.reg_file.specs.declared.statement.Statement.TheVariants.{CreateKey, SetValue}

-- a value is written with its name, type and data
abbrev pub value_statement : Value → Statement
value_statement value = SetValue value.name value.kind value.«data»

-- a key is created at its path behind the prefix of its hive; then its values are written, in the order of their names
abbrev pub key_statements : List ℕ → NamedRow → List Statement
key_statements prefix key = CreateKey (reg_path prefix key.0) ∷ map value_statement (finite.values (let row = key.1 in row.values))

-- the statements of hives, each of which is a prefix and keys
abbrev pub export_statements : List (List ℕ × List NamedRow) → List Statement
export_statements hives = flat_map (λ hive. flat_map (key_statements hive.0) hive.1) hives
