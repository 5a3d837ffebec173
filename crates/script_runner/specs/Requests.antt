-- What a request of a script asks for: the operation or the read with its names, if they are allowed.
use Rattle.std.specs.Prelude.{ℕ, List, Result, Ok, Err}
use Rattle.reg_names.specs.Names.{path_of, name_if, is_value_name}
use Rattle.refusals.specs.declared.refusal.Refusal.{Refusal}
use Rattle.reg_tree.specs.declared.op.Op.TheVariants.{CreateKey, DeleteKey, SetValue, DeleteValue}
use Rattle.script_syntax.specs.declared.line.KeyRef.{KeyRef}
use Rattle.script_syntax.specs.declared.line.Request.{Request}
use Rattle.script_syntax.specs.declared.line.Request.TheVariants.{Create, Delete, Set, Unset, Get, Keys, Values, Info}
use Rattle.store_model.specs.declared.event.Question.TheVariants.{ValueOf, KeysOf, ValuesOf, InfoOf}
use Rattle.script_runner.specs.declared.operation.Operation.{Operation}
use Rattle.script_runner.specs.declared.operation.Operation.TheVariants.{Write, Read}

-- the key of a request
abbrev pub key_ref_of : Request → KeyRef
key_ref_of (Create key_ref) = key_ref
key_ref_of (Delete key_ref) = key_ref
key_ref_of (Set key_ref name kind bytes) = key_ref
key_ref_of (Unset key_ref name) = key_ref
key_ref_of (Get key_ref name) = key_ref
key_ref_of (Keys key_ref) = key_ref
key_ref_of (Values key_ref) = key_ref
key_ref_of (Info key_ref) = key_ref

-- a name that isn't allowed is refused, and else it is asked about
abbrev pub with_name : {A B : Type 0} → Result A Refusal → (A → Result B Refusal) → Result B Refusal
with_name (Ok name) ask = ask name
with_name (Err refusal) ask = Err refusal

-- the name of a value
abbrev pub value_name_of : List ℕ → Result (List ℕ) Refusal
value_name_of name = name_if (is_value_name name) name

-- what a request asks of the key at a path
abbrev pub operation_at : Request → ℕ → List (List ℕ) → Result Operation Refusal
operation_at (Create key_ref) hive path = Ok (Write (CreateKey hive path))
operation_at (Delete key_ref) hive path = Ok (Write (DeleteKey hive path))
operation_at (Set key_ref name kind bytes) hive path = with_name (value_name_of name) (λ named. Ok (Write (SetValue hive path named kind bytes)))
operation_at (Unset key_ref name) hive path = with_name (value_name_of name) (λ named. Ok (Write (DeleteValue hive path named)))
operation_at (Get key_ref name) hive path = with_name (value_name_of name) (λ named. Ok (Read hive path (ValueOf named)))
operation_at (Keys key_ref) hive path = Ok (Read hive path KeysOf)
operation_at (Values key_ref) hive path = Ok (Read hive path ValuesOf)
operation_at (Info key_ref) hive path = Ok (Read hive path InfoOf)

-- what a request asks for: its path is tested first, then a value's name
abbrev pub operation_of : Request → Result Operation Refusal
operation_of request = with_name (path_of (key_ref_of request).path) (λ path. operation_at request (key_ref_of request).hive path)
