-- The encoding of an operation and of an accepted change, and what reads it.
use Rattle.std.specs.Prelude.{◌≡◌, ℕ, ◌+◌, ◌^◌, ◌<◌, ◌≤◌, List, [], ◌++◌, length, true, ◌==◌, ◌&&◌, nat_lt, nat_le, if◌then◌else◌, Option, Some, None, ⊤}
use Rattle.std.specs.Option.{option_and_then}
use Rattle.std.specs.List.{flat_map, AllByRecursion}
use Rattle.byteorder.specs.Endian.{little_bytes}
use Rattle.refusals.specs.declared.limits.TheConstants.{MOST_PATH_NAMES}
use Rattle.reg_names.specs.Names.{is_path, is_key_name, is_value_name}
use Rattle.reg_tree.specs.declared.op.Op.{Op}
use Rattle.reg_tree.specs.declared.op.Op.TheVariants.{CreateKey, DeleteKey, SetValue, DeleteValue}
use Rattle.reg_tree.specs.declared.element.Element.{Element}
use Rattle.reg_tree.specs.Operations.{hive_of, spelled_path}
use Rattle.reg_tree.specs.Encodings.{element_encoded_len}
use Rattle.change_codec.specs.Readers.{Reader, give, refuse, then_by, both, checked, repeat, number_at, string_at, counted_at}

-- ---- encodings

-- a length of this many bytes, and the bytes
abbrev pub string : ℕ → List ℕ → List ℕ
string w bytes = little_bytes w (length bytes) ++ bytes

-- a count of this many bytes, and the encodings
abbrev pub counted : {A : Type 0} → ℕ → (A → List ℕ) → List A → List ℕ
counted w encoding xs = little_bytes w (length xs) ++ flat_map encoding xs

-- the number of an operation's kind
abbrev pub kind_of : Op → ℕ
kind_of (CreateKey hive path) = 1
kind_of (DeleteKey hive path) = 2
kind_of (SetValue hive path name kind bytes) = 3
kind_of (DeleteValue hive path name) = 4

-- kind, hive and path, which each operation begins with
abbrev pub head_of : Op → ℕ × (ℕ × List (List ℕ))
head_of op = (kind_of op, (hive_of op, spelled_path op))

abbrev pub path_bytes : List (List ℕ) → List ℕ
path_bytes path = counted 2 (string 1) path

abbrev pub head_bytes : ℕ × (ℕ × List (List ℕ)) → List ℕ
head_bytes head = little_bytes 1 head.0 ++ (little_bytes 1 head.1.0 ++ path_bytes head.1.1)

-- and what follows these
abbrev pub tail_bytes : Op → List ℕ
tail_bytes (CreateKey hive path) = []
tail_bytes (DeleteKey hive path) = []
tail_bytes (SetValue hive path name kind bytes) = string 2 name ++ (little_bytes 4 kind ++ string 4 bytes)
tail_bytes (DeleteValue hive path name) = string 2 name

abbrev pub op_bytes : Op → List ℕ
op_bytes op = head_bytes (head_of op) ++ tail_bytes op

-- an accepted change: its length in bytes (4 bytes), its moment (8), the count of its operations (4), and these
abbrev pub element_bytes : Element → List ℕ
element_bytes e = little_bytes 4 (element_encoded_len e) ++ (little_bytes 8 e.moment ++ counted 4 op_bytes e.ops)

-- ---- what has an encoding

abbrev pub TailFits : Op → Type 0
TailFits (CreateKey hive path) = ⊤
TailFits (DeleteKey hive path) = ⊤
TailFits (SetValue hive path name kind bytes) = (is_value_name name ≡ true) × ((kind < 256 ^ 4) × (length bytes < 256 ^ 4))
TailFits (DeleteValue hive path name) = is_value_name name ≡ true

-- an operation on a hive below `hives`
pub record OpFits (hives : ℕ) (op : Op) : Type 0 where
  pub hive : hive_of op < hives
  pub path : is_path (spelled_path op) ≡ true
  pub tail : TailFits op

-- an accepted change whose hives are below `hives`
pub record Fits (hives : ℕ) (e : Element) : Type 0 where
  pub some : 1 ≤ length e.ops
  pub ops : AllByRecursion (OpFits hives) e.ops
  pub moment : e.moment < 256 ^ 8
  pub size : element_encoded_len e < 256 ^ 4

-- what the types and the length of an operation in memory ensure of this
pub record HasEncoding (op : Op) : Type 0 where
  pub hive : hive_of op < 256
  pub path : is_path (spelled_path op) ≡ true
  pub tail : TailFits op

-- ---- reading

-- the name of a key that a call may name
abbrev pub key_name_at : Reader (List ℕ)
key_name_at = checked is_key_name (string_at 1)

-- a count of names that a path may have
abbrev pub name_count_at : Reader ℕ
name_count_at = checked (λ count. nat_le count MOST_PATH_NAMES) (number_at 2)

-- a count of names, and as many names
abbrev pub path_at : Reader (List (List ℕ))
path_at = then_by name_count_at (λ count. repeat count key_name_at)

-- the name of a value that a call may name
abbrev pub value_name_at : Reader (List ℕ)
value_name_at = checked is_value_name (string_at 2)

-- a hive below this number
abbrev pub hive_at : ℕ → Reader ℕ
hive_at hives = checked (λ hive. nat_lt hive hives) (number_at 1)

-- kind, hive and path
abbrev pub head_at : ℕ → Reader (ℕ × (ℕ × List (List ℕ)))
head_at hives = both (number_at 1) (both (hive_at hives) path_at)

-- a value's name, its type and its data
abbrev pub set_fields_at : Reader (List ℕ × (ℕ × List ℕ))
set_fields_at = both value_name_at (both (number_at 4) (string_at 4))

abbrev pub set_value : ℕ → List (List ℕ) → List ℕ × (ℕ × List ℕ) → Op
set_value hive path got = SetValue hive path got.0 got.1.0 got.1.1

-- what follows the head, by the kind
abbrev pub by_kind : ℕ → ℕ → List (List ℕ) → Reader Op
by_kind kind hive path =
    if kind == 1 then give (CreateKey hive path)
    else if kind == 2 then give (DeleteKey hive path)
    else if kind == 3 then then_by set_fields_at (λ got. give (set_value hive path got))
    else if kind == 4 then then_by value_name_at (λ name. give (DeleteValue hive path name))
    else refuse

-- an operation on a hive below this number
abbrev pub op_at : ℕ → Reader Op
op_at hives = then_by (head_at hives) (λ head. by_kind head.0 head.1.0 head.1.1)

-- length, moment and operations
abbrev pub fields_at : ℕ → Reader (ℕ × (ℕ × List Op))
fields_at hives = both (number_at 4) (both (number_at 8) (counted_at 4 (op_at hives)))

abbrev pub made : ℕ × (ℕ × List Op) → Element
made fields = record { moment = fields.1.0; ops = fields.1.1 }

-- there is an operation, and the length is the number of bytes that were read
abbrev pub whole : List ℕ → (ℕ × (ℕ × List Op)) × List ℕ → Option (Element × List ℕ)
whole bytes got = if nat_le 1 (length got.0.1.1) && (length bytes == (got.0.0 + length got.1)) then Some (made got.0, got.1) else None

-- the accepted change that bytes begin with, its hives below this number, and the bytes after it
unfoldable pub element_at : ℕ → Reader Element
element_at hives bytes = option_and_then (whole bytes) (fields_at hives bytes)
