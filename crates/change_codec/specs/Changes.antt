-- A change that is kept as its encoding.
use Rattle.std.specs.Prelude.{◌≡◌, ◌==◌, ℕ, List, [], ◌∷◌, ◌++◌, length, map, filter, Option, Some, None}
use Rattle.reg_tree.specs.declared.op.Op.{Op}
use Rattle.reg_tree.specs.declared.element.Element.{Element}
use Rattle.reg_tree.specs.Operations.{hive_of}
use Rattle.change_codec.specs.Readers.{repeat}
use Rattle.change_codec.specs.Encoding.{op_at, element_at}

-- a value was read, and these bytes are after it
abbrev pub Skips : {A : Type 0} → Option (A × List ℕ) → List ℕ → Type 0
Skips {A = A} got rest = (a : A) × (got ≡ Some (a, rest))

-- this many values were read, and these bytes are after them
abbrev pub SkipsMany : {A : Type 0} → Option (List A × List ℕ) → ℕ → List ℕ → Type 0
SkipsMany {A = A} got count rest = (xs : List A) × (got ≡ Some (xs, rest)) × (length xs ≡ count)

-- a change's fields were read, its length and this many operations among them, and these bytes are after them
abbrev pub SkipsFields : Option ((ℕ × (ℕ × List Op)) × List ℕ) → ℕ → ℕ → List ℕ → Type 0
SkipsFields got len count rest = (moment : ℕ) × (ops : List Op) × (got ≡ Some ((len, (moment, ops)), rest)) × (length ops ≡ count)

-- an operation on this hive was read, and these bytes are after it
abbrev pub SkipsOp : Option (Op × List ℕ) → ℕ → List ℕ → Type 0
SkipsOp got hive rest = (op : Op) × (got ≡ Some (op, rest)) × (hive_of op ≡ hive)

-- these operations were read
abbrev pub HasOps : Option (List Op × List ℕ) → List Op → Type 0
HasOps got ops = (rest : List ℕ) × (got ≡ Some (ops, rest))

-- what was read, or else the change without operations at the moment 0
abbrev pub change_or_none : Option (Element × List ℕ) → Element
change_or_none None = record { moment = 0; ops = [] }
change_or_none (Some got) = got.0

-- the change that bytes decode to
abbrev pub change_in : List ℕ → Element
change_in bytes = change_or_none (element_at 256 bytes)

-- bytes are the encoding of a change, and no more
abbrev pub EncodesOneChange : List ℕ → Type 0
EncodesOneChange bytes = element_at 256 bytes ≡ Some (change_in bytes, [])

-- the hives of a change's operations, one after another
abbrev pub hives_of : Element → List ℕ
hives_of e = map hive_of e.ops

-- bytes begin with this many operations
abbrev pub AreOps : ℕ → List ℕ → Type 0
AreOps count bytes = ¬ (repeat count (op_at 256) bytes ≡ None)

-- An operation was read, and these bytes are after it. If it is on this hive it was appended to the ones before; else
-- these stay.
abbrev pub TakesOp : Option (Op × List ℕ) → ℕ → List Op → List Op → List ℕ → Type 0
TakesOp got hive before after rest = (op : Op) × (got ≡ Some (op, rest)) × (after ≡ before ++ filter (λ one. hive_of one == hive) (op ∷ []))

-- the hives of those that were read
abbrev pub hives_read : Option (List Op × List ℕ) → List ℕ
hives_read None = []
hives_read (Some got) = map hive_of got.0

-- the hives of the operations that bytes begin with, this many
abbrev pub hives_in : ℕ → List ℕ → List ℕ
hives_in count bytes = hives_read (repeat count (op_at 256) bytes)
