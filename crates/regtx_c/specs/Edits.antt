-- What an edit answers, and what it leaves open.
use Rattle.std.specs.Prelude.{◌≡◌, ◌≢◌, ◌⊎◌, ℕ, List, length, Option, Some, None, Result, Ok, Err}
use Rattle.refusals.specs.declared.refusal.Refusal.{Refusal}
use Rattle.reg_names.specs.Names.{folded_path, path_of, is_value_name, name_if}
use Rattle.reg_tree.specs.Maps.{TreeMap, missing}
use Rattle.reg_tree.specs.Judgement.{legal_in, changed}
use Rattle.reg_tree.specs.declared.op.Op.{Op}
use Rattle.reg_tree.specs.declared.op.Op.TheVariants.{CreateKey, DeleteKey, SetValue, DeleteValue}
use Rattle.reg_tree.specs.declared.op.Legality.{Legality}
use Rattle.reg_tree.specs.declared.op.Legality.TheVariants.{Legal, Opened}
use Rattle.regtx_c.specs.declared.codes.TheConstants.{OK, NO_MEMORY, NOT_OPEN}
use Rattle.regtx_c.specs.Codes.{refusal_code}
use Rattle.regtx_c.specs.Questions.{with_names}

-- the operation that a call names by the text of a path and the units of a name; a hive in memory is hive 0
abbrev pub create_key : List ℕ → Result Op Refusal
create_key text = with_names (path_of text) (λ path. Ok (CreateKey 0 path))

abbrev pub delete_key : List ℕ → Result Op Refusal
delete_key text = with_names (path_of text) (λ path. Ok (DeleteKey 0 path))

-- the names of a path and the name of a value
abbrev pub value_place : List ℕ → List ℕ → Result (List (List ℕ) × List ℕ) Refusal
value_place text name = with_names (path_of text) (λ path. with_names (name_if (is_value_name name) name) (λ spelled. Ok (path, spelled)))

abbrev pub set_value : List ℕ → List ℕ → ℕ → List ℕ → Result Op Refusal
set_value text name kind bytes = with_names (value_place text name) (λ place. Ok (SetValue 0 place.0 place.1 kind bytes))

abbrev pub delete_value : List ℕ → List ℕ → Result Op Refusal
delete_value text name = with_names (value_place text name) (λ place. Ok (DeleteValue 0 place.0 place.1))

-- the number of an operation by its judgement
abbrev pub judgement_code : Result Legality Refusal → ℕ
judgement_code (Ok legality) = OK
judgement_code (Err why) = refusal_code why

-- what an operation leaves of a tree by its judgement: one that is refused, or that opens a key, leaves the tree
abbrev pub left_by : Result Legality Refusal → TreeMap → TreeMap → TreeMap
left_by (Ok Legal) before after = after
left_by (Ok Opened) before after = before
left_by (Err why) before after = before

-- a tree is edited by an operation at a moment; or there is no such operation, and the tree stays
abbrev pub Edits : Result Op Refusal → ℕ → TreeMap → TreeMap → ℕ → Type 0
Edits (Ok op) moment before after code =
    (code ≡ judgement_code (legal_in before op)) × (after ≡ left_by (legal_in before op) before (changed before op moment))
Edits (Err why) moment before after code = (code ≡ refusal_code why) × (after ≡ before)

-- the same, or memory was not given, and the tree stays
abbrev pub EditsOrNoMemory : Result Op Refusal → ℕ → TreeMap → TreeMap → ℕ → Type 0
EditsOrNoMemory op moment before after code = Edits op moment before after code ⊎ ((code ≡ NO_MEMORY) × (after ≡ before))

-- the same of the tree that is open; if none is, none is afterwards
abbrev pub EditsOpen : Result Op Refusal → ℕ → Option TreeMap → Option TreeMap → ℕ → Type 0
EditsOpen op moment None None code = code ≡ NOT_OPEN
EditsOpen op moment None (Some after) code = ⊥
EditsOpen op moment (Some before) None code = ⊥
EditsOpen op moment (Some before) (Some after) code = EditsOrNoMemory op moment before after code

-- how many keys a creation makes in a tree, by its judgement
abbrev pub count_made : Result Legality Refusal → ℕ → ℕ
count_made (Ok Legal) levels = levels
count_made (Ok Opened) levels = 0
count_made (Err why) levels = 0

-- how many keys the creation of a path makes
abbrev pub keys_made : List ℕ → TreeMap → Result ℕ Refusal
keys_made text tree =
    with_names (path_of text) (λ path. Ok (count_made (legal_in tree (CreateKey 0 path)) (length (missing tree (folded_path path)))))

-- the number of keys is told at OK; at any other number nothing is written
abbrev pub TellsCount : Option TreeMap → (TreeMap → Result ℕ Refusal) → ℕ → ℕ → ℕ → Type 0
TellsCount None count code before told = told ≡ before
TellsCount (Some tree) count code before told = (code ≡ OK → count tree ≡ Ok told) × (code ≢ OK → told ≡ before)
