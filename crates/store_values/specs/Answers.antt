-- What is printed of a value and of a key.
use Rattle.std.specs.Prelude.{◌≡◌, ◌⊎◌, ℕ, ◌<◌, List, ◌++◌, codes, Option, Some, None}
use Rattle.std.specs.Option.{option_map}
use Rattle.std.specs.List.{flat_map}
use Rattle.std.specs.FinMap as finite
use Rattle.std.specs.Io.KnownBytes.{Appends}
use Rattle.refusals.specs.declared.refusal.Refusal.{Refusal}
use Rattle.refusals.specs.declared.refusal.Refusal.TheVariants.{NotFound}
use Rattle.reg_names.specs.Names.{folded_path}
use Rattle.reg_tree_parts.specs.declared.value.Value.{Value}
use Rattle.reg_tree_parts.specs.Rows.{Row}
use Rattle.reg_tree.specs.Maps.{TreeMap, row, subkeys}
use Rattle.reg_tree.specs.Reads.{value_at}
use Rattle.hive_files.specs.Frames.{RefusalHasCause}
use Rattle.commit_journal.specs.Store.{Store}
use Rattle.store_hive.specs.RecoveredHives.{RecoversHive}
use Rattle.store_hive.specs.RefusedHives.{RecoversNoNamedTree}
use Rattle.reply_lines.specs.declared.status.Status.{Status}
use Rattle.reply_lines.specs.declared.status.Status.TheVariants as status
use Rattle.reply_lines.specs.PrintedRefusals.{PrintsRefusal}
use Rattle.reply_lines.specs.Replies.{name_text}
use Rattle.value_syntax.specs.Printed.{datum_text}
use Rattle.store_values.specs.declared.value_form.ValueForm.{ValueForm}
use Rattle.store_values.specs.declared.value_form.ValueForm.TheVariants.{Line, Data}

-- the line of a value's type and data
abbrev pub datum_line : Value → List ℕ
datum_line value = datum_text value.kind value.«data» ++ codes "\n"

-- a value as it is printed in a form: the line of its type and data, or its data alone
abbrev pub value_text : ValueForm → Value → List ℕ
value_text Line value = datum_line value
value_text Data value = value.«data»

-- the value of a name in a form, if the tree has it
abbrev pub value_answer : ValueForm → List (List ℕ) → List ℕ → TreeMap → Option (List ℕ)
value_answer form path name tree = option_map (value_text form) (value_at tree (folded_path path) name)

-- the line of a subkey in the list of a key, and that of a value
abbrev pub subkey_line : List ℕ → List ℕ
subkey_line name = codes "key " ++ name_text name ++ codes "\n"

abbrev pub value_line : Value → List ℕ
value_line value = codes "value " ++ name_text value.name ++ codes " " ++ datum_line value

-- the lines of a key's subkeys and then of its values, each in their order
abbrev pub key_lines : List (List ℕ) → List Value → List ℕ
key_lines names values = flat_map subkey_line names ++ flat_map value_line values

abbrev pub row_lines : TreeMap → List (List ℕ) → Row → List ℕ
row_lines tree path key = key_lines (subkeys tree path) (finite.values key.values)

-- the lines of a key, if the tree has it
abbrev pub key_answer : List (List ℕ) → TreeMap → Option (List ℕ)
key_answer path tree = option_map (row_lines tree (folded_path path)) (row tree (folded_path path))

-- a text was printed; or, if there is none, that nothing is there
abbrev pub PrintsAnswer : Option (List ℕ) → Option (List ℕ) → Option (List ℕ) → Status → Type 0
PrintsAnswer None before after its_status = PrintsRefusal before after NotFound its_status
PrintsAnswer (Some text) before after its_status = Appends before after text × (its_status ≡ status.Clean)

-- The files recover a tree of a hive that calls name, if the disk is faithful, and its answer is printed; or they recover
-- none, and a refusal that says why is.
abbrev pub ReportsAnswer : Type 0 → Type 0 → (ℕ → List ℕ) → ℕ → (TreeMap → Option (List ℕ)) → Option (List ℕ) → Option (List ℕ) → Status → Type 0
ReportsAnswer failed faithful files hive answer before after its_status =
    ((store : Store) × (tree : TreeMap) × (hive < store.hives) × (faithful → RecoversHive files store hive tree) × PrintsAnswer (answer tree) before after its_status)
    ⊎ ((why : Refusal) × RefusalHasCause failed (RecoversNoNamedTree faithful files hive) why × PrintsRefusal before after why its_status)
