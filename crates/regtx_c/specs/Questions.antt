-- What a caller asks of a tree, by the text of a path and the units of a name.
use Rattle.std.specs.Prelude.{◌≡◌, ◌⊎◌, ℕ, nat_le, Bool, List, length, None, Result, Ok, Err, ok_or, option_map}
use Rattle.std.specs.List.{list_all}
use Rattle.refusals.specs.declared.refusal.Refusal.{Refusal}
use Rattle.refusals.specs.declared.refusal.Refusal.TheVariants.{NotFound}
use Rattle.refusals.specs.declared.limits.TheConstants.{MOST_PATH_NAMES}
use Rattle.reg_names.specs.Names.{folded_path, path_names, path_if}
use Rattle.reg_tree_parts.specs.declared.value.Value.{Value}
use Rattle.reg_tree.specs.Maps.{TreeMap, row}
use Rattle.reg_tree.specs.Reads.{value_at, value_index, subkey_index, info_of}
use Rattle.reg_tree.specs.declared.tree.Info.{Info}
use Rattle.regtx_c.specs.declared.codes.TheConstants.{OK, NO_MEMORY}
use Rattle.regtx_c.specs.declared.reads.KeyInfo.{KeyInfo}

-- what is asked with a path or a name comes to its refusal, if it has one
abbrev pub with_names : {X : Type 0} → {N : Type 0} → Result N Refusal → (N → Result X Refusal) → Result X Refusal
with_names (Ok names) ask = ask names
with_names (Err why) ask = Err why

-- a name that a key of a file may have: some units, whatever they are
abbrev pub has_units : List ℕ → Bool
has_units name = nat_le 1 (length name)

-- the names by which a read looks for a key: those of the path's text, if none is empty and they are at most 512
abbrev pub names_of : List ℕ → Result (List (List ℕ)) Refusal
names_of text = path_if (list_all has_units (path_names text)) (nat_le (length (path_names text)) MOST_PATH_NAMES) (path_names text)

-- a path's text leads to no key for this reason: its names are refused, or no key is there
abbrev pub LeadsNowhere : List ℕ → TreeMap → Refusal → Type 0
LeadsNowhere text tree why =
    (names_of text ≡ Err why)
    ⊎ ((names_of text ≡ Ok (path_names text)) × (row tree (folded_path (path_names text)) ≡ None) × (why ≡ NotFound))

-- the counts of a key
abbrev pub key_info : List ℕ → TreeMap → Result Info Refusal
key_info text tree = with_names (names_of text) (λ path. ok_or (info_of tree (folded_path path)) NotFound)

-- the name of a subkey, by its index
abbrev pub key_name : List ℕ → ℕ → TreeMap → Result (List ℕ) Refusal
key_name text index tree = with_names (names_of text) (λ path. ok_or (subkey_index tree (folded_path path) index) NotFound)

-- the name of a value, by its index
abbrev pub value_name : List ℕ → ℕ → TreeMap → Result (List ℕ) Refusal
value_name text index tree = with_names (names_of text) (λ path. ok_or (option_map (λ value. value.name) (value_index tree (folded_path path) index)) NotFound)

-- a value, by its index
abbrev pub indexed_value : List ℕ → ℕ → TreeMap → Result Value Refusal
indexed_value text index tree = with_names (names_of text) (λ path. ok_or (value_index tree (folded_path path) index) NotFound)

-- a value, by its name
abbrev pub named_value : List ℕ → List ℕ → TreeMap → Result Value Refusal
named_value text name tree =
    with_names (names_of text) (λ path. ok_or (value_at tree (folded_path path) name) NotFound)

-- counts are told, or the number says why there are none, and nothing is written
abbrev pub TellsInfo : Result Info ℕ → KeyInfo → KeyInfo → ℕ → Type 0
TellsInfo (Ok info) before after code = (code ≡ OK) × (after ≡ record { subkeys = info.subkeys; values = info.values; time = info.time })
TellsInfo (Err why) before after code = (code ≡ why) × (after ≡ before)

-- the same, or memory was not given
abbrev pub TellsInfoOrNoMemory : Result Info ℕ → KeyInfo → KeyInfo → ℕ → Type 0
TellsInfoOrNoMemory answer before after code = TellsInfo answer before after code ⊎ TellsInfo (Err NO_MEMORY) before after code
