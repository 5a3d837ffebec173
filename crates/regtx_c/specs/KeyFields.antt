-- What a caller asks of a key's row beside its name and its values: its flags, class and security descriptor.
use Rattle.std.specs.Prelude.{◌≡◌, ◌⊎◌, ℕ, List, Result, Ok, Err, ok_or}
use Rattle.refusals.specs.declared.refusal.Refusal.{Refusal}
use Rattle.refusals.specs.declared.refusal.Refusal.TheVariants.{NotFound}
use Rattle.reg_names.specs.Names.{folded_path}
use Rattle.reg_tree_parts.specs.Rows.{Row}
use Rattle.reg_tree.specs.Maps.{TreeMap, row}
use Rattle.regtx_c.specs.declared.codes.TheConstants.{OK, NO_MEMORY}
use Rattle.regtx_c.specs.Questions.{with_names, names_of}

-- the row of the key at a path
abbrev pub key_row : List ℕ → TreeMap → Result Row Refusal
key_row text tree = with_names (names_of text) (λ path. ok_or (row tree (folded_path path)) NotFound)

-- the flags of the key at a path
abbrev pub key_flags : List ℕ → TreeMap → Result ℕ Refusal
key_flags text tree = with_names (key_row text tree) (λ key. Ok key.flags)

-- the bytes of its class
abbrev pub key_class : List ℕ → TreeMap → Result (List ℕ) Refusal
key_class text tree = with_names (key_row text tree) (λ key. Ok key.class)

-- the bytes of its security descriptor
abbrev pub key_descriptor : List ℕ → TreeMap → Result (List ℕ) Refusal
key_descriptor text tree = with_names (key_row text tree) (λ key. Ok key.descriptor)

-- the number that a question comes to is told; or the code says why there is none, and nothing is written
abbrev pub TellsNumber : Result ℕ ℕ → ℕ → ℕ → ℕ → Type 0
TellsNumber (Ok found) before after code = (code ≡ OK) × (after ≡ found)
TellsNumber (Err why) before after code = (code ≡ why) × (after ≡ before)

-- the same, or memory was not given
abbrev pub TellsNumberOrNoMemory : Result ℕ ℕ → ℕ → ℕ → ℕ → Type 0
TellsNumberOrNoMemory answer before after code =
    TellsNumber answer before after code ⊎ TellsNumber (Err NO_MEMORY) before after code
