-- What is read of a tree.
use Rattle.std.specs.Prelude.{◌≡◌, ℕ, List, length, slice_get, Option, None, ◌⊎◌}
use Rattle.std.specs.Option.{option_map, option_and_then}
use Rattle.std.specs.FinMap as finite
use Rattle.reg_names.specs.Names.{folded}
use Rattle.refusals.specs.declared.refusal.Refusal.{Refusal}
use Rattle.refusals.specs.declared.refusal.Refusal.TheVariants.{NoMemory, NotFound}
use Rattle.reg_tree_parts.specs.declared.value.Value.{Value}
use Rattle.reg_tree.specs.Maps.{TreeMap, row, subkeys}
use Rattle.reg_tree.specs.declared.tree.Info.{Info}

-- the value of a name at a path
abbrev pub value_at : TreeMap → List (List ℕ) → List ℕ → Option Value
value_at tree path name = option_and_then (λ key. finite.get key.values (folded name)) (row tree path)

-- the value at an index, in the order of names
abbrev pub value_index : TreeMap → List (List ℕ) → ℕ → Option Value
value_index tree path index = option_and_then (λ key. slice_get (finite.values key.values) index) (row tree path)

-- the name of the subkey at an index, in the order of names
abbrev pub subkey_index : TreeMap → List (List ℕ) → ℕ → Option (List ℕ)
subkey_index tree path index = option_and_then (λ key. slice_get (subkeys tree path) index) (row tree path)

-- how many subkeys and values a key has, and the moment of its last write
abbrev pub info_of : TreeMap → List (List ℕ) → Option Info
info_of tree path = option_map (λ key. record { subkeys = length (subkeys tree path); values = finite.len key.values; time = key.time }) (row tree path)

-- nothing is there, and that is what the call says
abbrev pub IsMissing : {A : Type 0} → Option A → Refusal → Type 0
IsMissing there refusal = (there ≡ None) × (refusal ≡ NotFound)

-- nothing is there, and that is what the call says, or memory was refused
abbrev pub IsMissingOrNoMemory : {A : Type 0} → Option A → Refusal → Type 0
IsMissingOrNoMemory there refusal = IsMissing there refusal ⊎ (refusal ≡ NoMemory)
