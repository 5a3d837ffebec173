-- Descriptors that were read, by the offsets of their security cells.
use Rattle.std.specs.Prelude.{◌≡◌, ◌⊎◌, ◌↔◌, ℕ, List, [], ◌∷◌, Option, Some, IsSome, Result, Ok, Err}
use Rattle.refusals.specs.declared.refusal.Refusal.{Refusal}
use Rattle.refusals.specs.declared.refusal.Refusal.TheVariants.{NoMemory}
use Rattle.std.specs.Ordering.{nat_cmp}
use Rattle.std.specs.Map.{lookup}
use Rattle.std.specs.BTreeMap.{is_at}
use Rattle.hive_tree_model.specs.Lists.{IsIn}
use Rattle.hive_cells.specs.Bins.{Cells, Shows}
use Rattle.hive_records.specs.KeyNodes.{descriptor_at}

-- the descriptor of a security cell, if it is kept
abbrev pub descriptor_in : List (ℕ × List ℕ) → ℕ → Option (List ℕ)
descriptor_in kept at = lookup (is_at (nat_cmp at)) kept

-- each that is kept is what its security cell says
abbrev pub AreDescriptors : List ℕ → List (ℕ × List ℕ) → Type 0
AreDescriptors bytes kept = (at : ℕ) (descriptor : List ℕ) → descriptor_in kept at ≡ Some descriptor →
    (cells : Cells) → Shows bytes cells → descriptor_at at cells ≡ record { own = []; lent = at ∷ []; says = Ok descriptor }

-- the descriptors of just these security cells are kept beside the earlier ones
abbrev pub KeepsDescriptors : List (ℕ × List ℕ) → List (ℕ × List ℕ) → List ℕ → Type 0
KeepsDescriptors old new lent = (at : ℕ) → IsSome (descriptor_in new at) ↔ (IsSome (descriptor_in old at) ⊎ IsIn at lent)

-- the answer is what the security cell at an offset says, which is lent
abbrev pub SaysLent : ℕ → Cells → Result (List ℕ) Refusal → Type 0
SaysLent at cells (Ok descriptor) = descriptor_at at cells ≡ record { own = []; lent = at ∷ []; says = Ok descriptor }
SaysLent at cells (Err r) = (r ≡ NoMemory) ⊎ ((descriptor_at at cells).says ≡ Err r)
