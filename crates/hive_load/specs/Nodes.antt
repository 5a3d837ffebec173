-- Nodes of a key's subkeys, whose names are to be compared.
use Rattle.std.specs.Prelude.{◌≡◌, ◌⊎◌, ℕ, List, [], map, T}
use Rattle.std.specs.List.Sorted.{IsPermutation}
use Rattle.std.specs.FinMap.Entries.{is_sorted}
use Rattle.refusals.specs.declared.refusal.Refusal.{Refusal}
use Rattle.refusals.specs.declared.refusal.Refusal.TheVariants as refusal
use Rattle.refusals.specs.declared.refusal.Cause.TheVariants as cause
use Rattle.reg_tree_parts.specs.Orders.{name_order}
use Rattle.reg_tree_parts.specs.Nodes.{Entries}
use Rattle.hive_tree_model.specs.Lists.{IsIn, Once}

-- the folded names of nodes
abbrev pub names_of : List (List ℕ × Entries) → List (List ℕ)
names_of nodes = map (λ (n : List ℕ × Entries). n.0) nodes

-- all have names, no two of them the same, and these are the nodes in the order of names
pub record AreSiblings (nodes sorted : List (List ℕ × Entries)) : Type 0 where
  pub named : IsIn [] (names_of nodes) → ⊥
  pub apart : Once (names_of nodes)
  pub same : IsPermutation nodes sorted
  pub rises : T (is_sorted name_order sorted)

-- they are refused as subkeys of one key: memory was not given, one has no name, or two have the same
abbrev pub NoSiblings : List (List ℕ × Entries) → Refusal → Type 0
NoSiblings nodes why =
    (why ≡ refusal.NoMemory)
    ⊎ ((why ≡ refusal.HiveDamaged 0 cause.BadName) × (IsIn [] (names_of nodes) ⊎ (Once (names_of nodes) → ⊥)))
