-- Nodes in the order in which keys are listed.
use Rattle.std.specs.Prelude.{◌≡◌, ℕ, List, [], ◌∷◌}
use Rattle.reg_tree_parts.specs.Rows.{Row}
use Rattle.reg_tree_parts.specs.Nodes.{Entries}
use Rattle.hive_tree_model.specs.Keys.{Keys, none, key}
use Rattle.hive_records.specs.Nodes.{IsNodeOf}

-- one node for each of the keys, under its folded name
abbrev pub AreListed : List (List ℕ × Entries) → Keys Row → Type 0
AreListed [] none = Unit {0}
AreListed [] (key at parts below after) = ⊥
AreListed (node ∷ nodes) none = ⊥
AreListed (node ∷ nodes) (key at parts below after) = (node.0 ≡ parts.name) × IsNodeOf node.1 parts below × AreListed nodes after
