-- The keys and values of a tree, counted and weighed.
use Rattle.std.specs.Prelude.{◌≡◌, ℕ, ◌+◌, List, length, min, sum_by}
use Rattle.std.below.core.specs.declared.int.u64.TheConstants.{MAX}
use Rattle.std.specs.FinMap as finite
use Rattle.reg_tree_parts.specs.Rows.{row_weight}
use Rattle.reg_tree.specs.Maps.{TreeMap, weight}
use Rattle.key_walk.specs.KeyRows.{NamedRow, tree_rows}
use Rattle.hive_check.specs.declared.key_counts.KeyCounts.{KeyCounts}

-- a number, or the greatest one of 64 bits if it is more
abbrev pub capped : ℕ → ℕ
capped number = min number MAX

-- the values of keys, and their weight
abbrev pub values_of : List NamedRow → ℕ
values_of keys = sum_by (λ key. finite.len (key.1).values) keys

abbrev pub weight_of : List NamedRow → ℕ
weight_of keys = sum_by (λ key. row_weight key.1) keys

-- nothing counted
abbrev pub no_keys : KeyCounts
no_keys = record { keys = 0; values = 0; weight = 0 }

-- keys were counted in addition to others
pub record AddsKeys (old new : KeyCounts) (rows : List NamedRow) : Type 0 where
  pub keys : capped new.keys ≡ capped (old.keys + length rows)
  pub values : capped new.values ≡ capped (old.values + values_of rows)
  pub weight : capped new.weight ≡ capped (old.weight + weight_of rows)

-- the counts are those of all keys of a tree
abbrev pub AreKeyCounts : TreeMap → KeyCounts → Type 0
AreKeyCounts tree counts =
    (counts.keys ≡ capped (length (tree_rows tree))) × (counts.values ≡ capped (values_of (tree_rows tree))) × (counts.weight ≡ capped (weight tree))
