-- The keys of hives in memory.
use Rattle.std.specs.Prelude.{ℕ, List}
use Rattle.key_walk.specs.KeyRows.{NamedRow, tree_rows}
use Rattle.key_walk.specs.SubtreeRows.{rows_below}
use Rattle.reg_export.specs.declared.whole_file.HiveKeys.{HiveKeys}

-- the prefix and the keys of a hive
abbrev pub keys_of : HiveKeys → List ℕ × List NamedRow
keys_of hive = (hive.prefix.now, tree_rows hive.tree.now)

-- the prefix of a hive, and its keys at a folded path and below it
abbrev pub keys_below : HiveKeys → List (List ℕ) → List ℕ × List NamedRow
keys_below hive path = (hive.prefix.now, rows_below hive.tree.now path)
