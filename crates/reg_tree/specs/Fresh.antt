-- The tree of a new hive.
use Rattle.std.specs.Prelude.{[], ◌∷◌, replicate}
use Rattle.std.specs.FinMap as finite
use Rattle.reg_tree_parts.specs.Rows.{Row}
use Rattle.reg_tree.specs.Maps.{TreeMap}

-- the row of a new hive's root: an empty name, the flags of a root that is not to be deleted, time 0, no class, no
-- values, and a security descriptor of revision 1 without owner, group and lists
abbrev pub fresh_row : Row
fresh_row = record { name = []; class = []; flags = 12; descriptor = 1 ∷ 0 ∷ 0 ∷ 128 ∷ replicate 16 0; time = 0; values = finite.empty }

-- a tree with this root alone
abbrev pub fresh_tree : TreeMap
fresh_tree = finite.insert finite.empty [] fresh_row
