-- What the law of shapes takes of a key that was read.
use Rattle.std.specs.Prelude.{ℕ, List, Bool}
use Rattle.reg_names.specs.Names.{folded}
use Rattle.reg_tree_parts.specs.Rows.{Row}
use Rattle.hive_tree_model.specs.Keys.{KeyParts}
use Rattle.hive_cells.specs.Bins.{Cells}
use Rattle.hive_records.specs.KeyNodes.{trail_in, lends_in}

-- what the cells of a key say, with the cells that are its own and those that are lent
abbrev pub parts_at : Bool → Cells → ℕ → Row → List ℕ → KeyParts Row
parts_at split cells at row subkey_list = record { name = folded row.name; row = row; subkey_list = subkey_list; own = trail_in split cells at; lent = lends_in split cells at }
