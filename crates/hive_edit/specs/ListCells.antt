-- The cells of a key's lists of subkeys.
use Rattle.std.specs.Prelude.{ℕ, if◌then◌else◌, List, [], ◌∷◌}
use Rattle.hive_cells.specs.Tiles.{cell_data}
use Rattle.hive_records.specs.Lists.{is_indirect}
use Rattle.hive_edit_laws.specs.Found.{list_words}

-- the list of subkeys at an offset, and the lists that it names if it is a list of lists
abbrev pub lists_at : List ℕ → ℕ → List ℕ
lists_at bytes at = at ∷ (if is_indirect (cell_data bytes at) then list_words (cell_data bytes at) else [])
