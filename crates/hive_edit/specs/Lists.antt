-- The offsets in lists.
use Rattle.std.specs.Prelude.{ℕ, ◌*◌}
use Rattle.hive_cells.specs.Tiles.{u32_at}
use Rattle.hive_edit.specs.declared.offsets.Offsets.{Offsets}

-- the offset at an index of a list's data
abbrev pub offset_at : Offsets → ℕ → ℕ
offset_at offsets index = u32_at offsets.bytes.now (offsets.stride * index)
