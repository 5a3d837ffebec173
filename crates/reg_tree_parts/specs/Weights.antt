-- The weight of a value.
use Rattle.std.specs.Prelude.{ℕ, ◌+◌, ◌*◌, length}
use Rattle.reg_tree_parts.specs.declared.value.Value.{Value}

-- 128, twice the units of its name, and its bytes
abbrev pub value_weight : Value → ℕ
value_weight value = 128 + 2 * length value.name + length value.data
