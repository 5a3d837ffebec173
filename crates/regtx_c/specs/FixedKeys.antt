-- Keys that may not be deleted.
use Rattle.std.specs.Prelude.{◌≡◌, ◌==◌, ◌||◌, Bool, not, List, bit_and}
use Rattle.std.specs.List.{list_any}
use Rattle.reg_tree_parts.specs.Rows.{Row}
use Rattle.key_walk.specs.KeyRows.{NamedRow}
use Rattle.regtx_c.specs.declared.fixed_keys.FixedKeys.{FixedKeys}

-- a key may not be deleted, by its flag 0x0008
abbrev pub is_fixed : Row → Bool
is_fixed key = not (bit_and key.flags 8 == 0)

-- one of these keys may not be deleted
abbrev pub any_fixed : List NamedRow → Bool
any_fixed keys = list_any (λ key. is_fixed key.1) keys

-- one that may not be deleted was met before, or is among these keys
abbrev pub MeetsFixed : FixedKeys → FixedKeys → List NamedRow → Type 0
MeetsFixed before after keys = after.are_met ≡ (before.are_met || any_fixed keys)
