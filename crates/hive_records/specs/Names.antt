-- Names in records: a byte a unit, or two.
use Rattle.std.specs.Prelude.{ℕ, ◌+◌, ◌*◌, ◌/◌, ◌%◌, ◌==◌, Bool, true, not, ◌&&◌, List, [], ◌∷◌, length}
use Rattle.std.specs.List.{list_any}
use Rattle.std.specs.Ordering.{eq_by_cmp}
use Rattle.refusals.specs.declared.refusal.Cause.TheVariants as cause
use Rattle.reg_tree_parts.specs.Orders.{name_order}
use Rattle.hive_records.specs.Readers.{Reader, done, rule, choice, ◌⟫◌}

-- whether a bit of flags is set, by the bit's weight
abbrev pub has_flag : ℕ → ℕ → Bool
has_flag weight flags = flags / weight % 2 == 1

-- units of two bytes each, the lower first
abbrev pub pairs : List ℕ → List ℕ
pairs [] = []
pairs (a ∷ []) = []
pairs (a ∷ b ∷ rest) = (a + 0x100 * b) ∷ pairs rest

-- the name that bytes decode to
abbrev pub name_in : Bool → List ℕ → Reader (List ℕ)
name_in latin bytes = choice latin (done bytes) (rule (length bytes % 2 == 0) cause.BadName ⟫ λ _. done (pairs bytes))

-- whether no two of a list of folded names are the same
abbrev pub all_apart : List (List ℕ) → Bool
all_apart [] = true
all_apart (n ∷ names) = not (list_any (eq_by_cmp name_order n) names) && all_apart names
