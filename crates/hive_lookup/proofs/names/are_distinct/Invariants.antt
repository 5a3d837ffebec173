use Rattle.std.proofs.Common.{◌≡◌, ◌<◌, ◌+◌, ℕ, List, get_or, false}
use Rattle.std.specs.Ordering.{eq_by_cmp}
use Rattle.reg_names.specs.Names.{name_cmp}
use Rattle.hive_lookup.proofs.names.are_distinct.Given as goal

-- neighbours so far differ
abbrev pub invariant-loop-index : goal.invariant-loop-index
invariant-loop-index l = (k : ℕ) (d : List ℕ) → k + 1 < l.index → eq_by_cmp name_cmp (get_or l.names k d) (get_or l.names (k + 1) d) ≡ false
