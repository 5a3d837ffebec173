use Rattle.std.proofs.Common.{◌≡◌, ◌==◌, ◌++◌, true, length}
use Rattle.std.specs.List.{list_all, slice_split}
use Rattle.regtx_c.specs.Questions.{has_units}
use Rattle.regtx_c.proofs.names.names_between.Given as goal

abbrev pub invariant-loop-part : goal.invariant-loop-part
invariant-loop-part l = (l.names.items ++ slice_split (λ u. u == 92) l.rest ≡ slice_split (λ u. u == 92) l.text) × (list_all has_units l.names.items ≡ true)

abbrev pub decreases-loop-part : goal.decreases-loop-part
decreases-loop-part l = length l.rest
