use Rattle.std.proofs.Common.{min, ◌∙◌, ap}
use Rattle.reg_tree_parts.proofs.ValueLists.{weights_are}
use Rattle.reg_tree_parts.proofs.values.Values.weight.Goals as goal

pub weight-requires : goal.weight-requires
weight-requires c = c.self.invariant.fits

pub returns : goal.returns
returns c = rw (← c.self.view_is) (c.weight.ensures ∙ ap (λ w. min w 18446744073709551615) (weights_are _ c.self.invariant.sorted))
