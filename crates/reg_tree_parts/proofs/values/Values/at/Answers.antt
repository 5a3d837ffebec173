use Rattle.std.proofs.Common.{slice_get, sym, ◌∙◌, ap}
use Rattle.reg_tree_parts.proofs.ValueLists.{values_are}
use Rattle.reg_tree_parts.proofs.values.Values.at.Goals as goal

pub at-requires : goal.at-requires
at-requires c = c.self.invariant.fits

pub returns : goal.returns
returns c = rw (← c.self.view_is) (c.at.ensures ∙ ap (λ vs. slice_get vs c.args.index) (sym (values_are _ c.self.invariant.sorted)))
