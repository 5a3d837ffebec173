use Rattle.std.proofs.Common.{sym, ◌∙◌}
use Rattle.reg_tree_parts.proofs.ValueLists.{len_is}
use Rattle.reg_tree_parts.proofs.values.Values.len.Goals as goal

pub len-requires : goal.len-requires
len-requires c = c.self.invariant.fits

pub returns : goal.returns
returns c = rw (← c.self.view_is) (c.len.ensures ∙ sym (len_is _ c.self.invariant.sorted))
