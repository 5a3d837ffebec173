use Rattle.std.proofs.Common.{sym, ◌∙◌}
use Rattle.reg_tree_parts.proofs.ValueLists.{get_is}
use Rattle.reg_tree_parts.proofs.values.Values.get.Goals as goal

pub find-requires : goal.find-requires
find-requires c = record { fits = c.self.invariant.fits; sorted = c.self.invariant.sorted }

pub returns-clause-found : goal.returns-clause-found
returns-clause-found c = rw (← c.self.view_is) (c.find.ensures.found ∙ sym (get_is _ c.self.invariant.sorted _))
