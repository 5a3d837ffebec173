use Rattle.std.proofs.Common.{Ok, ap, sym, ◌∙◌}
use Rattle.hive_edit.proofs.ListFrees.{not_false, lists_freed}
use Rattle.hive_edit.proofs.list_losses.free_lists.Goals as goal

pub returns-in-Done-clause-freed : goal.returns-in-Done-clause-freed
returns-in-Done-clause-freed c = λ is. lists_freed c.args.image.now.bytes c.free_leaves.new.image.bytes c.free_cells-in-Done.new.image.bytes c.args.at c.in-Some.shape.count (sym c.in-Some.ensures.indirect_is ∙ not_false c.in-Some.shape.is_indirect c.if-not-shape.false) c.in-Some.ensures.count_is (c.in_ok-free_leaves.ensures.freed (ap Ok c.in-Done.is)) (c.free_cells-in-Done.ensures.freed is)
