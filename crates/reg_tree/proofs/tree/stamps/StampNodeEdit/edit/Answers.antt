use Rattle.std.proofs.Common.{Some, ◌∙◌, ap}
use Rattle.reg_tree.proofs.Stamps.{written_again}
use Rattle.reg_tree.proofs.tree.stamps.StampNodeEdit.edit.Goals as goal

pub returns-clause-made : goal.returns-clause-made
returns-clause-made c =
    written_again c.args.moment c.args.node.now c.args.missing.now c.in_ok-new.new c.is_empty.result c.is_empty.ensures c.if-not-is_empty.false (record {
      row = c.key.result.now;
      was = c.key.ensures.here;
      here = c.in_ok-new.ensures.here ∙ ap Some c.in_ok-with_time.ensures;
      below = c.in_ok-new.ensures.below;
    })
