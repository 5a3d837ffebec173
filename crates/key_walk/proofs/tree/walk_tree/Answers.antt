use Rattle.std.proofs.Common.{List, sym, ap, subst, ◌∙◌}
use Rattle.key_walk.specs.KeyRows.{NamedRow, tree_rows}
use Rattle.key_walk.proofs.Rows.{whole_rows, on_ok}
use Rattle.key_walk.proofs.tree.walk_tree.Goals as goal

pub returns : goal.returns
returns g c = on_ok c.walk_node.result (λ took.
    subst (λ (rows : List NamedRow). g.S.KeySink.Took c.args.sink.now c.walk_node.new.sink rows)
    (whole_rows c.root.result.now c.root.ensures.node ∙ ap tree_rows (sym c.root.ensures.same)) took) c.walk_node.ensures
