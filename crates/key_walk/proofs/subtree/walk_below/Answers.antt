use Rattle.std.proofs.Common.{List, sym, ap, subst, ◌∙◌}
use Rattle.std.specs.Prelude.{is_some}
use Rattle.std.specs.FinMap.{get-from_sorted}
use Rattle.std.proofs.lemmas.Result.{IfOk-weaker}
use Rattle.reg_names.specs.Names.{folded_path}
use Rattle.reg_tree_parts.specs.Orders.{path_order}
use Rattle.reg_tree.specs.Maps.{is_there}
use Rattle.key_walk.specs.KeyRows.{NamedRow}
use Rattle.key_walk.specs.SubtreeRows.{rows_below}
use Rattle.key_walk.proofs.Rows.{on_ok}
use Rattle.key_walk.proofs.Subtrees.{part_rows}
use Rattle.key_walk.proofs.subtree.walk_below.Goals as goal

pub returns-clause-taken : goal.returns-clause-taken
returns-clause-taken g c =
    let path = folded_path c.args.path.now in
    on_ok c.walk_from.result (subst (λ (rows : List NamedRow). g.S.KeySink.Took c.args.sink.now c.walk_from.new.sink rows)
    (part_rows c.root.result.now path c.root.ensures.node ∙ ap (λ tree. rows_below tree path) (sym c.root.ensures.same))) c.walk_from.ensures.taken

pub returns-clause-there : goal.returns-clause-there
returns-clause-there g c =
    let path = folded_path c.args.path.now in
    IfOk-weaker c.walk_from.result _ _ (λ there e. e ∙ ap is_some (sym (get-from_sorted path_order c.root.result.now path c.root.ensures.node.rises)) ∙ ap (λ tree. is_there tree path) (sym c.root.ensures.same)) c.walk_from.ensures.there
