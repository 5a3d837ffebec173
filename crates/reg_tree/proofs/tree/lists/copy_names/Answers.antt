use Rattle.std.proofs.Common.{[], ◌∷◌, ◌++◌, ◌∙◌, ap, sym}
use Rattle.reg_tree.proofs.Listed.{one_name_more}
use Rattle.reg_tree.proofs.tree.lists.copy_names.Goals as goal

pub loop-index-preserved : goal.loop-index-preserved
loop-index-preserved g c =
    let all = g.L.Named.names c.args.from.now in
    let name = c.in-Some.name.now in
    c.in_ok-push.ensures.items ∙ ap (λ copy. c.loop-index.names.items ++ copy ∷ []) c.in_ok-clone.ensures
    ∙ one_name_more all c.loop-index.names.items c.loop-index.index name c.loop-index.invariant (sym c.in-Some.ensures)
