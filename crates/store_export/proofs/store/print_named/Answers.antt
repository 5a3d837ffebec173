use Rattle.std.proofs.Common.{inl, inr, List, subst}
use Rattle.reg_tree.specs.Maps.{TreeMap}
use Rattle.store_export.specs.Reports.{ReportsTrees}
use Rattle.store_export.proofs.Told.{if_ok, trees_reported}
use Rattle.store_export.proofs.store.print_named.Goals as goal

pub returns-in-Ok : goal.returns-in-Ok
returns-in-Ok g c =
    let contents = g.W.Write.contents in
    if_ok c.reported.result (λ status told. inl (subst (λ (trees : List TreeMap). ReportsTrees c.args.request.now trees (contents c.args.writer.now) (contents c.reported.new.writer) status) c.in-Ok.ensures
    (trees_reported c.print_trees-printed.result c.args.request.now c.in-Ok.trees _ _ _ status c.print_trees-printed.ensures.shown c.print_trees-printed.ensures.refused told))) c.reported.ensures

pub returns-in-Err : goal.returns-in-Err
returns-in-Err g c = if_ok c.reported-in-Err.result (λ status told. inr told) c.reported-in-Err.ensures
