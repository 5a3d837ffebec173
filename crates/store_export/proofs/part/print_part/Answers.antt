use Rattle.std.proofs.Common.{sym}
use Rattle.store_export.proofs.Told.{part_refused}
use Rattle.store_export.proofs.part.print_part.Goals as goal

pub returns-clause-refused : goal.returns-clause-refused
returns-clause-refused g c =
    part_refused c.print_below.result c.args.request.now c.args.selection.now.hive c.args.selection.now.path c.names-names.result.now c.args.trees.now c.in-Some.tree.now _ _
    (sym c.in-Some.ensures) c.names-names.ensures.names (sym c.if-not-has_key.ensures) c.print_below.ensures.refused
