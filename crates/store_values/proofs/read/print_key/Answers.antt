use Rattle.reg_names.specs.Names.{folded_path}
use Rattle.reg_tree.specs.Maps.{row, subkeys}
use Rattle.store_values.proofs.Lists.{names_long, values_count}
use Rattle.store_values.proofs.read.print_key.Goals as goal

pub write_subkeys-requires : goal.write_subkeys-requires
write_subkeys-requires g c =
    let tree = c.args.tree.now in
    let path = folded_path c.args.path.now in
    names_long (subkeys tree path) (row tree path) c.in-Ok.info c.in-Ok.ensures.ok

pub write_values-requires : goal.write_values-requires
write_values-requires g c =
    let tree = c.args.tree.now in
    let path = folded_path c.args.path.now in
    values_count (subkeys tree path) (row tree path) c.in-Ok.info c.in-Ok.ensures.ok
