use Rattle.std.proofs.Common.{◌+◌, ◌*◌}
use Rattle.hive_edit.specs.LeafChanges.{PutsElement}
use Rattle.hive_edit.proofs.CellChanges.{some_says}
use Rattle.hive_edit.proofs.LeafInserts.{freed_sizes}
use Rattle.hive_edit.proofs.LeafGrowths.{grown_leaf}
use Rattle.hive_edit.proofs.leaf_growth.grow_leaf.Goals as goal

pub free_old_list-requires : goal.free_old_list-requires
free_old_list-requires c = record { there = (c.in_ok-made.ensures.sizes c.args.list.at (4 + c.args.shape.stride * c.args.shape.count) c.requires.shape.long).0 }

pub returns-in_default-clause-sizes : goal.returns-in_default-clause-sizes
returns-in_default-clause-sizes c = λ cell len bare has. c.in_ok-made.ensures.sizes cell len has

pub returns-clause-grown : goal.returns-clause-grown
returns-clause-grown c =
    let old = c.args.image.now.bytes in
    let mid = c.insert_element.new.image.bytes in
    grown_leaf old mid c.free_old_list.new.image.bytes c.args.list c.requires.some c.args.shape c.requires.shape c.requires.direct c.args.new c.requires.index c.in-Some.made
    (some_says c.in_ok-made.field-0 c.in-Some.made (PutsElement old mid c.args.list.at c.args.shape c.args.new) c.in-Some.is c.in_ok-made.ensures.put) c.in_ok-free_old_list.ensures.freed

pub returns-clause-sizes : goal.returns-clause-sizes
returns-clause-sizes c = freed_sizes c.args.image.now.bytes c.insert_element.new.image.bytes c.free_old_list.new.image.bytes c.args.list.at c.in-Some.made c.requires.shape.holds (λ cell len bare has. c.in_ok-made.ensures.sizes cell len has) c.in_ok-free_old_list.ensures.freed
