use Rattle.std.proofs.Common.{sym, subst}
use Rattle.reg_names.specs.Names.{folded, folded_path}
use Rattle.base_block.specs.declared.block.TheConstants.{MINOR_VERSION}
use Rattle.hive_edit_laws.specs.Found.{ValueFound}
use Rattle.hive_edit.proofs.value_delete.delete_value.Goals as goal

pub returns-clause-done : goal.returns-clause-done
returns-clause-done c = λ is hive tree encodes.
    let place = c.in-Some-find_value.place in
    let found = c.in-Some-find_value.ensures.found in
    let path = c.args.path.now in
    c.delete_at.ensures.done is c.args.root hive tree path c.args.name.now
    (subst (λ name. ValueFound c.args.image.now.bytes c.args.root MINOR_VERSION tree (folded_path path) (folded name) place.key place.index place.value) c.units.ensures
    (subst (λ key. ValueFound c.args.image.now.bytes c.args.root MINOR_VERSION tree (folded_path path) (folded c.units.result.now) key place.index place.value) (sym found.0)
    (found.1 c.args.root MINOR_VERSION tree (folded_path path) (c.in-Some.ensures MINOR_VERSION tree encodes))))
