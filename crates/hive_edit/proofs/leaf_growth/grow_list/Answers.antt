use Rattle.std.proofs.Common.{refl}
use Rattle.hive_edit.specs.LeafChanges.{KeepsSizes, KeepsCells, KeepsList}
use Rattle.hive_edit.specs.SubkeyPlaces.{GrowsList}
use Rattle.hive_edit.specs.declared.key_lists.KeyList.{KeyList}
use Rattle.hive_edit.proofs.CellChanges.{some_says, if_made, on_ok}
use Rattle.hive_edit.proofs.LeafInserts.{sizes_on}
use Rattle.hive_edit.proofs.LeafHalves.{kept_then_grown}
use Rattle.hive_edit.proofs.leaf_growth.grow_list.Goals as goal

pub returns-clause-grown : goal.returns-clause-grown
returns-clause-grown c =
    let old = c.args.image.now.bytes in
    let mid = c.split_full_leaf.new.image.bytes in
    let new = c.put_subkey.new.image.bytes in
    let next : KeyList = record { count = c.args.list.count; at = c.in-Some.at } in
    if_made c.put_subkey.result (GrowsList mid new next c.args.subkey) (GrowsList old new c.args.list c.args.subkey)
    (λ made g. kept_then_grown old mid new c.args.list next c.args.subkey made refl (some_says c.in_ok-at.field-0 c.in-Some.at (KeepsList old mid c.args.list) c.in-Some.is c.in_ok-at.ensures.kept) g) c.put_subkey.ensures.grown

pub returns-clause-sizes : goal.returns-clause-sizes
returns-clause-sizes c =
    let old = c.args.image.now.bytes in
    let mid = c.split_full_leaf.new.image.bytes in
    let new = c.put_subkey.new.image.bytes in
    on_ok c.put_subkey.result (KeepsSizes mid new) (KeepsSizes old new)
    (λ then. sizes_on old mid new (some_says c.in_ok-at.field-0 c.in-Some.at (λ at. KeepsCells old mid) c.in-Some.is c.in_ok-at.ensures.cells) then) c.put_subkey.ensures.sizes
