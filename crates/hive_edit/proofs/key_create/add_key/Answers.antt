use Rattle.std.proofs.Common.{◌∙◌, ◌*◌, ◌≤◌, length, arith}
use Rattle.hive_records.specs.NameEncodings.{name_bytes}
use Rattle.hive_records.proofs.Sizes.{name_most}
use Rattle.hive_edit.specs.SubkeyPlaces.{GrowsList}
use Rattle.hive_edit.proofs.CellChanges.{some_says}
use Rattle.hive_edit.proofs.NoLists.{home_no_list}
use Rattle.hive_edit.proofs.KeyAdditions.{key_added}
use Rattle.hive_edit.proofs.key_create.add_key.Goals as goal

pub node_text-requires : goal.node_text-requires
node_text-requires c =
    let l : length (name_bytes c.args.name.now) ≤ 2 * length c.args.name.now = name_most c.args.name.now in
    let few = c.requires.name.few in
    omega (arith, l, few)

pub put_longer_list-requires : goal.put_longer_list-requires
put_longer_list-requires c = record {
  node = c.in_ok-made.ensures.sizes c.args.home 76
      (home_no_list c.args.image.now.bytes c.insert.new.self.bytes c.tiles.ensures.shown.0 c.tiles.ensures.shown.1 c.args.home c.in-Ok.at c.deref.result.now c.in-Some.ensures.holds c.in-Ok.ensures.added)
      (c.in-Ok.ensures.added.sizes c.args.home 76 c.in-Some.ensures.long);
}

pub returns-clause-done : goal.returns-clause-done
returns-clause-done c = λ is root hive tree front found absent.
    key_added c.args.image.now.bytes root hive tree front c.args.name.now c.args.home found absent c.args.moment c.requires.name
    (let l : length (name_bytes c.args.name.now) ≤ 2 * length c.args.name.now = name_most c.args.name.now in let few = c.requires.name.few in omega (arith, l, few)) c.ranges.moment.fits
    c.in-Some.list c.in-Some.ensures c.in-Some-security_of_key.security c.in-Some-security_of_key.ensures c.in_ok-text.ensures.fits c.deref.result.now (c.deref.ensures.value ∙ c.in_ok-text.ensures.text)
    c.insert.new.self.bytes c.grow_list.new.image.bytes c.put_longer_list.new.image.bytes c.tiles-2.ensures.tiles c.in-Ok.at c.in-Some-2.made c.in-Some-checked_add.count (let h = c.in-Some-checked_add.ensures in search (arith, h))
    c.in-Ok.ensures.added (some_says c.in_ok-made.field-0 c.in-Some-2.made (GrowsList c.insert.new.self.bytes c.grow_list.new.image.bytes c.in-Some.list c.in-Ok.at) c.in-Some-2.is c.in_ok-made.ensures.grown) c.in_ok-put_longer_list.ensures.put
