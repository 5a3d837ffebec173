use Rattle.std.proofs.Common.{refl}
use Rattle.std.specs.Arc.{arc_value}
use Rattle.reg_tree.specs.Stamps.{stamps}
use Rattle.reg_tree.proofs.Ways.{told_of}
use Rattle.reg_tree.proofs.Stamps.{stamped_rows, stamped_gone}
use Rattle.reg_tree.proofs.tree.Tree.root_stamped.Goals as goal

pub returns-in-Ok-Some-clause-rows : goal.returns-in-Ok-Some-clause-rows
returns-in-Ok-Some-clause-rows c =
    let root = arc_value c.self.inside.root in
    let way = c.args.names.now in
    let made = c.in-Ok-Some in
    rw (← c.self.view_is) (stamped_rows root c.self.invariant way c.args.moment made.root made.field-0-0-1
    (told_of (stamps c.args.moment) c.deref.result.now root way way c.deref.ensures refl made.field-0-is made.ensures.made))

pub returns-in-Ok-None-clause-none : goal.returns-in-Ok-None-clause-none
returns-in-Ok-None-clause-none c =
    let root = arc_value c.self.inside.root in
    let way = c.args.names.now in
    let none = c.in-Ok-None in
    rw (← c.self.view_is) (stamped_gone root c.self.invariant way c.args.moment
    (told_of (stamps c.args.moment) c.deref.result.now root way way c.deref.ensures refl none.field-0-is none.ensures.made))
