use Rattle.std.proofs.Common.{◌∙◌, subst}
use Rattle.std.specs.Arc.{arc_value}
use Rattle.reg_tree_parts.specs.Walks.{IsRefused}
use Rattle.reg_tree.specs.Edits.{walk_of, makes, refuses}
use Rattle.reg_tree.proofs.Ways.{told_of, written_is, written_rows, written_count, opened_is, refused_is}
use Rattle.reg_tree.proofs.tree.Tree.root_after.Goals as goal

pub returns-in-Ok-Some-clause-judged : goal.returns-in-Ok-Some-clause-judged
returns-in-Ok-Some-clause-judged c =
    let root = arc_value c.self.inside.root in
    let made = c.in-Ok-Some in
    rw (← c.self.view_is) (written_is root c.self.invariant c.args.op.now c.args.moment made.made made.missing
    (told_of (makes c.args.op.now c.args.moment) c.deref.result.now root c.way.result.now (walk_of c.args.op.now) c.deref.ensures c.way.ensures made.field-0-is made.ensures.made))

pub returns-in-Ok-Some-clause-rows : goal.returns-in-Ok-Some-clause-rows
returns-in-Ok-Some-clause-rows c =
    let root = arc_value c.self.inside.root in
    let made = c.in-Ok-Some in
    rw (← c.self.view_is) (written_rows root c.self.invariant c.args.op.now c.args.moment made.made made.missing
    (told_of (makes c.args.op.now c.args.moment) c.deref.result.now root c.way.result.now (walk_of c.args.op.now) c.deref.ensures c.way.ensures made.field-0-is made.ensures.made))

pub returns-in-Ok-Some-clause-levels : goal.returns-in-Ok-Some-clause-levels
returns-in-Ok-Some-clause-levels c =
    let root = arc_value c.self.inside.root in
    let made = c.in-Ok-Some in
    rw (← c.self.view_is) (c.counted-levels.ensures ∙ written_count root c.self.invariant c.args.op.now c.args.moment made.made made.missing
    (told_of (makes c.args.op.now c.args.moment) c.deref.result.now root c.way.result.now (walk_of c.args.op.now) c.deref.ensures c.way.ensures made.field-0-is made.ensures.made))

pub returns-in-Ok-None-clause-judged : goal.returns-in-Ok-None-clause-judged
returns-in-Ok-None-clause-judged c =
    let root = arc_value c.self.inside.root in
    let none = c.in-Ok-None in
    rw (← c.self.view_is) (opened_is root c.self.invariant c.args.op.now c.args.moment
    (told_of (makes c.args.op.now c.args.moment) c.deref.result.now root c.way.result.now (walk_of c.args.op.now) c.deref.ensures c.way.ensures none.field-0-is none.ensures.made))

pub returns-in-Err-clause-refused : goal.returns-in-Err-clause-refused
returns-in-Err-clause-refused c =
    let root = arc_value c.self.inside.root in
    let op = c.args.op.now in
    let why = c.in-Err.why in
    let told = subst (λ w. IsRefused (refuses op c.args.moment) root w why) c.way.ensures (subst (λ r. IsRefused (refuses op c.args.moment) r c.way.result.now why) c.deref.ensures c.in-Err.ensures.refused) in
    rw (← c.self.view_is) (refused_is root c.self.invariant op c.args.moment why told)
