use Rattle.std.proofs.Common.{◌∙◌}
use Rattle.reg_tree.proofs.Places.{IsPlaced, still_few, put_is, all_stay}
use Rattle.reg_tree.proofs.trees.Trees.apply_one.Goals as goal

pub invariant_of-self : goal.invariant_of-self
invariant_of-self c = still_few c.self.inside.hives.items c.from-hive.result c.in_ok-made.made c.self.invariant

pub returns-in_ok-made : goal.returns-in_ok-made
returns-in_ok-made c =
    let placed : IsPlaced c.args.self.now c.self.inside.hives.items c.args.op.now c.from-hive.result c.len.result =
    record { view = c.self.view_is; is = c.from-hive.ensures ∙ c.hive.ensures; counted = c.len.ensures ∙ c.self.inside.hives.ok.0 } in
    put_is _ _ _ _ _ placed c.index.result.now c.in_ok-made.made c.args.moment c.if-hive-len.true c.index.ensures c.in_ok-made.ensures

pub returns-else-hive-len : goal.returns-else-hive-len
returns-else-hive-len c =
    let placed : IsPlaced c.args.self.now c.self.inside.hives.items c.args.op.now c.from-hive.result c.len.result =
    record { view = c.self.view_is; is = c.from-hive.ensures ∙ c.hive.ensures; counted = c.len.ensures ∙ c.self.inside.hives.ok.0 } in
    all_stay _ _ _ _ _ placed c.args.moment c.if-hive-len.false
