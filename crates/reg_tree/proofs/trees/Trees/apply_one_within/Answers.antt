use Rattle.std.proofs.Common.{true, false, refl, inl, ◌∙◌}
use Rattle.reg_tree.proofs.Places.{IsPlaced, still_few, put_is, weighs_is, all_stay, none_weighs}
use Rattle.reg_tree.proofs.trees.Trees.apply_one_within.Goals as goal

pub returns-then-is_over-clause-refused : goal.returns-then-is_over-clause-refused
returns-then-is_over-clause-refused c =
    let placed : IsPlaced c.args.self.now c.self.inside.hives.items c.args.op.now c.from-hive.result c.len.result =
    record { view = c.self.view_is; is = c.from-hive.ensures ∙ c.hive.ensures; counted = c.len.ensures ∙ c.self.inside.hives.ok.0 } in
    inl (weighs_is _ _ _ _ _ placed c.index.result.now c.in_ok-tree.tree c.args.moment c.if-hive-len.true c.index.ensures c.in_ok-tree.ensures c.is_over.result true c.is_over.ensures c.if-is_over.true, refl)

pub invariant_of-self : goal.invariant_of-self
invariant_of-self c = still_few c.self.inside.hives.items c.from-hive.result c.in_ok-tree.tree c.self.invariant

pub returns-else-is_over-clause-ok : goal.returns-else-is_over-clause-ok
returns-else-is_over-clause-ok c =
    let placed : IsPlaced c.args.self.now c.self.inside.hives.items c.args.op.now c.from-hive.result c.len.result =
    record { view = c.self.view_is; is = c.from-hive.ensures ∙ c.hive.ensures; counted = c.len.ensures ∙ c.self.inside.hives.ok.0 } in (
      weighs_is _ _ _ _ _ placed c.index.result.now c.in_ok-tree.tree c.args.moment c.if-hive-len.true c.index.ensures c.in_ok-tree.ensures c.is_over.result false c.is_over.ensures c.if-is_over.false,
      put_is _ _ _ _ _ placed c.index.result.now c.in_ok-tree.tree c.args.moment c.if-hive-len.true c.index.ensures c.in_ok-tree.ensures,
    )

pub returns-else-hive-len-clause-ok : goal.returns-else-hive-len-clause-ok
returns-else-hive-len-clause-ok c =
    let placed : IsPlaced c.args.self.now c.self.inside.hives.items c.args.op.now c.from-hive.result c.len.result =
    record { view = c.self.view_is; is = c.from-hive.ensures ∙ c.hive.ensures; counted = c.len.ensures ∙ c.self.inside.hives.ok.0 } in
    (none_weighs _ _ _ _ _ placed c.args.moment c.if-hive-len.false, all_stay _ _ _ _ _ placed c.args.moment c.if-hive-len.false)
