use Rattle.std.proofs.Common.{◌≡◌, List, [], ◌∷◌, ◌++◌, Vec, Global, sym, ◌∙◌, ap}
use Rattle.reg_tree.specs.declared.op.Op.{Op}
use Rattle.commit_outcomes.specs.Units as units
use Rattle.commit_outcomes.specs.Operations as operations
use Rattle.commit_outcomes.specs.CommitLists.{first_out}
use Rattle.commit_outcomes.proofs.UnitNames.{named}
use Rattle.commit_outcomes.proofs.Surplus.{forgets, ops_listed}
use Rattle.commit_outcomes.proofs.operations.outcome_ops.Goals as goal
use Rattle.commit_outcomes.proofs.operations.outcome_ops.Goals.{in-Some+in_ok-forget_op+in_ok-push-2, in_default}

pub returns : goal.returns
returns c = λ tree has.
    let listed = ops_listed c.args.hive tree c.args.list.now (c.args.number, units.unit_name c.args.unit.now) has (named c.args.unit.now) c.requires.above c.ranges.number.fits c.args.earlier c.requires.earlier in
    let first : c.push.new.self.items ≡ operations.record_op c.args.hive (c.args.number, units.unit_name c.args.unit.now) ∷ [] =
    c.in_ok-push.ensures.items ∙ ap (λ (l : List Op). l ++ c.in_ok-record_op.field-0 ∷ []) c.in_ok-ops.ensures.items ∙ ap (λ (o : Op). o ∷ []) c.in_ok-record_op.ensures in
    let items : c.match-surplus.ops.items ≡ operations.record_op c.args.hive (c.args.number, units.unit_name c.args.unit.now) ∷ forgets c.args.hive (first_out c.args.list.now c.args.earlier) =
    elim c.match-surplus.branch [
      | in-Some+in_ok-forget_op+in_ok-push-2 w ↦
          ap (λ (v : Vec Op Global). v.items) w.ops-is ∙ w.in_ok-push-2.ensures.items ∙ ap (λ (l : List Op). l ++ w.in_ok-forget_op.field-0 ∷ []) first
          ∙ ap (λ (o : Op). operations.record_op c.args.hive (c.args.number, units.unit_name c.args.unit.now) ∷ o ∷ []) w.in_ok-forget_op.ensures
          ∙ ap (λ o. operations.record_op c.args.hive (c.args.number, units.unit_name c.args.unit.now) ∷ forgets c.args.hive o) w.in-Some.ensures
      | in_default w ↦
          ap (λ (v : Vec Op Global). v.items) w.ops-is ∙ first
          ∙ ap (λ o. operations.record_op c.args.hive (c.args.number, units.unit_name c.args.unit.now) ∷ forgets c.args.hive o) w.in_default.ensures
    ] in
    items ∙ sym listed
