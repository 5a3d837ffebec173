use Rattle.std.proofs.Common.{List, [], ◌∷◌, ◌++◌, None, sym, subst}
use Rattle.std.specs.Vec.Iter.{into_iter_items}
use Rattle.reg_apply.specs.declared.outcome.ApplyOutcome.{ApplyOutcome}
use Rattle.reg_apply.specs.Checks.{TriesStatements}
use Rattle.reg_apply.proofs.Taken.{parted}
use Rattle.reg_apply.proofs.Tried.{one_tried}
use Rattle.reg_apply.proofs.trial.try_all.Goals as goal

pub loop-numbered-preserved : goal.loop-numbered-preserved
loop-numbered-preserved c = (
  parted _ c.loop-numbered.yielded (into_iter_items c.loop-numbered.numbered-iterator) c.in-Some.numbered (into_iter_items c.next.new.self) c.loop-numbered.invariant.0 c.in-Some.ensures.steps.0,
  subst (λ (told : List ApplyOutcome). TriesStatements c.args.prefixes.now c.args.hives None c.args.plan.now (c.loop-numbered.yielded ++ c.in-Some.numbered ∷ []) c.try_one-next.result.0 told c.try_one-next.new.plan) (sym c.in_ok-tell.ensures.2)
      (one_tried c.args.prefixes.now c.args.hives None c.args.plan.now c.loop-numbered.yielded c.loop-numbered.current c.loop-numbered.told.items c.loop-numbered.plan c.in-Some.numbered c.try_one-next.result.0 c.try_one-next.result.1 c.in_ok-tell.ensures.0 c.try_one-next.new.plan
      c.loop-numbered.invariant.1 c.try_one-next.ensures c.in_ok-tell.ensures.1),
)
