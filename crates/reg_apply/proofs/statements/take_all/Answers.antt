use Rattle.std.proofs.Common.{◌++◌, Option, refl, sym, ◌∙◌, ap, subst}
use Rattle.std.specs.Vec.Iter.{into_iter_items}
use Rattle.reg_apply.specs.declared.place.Place.{Place}
use Rattle.reg_apply.specs.Statements.{DeniesStatement, TakesStatement}
use Rattle.reg_apply.proofs.Taken.{one_more, parted}
use Rattle.reg_apply.proofs.statements.take_all.Goals as goal

pub loop-numbered-preserved : goal.loop-numbered-preserved
loop-numbered-preserved c = (
  parted _ c.loop-numbered.yielded (into_iter_items c.loop-numbered.numbered-iterator) c.in-Some.numbered (into_iter_items c.next.new.self) c.loop-numbered.invariant.0 c.in-Some.ensures.steps.0,
  one_more c.args.prefixes.now c.args.hives _ c.args.plan.now c.loop-numbered.yielded c.loop-numbered.current c.loop-numbered.plan c.in-Some.numbered c.in-Ok.next c.take.new.plan c.loop-numbered.invariant.1
      (subst (λ (current : Option Place). TakesStatement c.args.prefixes.now c.args.hives current c.loop-numbered.plan c.in-Some.numbered.statement c.in-Ok.next c.take.new.plan) c.as_ref.ensures.value c.in-Ok.ensures.taken),
)

pub returns-in-Err-clause-stopped : goal.returns-in-Err-clause-stopped
returns-in-Err-clause-stopped c = record {
  front = c.loop-numbered.yielded;
  stop = c.in-Some.numbered;
  rest = into_iter_items c.next.new.self;
  current = c.loop-numbered.current;
  mid = c.loop-numbered.plan;
  all = sym c.into_iter-numbered-iterator.ensures.into_iter_gives.0 ∙ c.loop-numbered.invariant.0 ∙ ap (λ xs. c.loop-numbered.yielded ++ xs) c.in-Some.ensures.steps.0;
  takes = c.loop-numbered.invariant.1;
  number = refl;
  denied = subst (λ (current : Option Place). DeniesStatement c.args.prefixes.now c.args.hives current c.loop-numbered.plan c.in-Some.numbered.statement c.in-Err.denial) c.as_ref.ensures.value c.in-Err.ensures.denied;
}
