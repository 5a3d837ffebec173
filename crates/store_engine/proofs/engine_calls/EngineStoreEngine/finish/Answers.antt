use Rattle.std.specs.Prelude.{IfSome}
use Rattle.std.proofs.Common.{Option, ap, subst, sym}
use Rattle.engine.specs.Shown.{Awaiting, Shown, engine_view}
use Rattle.engine_invariant.specs.Engines.{EngineAnswers, EngineView}
use Rattle.store_model.specs.Steps.{Step}
use Rattle.store_engine.proofs.Finishing.{finished}
use Rattle.store_engine.proofs.engine_calls.EngineStoreEngine.finish.Goals as goal

pub returns-clause-before : goal.returns-clause-before
returns-clause-before g c = rw (ap (λ (s : Shown _). s.store) c.finish.ensures.same) c.finish.ensures.before

pub returns-clause-after : goal.returns-clause-after
returns-clause-after g c = rw (ap (λ (s : Shown _). s.store) c.finish.ensures.same) c.finish.ensures.after

pub returns-clause-backward : goal.returns-clause-backward
returns-clause-backward g c = rw (ap (λ (s : Shown _). s.disk) c.finish.ensures.same) (λ ok. ok)

pub returns-clause-past : goal.returns-clause-past
returns-clause-past g c ok moment then le is = rw (ap (λ (s : Shown _). s.store) c.finish.ensures.same, ap (λ (s : Shown _). s.disk) c.finish.ensures.same) is

pub returns-clause-answers : goal.returns-clause-answers
returns-clause-answers g c awaiting is accepts =
    let clock = g.D.Disk.clock in
    let failures = g.D.Disk.failures in
    let old = c.args.self.now in
    let new = c.finish.new.self in
    let was : EngineView = engine_view clock failures old in
    let step = subst (λ (o : Option Awaiting). IfSome o (λ a. Step old.machine a.event c.finish.result new.machine)) is c.finish.ensures.step in
    subst (λ (s : Shown _). EngineAnswers awaiting.event c.finish.result was (engine_view clock failures s)) (sym c.finish.ensures.same) (finished awaiting.event c.finish.result was new.machine accepts step)
