use Rattle.std.proofs.Common.{ap}
use Rattle.engine.specs.Shown.{Shown}
use Rattle.store_engine.proofs.Coming.{coming}
use Rattle.store_engine.proofs.engine_calls.EngineStoreEngine.prepare.Goals as goal

pub returns-clause-coming : goal.returns-clause-coming
returns-clause-coming g c = rw (← ap (λ (s : Shown _). s.machine) c.prepare.ensures.same) (coming c.prepare.new.self.machine c.args.event c.in_ok-next.next c.in_ok-next.ensures.predicted)

pub returns-in_err-next-clause-past : goal.returns-in_err-next-clause-past
returns-in_err-next-clause-past g c ok moment then le is = rw (ap (λ (s : Shown _). s.store) c.prepare.ensures.same, ap (λ (s : Shown _). s.disk) c.prepare.ensures.same) is

pub returns-clause-past : goal.returns-clause-past
returns-clause-past g c ok moment then le is = rw (ap (λ (s : Shown _). s.store) c.prepare.ensures.same, ap (λ (s : Shown _). s.disk) c.prepare.ensures.same) is
