use Rattle.std.proofs.Common.{◌≡◌, arith, rules, subst}
use Rattle.store_model.specs.Machine.{last_number}
use Rattle.engine_invariant.specs.Engines.{EngineView}
use Rattle.ktm_calls.specs.Waiting.{HasNoWork}
use Rattle.ktm_calls.proofs.locked.Locked.next_work.Goals as goal

pub returns-clause-none : goal.returns-clause-none
returns-clause-none g c =
    let E = g.E.StoreEngine in
    let view : EngineView = E.state c.engine-engine.result.now in
    let durable : view.machine.durable ≡ last_number view.machine = search rules in
    subst (λ e. HasNoWork (E.state e)) c.engine-engine.ensures (record {
      durable = durable;
      flushed = λ i less. c.in_default.ensures.none i (omega arith) less;
      trimmed = λ works. c.may_trim.ensures.no c.if-may_trim.false works;
    })
