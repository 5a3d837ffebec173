use Rattle.std.proofs.Common.{[], Result, Ok, Err, inl, refl, sym, subst}
use Rattle.std.specs.Prelude.{IfOk}
use denote.Exit.{no}
use denote.Param.{param}
use denote.Param.Send.{param_send, arg_send}
use Rattle.engine.specs.Shown.{engine_view}
use Rattle.engine_invariant.specs.Engines.{EngineView}
use Rattle.engine_send.proofs.EngineCrossing.{engine_send}
use Rattle.store_driver.specs.Openings.{IsOpenedOn}
use Rattle.histories.proofs.Lives.{leaves_history, leaves_life}
use Rattle.recovery.specs.Recovered.{seen_in}
use Rattle.shared_store.proofs.service.serve.Goals as goal

pub serve_over-engine-requires-send-E : goal.serve_over-engine-requires-send-E
serve_over-engine-requires-send-E g c κs within =
    let e = engine_send (param 0 g.row.D) g.D.Disk c.type_bounds.send-D in param_send 1 _ (arg_send _ no _ e)

both : {A B : Type 0} (P Q S : A → Type 0) (r : Result A B) → IfOk r P → IfOk r Q → ((a : A) → P a → Q a → S a) → IfOk r S
both P Q S (Ok a) p q f = f a p q
both P Q S (Err b) p q f = tt

pub returns-clause-kept : goal.returns-clause-kept
returns-clause-kept g c =
    let D = g.D.Disk in
    let first = c.in-Ok.begun.0 in
    let call = c.serve_over-engine in
    let engine = call.result.0 in
    let begun : EngineView = engine_view D.clock D.failures first in
    let last : EngineView = engine_view D.clock D.failures engine in
    let kept = call.ensures.kept in
    both _ _ _ call.result.1 call.ensures.opened kept.2 (λ served opened told. record {
      first = first.disk;
      store = first.store;
      begun = begun;
      opened = subst (λ n. IsOpenedOn (D.faithful first.disk) (seen_in (D.state_at c.args.disk (D.clock c.args.disk))) first.store n [] first.machine) (sym opened) c.in-Ok.ensures.ok;
      history = kept.0;
      last = last;
      owner = call.ensures.owner;
      left = leaves_history D.faithful D.state_at D.clock D.failures first.store engine.store first.disk engine.disk c.into_disk.result begun last c.into_disk.ensures call.ensures.store (record { calls = refl; failures = refl }) (record { calls = refl; failures = refl }) kept.0 kept.1
          (λ f e. c.reads_a_prefix.ensures.honest f (inl e)) (λ f e. c.reads_a_prefix.ensures.prefix f (inl e));
      told = told;
    })

pub returns-clause-left : goal.returns-clause-left
returns-clause-left g c =
    let D = g.D.Disk in
    let first = c.in-Ok.begun.0 in
    let call = c.serve_over-engine in
    let engine = call.result.0 in
    let begun : EngineView = engine_view D.clock D.failures first in
    let last : EngineView = engine_view D.clock D.failures engine in
    let kept = call.ensures.kept in
    leaves_life D.faithful D.state_at D.clock D.failures first.store c.in-Ok.begun.1 c.args.disk first.disk c.into_disk.result begun last kept.0 c.in-Ok.ensures.failures c.in-Ok.ensures.ok
    (leaves_history D.faithful D.state_at D.clock D.failures first.store engine.store first.disk engine.disk c.into_disk.result begun last c.into_disk.ensures call.ensures.store (record { calls = refl; failures = refl }) (record { calls = refl; failures = refl }) kept.0 kept.1
    (λ f e. c.reads_a_prefix.ensures.honest f (inl e)) (λ f e. c.reads_a_prefix.ensures.prefix f (inl e)))
