use denote.Exit.{no}
use denote.Param.{param}
use denote.Param.Send.{param_send, arg_send}
use Rattle.std.proofs.Common.{ℕ, true, [], inl, inr, refl, subst, sym}
use Rattle.engine_send.proofs.EngineCrossing.{engine_send}
use Rattle.script_loop.proofs.Texts.{if_ok}
use Rattle.engine.specs.Shown.{engine_view}
use Rattle.engine_invariant.specs.Engines.{EngineView}
use Rattle.histories.proofs.Lives.{leaves_history, leaves_life}
use Rattle.registry_runner.specs.Running.{IsOfStore, RunsFrom}
use Rattle.registry_runner.specs.declared.parts.PartKind.TheVariants.{Opened}
use Rattle.registry_runner.specs.declared.parts.PartStart.{PartStart}
use Rattle.registry_runner.proofs.Ending.{begins_before, begins_idle, run_from}
use Rattle.registry_runner.proofs.disk_run.run_on.Goals as goal

pub run_parts-engine-requires-send-E : goal.run_parts-engine-requires-send-E
run_parts-engine-requires-send-E g c κs within =
    let e = engine_send (param 0 g.row.D) g.D.Disk c.type_bounds.send-D in param_send 0 _ (arg_send _ no _ e)

pub run_parts-engine-requires-clause-engine : goal.run_parts-engine-requires-clause-engine
run_parts-engine-requires-clause-engine g c κs within = let opened = c.in-Ok.ensures.ok in begins_idle c.in-Ok.engine.store.hives c.in-Ok.number opened.room opened.trees c.in-Ok.engine.machine opened.begins

pub run_parts-engine-requires-clause-number : goal.run_parts-engine-requires-clause-number
run_parts-engine-requires-clause-number g c κs within = let opened = c.in-Ok.ensures.ok in sym (begins_before c.in-Ok.engine.store.hives c.in-Ok.number opened.room opened.trees c.in-Ok.engine.machine opened.begins)

pub returns-in-Ok-clause-runs : goal.returns-in-Ok-clause-runs
returns-in-Ok-clause-runs g c =
    let D = g.D.Disk in
    let engine = c.in-Ok.engine in
    let opened = c.in-Ok.ensures.ok in
    let number = c.in-Ok.number in
    let at : EngineView = engine_view D.clock D.failures engine in
    let last = c.run_parts-engine.result.0 in
    let end : EngineView = engine_view D.clock D.failures last in
    let led = c.run_parts-engine.ensures.runs in
    let known = g.B.Read.remaining c.args.reader.now in
    let before = g.W.Write.contents c.args.writer.now in
    let after = g.W.Write.contents c.run_parts-engine.new.writer in
    let start : ℕ → PartStart = λ limit. record { kind = Opened; number = number; limit = limit; can_read = c.args.can_read; line = 1; moment = 0 } in
    let same = begins_before engine.store.hives number opened.room opened.trees engine.machine opened.begins in
    inr (record {
      first = engine.disk;
      store = engine.store;
      number = number;
      begun = at;
      opened = opened;
      history = led.0;
      last = end;
      owner = subst (λ n. IsOfStore engine.machine.opened n engine.machine.bounds.hives last.machine) same c.run_parts-engine.ensures.owner;
      left = (leaves_history D.faithful D.state_at D.clock D.failures engine.store last.store engine.disk last.disk c.into_disk.result at end c.into_disk.ensures c.run_parts-engine.ensures.store (record { calls = refl; failures = refl }) (record { calls = refl; failures = refl }) led.0 led.1
          (λ f e. c.reads_a_prefix.ensures.honest f (inl e)) (λ f e. c.reads_a_prefix.ensures.prefix f (inl e)));
      runs = if_ok (λ status. RunsFrom led.0 [] (start c.history_limit.result) true at engine.machine.opened engine.machine.before engine.machine.bounds.hives known before after status) _ c.run_parts-engine.result.1
          (λ status runs. run_from led.0 engine.machine.bounds.changes number engine.machine.bounds.hives c.args.can_read true at engine.machine.opened known before after status
          (subst (λ limit. RunsFrom led.0 [] (start limit) true at engine.machine.opened number engine.machine.bounds.hives known before after status) c.history_limit.ensures (subst (λ n. RunsFrom led.0 [] (start c.history_limit.result) true at engine.machine.opened n engine.machine.bounds.hives known before after status) same runs)))
          led.2;
    })

pub returns-in-Ok-clause-left : goal.returns-in-Ok-clause-left
returns-in-Ok-clause-left g c =
    let D = g.D.Disk in
    let engine = c.in-Ok.engine in
    let last = c.run_parts-engine.result.0 in
    let at : EngineView = engine_view D.clock D.failures engine in
    let end : EngineView = engine_view D.clock D.failures last in
    let led = c.run_parts-engine.ensures.runs in
    leaves_life D.faithful D.state_at D.clock D.failures engine.store c.in-Ok.number c.args.disk engine.disk c.into_disk.result at end led.0 c.in-Ok.ensures.failures c.in-Ok.ensures.ok
    (leaves_history D.faithful D.state_at D.clock D.failures engine.store last.store engine.disk last.disk c.into_disk.result at end c.into_disk.ensures c.run_parts-engine.ensures.store (record { calls = refl; failures = refl }) (record { calls = refl; failures = refl }) led.0 led.1
    (λ f e. c.reads_a_prefix.ensures.honest f (inl e)) (λ f e. c.reads_a_prefix.ensures.prefix f (inl e)))

pub returns-in-Err-clause-runs : goal.returns-in-Err-clause-runs
returns-in-Err-clause-runs g c = inl (if_ok _ _ c.write_refusal.result (λ status said. record { why = c.in-Err.why; may_be = c.in-Err.ensures.err; reported = said.1; status_is = said.0 }) c.write_refusal.ensures)
