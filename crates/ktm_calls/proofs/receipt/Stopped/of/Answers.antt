use Rattle.std.proofs.Common.{◌≡◌, ◌∙◌, ap, subst, sym}
use Rattle.engine_invariant.specs.Engines.{EngineView}
use Rattle.histories.specs.Histories.{end_of}
use Rattle.histories.specs.Points.{SeenHistory}
use Rattle.ktm_calls.specs.Waiting.{HasNoWork}
use Rattle.ktm_calls.proofs.receipt.Stopped.of.Goals as goal

pub returns : goal.returns
returns g c =
    let start = g.O.Start.start in
    let now : end_of start c.events.result.log ≡ g.E.StoreEngine.state c.args.locked.now.engine = ap (λ (s : SeenHistory). end_of start s.log) c.events.ensures ∙ c.keeps_history.ensures.now_is in
    record {
      book = ap (λ (s : SeenHistory). s.book) c.events.ensures;
      idle = subst (λ (e : EngineView). HasNoWork e) (sym now) c.requires.idle;
      number = c.durable.ensures ∙ sym (ap (λ (e : EngineView). e.machine.durable) now);
    }
