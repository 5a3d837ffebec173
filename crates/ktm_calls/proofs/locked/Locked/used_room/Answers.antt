use Rattle.std.proofs.Common.{◌≡◌, ◌∙◌, ap, rules, sym}
use Rattle.engine_invariant.specs.Engines.{EngineView}
use Rattle.histories.specs.Histories.{end_of}
use Rattle.histories.specs.Points.{SeenHistory}
use Rattle.ktm_calls.proofs.locked.Locked.used_room.Goals as goal

pub returns : goal.returns
returns g c =
    let E = g.E.StoreEngine in
    let start = g.O.Start.start in
    let engine = c.args.self.now.engine in
    let now : end_of start c.events.result.log ≡ E.state engine = ap (λ (s : SeenHistory). end_of start s.log) c.events.ensures ∙ c.keeps_history.ensures.now_is in
    let bytes : c.room.result ≡ (E.state engine).machine.room = search rules in (
      ap (λ (s : SeenHistory). s.book) c.events.ensures,
      bytes ∙ sym (ap (λ (e : EngineView). e.machine.room) now),
    )
