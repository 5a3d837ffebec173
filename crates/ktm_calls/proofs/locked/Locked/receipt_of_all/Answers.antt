use Rattle.std.proofs.Common.{◌≡◌, ◌∙◌, ap, rules, subst, sym}
use Rattle.engine_invariant.specs.Engines.{EngineView}
use Rattle.histories.specs.Histories.{end_of}
use Rattle.ktm_calls.specs.Moments.{NumberedSight, Sight}
use Rattle.ktm_calls.specs.Waiting.{HasNoWork}
use Rattle.ktm_calls.proofs.locked.Locked.receipt_of_all.Goals as goal

pub returns : goal.returns
returns g c =
    let start = g.O.Start.start in
    let seen : end_of start c.sight.result.history ≡ end_of start c.args.self.now.history = ap (λ (s : Sight). end_of start s.history) c.sight.ensures.whole in
    let now : end_of start c.of.result.seen.history ≡ g.E.StoreEngine.state c.args.self.now.engine = ap (λ (r : NumberedSight). end_of start r.seen.history) c.of.ensures ∙ (seen ∙ c.keeps_history.ensures.now_is) in (
      search rules,
      subst (λ (e : EngineView). HasNoWork e) (sym now) c.requires.idle,
    )
