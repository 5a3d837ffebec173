use Rattle.std.proofs.Common.{◌≡◌, ◌∙◌, List, ap, arith, rules, subst, sym}
use mathlib.Core.List.{IsPrefix}
use Rattle.reg_tree.specs.declared.element.Element.{Element}
use Rattle.engine_invariant.specs.Engines.{EngineView}
use Rattle.histories.specs.Points.{HistoryEntry}
use Rattle.published_trees.proofs.Prefixes.{prefix_trans}
use Rattle.ktm_calls.specs.Moments.{Sight}
use Rattle.ktm_calls.proofs.registry.Registry.end_shared.Goals as goal

pub returns-clause-receipts : goal.returns-clause-receipts
returns-clause-receipts g c i r at =
    let now = ap (λ (p : EngineView). p.machine.durable) c.close-engine.ensures.leads.now_is in omega (arith, c.are_durable.ensures i r at, now, c.durable-durable.ensures)

pub returns-clause-seen : goal.returns-clause-seen
returns-clause-seen g c =
    let whole : c.again.result.log ≡ c.close-engine.result.1.log = search rules in
    let seen = c.args.seen in
    let history : IsPrefix seen.history c.audit_pool.new.self.history = subst (λ (s : Sight). IsPrefix seen.history s.history) c.show.ensures.whole c.show.ensures.more.history in
    let list = subst (λ (s : Sight). IsPrefix seen.list s.list) c.show.ensures.whole c.show.ensures.more.list in
    let ends : IsPrefix c.audit_pool.new.self.history c.close-engine.result.1.log = (c.close-engine.ensures.ends.0, sym c.close-engine.ensures.ends.2) in (
      subst (λ (l : List Element). IsPrefix seen.list l) (sym c.close-engine.ensures.list) list,
      subst (λ (l : List HistoryEntry). IsPrefix seen.history l) (sym whole) (prefix_trans seen.history c.audit_pool.new.self.history c.close-engine.result.1.log history ends),
    )

pub returns-clause-asked : goal.returns-clause-asked
returns-clause-asked g c all =
    let whole : c.again.result.log ≡ c.close-engine.result.1.log = search rules in
    let ends = c.close-engine.ensures.ends in
    record {
      past = c.audit_pool.new.self.history;
      ends = ends.0;
      whole = whole ∙ ends.2;
      closing = ends.1;
      begins = subst (λ (s : Sight). IsPrefix c.args.seen.history s.history) c.show.ensures.whole c.show.ensures.more.history;
      count = sym (c.audit_pool.ensures.whole all);
    }
