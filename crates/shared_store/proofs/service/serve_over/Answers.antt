use Rattle.std.specs.Prelude.{IfOk, IsOk}
use Rattle.std.proofs.Common.{◌≡◌, ◌∙◌, ℕ, List, [], Result, Ok, Err, refl, ap, arith, rules, subst, sym}
use Rattle.std.proofs.lemmas.Result.{IfOk-weaker}
use mathlib.Core.List.{IsPrefix}
use Rattle.engine_invariant.specs.Engines.{EngineView}
use Rattle.histories.specs.Histories.{end_of}
use Rattle.histories.specs.Points.{HistoryEntry}
use Rattle.published_trees.proofs.Prefixes.{prefix_trans}
use Rattle.histories.specs.Permissions.{Pool}
use Rattle.ktm_calls.specs.Ends.{IsAllAsked}
use Rattle.ktm_calls.specs.Moments.{FlusherEnd}
use Rattle.ktm_calls.specs.Waiting.{HasNoWork}
use Rattle.shared_store.proofs.service.serve_over.Goals as goal

-- a flusher that ended as it was told had nothing left to do at the end of what it had seen
at_rest : {B : Type 0} (start : EngineView) (all log : List HistoryEntry) (flushed : Result FlusherEnd B) → IsOk flushed → IfOk flushed (λ stopped. HasNoWork (end_of start stopped.seen.log)) → IfOk flushed (λ stopped. IsPrefix stopped.seen.log all) → IsPrefix all log
    → (past : List HistoryEntry) × IsPrefix past log × HasNoWork (end_of start past)
at_rest start all log (Ok stopped) ok idle seen within = (stopped.seen.log, prefix_trans stopped.seen.log all log seen within, idle)
at_rest start all log (Err why) ok idle seen within = absurd cc

-- the same, whatever was seen
whole_of : (seen : List HistoryEntry) (asked : ℕ) (log : List HistoryEntry) → IsAllAsked seen asked log → IsAllAsked [] asked log
whole_of seen asked log k = record { past = k.past; ends = k.ends; whole = k.whole; closing = k.closing; begins = (k.past, refl); count = k.count }

pub seen_at_end-all-requires-clause-book : goal.seen_at_end-all-requires-clause-book
seen_at_end-all-requires-clause-book g c = let own : c.again-before.result.book ≡ g.O.Start.history = search rules in λ k d less. c.settle.ensures.book k d less ∙ sym own

pub returns-clause-kept : goal.returns-clause-kept
returns-clause-kept g c =
    let share = c.share-seats in
    let all = c.seen_at_end-all in
    let ended = c.end_shared-engine in
    let log = ended.result.events.log in
    let sees : c.new-2.result.history ≡ all.result.log = search rules in
    let left : c.settle.new.permissions.left ≡ g.O.Ledger.parts = omega (arith, c.settle.ensures.left, share.ensures.count, c.in-Ok.ensures.count, c.in-Ok.ensures.left, ap (λ (p : Pool). p.left) c.new-permissions.ensures, c.requires.blank.1, c.requires.parts) in
    let within : IsPrefix all.result.log log = subst (λ (seen : List HistoryEntry). IsPrefix seen log) sees ended.ensures.seen.1 in (
      log,
      ended.ensures.history,
      record {
        durable = ended.ensures.durable;
        count = c.settle.ensures.count ∙ (share.ensures.count ∙ c.in-Ok.ensures.count);
        asked = c.settle.new.permissions.asked;
        together = c.settle.ensures.together;
        all = whole_of c.new-2.result.history c.settle.new.permissions.asked log (ended.ensures.asked left);
        within = λ k d less. prefix_trans _ all.result.log log (all.ensures.all k d less) within;
        done = λ none. at_rest g.O.Start.start all.result.log log share.result.1 (c.undone.ensures none) (IfOk-weaker share.result.1 _ _ (λ stopped is. is.idle) share.ensures.stopped) all.ensures.stopped within;
      },
    )
