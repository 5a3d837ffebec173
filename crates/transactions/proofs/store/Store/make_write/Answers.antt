use Rattle.transactions.specs.CommitLogs.{commits_in}
use Rattle.std.proofs.Common.{◌≡◌, ◌+◌, sym, ◌∙◌, ap, subst, List, Ok}
use Rattle.reg_tree.specs.Maps.{TreeMap}
use Rattle.reg_tree.specs.declared.element.Element.{Element}
use Rattle.reg_tree.specs.declared.op.Op.{Op}
use Rattle.transactions.specs.Histories.{IsShort}
use Rattle.reg_tree.specs.Judgement.{applied, applied_one, legal}
use Rattle.conflicts.specs.Claims.{claim_of}
use Rattle.conflicts.specs.TreeOutlines.{AreCarriedOut}
use Rattle.store_model.specs.Transactions.{at}
use Rattle.store_model.specs.Machine.{change, trees_now, last_number}
use Rattle.transactions.specs.Entries.{AreRebased}
use Rattle.transactions.specs.Prepared.{IsJudgedWrite, JudgesWrite}
use Rattle.transactions.specs.Stores.{OutcomesMatch, TableMatchesMachine, StoreView, store_of}
use Rattle.transactions.specs.Tables.{MeetNone, holds_if}
use Rattle.transactions.proofs.Stored.{below_greatest}
use Rattle.transactions.proofs.Views.{judged_of_legal}
use Rattle.transactions.proofs.store.Store.make_write.Goals as goal

pub returns-clause-made : goal.returns-clause-made
returns-clause-made c =
    let m = c.args.self.now.machine in
    let op = c.args.op in
    let moment = c.args.moment in
    let judged : IsJudgedWrite m c.args.session moment op c.in-Some.judged = subst (λ o. JudgesWrite m c.args.session moment op (Ok o)) c.in-Some.is c.in_ok-judged.ensures in
    let is : c.in_ok-element.element ≡ change moment op = c.in_ok-element.ensures ∙ ap (λ (x : List Op). let y : Element = record { moment = moment; ops = x } in y) c.in_ok-ops.ensures in
    record {
      free = c.requires.free;
      there = judged.there;
      named = judged.named;
      is_legal = judged.is_legal;
      roomy = judged.roomy;
      levels = judged.levels;
      element = is;
      short = subst IsShort (sym is) judged.short;
      trees = judged.trees;
      holders = judged.holders;
      rebased = subst (λ (v : StoreView). AreRebased c.in-Some.judged.trees (last_number v.machine + 1) v.machine.tx_slots c.in_ok-rebased.rebased.items) c.self.view_is
          (subst (λ n. AreRebased c.in-Some.judged.trees (n + 1) c.self.inside.table.tx_slots c.in_ok-rebased.rebased.items) c.self.invariant.0.number
          (subst (λ ts. AreRebased ts (c.self.inside.table.number + 1) c.self.inside.table.tx_slots c.in_ok-rebased.rebased.items)
          (ap (λ (x : List Op). applied c.self.inside.table.trees x moment) (c.list.ensures.all ∙ c.in_ok-ops.ensures) ∙ ap (λ (t : List TreeMap). applied_one t op moment) (c.self.invariant.0.trees ∙ ap (λ (v : StoreView). trees_now v.machine) c.self.view_is) ∙ sym judged.trees) c.in_ok-rebased.ensures));
      room = judged.room;
    }

judged : (c : goal.After-rebase_views-arg-2-1) → IsJudgedWrite c.args.self.now.machine c.args.session c.args.moment c.args.op c.in-Some.judged
judged c = subst (λ o. JudgesWrite c.args.self.now.machine c.args.session c.args.moment c.args.op (Ok o)) c.in-Some.is c.in_ok-judged.ensures

pub rebase_views-requires-clause-carried : goal.rebase_views-requires-clause-carried
rebase_views-requires-clause-carried c =
    let now = c.self.invariant.0.trees ∙ ap (λ (v : StoreView). trees_now v.machine) c.self.view_is in
    subst (λ ops. AreCarriedOut c.self.inside.table.trees ops c.args.moment) (sym (c.list.ensures.all ∙ c.in_ok-ops.ensures))
    (judged_of_legal c.self.inside.table.trees c.args.op (ap (λ (trees : List TreeMap). legal trees c.args.op) now ∙ (judged c).is_legal), tt)

pub rebase_views-requires-clause-below : goal.rebase_views-requires-clause-below
rebase_views-requires-clause-below c =
    below_greatest c.args.self.now.machine _ c.self.inside.table.number (c.self.invariant.0.number ∙ ap (λ (v : StoreView). last_number v.machine) c.self.view_is) (judged c).roomy

pub rebase_views-requires-clause-holders : goal.rebase_views-requires-clause-holders
rebase_views-requires-clause-holders c = λ slot none.
    subst (λ ops. MeetNone ops (at c.self.inside.table.tx_slots slot)) (sym (c.list.ensures.all ∙ c.in_ok-ops.ensures))
    (ap (λ (v : StoreView). holds_if (claim_of c.args.op) (at v.machine.tx_slots slot)) c.self.view_is ∙ sym ((judged c).holders slot) ∙ none, tt)

-- the history has more reserved space, and the same changes
pub invariant_of-self : goal.invariant_of-self
invariant_of-self c =
    let s = c.self.inside in
    subst (λ changes. let m = store_of s.opened.value s.before changes (commits_in s.commits) s.sessions s.table s.durable s.room s.faulted s.bounds in TableMatchesMachine s.table m × OutcomesMatch s.outcomes m) (sym c.reserve.ensures.changes) c.self.invariant

pub invariant_of-self-2 : goal.invariant_of-self-2
invariant_of-self-2 c =
    let s = c.self.inside in
    subst (λ changes. let m = store_of s.opened.value s.before changes (commits_in s.commits) s.sessions s.table s.durable s.room s.faulted s.bounds in TableMatchesMachine s.table m × OutcomesMatch s.outcomes m) (sym c.reserve.ensures.changes) c.self.invariant

pub returns-in_err-reserve-clause-machine : goal.returns-in_err-reserve-clause-machine
returns-in_err-reserve-clause-machine c =
    let s = c.self.inside in
    ap (λ changes. store_of s.opened.value s.before changes (commits_in s.commits) s.sessions s.table s.durable s.room s.faulted s.bounds) c.reserve.ensures.changes ∙ ap (λ (v : StoreView). v.machine) c.self.view_is

pub returns-in_err-reserve-clause-retained : goal.returns-in_err-reserve-clause-retained
returns-in_err-reserve-clause-retained c = ap (λ n. c.self.inside.before + n) c.reserve.ensures.retained ∙ ap (λ (v : StoreView). v.retained) c.self.view_is

pub returns-clause-machine : goal.returns-clause-machine
returns-clause-machine c =
    let s = c.self.inside in
    ap (λ changes. store_of s.opened.value s.before changes (commits_in s.commits) s.sessions s.table s.durable s.room s.faulted s.bounds) c.reserve.ensures.changes ∙ ap (λ (v : StoreView). v.machine) c.self.view_is

pub returns-clause-retained : goal.returns-clause-retained
returns-clause-retained c = ap (λ n. c.self.inside.before + n) c.reserve.ensures.retained ∙ ap (λ (v : StoreView). v.retained) c.self.view_is
