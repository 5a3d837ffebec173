use Rattle.std.proofs.Common.{◌≡◌, ◌⊎◌, ◌+◌, ℕ, true, sym, ◌∙◌, ap, subst, refl, List, ◌++◌, Option, Err}
use Rattle.std.specs.Option.{option_map}
use Rattle.refusals.specs.declared.refusal.Refusal.TheVariants.{NoMemory}
use Rattle.reg_tree.specs.declared.element.Element.{Element}
use Rattle.reg_tree.specs.declared.op.Op.{Op}
use Rattle.store_model.specs.Ends.{refusal_of}
use Rattle.store_model.specs.Invariant.{HivesAreNamable}
use Rattle.store_model.specs.Machine.{is_open, last_number, outcome_bytes}
use Rattle.store_model.specs.Transactions.{Transaction, own, inactive_refusal}
use Rattle.store_model.specs.declared.event.Event.TheVariants as event
use Rattle.transactions.specs.CommitLogs.{commits_in}
use Rattle.transactions.specs.Tables.{IsPending, Table}
use Rattle.transactions.specs.Stores.{OutcomesMatch, TableMatchesMachine, StoreView, store_of}
use Rattle.transactions.proofs.Stored.{closed_commit, commit_of_pending, not_ended, pending_len, ready_commit, refused_commit, unready}
use Rattle.transactions.proofs.store.Store.make_commit.Goals as goal

pub returns-in_err-open-clause-made : goal.returns-in_err-open-clause-made
returns-in_err-open-clause-made c =
    let m = c.args.self.now.machine in
    let why = c.in_err-open.field-0.0 in
    unready m _ (event.CommitAccept c.args.session c.args.tx c.args.moment) c.from_residual.result why c.from_residual.ensures.1
    (closed_commit m c.args.session why (Err why)
    (record { shut = ap (λ (v : StoreView). is_open v.machine c.args.session) (sym c.self.view_is) ∙ c.in_err-open.ensures.refused.0; named = c.in_err-open.ensures.refused.1 }) refl c.requires.free c.args.tx c.args.moment)

pub returns-in_err-pending-clause-made : goal.returns-in_err-pending-clause-made
returns-in_err-pending-clause-made c =
    let m = c.args.self.now.machine in
    let why = refusal_of c.in_err-pending.field-0.0 in
    unready m _ (event.CommitAccept c.args.session c.args.tx c.args.moment) c.from_residual-in_err-pending.result why c.from_residual-in_err-pending.ensures.1
    (not_ended m c.args.session c.args.moment c.args.tx why (Err why) c.requires.free
    (ap (λ (v : StoreView). is_open v.machine c.args.session) (sym c.self.view_is) ∙ c.in_ok-open.ensures.ok) refl
    (ap (λ (v : StoreView). inactive_refusal (own v.machine.tx_slots c.args.session c.args.tx)) (sym c.self.view_is) ∙ c.in_err-pending.ensures.refused))

pub returns-then-is_empty-clause-made : goal.returns-then-is_empty-clause-made
returns-then-is_empty-clause-made c = (
  (c.args.moment, refl),
  record {
    ops = c.in_ok-pending.pending.ops.now;
    text_len = c.in_ok-pending.pending.text_len;
    free = c.requires.free;
    there = ap (λ (v : StoreView). is_open v.machine c.args.session) (sym c.self.view_is) ∙ c.in_ok-open.ensures.ok;
    pending = subst (λ (v : StoreView). IsPending (own v.machine.tx_slots c.args.session c.args.tx) c.in_ok-pending.pending.ops.now c.in_ok-pending.pending.text_len) c.self.view_is c.in_ok-pending.ensures.ok;
    none = sym c.is_empty.ensures ∙ c.if-is_empty.true;
  },
)

pub returns-in_err-judged-clause-made : goal.returns-in_err-judged-clause-made
returns-in_err-judged-clause-made c =
    let why = c.in_err-judged.field-0.0 in
    let m = c.args.self.now.machine in
    let ops = c.in_ok-pending.pending.ops.now in
    let pending = subst (λ (v : StoreView). IsPending (own v.machine.tx_slots c.args.session c.args.tx) ops c.in_ok-pending.pending.text_len) c.self.view_is c.in_ok-pending.ensures.ok in
    let unit_is = c.in-Some.ensures ∙ ap (λ (v : StoreView). option_map (λ (one : Transaction). one.id) (own v.machine.tx_slots c.args.session c.args.tx)) c.self.view_is in
    let its = commit_of_pending m (own m.tx_slots c.args.session c.args.tx) c.in-Some.unit ops c.in_ok-pending.pending.text_len pending unit_is in
    let there = ap (λ (v : StoreView). is_open v.machine c.args.session) (sym c.self.view_is) ∙ c.in_ok-open.ensures.ok in
    unready m _ (event.CommitAccept c.args.session c.args.tx c.args.moment) c.from_residual-in_err-judged.result why c.from_residual-in_err-judged.ensures.1
    (refused_commit m c.args.session c.args.moment c.args.tx why (Err why) c.requires.free there refl c.in-Some.unit ops its (sym c.is_empty.ensures ∙ c.if-is_empty.false) c.in_err-judged.ensures.refused)

pub views_after_commit-requires-clause-pending : goal.views_after_commit-requires-clause-pending
views_after_commit-requires-clause-pending c =
    (c.args.session, c.in_ok-pending.pending.text_len, subst (λ (v : StoreView). IsPending (own v.machine.tx_slots c.args.session c.args.tx) c.in_ok-pending.pending.ops.now c.in_ok-pending.pending.text_len) c.self.view_is c.in_ok-pending.ensures.ok)

pub returns-clause-made : goal.returns-clause-made
returns-clause-made c =
    let m = c.args.self.now.machine in
    let ops = c.in_ok-pending.pending.ops.now in
    let pending = subst (λ (v : StoreView). IsPending (own v.machine.tx_slots c.args.session c.args.tx) ops c.in_ok-pending.pending.text_len) c.self.view_is c.in_ok-pending.ensures.ok in
    let unit_is = c.in-Some.ensures ∙ ap (λ (v : StoreView). option_map (λ (one : Transaction). one.id) (own v.machine.tx_slots c.args.session c.args.tx)) c.self.view_is in
    let its = commit_of_pending m (own m.tx_slots c.args.session c.args.tx) c.in-Some.unit ops c.in_ok-pending.pending.text_len pending unit_is in
    let there = ap (λ (v : StoreView). is_open v.machine c.args.session) (sym c.self.view_is) ∙ c.in_ok-open.ensures.ok in (
      c.in_ok-reserve.ensures.spare,
      refl,
      ready_commit m _ ops c.in_ok-judged.judged c.requires.free there its (sym c.is_empty.ensures ∙ c.if-is_empty.false)
          (subst (λ h. HivesAreNamable h ops) (c.self.invariant.0.hives ∙ ap (λ (v : StoreView). v.machine.bounds.hives) c.self.view_is) c.in_ok-pending.ensures.named) c.in_ok-rebased.ensures c.in_ok-judged.ensures.ok refl
          (c.in_ok-element.ensures ∙ ap (λ (l : List Op). let y : Element = record { moment = c.args.moment; ops = ops ++ l } in y) c.deref.ensures.value) refl refl,
    )
