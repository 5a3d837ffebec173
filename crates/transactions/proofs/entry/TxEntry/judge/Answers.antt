use Rattle.std.proofs.Common.{inl, inr, Some, sym, ◌∙◌, ap, subst}
use Rattle.refusals.specs.declared.refusal.Refusal.TheVariants.{TooLarge}
use Rattle.store_model.specs.Machine.{refusal_by, refused_if, too_long}
use Rattle.transactions.specs.Entries.{transaction_of, HasView, WritesView}
use Rattle.transactions.proofs.Kept.{if_err}
use Rattle.transactions.proofs.Views.{judged_seen, legal_seen}
use Rattle.transactions.proofs.entry.TxEntry.judge.Goals as goal

pub returns-in_err-written-clause-refused : goal.returns-in_err-written-clause-refused
returns-in_err-written-clause-refused c =
    let e = c.ensure_view.new.self in
    let has : HasView c.args.now.now c.args.number e.ops.items (Some c.in-Some.view) = subst (HasView c.args.now.now c.args.number e.ops.items) c.in-Some.is c.in_ok-ensure_view.ensures.seen in
    if_err c.from_residual-in_err-written.result c.in_err-written.field-0.0 _ c.from_residual-in_err-written.ensures.1 (elim c.in_err-written.ensures.refused [
      | inl told ↦ inl (ap (λ l. refusal_by l (refused_if (too_long c.args.aside (transaction_of e) c.args.op.now) TooLarge)) (sym (legal_seen c.args.now.now (transaction_of e) c.in-Some.view c.args.op.now has.1) ∙ told))
      | inr memory ↦ inr memory
    ])

pub returns-in_default-2-clause-ok : goal.returns-in_default-2-clause-ok
returns-in_default-2-clause-ok c =
    let e = c.ensure_view.new.self in
    let has : HasView c.args.now.now c.args.number e.ops.items (Some c.in-Some.view) = subst (HasView c.args.now.now c.args.number e.ops.items) c.in-Some.is c.in_ok-ensure_view.ensures.seen in
    sym (legal_seen c.args.now.now (transaction_of e) c.in-Some.view c.args.op.now has.1) ∙ subst (WritesView c.in-Some.view c.args.op.now) c.in_default-2.is c.in_ok-written.ensures.ok

pub returns-then-is_too_long-clause-refused : goal.returns-then-is_too_long-clause-refused
returns-then-is_too_long-clause-refused c =
    let e = c.ensure_view.new.self in
    let has : HasView c.args.now.now c.args.number e.ops.items (Some c.in-Some.view) = subst (HasView c.args.now.now c.args.number e.ops.items) c.in-Some.is c.in_ok-ensure_view.ensures.seen in
    let written = subst (WritesView c.in-Some.view c.args.op.now) c.in-Some-2.is c.in_ok-written.ensures.ok in
    inl (ap (λ l. refusal_by l (refused_if (too_long c.args.aside (transaction_of e) c.args.op.now) TooLarge)) (sym (legal_seen c.args.now.now (transaction_of e) c.in-Some.view c.args.op.now has.1) ∙ written.is_legal) ∙ ap (λ b. refused_if b TooLarge) (sym c.is_too_long.ensures ∙ c.if-is_too_long.true))

pub returns-clause-ok : goal.returns-clause-ok
returns-clause-ok c =
    let e = c.ensure_view.new.self in
    let has : HasView c.args.now.now c.args.number e.ops.items (Some c.in-Some.view) = subst (HasView c.args.now.now c.args.number e.ops.items) c.in-Some.is c.in_ok-ensure_view.ensures.seen in
    let written = subst (WritesView c.in-Some.view c.args.op.now) c.in-Some-2.is c.in_ok-written.ensures.ok in
    judged_seen c.args.aside c.args.now.now c.args.number (transaction_of e) c.in-Some.view c.args.op.now c.in-Some-2.written has written (sym c.is_too_long.ensures ∙ c.if-is_too_long.false)
