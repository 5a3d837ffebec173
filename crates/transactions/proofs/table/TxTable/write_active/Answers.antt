use Rattle.std.proofs.Common.{Some, inl, inr, sym, subst}
use Rattle.std.specs.Prelude.{IfOk}
use Rattle.store_model.specs.Transactions.{own}
use Rattle.transactions.specs.Entries.{IsJudgedOf, MayAdd, AddsTo}
use Rattle.transactions.specs.Tables.{Table}
use Rattle.transactions.proofs.TableChanges.{adds, judged_refused, may_add}
use Rattle.transactions.proofs.Kept.{if_err}
use Rattle.transactions.proofs.table.TxTable.write_active.Goals as goal

pub returns-in_err-judged-clause-refused : goal.returns-in_err-judged-clause-refused
returns-in_err-judged-clause-refused c =
    if_err c.from_residual.result c.in_err-judged.field-0.0 _ c.from_residual.ensures.1 (
      elim c.in_err-judged.ensures.refused [
        | inl e ↦ inl (judged_refused c.args.self.now.aside c.args.self.now.trees c.args.self.now.tx_slots c.args.tx.slot c.args.op (own c.args.self.now.tx_slots c.args.session c.args.tx) c.in_err-judged.field-0.0 e)
        | inr m ↦ inr m
      ],
      c.in_err-judged.ensures.same,
    )

pub add-requires : goal.add-requires
add-requires c =
    subst (λ (t : Table). MayAdd t c.args.tx.slot c.args.op c.in-Some.judged.made) (sym c.in_ok-judged.ensures.same)
    (may_add c.args.self.now c.args.session c.args.tx c.args.op c.in-Some.judged (subst (IsJudgedOf c.args.self.now c.args.session c.args.tx c.args.op) c.in-Some.is c.in_ok-judged.ensures.ok) c.requires.named)

judged : (c : goal.After-add) → IsJudgedOf c.args.self.now c.args.session c.args.tx c.args.op (Some c.in-Some.judged)
judged c = subst (IsJudgedOf c.args.self.now c.args.session c.args.tx c.args.op) c.in-Some.is c.in_ok-judged.ensures.ok

pub returns-in-Some-clause-ok : goal.returns-in-Some-clause-ok
returns-in-Some-clause-ok c =
    adds c.args.self.now c.add.new.self c.args.session c.args.tx c.args.moment c.args.op c.in-Some.judged c.add.result (judged c)
    (subst (λ (t : Table). IfOk c.add.result (AddsTo t c.args.tx.slot c.args.moment c.args.op c.in-Some.judged.levels c.add.new.self)) c.in_ok-judged.ensures.same c.add.ensures.ok)
