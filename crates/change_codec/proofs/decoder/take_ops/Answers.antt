use Rattle.std.proofs.Common.{◌∙◌, ◌+◌, ◌-◌, arith, inl, inr, ⊎_elim, ap, sym, List}
use Rattle.std.proofs.lemmas.Result.{err_from_is_err_and}
use Rattle.reg_tree.specs.declared.op.Op.{Op}
use Rattle.change_codec.specs.Readers.{repeat}
use Rattle.change_codec.specs.Encoding.{op_at}
use Rattle.change_codec.proofs.Taken.{behind, goes_on, stops, ends}
use Rattle.change_codec.proofs.decoder.take_ops.Goals as goal

pub loop-taken-preserved : goal.loop-taken-preserved
loop-taken-preserved c =
    let l = c.loop-taken in
    l.invariant ∙ goes_on (op_at c.args.hives) l.ops.items (c.args.count - l._taken) (c.args.count - (l._taken + 1)) c.in_ok-op.op l.rest.now c.in_ok-op.behind.now (omega arith) c.in_ok-op.ensures
    ∙ ap (λ (ops : List Op). behind ops (repeat (c.args.count - (l._taken + 1)) (op_at c.args.hives) c.in_ok-op.behind.now)) (sym c.in_ok-push.ensures.items)

pub returns-in_err-op : goal.returns-in_err-op
returns-in_err-op c =
    let l = c.loop-taken in
    let p = err_from_is_err_and c.from_residual-in_err-op.result c.from_residual-in_err-op.ensures.1 in
    rw (p.1, p.2) (⊎_elim (λ h. inl (h.0, l.invariant ∙ stops (op_at c.args.hives) l.ops.items (c.args.count - l._taken) (c.args.count - (l._taken + 1)) l.rest.now (omega arith) h.1)) (λ h. inr h) c.in_err-op.ensures)

pub returns : goal.returns
returns c = let l = c.loop-taken in l.invariant ∙ ends (op_at c.args.hives) l.ops.items (c.args.count - l._taken) l.rest.now (omega arith)
