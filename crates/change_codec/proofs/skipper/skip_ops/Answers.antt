use Rattle.std.proofs.Common.{◌+◌, ◌-◌, arith}
use Rattle.change_codec.specs.Encoding.{op_at}
use Rattle.change_codec.proofs.Taken.{nothing_yet, skips_on, skips_no_more, skips_all}
use Rattle.change_codec.proofs.skipper.skip_ops.Goals as goal

pub loop-skipped-init : goal.loop-skipped-init
loop-skipped-init c = nothing_yet (op_at c.args.hives) c.args.count (c.args.count - 0) c.args.bytes.now (omega arith)

pub loop-skipped-preserved : goal.loop-skipped-preserved
loop-skipped-preserved c =
    let l = c.loop-skipped in
    skips_on (op_at c.args.hives) c.args.count (c.args.count - l._skipped) (c.args.count - (l._skipped + 1)) c.args.bytes.now l.rest.now c.in_ok-rest.field-0.1.now c.in_ok-rest.ensures.0 l.invariant (omega arith) c.in_ok-rest.ensures.1

pub returns-in_err-rest : goal.returns-in_err-rest
returns-in_err-rest c =
    let l = c.loop-skipped in
    rw c.from_residual.ensures (skips_no_more (op_at c.args.hives) c.args.count (c.args.count - l._skipped) (c.args.count - (l._skipped + 1)) c.args.bytes.now l.rest.now l.invariant (omega arith) c.in_err-rest.ensures)

pub returns : goal.returns
returns c = let l = c.loop-skipped in skips_all (op_at c.args.hives) c.args.count (c.args.count - l._skipped) c.args.bytes.now l.rest.now l.invariant (omega arith)
