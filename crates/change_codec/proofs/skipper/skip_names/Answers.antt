use Rattle.std.proofs.Common.{◌+◌, ◌-◌, arith}
use Rattle.change_codec.specs.Encoding.{key_name_at}
use Rattle.change_codec.proofs.Taken.{nothing_yet, skips_on, skips_no_more, skips_all}
use Rattle.change_codec.proofs.skipper.skip_names.Goals as goal

pub loop-skipped-init : goal.loop-skipped-init
loop-skipped-init c = nothing_yet key_name_at c.args.count (c.args.count - 0) c.args.bytes.now (omega arith)

pub loop-skipped-preserved : goal.loop-skipped-preserved
loop-skipped-preserved c =
    let l = c.loop-skipped in
    skips_on key_name_at c.args.count (c.args.count - l._skipped) (c.args.count - (l._skipped + 1)) c.args.bytes.now l.rest.now c.in_ok-rest.field-0.1.now c.in_ok-rest.field-0.0.now l.invariant (omega arith) c.in_ok-rest.ensures

pub returns-in_err-rest : goal.returns-in_err-rest
returns-in_err-rest c =
    let l = c.loop-skipped in
    rw c.from_residual.ensures (skips_no_more key_name_at c.args.count (c.args.count - l._skipped) (c.args.count - (l._skipped + 1)) c.args.bytes.now l.rest.now l.invariant (omega arith) c.in_err-rest.ensures)

pub returns : goal.returns
returns c = let l = c.loop-skipped in skips_all key_name_at c.args.count (c.args.count - l._skipped) c.args.bytes.now l.rest.now l.invariant (omega arith)
