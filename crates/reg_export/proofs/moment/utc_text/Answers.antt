use Rattle.std.proofs.Common.{◌∙◌, None, arith, subst}
use Rattle.jiff_core.specs.Timestamp.{IsTimestampNanos}
use Rattle.reg_export.proofs.Moments.{shown, nanos}
use Rattle.reg_export.proofs.moment.utc_text.Goals as goal

pub returns-in-Ok : goal.returns-in-Ok
returns-in-Ok c =
    let text = c.timestamp_text.ensures in
    let moment = c.in-Ok.ensures.value ∙ nanos c.args.time c.from.result (omega (arith, c.ranges.time)) c.from.ensures in
    (subst IsTimestampNanos moment c.in-Ok.moment.in_range, (text.0, text.1 ∙ moment, text.2 ∙ shown text.0 _ _ None c.precision.ensures c.new.ensures))
