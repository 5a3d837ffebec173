use Rattle.std.proofs.Common.{◌-◌}
use Rattle.change_codec.specs.Encoding.{op_at}
use Rattle.change_codec.proofs.Taken.{HasSkipped}
use Rattle.change_codec.proofs.skipper.skip_ops.Given as goal

abbrev pub invariant-loop-skipped : goal.invariant-loop-skipped
invariant-loop-skipped l = HasSkipped (op_at l.hives) l.count l.bytes (l.count - l._skipped) l.rest
