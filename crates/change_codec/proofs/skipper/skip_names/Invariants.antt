use Rattle.std.proofs.Common.{◌-◌}
use Rattle.change_codec.specs.Encoding.{key_name_at}
use Rattle.change_codec.proofs.Taken.{HasSkipped}
use Rattle.change_codec.proofs.skipper.skip_names.Given as goal

abbrev pub invariant-loop-skipped : goal.invariant-loop-skipped
invariant-loop-skipped l = HasSkipped key_name_at l.count l.bytes (l.count - l._skipped) l.rest
