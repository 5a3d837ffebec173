use Rattle.std.proofs.Common.{◌≡◌, ◌-◌}
use Rattle.change_codec.specs.Readers.{repeat}
use Rattle.change_codec.specs.Encoding.{op_at}
use Rattle.change_codec.proofs.Taken.{behind}
use Rattle.change_codec.proofs.decoder.take_ops.Given as goal

abbrev pub invariant-loop-taken : goal.invariant-loop-taken
invariant-loop-taken l = repeat l.count (op_at l.hives) l.bytes ≡ behind l.ops.items (repeat (l.count - l._taken) (op_at l.hives) l.rest)
