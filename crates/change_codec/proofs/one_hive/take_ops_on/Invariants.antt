use Rattle.std.proofs.Common.{◌-◌}
use Rattle.change_codec.proofs.OneHive.{HasMade}
use Rattle.change_codec.proofs.one_hive.take_ops_on.Given as goal

abbrev pub invariant-loop-taken : goal.invariant-loop-taken
invariant-loop-taken l = HasMade l.hive l.count l.bytes (l.count - l._taken) l.rest l.made.items
