use Rattle.std.proofs.Common.{length, arith, ap}
use Rattle.hive_emit.proofs.Owns.{own_can}
use Rattle.hive_emit.proofs.keys.fill_key.Goals as goal

pub overflow_cast-class : goal.overflow_cast-class
overflow_cast-class c = let few = ((own_can c.args.node.now c.key-key.result.now c.key-key.ensures.node c.key-key.ensures.here c.requires.can).fits (omega (arith, c.time-time.ensures))).class in omega (arith, few, ap length (c.class.ensures))
