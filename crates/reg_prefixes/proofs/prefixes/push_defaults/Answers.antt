use Rattle.std.proofs.Common.{map}
use Rattle.reg_prefixes.specs.Words.{meaning_of}
use Rattle.reg_prefixes.proofs.Meanings.{one_default}
use Rattle.reg_prefixes.proofs.prefixes.push_defaults.Goals as goal

pub loop-hive-preserved : goal.loop-hive-preserved
loop-hive-preserved c =
    one_default (map meaning_of c.args.list.now.items) c.loop-hive.list.items c.push.new.self.items c.in_ok-of_hive.field-0 c.loop-hive.hive c.loop-hive.invariant c.in_ok-push.ensures.items c.in_ok-of_hive.ensures
