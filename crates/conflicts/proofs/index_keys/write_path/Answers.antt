use Rattle.conflicts.proofs.PathIndexKeys.{text_more}
use Rattle.conflicts.proofs.index_keys.write_path.Goals as goal

pub loop-name-preserved : goal.loop-name-preserved
loop-name-preserved c =
    text_more c.args.names.now c.loop-name.name-index c.name-item.result c.loop-name-test.true c.name-item.is c.args.text.now.items c.loop-name.text.items c.loop-name.invariant c.write_name.new.text.items c.in_ok-write_name.ensures
