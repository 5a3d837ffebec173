use Rattle.conflicts.proofs.IndexKeyRanges.{name_written}
use Rattle.conflicts.proofs.index_keys.write_name.Goals as goal

pub returns : goal.returns
returns c = rw c.units-unit-items.ensures at (name_written c.args.text.now.items _ _ _ c.loop-unit.unit-index c.loop-unit-test.false c.loop-unit.invariant c.in_ok-push-2.ensures.items)
