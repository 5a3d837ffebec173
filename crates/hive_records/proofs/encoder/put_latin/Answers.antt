use Rattle.hive_records.proofs.Puts.{latin_on, latin_end}
use Rattle.hive_records.proofs.encoder.put_latin.Goals as goal

pub loop-unit-preserved : goal.loop-unit-preserved
loop-unit-preserved c = rw c.in_ok-push.ensures.items (latin_on c.loop-unit.bytes.items c.args.name.now _ c.loop-unit.unit-index c.loop-unit-test.true c.loop-unit.invariant)

pub returns : goal.returns
returns c = latin_end c.loop-unit.bytes.items c.args.name.now _ c.loop-unit.unit-index c.loop-unit-test.false c.loop-unit.invariant
