use Rattle.hive_records.proofs.Puts.{offsets_on, offsets_end}
use Rattle.hive_records.proofs.encoder.put_offsets.Goals as goal

pub loop-offset-preserved : goal.loop-offset-preserved
loop-offset-preserved c = rw c.in_ok-put_u32.ensures (offsets_on c.loop-offset.bytes.items c.args.offsets.now _ c.loop-offset.offset-index c.loop-offset-test.true c.loop-offset.invariant)

pub returns : goal.returns
returns c = offsets_end c.loop-offset.bytes.items c.args.offsets.now _ c.loop-offset.offset-index c.loop-offset-test.false c.loop-offset.invariant
