use Rattle.std.proofs.Common.{◌<◌, ◌+◌, length, None, get_or, arith}
use Rattle.hive_recovery.proofs.Parts.{one_more}
use Rattle.hive_recovery.proofs.bins.lay_page.Goals as goal

pub bytes-preserved : goal.bytes-preserved
bytes-preserved c =
    let inside : c.args.offset + c.bytes.index < length c.bytes.cells = omega (arith, c.bytes-test.true, c.min-count.ensures, c.saturating_sub-room.ensures, c.bytes.auto.cells) in
    one_more (λ place. get_or c.args.cells.now place None) c.bytes.cells c.args.bytes.now c.args.offset c.bytes.index inside c.bytes.invariant
