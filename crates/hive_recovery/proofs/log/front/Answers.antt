use Rattle.std.proofs.Common.{sym, arith}
use Rattle.std.proofs.lemmas.List.{take_all}
use Rattle.hive_recovery.proofs.log.front.Goals as goal

pub returns-then-bytes-lt-SECTOR_BYTES : goal.returns-then-bytes-lt-SECTOR_BYTES
returns-then-bytes-lt-SECTOR_BYTES c = sym (take_all 512 c.args.bytes.now (omega (arith, c.if-bytes-lt-SECTOR_BYTES.true)))
