use Rattle.std.proofs.Common.{sym, arith}
use Rattle.hive_log_entries.proofs.Stops.{has_pages_stops}
use Rattle.hive_log_entries.proofs.pages.are_pages_within.Goals as goal

pub returns-in-None : goal.returns-in-None
returns-in-None c = sym (has_pages_stops c.args.bytes.now c.pages.index (omega arith) (search c.in-None.ensures))
