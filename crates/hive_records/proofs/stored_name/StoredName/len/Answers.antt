use Rattle.std.proofs.Common.{sym}
use Rattle.hive_records.proofs.Units.{length_pairs}
use Rattle.hive_records.proofs.stored_name.StoredName.len.Goals as goal

pub returns-else-self : goal.returns-else-self
returns-else-self c = rw c.if-self.false (sym (length_pairs c.args.self.now.bytes.now))
