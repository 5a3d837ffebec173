use Rattle.store_hive.proofs.Hives.{alike_recover}
use Rattle.store_hive.proofs.laws.others_do_not_count.Goals as goal

pub returns : goal.returns
returns c = alike_recover
