use Rattle.hive_writer.specs.HiveFileKinds.{number_of, other_file}
use Rattle.hive_writer.proofs.HiveFileKinds.{apart}
use Rattle.hive_writer.proofs.device.sync_file.Goals as goal

pub returns-clause-other : goal.returns-clause-other
returns-clause-other g c = c.sync.ensures.others (number_of (other_file c.args.file) c.args.hive) (apart c.args.file c.args.hive c.number.result c.number.ensures)
