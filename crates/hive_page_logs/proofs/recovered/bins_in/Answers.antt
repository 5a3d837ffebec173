use Rattle.std.proofs.Common.{◌-◌, length, drop, arith, length-drop}
use Rattle.std.proofs.lemmas.List.{take_all}
use Rattle.hive_page_logs.proofs.recovered.bins_in.Goals as goal

pub returns : goal.returns
returns c = take_all (length c.args.file.now - 4096) (drop 4096 c.args.file.now) (omega (arith, length-drop 4096 c.args.file.now))
