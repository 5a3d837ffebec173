use Rattle.hive_flush_model.proofs.Leaving.{leaves_in}
use Rattle.hive_flush_model.proofs.Deciding.{held_is}
use Rattle.hive_flush_model.proofs.laws.crash_leaves_choice.Goals as goal

pub returns : goal.returns
returns g c = record {
  related = λ decode hive p l on. leaves_in decode hive.work hive.phase p l on;
  decided = λ decode hive p l on pc lc pl ll. let x = leaves_in decode hive.work hive.phase p l on pc lc pl ll in (x.0, x.1, held_is decode pc lc x.0 x.2);
}
