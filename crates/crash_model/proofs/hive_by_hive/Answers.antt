use Rattle.crash_model.proofs.HiveByHive.{after_elements_at, legal_at}
use Rattle.crash_model.proofs.hive_by_hive.Goals as goal

pub returns : goal.returns
returns g c = record {
  tree = λ r i es ts. after_elements_at r i es ts;
  legal = λ r i ps ts us t h at. legal_at r i ps ts us t h at;
}
