use Rattle.hive_tree_model.proofs.Frame.{whole_still}
use Rattle.hive_tree_model.proofs.stays.Goals as goal

pub returns : goal.returns
returns g c = λ read local old new at parts below w stay. whole_still read local old new at parts below w stay
