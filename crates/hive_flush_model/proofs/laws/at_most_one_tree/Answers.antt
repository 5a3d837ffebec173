use Rattle.hive_flush_model.proofs.StoredTrees.{one_held}
use Rattle.hive_flush_model.proofs.Deciding.{held_is, is_held}
use Rattle.hive_flush_model.proofs.laws.at_most_one_tree.Goals as goal

pub returns : goal.returns
returns g c = record { one = λ decode p l x y h k. one_held decode p l x y h k; decided = λ decode p l x. (λ h. held_is decode p l x h, λ e. is_held decode p l x e) }
