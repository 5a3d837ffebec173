use Rattle.store_model.proofs.Accepting.{no_memory_changes_nothing}
use Rattle.store_model.proofs.laws.no_memory_changes_nothing.Goals as goal

pub returns : goal.returns
returns c old new = no_memory_changes_nothing old new
