use Rattle.std.proofs.Common.{rules}
use Rattle.conflicts.proofs.index_keys.past_of.Goals as goal

pub returns-in-Shape : goal.returns-in-Shape
returns-in-Shape c = search rules
