use Rattle.std.proofs.Common.{rules}
use Rattle.reg_tree.proofs.tree.edits.check_deletable.Goals as goal

pub returns-clause-legal : goal.returns-clause-legal
returns-clause-legal c = search rules
