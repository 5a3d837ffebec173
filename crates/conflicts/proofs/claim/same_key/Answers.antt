use Rattle.std.proofs.Common.{◌∙◌}
use Rattle.conflicts.proofs.Meets.{same_key_then, same_key_else}
use Rattle.conflicts.proofs.claim.same_key.Goals as goal

pub returns-then-begins : goal.returns-then-begins
returns-then-begins c = same_key_then c.args.one.now.key c.args.other.now.key _ _ c.begins.ensures c.if-begins.true c.begins-then-begins.ensures

pub returns-else-begins : goal.returns-else-begins
returns-else-begins c = c.if-begins.false ∙ same_key_else c.args.one.now.key c.args.other.now.key _ c.begins.ensures c.if-begins.false
