use Rattle.conflicts.proofs.Meets.{meets_is, found_at_once, found_other_way}
use Rattle.conflicts.proofs.claim.conflict.Goals as goal

pub returns-then-reaches-clause-exactly : goal.returns-then-reaches-clause-exactly
returns-then-reaches-clause-exactly c = meets_is c.args.one.now c.args.other.now _ (found_at_once c.args.one.now c.args.other.now _ c.reaches.ensures c.if-reaches.true)

pub returns-else-reaches-clause-exactly : goal.returns-else-reaches-clause-exactly
returns-else-reaches-clause-exactly c =
    meets_is c.args.one.now c.args.other.now _ (found_other_way c.args.one.now c.args.other.now _ _ c.reaches.ensures c.if-reaches.false c.reaches-else-reaches.ensures)
