use Rattle.conflicts.proofs.IndexKeyRanges.{one_gathered, all_gathered}
use Rattle.refusals.proofs.Refused.{none_made}
use Rattle.conflicts.proofs.index_keys.numbers_between.Goals as goal

pub loop-index_key-preserved : goal.loop-index_key-preserved
loop-index_key-preserved c = one_gathered c.loop-index_key.found.items c.push.new.self.items _ c.in-Some.index_key.now c.loop-index_key.index_key-iterator c.next.new.self c.in-Some.ensures.steps c.in_ok-push.ensures.items c.loop-index_key.invariant

pub returns : goal.returns
returns c = all_gathered c.loop-index_key.found.items _ c.loop-index_key.index_key-iterator c.in-None.ensures.steps.0 c.loop-index_key.invariant

pub returns-in_err-push : goal.returns-in_err-push
returns-in_err-push c = none_made c.from_residual.result _ _ c.from_residual.ensures.1
