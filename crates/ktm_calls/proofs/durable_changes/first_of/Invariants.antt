use Rattle.std.proofs.Common.{◌≡◌, take}
use Rattle.ktm_calls.proofs.durable_changes.first_of.Given as goal

-- those so far were copied
abbrev pub invariant-loop-change : goal.invariant-loop-change
invariant-loop-change l = l.copies.items ≡ take l.change-index l.changes
