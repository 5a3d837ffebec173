use Rattle.std.proofs.Common.{◌≡◌, ℕ, false, take, Some}
use Rattle.std.specs.Prelude.{Contains}
use Rattle.conflicts.specs.Holders.{blocks, is_some_that}
use Rattle.conflicts.proofs.Looks.{look}
use Rattle.conflicts.proofs.table.ClaimTable.is_blocked.Given as goal

abbrev pub invariant-loop-number : goal.invariant-loop-number
invariant-loop-number l = (n : ℕ) → Contains (take l.number-index l.number-items) n → is_some_that (blocks (Some l.owner.0) l.claim) (look l.self-inside.kept.entries n) ≡ false
