use Rattle.std.proofs.Common.{◌≡◌, false, take}
use Rattle.transactions.specs.Tables.{is_listed}
use Rattle.transactions.proofs.SlotsInTurn.{numbers}
use Rattle.transactions.proofs.table.Holders.has.Given as goal

abbrev pub invariant-loop-owner : goal.invariant-loop-owner
invariant-loop-owner l = is_listed (numbers (take l.owner-index l.owner-items)) l.slot ≡ false
