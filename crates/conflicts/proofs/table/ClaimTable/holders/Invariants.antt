use Rattle.std.proofs.Common.{◌≡◌, map, take}
use Rattle.std.specs.Option.{option_map}
use Rattle.conflicts.specs.Holders.{holders_of}
use Rattle.conflicts.proofs.Looks.{looked}
use Rattle.conflicts.proofs.table.ClaimTable.holders.Given as goal

abbrev pub invariant-loop-number : goal.invariant-loop-number
invariant-loop-number l = map (λ o. o.0) l.found.items ≡ holders_of (looked l.self-inside.kept.entries (take l.number-index l.number-items)) (option_map (λ o. o.0) l.asker) l.claim
