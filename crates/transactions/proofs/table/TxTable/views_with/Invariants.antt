use Rattle.std.proofs.Common.{◌≡◌, map, take}
use Rattle.std.specs.Option.{option_map}
use Rattle.transactions.specs.Entries.{with_other_tree}
use Rattle.transactions.proofs.table.TxTable.views_with.Given as goal

abbrev pub invariant-loop-view : goal.invariant-loop-view
invariant-loop-view l = l.made.items ≡ map (option_map (with_other_tree l.self.hives l.tree)) (take l.view-index l.view-items)
