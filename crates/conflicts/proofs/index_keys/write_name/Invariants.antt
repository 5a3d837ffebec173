use Rattle.std.proofs.Common.{◌≡◌, ◌++◌, map, min, take}
use Rattle.reg_names.specs.Names.{fold_unit}
use Rattle.conflicts.proofs.index_keys.write_name.Given as goal

abbrev pub invariant-loop-unit : goal.invariant-loop-unit
invariant-loop-unit l = l.text.items ≡ l.initial.text.items ++ map (λ u. min (fold_unit u) 65534) (take l.unit-index l.unit-items)
