use Rattle.std.proofs.Common.{◌≡◌, map, take}
use Rattle.std.specs.FinMap as finite
use Rattle.reg_tree_parts.specs.declared.value.Value.{Value}
use Rattle.reg_export.specs.Scans.{scan_with}
use Rattle.reg_export.proofs.name_scan.NameScan.see_values.Given as goal

-- the names so far were seen
abbrev pub invariant-loop-index : goal.invariant-loop-index
invariant-loop-index l = l.self ≡ scan_with l.fn.self (map (λ (value : Value). value.name) (take l.index (finite.values l.values)))
