use Rattle.std.proofs.Common.{◌≡◌, map, take}
use Rattle.reg_export.specs.Scans.{new_scan, scan_with}
use Rattle.reg_export.specs.RegFiles.{file_names}
use Rattle.reg_export.specs.Hives.{keys_of}
use Rattle.reg_export.proofs.whole_file.scan_hives.Given as goal

-- the names of the hives so far were seen
abbrev pub invariant-loop-hive : goal.invariant-loop-hive
invariant-loop-hive l = l.scan ≡ scan_with new_scan (file_names (map keys_of (take l.hive-index l.hives)))
