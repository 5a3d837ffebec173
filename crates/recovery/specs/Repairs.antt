-- How many steps the repair of a store takes.
use Rattle.std.specs.Prelude.{ℕ, zero, suc, ◌+◌, List, sum_by}
use Rattle.disk_model.specs.StoreFiles.{primary_file, log_file}
use Rattle.hive_flush.specs.HiveStates as hive
use Rattle.hive_flush.specs.declared.hive.HiveFile.{HiveFile}

-- how many steps of the repair of some hives are left, at most
abbrev pub repairs_left : List HiveFile → ℕ
repairs_left hives = sum_by hive.repairs_left hives

-- The most steps that the repair of a store of this many hives takes: for each hive with an unclean primary file the
-- number of pages that its log marks, and three.
abbrev pub most_repairs : (ℕ → List ℕ) → ℕ → ℕ
most_repairs files zero = 0
most_repairs files (suc n) = most_repairs files n + hive.most_repairs (files (primary_file n)) (files (log_file n))
