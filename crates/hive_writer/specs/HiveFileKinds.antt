-- A hive's two files, distinguished.
use Rattle.std.specs.Prelude.{ℕ}
use Rattle.disk_model.specs.StoreFiles.{primary_file, log_file}
use Rattle.hive_writer.specs.declared.device.HiveFileKind.{HiveFileKind}
use Rattle.hive_writer.specs.declared.device.HiveFileKind.TheVariants.{Primary, Log}

-- the number of one of a hive's files in its store
abbrev pub number_of : HiveFileKind → ℕ → ℕ
number_of Primary hive = primary_file hive
number_of Log hive = log_file hive

-- the other one
abbrev pub other_file : HiveFileKind → HiveFileKind
other_file Primary = Log
other_file Log = Primary
