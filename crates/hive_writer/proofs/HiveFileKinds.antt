-- A hive's two files are two.
use Rattle.std.proofs.Common.{◌≡◌, ◌≢◌, ℕ, arith}
use Rattle.hive_writer.specs.declared.device.HiveFileKind.{HiveFileKind}
use Rattle.hive_writer.specs.declared.device.HiveFileKind.TheVariants.{Primary, Log}
use Rattle.hive_writer.specs.HiveFileKinds.{number_of, other_file}

pub apart : (file : HiveFileKind) (hive n : ℕ) → n ≡ number_of file hive → number_of (other_file file) hive ≢ n
apart Primary hive n is same = omega (arith, is, same)
apart Log hive n is same = omega (arith, is, same)
