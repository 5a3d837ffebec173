-- What to do about a store that isn't opened.
use Rattle.std.specs.Prelude.{ℕ, List, codes}
use Rattle.refusals.specs.declared.refusal.Refusal.{Refusal}
use Rattle.refusals.specs.declared.refusal.Refusal.TheVariants as refusal

abbrev pub advice : Refusal → List ℕ
advice refusal.NoMemory = codes "memory was wanting: give more and check again"
advice refusal.DiskFault = codes "a file can't be read or synced: check permissions and the disk"
advice refusal.JournalDamaged = codes "no store, or a damaged journal: check the folder, or restore a backup"
advice _ = codes "a damaged hive: check its file alone, and restore a backup"
