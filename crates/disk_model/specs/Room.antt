-- A disk in memory that has taken memory ahead.
use Rattle.std.specs.Prelude.{ℕ, ◌≤◌, length}
use Rattle.std.specs.List.{AllWithin}
use Rattle.disk_model.specs.MemFile.{FileHasRoom}
use Rattle.disk_model.specs.declared.mem_disk.MemDisk.{MemDisk}

-- the files with numbers below this are there, and each can get a number of bytes longer in a
-- number of calls
pub record IsRoomy (files bytes calls : ℕ) (disk : MemDisk) : Type 0 where
  pub all_there : files ≤ length disk.files.items
  pub each : AllWithin (FileHasRoom bytes calls) disk.files.items 0 files
