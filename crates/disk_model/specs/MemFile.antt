-- The files of a disk in memory, as states.
use Rattle.std.specs.Prelude.{ℕ, ◌+◌, ◌≤◌, List, [], map, slice_index_or, length, vec_capacity}
use Rattle.disk_model.specs.FileState.{FileState, at_rest}
use Rattle.disk_model.specs.PendingWrites.{file_of}
use Rattle.disk_model.specs.declared.mem_file.MemFile.{MemFile}

abbrev pub file_state : MemFile → FileState
file_state file = file_of file.synced.items file.seen.items file.written.items file.least file.greatest

-- the state of a file by its number; one that isn't there was never written
abbrev pub state_of : List MemFile → ℕ → FileState
state_of files f = slice_index_or (map file_state files) f (at_rest [])

-- the file has the memory to get a number of bytes longer and for a number of writes before the next sync, and for that
-- sync
pub record FileHasRoom (bytes writes : ℕ) (file : MemFile) : Type 0 where
  pub to_write : length file.seen.items + bytes ≤ vec_capacity file.seen
  pub to_sync : length file.seen.items + bytes ≤ vec_capacity file.synced
  pub to_note : length file.written.items + writes ≤ vec_capacity file.written
