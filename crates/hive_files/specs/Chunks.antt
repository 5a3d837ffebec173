-- Files that are written and read a chunk at a time.
use Rattle.std.specs.Prelude.{ℕ, ◌+◌, ◌/◌, ◌≤◌, cond, List, length, take, drop}
use Rattle.std.specs.List.{AllByRecursion}
use Rattle.disk_model.specs.FileState.{FileState}
use Rattle.hive_files.specs.declared.reader.TheConstants.{MOST_LOG_BYTES}
use Rattle.hive_files.specs.declared.contents.HiveContents.{HiveContents}

-- each write that is on its way has at most 65,536 bytes
abbrev pub HasShortWrites : FileState → Type 0
HasShortWrites file = AllByRecursion (λ range. length range.bytes ≤ 65_536) file.ranges

-- No longer write begins: if a file has only short writes on its way at the first moment, so it has at each moment to
-- the last.
abbrev pub KeepsWritesShort : (ℕ → ℕ → FileState) → (ℕ → ℕ → FileState) → ℕ → ℕ → Type 0
KeepsWritesShort old_states new_states old_clock new_clock = (k f : ℕ) → old_clock ≤ k → k ≤ new_clock → HasShortWrites (old_states old_clock f) → HasShortWrites (new_states k f)

-- the calls that read a number of bytes: one for each 65,536 of them that begin
abbrev pub reads_of : ℕ → ℕ
reads_of count = (count + 65_535) / 65_536

-- the calls that read a part of a number of bytes: one for the file's length, and those that read the bytes
abbrev pub calls_of_part : ℕ → ℕ
calls_of_part count = 1 + reads_of count

-- the calls that read a log, and what the primary file has of bins data of a size
abbrev pub calls_by_log : List ℕ → List ℕ → ℕ → ℕ
calls_by_log primary log size = calls_of_part (length (take MOST_LOG_BYTES log)) + calls_of_part (length (take size (drop 4096 primary)))

-- The calls that find what two files hold: the primary file's sync and its first sector. Then its bins data, if it is
-- clean, and else the log's sync and what a log takes.
abbrev pub calls_to_find : List ℕ → List ℕ → HiveContents → ℕ
calls_to_find primary log found =
    1 + calls_of_part 512 + cond found.is_clean (calls_of_part found.block.bins_size) (1 + calls_by_log primary log found.block.bins_size)
