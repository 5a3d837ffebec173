-- A disk in memory, moment by moment.
use Rattle.std.specs.Prelude.{◌≡◌, ℕ, ◌+◌, ◌-◌, ◌^◌, min, List, [], ◌∷◌, length, slice_index_or, cond}
use Rattle.disk_model.specs.FileState.{FileState}
use Rattle.disk_model.specs.MemFile.{state_of}
use Rattle.disk_model.specs.declared.call_counts.CallCounts.{CallCounts}
use Rattle.disk_model.specs.declared.mem_file.MemFile.{MemFile}
use Rattle.disk_model.specs.declared.history.DiskHistory.{DiskHistory, Begun, Then'}

-- the files at each earlier moment, the latest first
abbrev pub earlier : DiskHistory → List (List MemFile)
earlier Begun = []
earlier (Then' shape before files has_failed) = files.value.items ∷ earlier before

-- how many calls have failed
abbrev pub failed_calls : DiskHistory → ℕ
failed_calls Begun = 0
failed_calls (Then' shape before files has_failed) = cond has_failed (failed_calls before + 1) (failed_calls before)

-- the state of each file at each moment, the last of which is the present
unfoldable pub states : DiskHistory → List MemFile → ℕ → ℕ → FileState
states past files k f = state_of (slice_index_or (files ∷ earlier past) (length (earlier past) - k) []) f

-- a count of 64 bits of so many
abbrev pub IsCount : ℕ → ℕ → Type 0
IsCount n count = count ≡ min n (2 ^ 64 - 1)

-- so many calls were made, and so many of them failed
abbrev pub CountsCalls : DiskHistory → CallCounts → Type 0
CountsCalls past counts = IsCount (length (earlier past)) counts.calls × IsCount (failed_calls past) counts.failures
