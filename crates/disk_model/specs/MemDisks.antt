-- What `Disk` says of a disk in memory, and what it counts of its calls.
use Rattle.std.specs.Prelude.{ℕ, length}
use Rattle.disk_model.specs.FileState.{FileState}
use Rattle.disk_model.specs.MemDisk.{earlier, failed_calls, states}
use Rattle.disk_model.specs.declared.call_counts.CallCounts.{CallCounts}
use Rattle.disk_model.specs.declared.mem_disk.MemDisk.{MemDisk}

-- the state of each file at each moment
abbrev pub states_of : MemDisk → ℕ → ℕ → FileState
states_of disk = states disk.past disk.files.items

-- the present moment
abbrev pub clock_of : MemDisk → ℕ
clock_of disk = length (earlier disk.past)

-- how many calls have failed
abbrev pub failures_of : MemDisk → ℕ
failures_of disk = failed_calls disk.past

-- the state of each file now
abbrev pub file_now : MemDisk → ℕ → FileState
file_now disk = states_of disk (clock_of disk)

-- how many calls were made, writes, cuts and syncs among them, and failures
abbrev pub counts_of : MemDisk → CallCounts
counts_of disk = disk.course.counts
