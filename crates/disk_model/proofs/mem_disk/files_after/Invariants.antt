use Rattle.std.proofs.Common.{◌≡◌, ℕ, ◌<◌, length}
use Rattle.disk_model.specs.MemFile.{state_of}
use Rattle.disk_model.specs.Tear.{IsCrashOf}
use Rattle.disk_model.proofs.mem_disk.files_after.Given as goal

abbrev pub invariant-loop-file : goal.invariant-loop-file
invariant-loop-file l = record {
  size : length l.after.items ≡ l.file-index;
  each : (f : ℕ) → f < l.file-index → IsCrashOf l.tear (state_of l.files.items f) (state_of l.after.items f);
}
