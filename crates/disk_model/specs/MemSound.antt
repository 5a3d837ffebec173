-- Each file of a disk in memory is sound at each moment.
use Rattle.std.specs.Prelude.{ℕ, zero, suc, ◌-◌, List, [], ◌∷◌, length, slice_index_or, refl}
use Rattle.disk_model.specs.FileState.{IsSound, at_rest}
use Rattle.disk_model.specs.MemFile.{state_of}
use Rattle.disk_model.specs.MemDisk.{earlier, states}
use Rattle.disk_model.specs.declared.mem_file.MemFile.{MemFile}
use Rattle.disk_model.specs.declared.history.DiskHistory.{DiskHistory}
use Rattle.std.proofs.Common.{arith}

pub sound-at_rest : (bytes : List ℕ) → IsSound (at_rest bytes)
sound-at_rest bytes = record { left = record { no_shorter = omega arith; no_longer = omega arith; kept = λ p below free. refl }; was_longer = omega arith; was_no_longer = omega arith }

pub sound-state_of : (files : List MemFile) (f : ℕ) → IsSound (state_of files f)
sound-state_of [] f = sound-at_rest []
sound-state_of (file ∷ files) zero = file.sound
sound-state_of (file ∷ files) (suc f) = sound-state_of files f

pub sound-states : (past : DiskHistory) (files : List MemFile) (k f : ℕ) → IsSound (states past files k f)
unfolding states
sound-states past files k f = sound-state_of (slice_index_or (files ∷ earlier past) (length (earlier past) - k) []) f
