-- A laboratory between two lines.
use Rattle.std.specs.Prelude.{◌≡◌, ℕ, length}
use Rattle.disk_model.specs.FileState.{FileState}
use Rattle.disk_model.specs.MemDisk.{states, earlier}
use Rattle.disk_model.specs.MemDisks.{counts_of}
use Rattle.disk_model.specs.Plan.{no_points}
use Rattle.disk_model.specs.declared.call_counts.CallCounts.{CallCounts}
use Rattle.disk_model.specs.declared.mem_disk.MemDisk.{MemDisk}
use Rattle.disk_model.specs.declared.plan.FailurePoints.{FailurePoints}
use Rattle.refusals.specs.declared.limits.TheConstants.{MOST_HISTORY}
use Rattle.commit_journal.specs.Store.{Store}
use Rattle.engine.specs.Lives.{IsSafe}
use Rattle.script_runner.specs.Interpreters.{engine_of, script_of}
use Rattle.script_runner.specs.Scripts.{Script, fresh_script, limited}
use Rattle.crash_lab.specs.declared.lab_state.Laboratory.{Laboratory}
use Rattle.crash_lab.specs.Devices.{HasJustBegun}

-- its script; how many changes its store's history may have, also after a loss of power; each file of its disk; how many
-- calls of the disk there were, and which of them the device was asked to hit
pub record LabState : Type 0 where
  pub script : Script
  pub limit : ℕ
  pub files : ℕ → FileState
  pub counts : CallCounts
  pub points : FailurePoints

-- each file of a disk, as it is now
abbrev pub files_of : MemDisk → ℕ → FileState
files_of disk f = states disk.past disk.files.items (length (earlier disk.past)) f

abbrev pub lab_state_of : Laboratory → LabState
lab_state_of laboratory = record { script = script_of laboratory.interpreter; limit = laboratory.limit; files = files_of (engine_of laboratory.interpreter).disk; counts = counts_of (engine_of laboratory.interpreter).disk; points = laboratory.device.points }

-- Whatever a loss of power leaves of the files, with honest first sectors, recovers one number and the trees after the
-- accepted changes up to it. The number is not below the durable one and not above the last.
abbrev pub CrashesAreSafe : LabState → Type 0
CrashesAreSafe lab_state = (store : Store) × IsSafe store lab_state.script.machine lab_state.files

-- a laboratory that has made its store, of `hives` new hives
pub record IsNew (hives : ℕ) (lab_state : LabState) : Type 0 where
  pub script_is : lab_state.script ≡ fresh_script hives
  pub limit_is : lab_state.limit ≡ MOST_HISTORY
  pub points_is : lab_state.points ≡ no_points
  pub calls : HasJustBegun lab_state.counts
  pub kept : CrashesAreSafe lab_state

-- the history may have this many changes from now on, and nothing else changes
pub record IsLimited (limit : ℕ) (old new : LabState) : Type 0 where
  pub is : new ≡ record old { script = limited limit old.script; limit = limit }
  pub kept : CrashesAreSafe new
