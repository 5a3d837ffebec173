-- The device of a laboratory's disk.
use Rattle.std.specs.Prelude.{◌≡◌, ◌<◌, ◌+◌, ◌-◌, ◌^◌, ℕ, Bool, true, false, min, max}
use Rattle.disk_model.specs.Plan.{GoesByPlan, no_calls, no_points}
use Rattle.disk_model.specs.declared.call_counts.CallCounts.{CallCounts}
use Rattle.disk_model.specs.declared.plan.FailurePoints.{FailurePoints}
use Rattle.script_runner.specs.Faults.{is_device_reply}
use Rattle.crash_lab.specs.declared.reply.LabReply.{LabReply}
use Rattle.crash_lab.specs.declared.reply.LabReply.TheVariants.{OneLine, Opened}

-- the number of a call that comes after so many others: as many as a line says, at least one
abbrev pub number_after : ℕ → ℕ → ℕ
number_after made call = min (made + max call 1) (2 ^ 64 - 1)

-- From the first call of a disk on its device was to hit none, and none failed.
pub record HasJustBegun (counts : CallCounts) : Type 0 where
  pub calls : GoesByPlan no_points no_calls counts
  pub none_failed : counts.failures ≡ 0

-- what is counted as a line begins: a store that a line has opened is on a new disk
abbrev pub counts_before : CallCounts → LabReply → CallCounts
counts_before before (OneLine reported) = before
counts_before before (Opened number) = no_calls

-- whether a reply reports that the device failed in this call, or in an earlier one
abbrev pub tells_of_device : LabReply → Bool
tells_of_device (OneLine reported) = is_device_reply reported
tells_of_device (Opened number) = false

-- What the device did at a line. From what was counted before it to what is counted after it, the calls failed that the
-- device was asked to hit. A reply that reports the device is given only if a call has failed since the store's disk was
-- made.
pub record GoesAsAsked (points : FailurePoints) (before : CallCounts) (reported : LabReply) (after : CallCounts) : Type 0 where
  pub calls : GoesByPlan points (counts_before before reported) after
  pub told : tells_of_device reported ≡ true → 0 < after.failures
