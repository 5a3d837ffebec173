-- What a plan of failures makes of the calls of a disk.
use Rattle.std.specs.Prelude.{◌≡◌, ◌+◌, ◌-◌, ◌^◌, ℕ, Bool, true, false, List, [], ◌∷◌, if◌then◌else◌, ◌==◌, ◌&&◌, ◌||◌, nat_lt, not, min, cond, Result, is_err}
use Rattle.disk_model.specs.declared.call_counts.CallCounts.{CallCounts}
use Rattle.disk_model.specs.declared.call_counts.MadeCall.{MadeCall}
use Rattle.disk_model.specs.declared.plan.FailurePoints.{FailurePoints}
use Rattle.disk_model.specs.declared.plan.Fate.{Fate}
use Rattle.disk_model.specs.declared.plan.Fate.TheVariants.{Succeeds, Stops, Fails}

-- no call is to be hit
abbrev pub no_points : FailurePoints
no_points = record { stop_on = 0; fail_on = 0 }

-- before the first call
abbrev pub no_calls : CallCounts
no_calls = record { calls = 0; changes = 0; failures = 0 }

-- a count that goes up; it stays at the greatest number of 64 bits
abbrev pub one_more : ℕ → ℕ
one_more n = min (n + 1) (2 ^ 64 - 1)

-- one more if it is so, and else as many
abbrev pub one_more_if : Bool → ℕ → ℕ
one_more_if so n = cond so (one_more n) n

-- what is counted once a call more is made
abbrev pub counted : CallCounts → MadeCall → CallCounts
counted counts made = record { calls = one_more counts.calls; changes = one_more_if made.is_change counts.changes; failures = one_more_if made.has_failed counts.failures }

-- a call that may be a write, a cut or a sync, with its result
abbrev pub made_call : {T E : Type 0} → Bool → Result T E → MadeCall
made_call is_change result = record { is_change = is_change; has_failed = is_err result }

-- there is a stop, and the change that it is on was made before
abbrev pub is_after_stop : FailurePoints → CallCounts → Bool
is_after_stop points counts = not (points.stop_on == 0) && nat_lt points.stop_on (one_more counts.changes)

-- the next change is the one that the stop is on
abbrev pub is_at_stop : FailurePoints → CallCounts → Bool
is_at_stop points counts = points.stop_on == one_more counts.changes

-- What becomes of the next call. The one that is to fail does nothing, and so does each after the stop. The change at
-- which the disk stops is done, and fails.
abbrev pub fate_of : FailurePoints → CallCounts → Bool → Fate
fate_of points counts is_change = if (one_more counts.calls == points.fail_on) || is_after_stop points counts then Fails else (if is_change && is_at_stop points counts then Stops else Succeeds)

-- A call with this fate may end so: it fails if the plan hits it. Otherwise a read succeeds; a write, a cut or a sync may
-- still fail, for want of memory or since its file isn't kept.
abbrev pub ends_as : Fate → Bool → Bool → Bool
ends_as Succeeds true has_failed = true
ends_as Succeeds false has_failed = not has_failed
ends_as Stops is_change has_failed = has_failed
ends_as Fails is_change has_failed = has_failed

-- what is counted after calls, the latest first
abbrev pub counts_after : CallCounts → List MadeCall → CallCounts
counts_after start [] = start
counts_after start (made ∷ before) = counted (counts_after start before) made

-- the next call may end as this one did
abbrev pub is_by_plan : FailurePoints → CallCounts → MadeCall → Bool
is_by_plan points counts made = ends_as (fate_of points counts made.is_change) made.is_change made.has_failed

-- each of the calls, the latest first, ended as the points say
abbrev pub all_by_plan : FailurePoints → CallCounts → List MadeCall → Bool
all_by_plan points start [] = true
all_by_plan points start (made ∷ before) = all_by_plan points start before && is_by_plan points (counts_after start before) made

-- From what was counted then to what is counted now some calls were made, and these points say which of them failed.
pub record GoesByPlan (points : FailurePoints) (start now : CallCounts) : Type 0 where
  pub made : List MadeCall
  pub each : all_by_plan points start made ≡ true
  pub counts : now ≡ counts_after start made
