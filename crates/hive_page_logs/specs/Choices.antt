-- Which log of pages a hive is recovered by.
use Rattle.std.specs.Prelude.{◌==◌, ℕ, Bool, true, ◌&&◌, if◌then◌else◌, List, [], ◌∷◌, Option, Some, None}
use Rattle.hive_recovery.specs.Limits.{is_within}
use Rattle.hive_recovery.specs.Sequences.{is_older}
use Rattle.hive_recovery.specs.declared.limits.RecoveryLimits.{RecoveryLimits}
use Rattle.hive_page_logs.specs.PageLogs.{PagesSeen}

-- a log is of a hive that was last written at a time; each one is if the time isn't known
abbrev pub is_of_time : Option ℕ → PagesSeen → Bool
is_of_time None log = true
is_of_time (Some time) log = log.block.last_written == time

-- a log fits: it is of the time, and its number is within limits
abbrev pub fits : Option ℕ → RecoveryLimits → PagesSeen → Bool
fits time limits log = is_of_time time log && is_within limits log.block.primary.0

-- a log is newer than the newest one before it, if there is one
abbrev pub is_newer : Option PagesSeen → PagesSeen → Bool
is_newer None log = true
is_newer (Some best) log = is_older best.block.primary.0 log.block.primary.0

-- the newer of the newest log before another, and that one, if it is whole and fits
abbrev pub newer_of : Option ℕ → RecoveryLimits → Option PagesSeen → Option PagesSeen → Option PagesSeen
newer_of time limits best None = best
newer_of time limits best (Some log) = if fits time limits log && is_newer best log then Some log else best

-- the newest of the logs that fit, and of one before them; of two that are as new, the first
abbrev pub newest_of : Option ℕ → RecoveryLimits → Option PagesSeen → List (Option PagesSeen) → Option PagesSeen
newest_of time limits best [] = best
newest_of time limits best (log ∷ rest) = newest_of time limits (newer_of time limits best log) rest
