-- The file that a plan makes.
use Rattle.std.specs.Prelude.{ℕ, ◌==◌, nat_lt, if◌then◌else◌, List, ◌++◌, length, take, drop, Option, Some, None, Result, Ok, Err}
use Rattle.refusals.specs.declared.refusal.Refusal.{Refusal}
use Rattle.refusals.specs.declared.refusal.Refusal.TheVariants.{HiveDamaged}
use Rattle.refusals.specs.declared.refusal.Cause.TheVariants.{BadLog, Truncated}
use Rattle.hive_recovery.specs.Laid.{first_bytes, laid, own_bytes}
use Rattle.hive_recovery.specs.Plans.{PlanSeen}

-- the bins data of a plan, if each byte is there
abbrev pub bins_of : List ℕ → PlanSeen → Option (List ℕ)
bins_of file plan = first_bytes (laid (own_bytes file) plan.entries) plan.bins_size

-- why a plan makes no file: a byte is neither the file's nor a page's; a file alone is too short
abbrev pub why_lacking : PlanSeen → Refusal
why_lacking plan = if length plan.entries == 0 then HiveDamaged 0 Truncated else HiveDamaged 0 BadLog

-- the file with these bins data: the plan's sector, the bytes up to 4,096 as they were, and the bins data
abbrev pub file_of : List ℕ → PlanSeen → Option (List ℕ) → Result (List ℕ) Refusal
file_of file plan None = Err (why_lacking plan)
file_of file plan (Some bins) = Ok (plan.sector ++ take 3584 (drop 512 file) ++ bins)

-- all bytes of the recovered file
unfoldable pub recovered_file : List ℕ → PlanSeen → Result (List ℕ) Refusal
recovered_file file plan = if nat_lt (length file) 4096 then Err (HiveDamaged 0 Truncated) else file_of file plan (bins_of file plan)
