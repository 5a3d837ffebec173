-- What a recovered hive is made of: which entries are applied, and what its first sector is.
use Rattle.std.specs.Prelude.{◌≡◌, ◌≤◌, ◌⊎◌, ℕ, ◌-◌, ◌==◌, nat_lt, not, Bool, false, ◌&&◌, if◌then◌else◌, List, [], ◌∷◌, length, take, slice_index_or, Option, Some, None, Result, Ok, Err}
use Rattle.refusals.specs.declared.refusal.Refusal.{Refusal}
use Rattle.refusals.specs.declared.refusal.Refusal.TheVariants.{HiveDamaged, NoMemory}
use Rattle.refusals.specs.declared.refusal.Cause.TheVariants.{BadLog, BadBase, Truncated}
use Rattle.base_block.specs.Judgements.{PrimaryRefused}
use Rattle.base_block.specs.Layout.{block_at, is_clean_block}
use Rattle.base_block.specs.declared.block.BaseBlock.{BaseBlock}
use Rattle.hive_log_entries.specs.Entries.{number_of}
use Rattle.hive_log_entries.specs.Pages.{bins_size_of}
use Rattle.base_block.specs.declared.fields.SequenceNumber.{SequenceNumber}
use Rattle.hive_recovery.specs.Sectors.{recovered_sector}
use Rattle.hive_recovery.specs.Limits.{reach_of, usable, starting, sequence_of}
use Rattle.hive_recovery.specs.Sequences.{is_older, number_behind}
use Rattle.hive_recovery.specs.declared.limits.RecoveryLimits.{RecoveryLimits}
use Rattle.hive_recovery.specs.declared.limits.Reach.{Reach}
use Rattle.hive_recovery.specs.declared.log.Log.{Log}
use Rattle.hive_recovery.specs.declared.planning.RecoveryPlan.{RecoveryPlan}

-- a plan: a first sector, the entries that are applied, each as its bytes, and a size of bins data
pub record PlanSeen : Type 0 where
  pub sector : List ℕ
  pub entries : List (List ℕ)
  pub bins_size : ℕ

abbrev pub seen : RecoveryPlan → PlanSeen
seen plan = record { sector = plan.sector; entries = plan.entries.items; bins_size = plan.bins_size }

-- entries over a hive with this first sector: the last of them gives the number and the size; there has to be one
unfoldable pub replayed : List ℕ → List (List ℕ) → Result PlanSeen Refusal
replayed sector entries =
    let last = slice_index_or entries (length entries - 1) [] in
    if length entries == 0 then Err (HiveDamaged 0 BadLog)
    else Ok (record { sector = recovered_sector sector (number_of last).0 (bins_size_of last); entries = entries; bins_size = bins_size_of last })

-- a base block is torn: it doesn't begin with `regf`, or its sum is wrong
abbrev pub is_torn_block : BaseBlock → Bool
is_torn_block block = not ((block.signature.0 == 0x6667_6572) && block.sum_is_right)

-- a log has entries that may be applied, the last of which has a greater number than the last one of another log
abbrev pub is_newer : Option SequenceNumber → Option Log → Log → Bool
is_newer most None log = nat_lt 0 (length (usable most log))
is_newer most (Some best) log = nat_lt 0 (length (usable most log)) && is_older (number_behind 0 (usable most best)) (number_behind 0 (usable most log))

-- the newest log of these and another, by the entries that may be applied
abbrev pub newest_of : Option SequenceNumber → Option Log → List Log → Option Log
newest_of most best [] = best
newest_of most best (log ∷ rest) = newest_of most (if is_newer most best log then Some log else best) rest

-- why there is no plan if the base block is torn and no log fits
abbrev pub no_log : BaseBlock → Refusal
no_log block = if block.signature.0 == 0x6667_6572 then HiveDamaged 0 BadLog else HiveDamaged 0 BadBase

-- the entries of a log that may be applied, over its own first sector: all of them, or those from the first number on
abbrev pub log_replayed : RecoveryLimits → Log → Result PlanSeen Refusal
log_replayed limits log =
    if nat_lt (length log.bytes.now) 512 then Err (HiveDamaged 0 BadLog)
    else replayed (take 512 log.bytes.now) (starting limits.from (usable limits.to log))

-- the plan of a hive whose base block is torn: the newest log
unfoldable pub torn_plan : BaseBlock → RecoveryLimits → List Log → Result PlanSeen Refusal
torn_plan block limits logs = elim (newest_of limits.to None logs) as (λ _. Result PlanSeen Refusal) [ None ↦ Err (no_log block) | Some log ↦ log_replayed limits log ]

-- the plan of a hive that wasn't closed cleanly: the entries within a reach, each in its turn
unfoldable pub unclean_plan : List ℕ → Reach → List Log → Result PlanSeen Refusal
unclean_plan sector reach logs = replayed sector (sequence_of reach logs)

-- the plan of a hive with a first sector and a block: nothing is applied to a clean one, whatever the limits; to one that wasn't
-- closed cleanly, the entries from its second number on, if the limits tell no other number
unfoldable pub plan_by_block : List ℕ → BaseBlock → RecoveryLimits → List Log → Result PlanSeen Refusal
plan_by_block sector block limits logs =
    if is_torn_block block then torn_plan block limits logs
    else (if is_clean_block block then Ok (record { sector = sector; entries = []; bins_size = block.bins_size })
    else unclean_plan sector (reach_of limits block.secondary) logs)

-- the plan of a file and logs, within limits
unfoldable pub plan_of : List ℕ → RecoveryLimits → List Log → Result PlanSeen Refusal
plan_of file limits logs =
    if nat_lt (length file) 512 then Err (HiveDamaged 0 Truncated)
    else plan_by_block (take 512 file) (block_at (take 512 file)) limits logs

-- the file's own base block isn't torn, and is refused
abbrev pub IsOwnBlockRefused : List ℕ → Refusal → Type 0
IsOwnBlockRefused file why = (512 ≤ length file) × (is_torn_block (block_at (take 512 file)) ≡ false) × PrimaryRefused (block_at (take 512 file)) why

-- why nothing is chosen: there is no plan, or the file's own base block is refused, or there is no memory
abbrev pub NothingChosen : List ℕ → RecoveryLimits → List Log → Refusal → Type 0
NothingChosen file limits logs why = (why ≡ NoMemory) ⊎ ((plan_of file limits logs ≡ Err why) ⊎ IsOwnBlockRefused file why)

-- why a plan is refused: nothing is chosen, or the base block of the recovered hive is refused
abbrev pub IsPlanRefused : List ℕ → RecoveryLimits → List Log → Refusal → Type 0
IsPlanRefused file limits logs why = NothingChosen file limits logs why ⊎ ((chosen : PlanSeen) × (plan_of file limits logs ≡ Ok chosen) × PrimaryRefused (block_at chosen.sector) why)
