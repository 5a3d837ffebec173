-- What is told of a hive's file and of its logs.
use Rattle.std.specs.Prelude.{◌≡◌, ℕ, nat_lt, Bool, not, ◌&&◌, if◌then◌else◌, List, length, take, map, Option, Some, None, option_map, Result, Ok, Err}
use Rattle.base_block.specs.Layout.{block_at, is_clean_block}
use Rattle.base_block.specs.declared.block.BaseBlock.{BaseBlock}
use Rattle.base_block.specs.declared.fields.SequenceNumber.{SequenceNumber}
use Rattle.dirty_vector.specs.Pages.{dirty_count}
use Rattle.hive_page_logs.specs.PageLogs.{PagesSeen, is_page_type, page_log_of, page_view_of}
use Rattle.hive_page_logs.specs.declared.page_log.PageFault.{PageFault}
use Rattle.hive_recovery.specs.Endings.{ending_of, numbers_of}
use Rattle.hive_recovery.specs.Plans.{is_torn_block}
use Rattle.hive_recovery.specs.Limits.{next_of, reach_of, usable}
use Rattle.hive_recovery.specs.Sequences.{entries_of, left_from, missing_of}
use Rattle.hive_recovery.specs.declared.limits.RecoveryLimits.{RecoveryLimits}
use Rattle.hive_recovery.specs.declared.log.Log.{Log}
use Rattle.recovery_report.specs.Outcomes.{IsOutcome}
use Rattle.recovery_report.specs.declared.report.LogReport.{LogReport}
use Rattle.recovery_report.specs.declared.report.PagesReport.{PagesReport}
use Rattle.recovery_report.specs.declared.report.PagesReport.TheVariants as report
use Rattle.recovery_report.specs.declared.report.Recovery.{Recovery}
use Rattle.recovery_report.specs.declared.report.Waiting.{Waiting}

-- the base block of a file, if it has a first sector
abbrev pub first_block : List ℕ → Option BaseBlock
first_block file = if nat_lt (length file) 512 then None else Some (block_at (take 512 file))

-- a block is whole, and not clean
abbrev pub is_unclean : BaseBlock → Bool
is_unclean block = not (is_torn_block block) && not (is_clean_block block)

-- the numbers of entries that are applied, and the number behind all that are; none if the block is torn or clean
abbrev pub waiting_of : Option BaseBlock → RecoveryLimits → List Log → Option Waiting
waiting_of None limits logs = None
waiting_of (Some block) limits logs =
    let reach = reach_of limits block.secondary in
    if is_unclean block then Some (record { reach = reach; next = record { 0 = next_of reach logs } }) else None

-- the number for want of which a log isn't gone on with: the next one, if all that the log has is behind that
abbrev pub missing_in : Option Waiting → Log → Option SequenceNumber
missing_in None log = None
missing_in (Some waiting) log = option_map (λ number. record { 0 = number }) (missing_of waiting.next.0 (left_from waiting.reach.from.0 (usable waiting.reach.to log)))

-- what is told of a log of pages
abbrev pub pages_told : Result PagesSeen PageFault → PagesReport
pages_told (Err why) = report.Faulty why
pages_told (Ok seen) = report.Whole (dirty_count seen.marked)

-- what is told of a log as one of pages
abbrev pub pages_report : Log → PagesReport
pages_report log = if is_page_type log.head then pages_told (page_log_of log.bytes.now) else report.Other

-- what is told of a log
abbrev pub log_report : Option Waiting → Log → LogReport
log_report waiting log = record { numbers = numbers_of (entries_of log); ending = ending_of log.head log.ended_at log.end; pages = pages_report log; missing = missing_in waiting log }

-- a recovery within limits is true of a hive's file and logs
pub record IsRecoveryOf (file : List ℕ) (limits : RecoveryLimits) (logs : List Log) (found : Recovery) : Type 0 where
  pub block : found.block ≡ first_block file
  pub logs_are : found.logs.items ≡ map (log_report (waiting_of (first_block file) limits logs)) logs
  pub outcome_is : IsOutcome file (first_block file) limits logs (map page_view_of logs) found.runs.items found.pages found.outcome
