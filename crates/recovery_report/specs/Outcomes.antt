-- What is true of a hive's file and its logs, if this comes of a recovery.
use Rattle.std.specs.Prelude.{◌≡◌, ◌⊎◌, ℕ, ◌==◌, not, Bool, true, false, if◌then◌else◌, List, [], length, Option, Some, None, MatchOption, Ok, Err}
use Rattle.refusals.specs.declared.refusal.Refusal.{Refusal}
use Rattle.refusals.specs.declared.refusal.Refusal.TheVariants as refusal
use Rattle.refusals.specs.declared.refusal.Cause.{Cause}
use Rattle.refusals.specs.declared.refusal.Cause.TheVariants as cause
use Rattle.reply_lines.specs.declared.status.Status.{Status}
use Rattle.reply_lines.specs.declared.status.Status.TheVariants as status
use Rattle.base_block.specs.Layout.{is_clean_block}
use Rattle.base_block.specs.declared.block.BaseBlock.{BaseBlock}
use Rattle.base_block.specs.declared.fields.SequenceNumber.{SequenceNumber}
use Rattle.dirty_vector.specs.Pages.{dirty_count}
use Rattle.dirt_log.specs.WholeLog.{block_of}
use Rattle.reg_tree.specs.Maps.{TreeMap}
use Rattle.hive_file_reader.specs.Hives.{FileHoldsShallowTree}
use Rattle.hive_check.specs.declared.finding.Finding.{Finding}
use Rattle.hive_check.specs.declared.finding.Finding.TheVariants as finding
use Rattle.hive_check.specs.Findings.{IsReportOf, status_of}
use Rattle.hive_walk.specs.declared.errors.ImageError.TheVariants as image_error
use Rattle.hive_page_logs.specs.PageLogs.{PagesSeen}
use Rattle.hive_page_logs.specs.Choices.{newest_of}
use Rattle.hive_page_logs.specs.RecoveredPages.{IsRecoveredByPages, IsRefusedByPages}
use Rattle.hive_recovery.specs.Plans.{PlanSeen, plan_of, is_torn_block, IsPlanRefused}
use Rattle.hive_recovery.specs.Recovered.{recovered_file}
use Rattle.hive_recovery.specs.Runs.{AreRunsOf}
use Rattle.hive_recovery.specs.declared.limits.RecoveryLimits.{RecoveryLimits}
use Rattle.hive_recovery.specs.declared.log.Log.{Log}
use Rattle.hive_recovery.specs.declared.sequence.LogRun.{LogRun}
use Rattle.recovery_report.specs.declared.outcome.PagesRun.{PagesRun}
use Rattle.recovery_report.specs.declared.judgement.RecoveredFile.{RecoveredFile}
use Rattle.recovery_report.specs.declared.judgement.Verdict.{Verdict}
use Rattle.recovery_report.specs.declared.judgement.Verdict.TheVariants as verdict
use Rattle.recovery_report.specs.declared.judgement.Wholeness.{Wholeness}
use Rattle.recovery_report.specs.declared.judgement.Wholeness.TheVariants as wholeness
use Rattle.recovery_report.specs.declared.judgement.RecoveryOutcome.{RecoveryOutcome}
use Rattle.recovery_report.specs.declared.judgement.RecoveryOutcome.TheVariants as outcome

-- bytes are those of a clean file, and this is both its numbers
abbrev pub HasNumber : List ℕ → SequenceNumber → Type 0
HasNumber bytes number = (is_clean_block (block_of bytes) ≡ true) × ((block_of bytes).primary ≡ number)

-- the file of these bytes, which are the hive's as it was if nothing was applied: both its numbers, and what a check finds of it
pub record IsFileOf (bytes : List ℕ) (was_clean : Bool) (file : RecoveredFile) : Type 0 where
  pub bytes_are : file.bytes.items ≡ bytes
  pub first : (block_of bytes).primary ≡ file.number
  pub second : (block_of bytes).secondary ≡ file.number
  pub clean : file.was_clean ≡ was_clean
  pub found : IsReportOf bytes file.report

-- a reason is want of memory
abbrev pub is_no_memory : Refusal → Bool
is_no_memory refusal.NoMemory = true
is_no_memory _ = false

-- a finding is that of a tree, or of none; for want of memory it is neither
abbrev pub verdict_of : Finding → Verdict
verdict_of (finding.Refused why) = if is_no_memory why then verdict.NotKnown else verdict.NotWhole
verdict_of (finding.Untiled fault) = verdict.NotWhole
verdict_of (finding.Unwalked cells image_error.NoMemory) = verdict.NotKnown
verdict_of (finding.Unwalked cells (image_error.Fault fault)) = verdict.NotWhole
verdict_of (finding.Walked cells keys) = verdict.Whole

-- what is true of recovered bytes: they hold a tree, no path of which is too long; or something is found by which they hold none;
-- or memory was wanting
abbrev pub IsOutcomeOfBytes : List ℕ → Bool → RecoveryOutcome → Type 0
IsOutcomeOfBytes bytes was_clean (outcome.Whole file) = IsFileOf bytes was_clean file × ((tree : TreeMap) × FileHoldsShallowTree bytes tree)
IsOutcomeOfBytes bytes was_clean (outcome.NotWhole file) = IsFileOf bytes was_clean file × (verdict_of file.report.finding ≡ verdict.NotWhole)
IsOutcomeOfBytes bytes was_clean (outcome.Refused why) = why ≡ refusal.NoMemory

-- the file that is made, if a result has to be whole, or needn't be
abbrev pub file_for : Wholeness → RecoveryOutcome → Option RecoveredFile
file_for its (outcome.Whole file) = Some file
file_for wholeness.Demanded (outcome.NotWhole file) = None
file_for wholeness.Waived (outcome.NotWhole file) = Some file
file_for its (outcome.Refused why) = None

-- the status of a check of what comes of a recovery
abbrev pub status_for : RecoveryOutcome → Status
status_for (outcome.Whole file) = status_of file.report
status_for (outcome.NotWhole file) = status_of file.report
status_for (outcome.Refused why) = status.Refused

-- what is true of a plan: the recovered bytes are those that it makes; or it makes none, for this reason, or for want of memory
abbrev pub IsOutcomeOfPlan : List ℕ → PlanSeen → RecoveryOutcome → Type 0
IsOutcomeOfPlan file plan its =
    ((out : List ℕ) × (recovered_file file plan ≡ Ok out) × IsOutcomeOfBytes out (length plan.entries == 0) its)
    ⊎ ((why : Refusal) × (its ≡ outcome.Refused why) × ((why ≡ refusal.NoMemory) ⊎ (recovered_file file plan ≡ Err why)))

-- a hive's file and logs have this plan within limits, and these are its runs of entries
abbrev pub IsPlanOf : List ℕ → RecoveryLimits → List Log → List LogRun → PlanSeen → Type 0
IsPlanOf file limits logs runs plan = (plan_of file limits logs ≡ Ok plan) × AreRunsOf limits.to logs runs plan.entries

-- what is true of a log of pages: the recovered bytes are those that it makes, with this number; or it makes none, for this reason
abbrev pub IsOutcomeOfPages : List ℕ → SequenceNumber → PagesSeen → RecoveryOutcome → Type 0
IsOutcomeOfPages file number log its =
    ((out : List ℕ) × IsRecoveredByPages file log number.0 out × IsOutcomeOfBytes out false its)
    ⊎ ((why : Refusal) × (its ≡ outcome.Refused why) × IsRefusedByPages file log why)

-- a reason is that no log of entries fits; that of no hive is one if the base block is torn
abbrev pub is_lack_of_log : Bool → Cause → Bool
is_lack_of_log torn cause.BadLog = true
is_lack_of_log torn cause.BadBase = torn
is_lack_of_log torn _ = false

abbrev pub lacks_log : Bool → Refusal → Bool
lacks_log torn (refusal.HiveDamaged hive why) = is_lack_of_log torn why
lacks_log torn _ = false

-- the time that a log of pages has to have; any, if the base block is torn
abbrev pub time_for : BaseBlock → Option ℕ
time_for block = if is_torn_block block then None else Some block.last_written

-- the log of pages within limits that a hive is recovered by, if no log of entries fits
abbrev pub fitting : Option BaseBlock → RecoveryLimits → List (Option PagesSeen) → Refusal → Option PagesSeen
fitting None limits logs why = None
fitting (Some block) limits logs why = if lacks_log (is_torn_block block) why then newest_of (time_for block) limits None logs else None

-- the number of a hive that a log of pages recovers: its own first one, or the log's if its base block is torn
abbrev pub number_for : Option BaseBlock → PagesSeen → SequenceNumber
number_for None log = log.block.primary
number_for (Some block) log = if not (is_torn_block block) then block.primary else log.block.primary

-- what is true if there is no plan for a reason: nothing comes of it, or what comes of the log of pages that fits
abbrev pub IsUnplanned : List ℕ → Option BaseBlock → RecoveryLimits → List (Option PagesSeen) → Refusal → List LogRun → Option PagesRun → RecoveryOutcome → Type 0
IsUnplanned file block limits logs why runs pages its =
    (runs ≡ []) × MatchOption (fitting block limits logs why)
    ((pages ≡ None) × (its ≡ outcome.Refused why))
    (λ log. (pages ≡ Some (record { count = dirty_count log.marked; number = log.block.primary })) × IsOutcomeOfPages file (number_for block log) log its)

-- what is true of a hive's file with this block and of logs, which are these as logs of pages: this is what comes of their plan within
-- limits; or there is none, for a reason
abbrev pub IsOutcome : List ℕ → Option BaseBlock → RecoveryLimits → List Log → List (Option PagesSeen) → List LogRun → Option PagesRun → RecoveryOutcome → Type 0
IsOutcome file block limits logs views runs pages its =
    ((plan : PlanSeen) × IsPlanOf file limits logs runs plan × IsOutcomeOfPlan file plan its × (pages ≡ None))
    ⊎ ((why : Refusal) × IsPlanRefused file limits logs why × IsUnplanned file block limits views why runs pages its)
