-- The text of a recovery's report.
use Rattle.std.specs.Prelude.{ℕ, ◌+◌, ◌==◌, not, Bool, false, ◌&&◌, if◌then◌else◌, List, [], ◌∷◌, ◌++◌, Option, Some, None, codes}
use Rattle.std.specs.Fmt.{decimal}
use Rattle.refusals.specs.Refusals.{refusal_text}
use Rattle.base_block.specs.Layout.{is_clean_block}
use Rattle.base_block.specs.declared.block.BaseBlock.{BaseBlock}
use Rattle.base_block.specs.declared.fields.SequenceNumber.{SequenceNumber}
use Rattle.std.specs.Io.KnownBytes.{Appends}
use Rattle.hive_check.specs.Blocks.{is_log_type}
use Rattle.hive_check.specs.ReportTexts.{PrintsReport, reason_text, unread_lines}
use Rattle.hive_recovery.specs.Endings as endings
use Rattle.hive_recovery.specs.Plans.{is_torn_block}
use Rattle.hive_page_logs.specs.FaultTexts.{fault_text}
use Rattle.hive_recovery.specs.declared.report.LogEnding.{LogEnding}
use Rattle.hive_recovery.specs.declared.report.EntryNumbers.{EntryNumbers}
use Rattle.hive_recovery.specs.declared.sequence.LogRun.{LogRun}
use Rattle.recovery_report.specs.declared.judgement.RecoveryOutcome.{RecoveryOutcome}
use Rattle.recovery_report.specs.declared.judgement.RecoveryOutcome.TheVariants as outcome
use Rattle.recovery_report.specs.declared.judgement.RecoveredFile.{RecoveredFile}
use Rattle.recovery_report.specs.declared.judgement.Wholeness.{Wholeness}
use Rattle.recovery_report.specs.declared.judgement.Wholeness.TheVariants as wholeness
use Rattle.recovery_report.specs.declared.outcome.PagesRun.{PagesRun}
use Rattle.recovery_report.specs.declared.report.LogReport.{LogReport}
use Rattle.recovery_report.specs.declared.report.PagesReport.{PagesReport}
use Rattle.recovery_report.specs.declared.report.PagesReport.TheVariants as report
use Rattle.recovery_report.specs.declared.report.Recovery.{Recovery}

-- versions and numbers of a whole base block, and whether it is clean
abbrev pub state_text : Bool → List ℕ
state_text is_clean = if is_clean then codes ", clean\n" else codes ", not clean\n"

abbrev pub version_text : ℕ → ℕ → List ℕ
version_text major minor = codes "hive " ++ decimal major ++ codes "." ++ decimal minor

abbrev pub numbers_text : ℕ → ℕ → List ℕ
numbers_text primary secondary = codes ", numbers " ++ decimal primary ++ codes " and " ++ decimal secondary

abbrev pub whole_line : BaseBlock → List ℕ
whole_line block = version_text block.major block.minor ++ (numbers_text block.primary.0 block.secondary.0 ++ state_text (is_clean_block block))

-- the line of a base block, if there is one
abbrev pub block_line : Option BaseBlock → List ℕ
block_line None = []
block_line (Some block) =
    if not (block.signature.0 == 0x6667_6572) then codes "torn base block: letters\n"
    else (if not block.sum_is_right then codes "torn base block: sum\n" else whole_line block)

-- the numbers of a log's entries, if it has some
abbrev pub entries_text : Option EntryNumbers → List ℕ
entries_text None = []
entries_text (Some numbers) = codes "entries " ++ decimal numbers.first.0 ++ codes " to " ++ decimal numbers.last.0 ++ codes ", then "

-- the number that a log lacks, if it lacks one, and the line's end
abbrev pub missing_text : Option SequenceNumber → List ℕ
missing_text None = codes "\n"
missing_text (Some number) = codes ", " ++ decimal number.0 ++ codes " is missing\n"

-- how a log ended, or what it is as one of pages
abbrev pub log_text : PagesReport → LogEnding → List ℕ
log_text report.Other ending = endings.ending_text ending
log_text (report.Faulty why) ending = fault_text why
log_text (report.Whole count) ending = decimal count ++ codes " pages"

-- the line of a log with a number
abbrev pub log_line : ℕ → LogReport → List ℕ
log_line number report = (codes "log " ++ decimal number ++ codes ": ") ++ (entries_text report.numbers ++ (log_text report.pages report.ending ++ missing_text report.missing))

-- the lines of logs, which are numbered from one on
abbrev pub log_lines : ℕ → List LogReport → List ℕ
log_lines number [] = []
log_lines number (report ∷ rest) = log_line number report ++ log_lines (number + 1) rest

-- the line of a run that was applied
abbrev pub run_line : LogRun → List ℕ
run_line run = (codes "applied " ++ decimal run.first.0 ++ codes " to " ++ decimal run.last.0) ++ (codes " of log " ++ decimal run.log ++ codes "\n")

abbrev pub run_lines : List LogRun → List ℕ
run_lines [] = []
run_lines (run ∷ rest) = run_line run ++ run_lines rest

-- the line of the pages that were applied, if any were
abbrev pub pages_line : Option PagesRun → List ℕ
pages_line None = []
pages_line (Some run) = (codes "applied " ++ decimal run.count ++ codes " pages") ++ (codes " of number " ++ decimal run.number.0 ++ codes "\n")

-- all lines of a recovery but the last
abbrev pub steps_text : Recovery → List ℕ
steps_text found = block_line found.block ++ (log_lines 1 found.logs.items ++ (run_lines found.runs.items ++ pages_line found.pages))

-- what was made, and its number
abbrev pub file_text : Bool → ℕ → List ℕ
file_text was_clean number = if was_clean then codes "clean " ++ decimal number else codes "recovered " ++ decimal number

-- the end of a line, and what was made though it isn't whole
abbrev pub all_the_same_text : Bool → ℕ → List ℕ
all_the_same_text was_clean number = codes "\n" ++ (file_text was_clean number ++ codes ", not whole\n")

-- why a file isn't whole; and what was made, if it needn't be
abbrev pub not_whole_text : Wholeness → RecoveredFile → List ℕ
not_whole_text wholeness.Demanded file = reason_text file.report.finding ++ codes "\n"
not_whole_text wholeness.Waived file = reason_text file.report.finding ++ all_the_same_text file.was_clean file.number.0

-- the last line; if a file is made that isn't whole, the line before says why it isn't
abbrev pub ending_text : Wholeness → RecoveryOutcome → List ℕ
ending_text its (outcome.Whole file) = file_text file.was_clean file.number.0 ++ codes "\n"
ending_text its (outcome.NotWhole file) = not_whole_text its file
ending_text its (outcome.Refused why) = refusal_text why ++ codes "\n"

-- a file is a log by its base block
abbrev pub is_log_file : Option BaseBlock → Bool
is_log_file None = false
is_log_file (Some block) = not (is_torn_block block) && is_log_type block

-- known bytes grew by what a check prints of the result: its report; or why there is none, and what to do
abbrev pub PrintsResult : Option BaseBlock → RecoveryOutcome → Option (List ℕ) → Option (List ℕ) → Type 0
PrintsResult block (outcome.Whole file) before after = PrintsReport file.report before after
PrintsResult block (outcome.NotWhole file) before after = PrintsReport file.report before after
PrintsResult block (outcome.Refused why) before after = Appends before after (unread_lines (is_log_file block) why)
