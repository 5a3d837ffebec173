-- Texts that were written one after another.
use Rattle.std.proofs.Common.{inl, ℕ, List, ◌++◌, Option, Some, None, Result, Ok, Err, OnOk, refl, ◌∙◌}
use Rattle.std.specs.Io.KnownBytes.{Appends, Keeps}
use Rattle.reply_lines.proofs.Written.{appends_more}
use Rattle.jiff_core.specs.Timestamp.{IsTimestampNanos}
use Rattle.reg_export.specs.Moments.{IsUtcText, nanos_of}
use Rattle.hive_check.specs.declared.block_report.BlockReport.{BlockReport}
use Rattle.hive_check.specs.declared.finding.HiveReport.{HiveReport}
use Rattle.hive_check.specs.Blocks.{is_log_block}
use Rattle.hive_check.specs.BlockTexts.{IsBlockText, IsMomentText, PrintsBlock, block_text, head_text, store_line, written_line}
use Rattle.hive_check.specs.ReportTexts.{PrintsReport, finding_text}

pub on_ok : {T E : Type 0} {P Q : Type 0} (answer : Result T E) → (P → Q) → OnOk answer P → OnOk answer Q
on_ok (Ok x) f p = f p
on_ok (Err e) f p = tt

pub on_all : {T E : Type 0} {P : Type 0} (answer : Result T E) → P → OnOk answer P
on_all (Ok x) p = p
on_all (Err e) p = tt

-- a moment's text was written
pub moment_written : (time : ℕ) (text : List ℕ) (before after : Option (List ℕ)) → IsTimestampNanos (nanos_of time) × IsUtcText time text → Appends before after (written_line text)
    → (moment : List ℕ) × IsMomentText time moment × Appends before after (written_line moment)
moment_written time text before after is written = (text, inl is, written)

-- four texts were written
pub four_written : (before one two three after : Option (List ℕ)) (a b c d : List ℕ) → Appends before one a → Appends one two b → Appends two three c → Appends three after d → Appends before after (a ++ (b ++ (c ++ d)))
four_written before one two three after a b c d first second third last =
    appends_more before one after a (b ++ (c ++ d)) first (appends_more one two after b (c ++ d) second (appends_more two three after c d third last))

-- the head of a block was written, its moment, and its store
pub block_written : (report : BlockReport) (before one two after : Option (List ℕ)) → Appends before one (head_text report)
    → (moment : List ℕ) × IsMomentText report.block.last_written moment × Appends one two (written_line moment) → Appends two after (store_line report.block) → PrintsBlock report before after
block_written report before one two after head (moment, is, written) store =
    (moment, is, appends_more before one after (head_text report) (written_line moment ++ store_line report.block) head (appends_more one two after (written_line moment) (store_line report.block) written store))

pub block_shown : (report : BlockReport) (before after : Option (List ℕ)) → PrintsBlock report before after → (text : List ℕ) × IsBlockText (Some report) text × Appends before after text
block_shown report before after (moment, is, written) = (block_text report moment, (moment, is, refl), written)

-- a text was written, and then nothing
appends_kept : (old mid new : Option (List ℕ)) (text : List ℕ) → Appends old mid text → Keeps mid new → Appends old new text
appends_kept None mid new text a k = tt
appends_kept (Some xs) None new text a k = absurd a
appends_kept (Some xs) (Some ys) None text a k = absurd k
appends_kept (Some xs) (Some ys) (Some zs) text a k = k ∙ a

-- a block was written, and what was found
pub report_written : (report : HiveReport) (before one two after : Option (List ℕ)) → (text : List ℕ) × IsBlockText report.block text × Appends before one text → Appends one two (finding_text (is_log_block report.block) report.finding) → Keeps two after → PrintsReport report before after
report_written report before one two after (text, is, block) found kept =
    (text ++ finding_text (is_log_block report.block) report.finding, (text, is, refl), appends_kept before two after (text ++ finding_text (is_log_block report.block) report.finding) (appends_more before one two text (finding_text (is_log_block report.block) report.finding) block found) kept)
