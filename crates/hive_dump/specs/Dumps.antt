-- What a dump prints, and with which status.
use Rattle.std.specs.Prelude.{◌≡◌, ℕ, List, [], ◌∷◌, ◌++◌, Option, IfSome, Result, Ok, Err}
use Rattle.std.specs.Io.KnownBytes.{Appends}
use Rattle.refusals.specs.Refusals.{refusal_text}
use Rattle.refusals.specs.declared.refusal.Refusal.{Refusal}
use Rattle.reply_lines.specs.declared.status.Status.{Status}
use Rattle.reply_lines.specs.declared.status.Status.TheVariants.{Clean, Refused}
use Rattle.reg_tree.specs.Maps.{TreeMap}
use Rattle.tree_printer.specs.TreeTexts.{tree_text}
use Rattle.hive_file_reader.specs.Hives.{FileHoldsHive}
use Rattle.hive_file_reader.specs.Readings.{FileRefusedAs}

-- what is reported of a file: the tree that it holds, or why it is refused as hive 0
abbrev pub DumpReports : List ℕ → Result TreeMap Refusal → Type 0
DumpReports file (Ok tree) = FileHoldsHive file tree
DumpReports file (Err why) = FileRefusedAs 0 file why

-- its text: the text of the tree as hive 0, or the refusal's line
abbrev pub report_text : Result TreeMap Refusal → List ℕ
report_text (Ok tree) = tree_text 0 tree
report_text (Err why) = refusal_text why ++ 10 ∷ []

-- its status
abbrev pub report_status : Result TreeMap Refusal → Status
report_status (Ok tree) = Clean
report_status (Err why) = Refused

-- what was written is the text of what is reported of the file, if its bytes are known, and the status is its status
abbrev pub DumpWrites : Option (List ℕ) → Option (List ℕ) → Option (List ℕ) → Status → Type 0
DumpWrites known before after status =
    (told : Result TreeMap Refusal) × IfSome known (λ file. DumpReports file told) × Appends before after (report_text told) × (status ≡ report_status told)
