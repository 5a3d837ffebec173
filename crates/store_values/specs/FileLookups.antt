-- Why a lookup in a file ended without an answer.
use Rattle.std.specs.Prelude.{◌≡◌, ◌≢◌, ◌⊎◌, ℕ, List, Option}
use Rattle.refusals.specs.declared.refusal.Refusal.{Refusal}
use Rattle.refusals.specs.declared.refusal.Refusal.TheVariants as refusals
use Rattle.hive_file_reader.specs.declared.hive.ReadError.{ReadError}
use Rattle.hive_file_reader.specs.declared.hive.ReadError.TheVariants as unread
use Rattle.hive_file_reader.specs.Readings.{FileBinsRefusedAs}
use Rattle.reply_lines.specs.declared.status.Status.{Status}
use Rattle.reply_lines.specs.PrintedRefusals.{PrintsRefusal}

-- a refusal for one of these reasons; or the file's reader failed
abbrev pub FileStops : (Refusal → Type 0) → ReadError → Type 0
FileStops reasons (unread.Refused why) = reasons why
FileStops reasons unread.SourceFailed = Unit {0}

-- a file gives no image of the hive of a number
abbrev pub IsNoHiveOf : ℕ → List ℕ → Refusal → Type 0
IsNoHiveOf hive file why = FileBinsRefusedAs 0 file why ⊎ ((hive ≢ 0) × (why ≡ refusals.NotFound))

-- the refusal is printed for which nothing is found; a reader that failed isn't told so
abbrev pub PrintsMissing : Option (List ℕ) → Option (List ℕ) → ReadError → Status → Type 0
PrintsMissing before after (unread.Refused why) its_status = PrintsRefusal before after why its_status
PrintsMissing before after unread.SourceFailed its_status = ⊥
