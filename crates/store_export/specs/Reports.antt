-- What an export of a store prints and answers.
use Rattle.std.specs.Prelude.{◌≡◌, ◌⊎◌, ℕ, List, take, Option, Result, Ok, Err}
use Rattle.std.specs.Io.KnownBytes.{Keeps}
use Rattle.refusals.specs.declared.refusal.Refusal.{Refusal}
use Rattle.reg_tree.specs.Maps.{TreeMap}
use Rattle.hive_files.specs.Frames.{RefusalHasCause}
use Rattle.commit_journal.specs.Store.{Store}
use Rattle.recovery.specs.Recovered.{IsNoStore, IsRecovered}
use Rattle.reply_lines.specs.declared.status.Status.{Status}
use Rattle.reply_lines.specs.declared.status.Status.TheVariants as status
use Rattle.reply_lines.specs.PrintedRefusals.{PrintsRefusal}
use Rattle.refusals.specs.declared.refusal.Refusal.TheVariants.{BadName, NoMemory}
use Rattle.reg_export.specs.declared.whole_file.RegFileError.{RegFileError}
use Rattle.reg_export.specs.declared.whole_file.RegFileError.TheVariants as file_error
use Rattle.store_export.specs.declared.request.ExportRequest.{ExportRequest}
use Rattle.store_export.specs.declared.report.ExportError.{ExportError}
use Rattle.store_export.specs.declared.report.ExportError.TheVariants as error
use Rattle.store_export.specs.Exports.{MayRefuse, ShowsAsked}

-- why a registration file was not written, as an export's error
abbrev pub IsFileError : RegFileError → ExportError → Type 0
IsFileError file_error.BadName made = made ≡ error.Refused BadName
IsFileError (file_error.Write fault) made = made ≡ error.Write fault

-- how an export is told that ended so: nothing is added to what was printed, or the line of the refusal is
abbrev pub IsTold : {T : Type 0} → Result T ExportError → Option (List ℕ) → Option (List ℕ) → Status → Type 0
IsTold (Ok printed) before after its_status = Keeps before after × (its_status ≡ status.Clean)
IsTold (Err (error.Refused why)) before after its_status = PrintsRefusal before after why its_status
IsTold (Err error.CannotRead) before after its_status = ⊥
IsTold (Err (error.Write fault)) before after its_status = ⊥

-- the keys that were asked for of these trees are printed; or the line of the refusal alone
abbrev pub ReportsTrees : ExportRequest → List TreeMap → Option (List ℕ) → Option (List ℕ) → Status → Type 0
ReportsTrees request trees before after its_status =
    (ShowsAsked request trees before after × (its_status ≡ status.Clean))
    ⊎ ((why : Refusal) × MayRefuse request trees why × PrintsRefusal before after why its_status)

-- the keys are reported; or, for want of memory, the line of its refusal is printed
abbrev pub ReportsOrNot : ExportRequest → List TreeMap → Option (List ℕ) → Option (List ℕ) → Status → Type 0
ReportsOrNot request trees before after its_status = ReportsTrees request trees before after its_status ⊎ PrintsRefusal before after NoMemory its_status

-- The files recover trees, if the disk is faithful, and of those of the hives that calls name this is printed; or they
-- are refused, and that is.
abbrev pub ReportsExport : Type 0 → Type 0 → (ℕ → List ℕ) → ExportRequest → Option (List ℕ) → Option (List ℕ) → Status → Type 0
ReportsExport failed faithful files request before after its_status =
    ((store : Store) × (number : ℕ) × (trees : List TreeMap) × (faithful → IsRecovered files store number trees) × ReportsTrees request (take store.hives trees) before after its_status)
    ⊎ ((why : Refusal) × RefusalHasCause failed (IsNoStore faithful files) why × PrintsRefusal before after why its_status)
