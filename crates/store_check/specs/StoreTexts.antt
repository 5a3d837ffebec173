-- The text of what is found of a store.
use Rattle.std.specs.Prelude.{ℕ, ◌+◌, ◌==◌, nat_lt, if◌then◌else◌, List, [], ◌∷◌, ◌++◌, Option, Some, None, codes}
use Rattle.std.specs.Fmt.{decimal}
use Rattle.uuid.specs.Text.{hyphenated_text, lower}
use Rattle.refusals.specs.Refusals.{refusal_text}
use Rattle.refusals.specs.declared.refusal.Refusal.{Refusal}
use Rattle.refusals.specs.declared.limits.TheConstants.{MOST_JOURNAL_BYTES}
use Rattle.commit_journal.specs.Numbered.{NumberedChange}
use Rattle.commit_journal.specs.Store.{room_of}
use Rattle.commit_journal.specs.Journals.{choice_of, store_of}
use Rattle.hive_flush.specs.HiveStates.{dirty_pages, file_choice, repairs_left}
use Rattle.hive_flush.specs.declared.hive.HiveFile.{HiveFile}
use Rattle.recovery.specs.Retained.{count_lacked, numbered_changes}
use Rattle.recovery.specs.declared.found.RecoveredStore.{RecoveredStore}
use Rattle.store_check.specs.Advice.{advice}

-- ---- hives

-- what a hive's files lack
abbrev pub lacks_text : ℕ → List ℕ
lacks_text count =
    if count == 0 then codes ", has all changes\n"
    else if count == 1 then codes ", lacks 1 change; the next run moves it in\n"
    else codes ", lacks " ++ decimal count ++ codes " changes; the next run moves them in\n"

-- how many pages of a half written file its log repairs; there may be none beside the first sector
abbrev pub pages_text : ℕ → List ℕ
pages_text pages =
    if pages == 0 then []
    else if pages == 1 then codes " in 1 page"
    else codes " in " ++ decimal pages ++ codes " pages"

abbrev pub half_written_text : ℕ → List ℕ
half_written_text pages = codes ", half written" ++ pages_text pages

-- whether its file is half written, and how many pages of it are to be repaired
abbrev pub repair_text : Option ℕ → List ℕ
repair_text None = []
repair_text (Some pages) = half_written_text pages

-- a hive by its number, if calls name it; else it is that of outcomes
abbrev pub hive_text : ℕ → ℕ → List ℕ
hive_text named hive = if nat_lt hive named then codes "hive " ++ decimal hive else codes "outcomes"

-- a hive, and the number of the last change in its files
abbrev pub applied_text : ℕ → ℕ → ℕ → List ℕ
applied_text named hive applied = hive_text named hive ++ (codes ": applied " ++ decimal applied)

-- how many pages of a hive's file a repair writes, if a repair is left
abbrev pub repair_of : HiveFile → Option ℕ
repair_of file = if repairs_left file == 0 then None else Some (dirty_pages file)

abbrev pub state_line : ℕ → ℕ → ℕ → Option ℕ → ℕ → List ℕ
state_line named hive applied repair count = applied_text named hive applied ++ (repair_text repair ++ lacks_text count)

-- the line of a hive: which it is, the number of the last change that is surely in its files, and what they lack
abbrev pub hive_line : ℕ → ℕ → List NumberedChange → HiveFile → List ℕ
hive_line named hive changes file =
    let applied = (file_choice file).now.1 in
    state_line named hive applied (repair_of file) (count_lacked hive applied changes)

-- the lines of hives, the first of which has this number; calls name the first `named` of all
abbrev pub hive_lines : ℕ → ℕ → List NumberedChange → List HiveFile → List ℕ
hive_lines named hive changes [] = []
hive_lines named hive changes (file ∷ files) = hive_line named hive changes file ++ hive_lines named (hive + 1) changes files

-- ---- a store

abbrev pub id_line : List ℕ → List ℕ
id_line id = codes "store " ++ hyphenated_text lower id ++ codes "\n"

-- the number of the last change, and of hives that calls name
abbrev pub number_lines : ℕ → ℕ → List ℕ
number_lines number hives = codes "number " ++ decimal number ++ codes "\nhives " ++ decimal hives ++ codes "\n"

-- the room that is used in the journal
abbrev pub journal_line : ℕ → List ℕ
journal_line used = codes "journal " ++ decimal used ++ codes " of " ++ decimal MOST_JOURNAL_BYTES ++ codes " bytes\n"

-- the lines before those of the hives
abbrev pub head_lines : RecoveredStore → List ℕ
head_lines found =
    id_line (store_of found.journal).id ++ (number_lines found.number (store_of found.journal).hives ++ journal_line (65 + room_of (choice_of found.journal).now.elements))

-- all lines of what was found
abbrev pub store_text : RecoveredStore → List ℕ
store_text found = head_lines found ++ (hive_lines (store_of found.journal).hives 0 (numbered_changes found.opened) found.hives.items ++ codes "whole\n")

-- the lines of a refusal: why, and what to do
abbrev pub refusal_lines : Refusal → List ℕ
refusal_lines why = refusal_text why ++ (codes "\n" ++ (advice why ++ codes "\n"))
