-- The statements of a file's lines, in order, up to the first fault.
use Rattle.std.specs.Prelude.{ℕ, ◌+◌, ◌-◌, ◌==◌, not, ◌&&◌, Bool, true, false, if◌then◌else◌, List, [], ◌∷◌, ◌++◌, length, Option, Some, None}
use Rattle.refusals.specs.declared.limits.TheConstants.{MOST_ELEMENT_BYTES}
use Rattle.reg_file.specs.Headers.{header_of}
use Rattle.reg_file.specs.Reading.{line_scan}
use Rattle.reg_file.specs.Lines.{file_lines}
use Rattle.reg_file.specs.declared.statement.Statement.{Statement}
use Rattle.reg_file.specs.declared.statement.Statement.TheVariants.{CreateKey, DeleteKey, SetValue, DeleteValue}
use Rattle.reg_file.specs.declared.statement.NumberedStatement.{NumberedStatement}
use Rattle.reg_file.specs.declared.scan.Pending.{Pending}
use Rattle.reg_file.specs.declared.scan.Scan.{Scan}
use Rattle.reg_file.specs.declared.scan.Scan.TheVariants as scan
use Rattle.reg_file.specs.declared.fault.Fault.{Fault}
use Rattle.reg_file.specs.declared.fault.FaultKind.{FaultKind}
use Rattle.reg_file.specs.declared.fault.FaultKind.TheVariants as kind
use Rattle.reg_file.specs.declared.turn.Item.{Item}
use Rattle.reg_file.specs.declared.turn.Turn.{Turn}
use Rattle.reg_file.specs.declared.turn.Turn.TheVariants.{Next, Done, Stop}
use Rattle.reg_file.specs.declared.file.RegFile.{RegFile}

-- a file that a fault ends; one with statements more in front
abbrev pub stopped : Fault → RegFile
stopped fault = record { statements = []; fault = Some fault }

abbrev pub onto_file : List NumberedStatement → RegFile → RegFile
onto_file front file = record { statements = front ++ file.statements; fault = file.fault }

-- whether a key is current behind a statement, and whether the statement wants one
abbrev pub key_after : Statement → Bool → Bool
key_after (CreateKey path) has_key = true
key_after (DeleteKey path) has_key = false
key_after (SetValue name kind bytes) has_key = has_key
key_after (DeleteValue name) has_key = has_key

abbrev pub wants_key : Statement → Bool
wants_key (CreateKey path) = false
wants_key (DeleteKey path) = false
wants_key (SetValue name kind bytes) = true
wants_key (DeleteValue name) = true

-- a statement of many lines has the number of the first
abbrev pub first_of : ℕ → Option Item → ℕ
first_of number None = number
first_of number (Some item) = item.first_line

abbrev pub pending_of : Option Item → Option Pending
pending_of None = None
pending_of (Some item) = Some item.pending

-- how many units its lines may still have, and one more
abbrev pub room_after : Option Item → List ℕ → ℕ
room_after None line = (MOST_ELEMENT_BYTES + 1) - length line
room_after (Some item) line = item.room - (length line + 1)

abbrev pub stop : ℕ → FaultKind → Turn
stop number what = Stop (Some (record { line = number; kind = what }))

-- a statement where it ends
abbrev pub judged : ℕ → Bool → ℕ → Statement → Turn
judged first has_key room statement =
    if wants_key statement && not has_key then stop first kind.NoKey
    else if room == 0 then stop first kind.TooLarge
    else Done (key_after statement has_key) (record { line = first; statement = statement })

abbrev pub scanned : ℕ → Bool → ℕ → Scan → Turn
scanned first has_key room scan.Nothing = Next has_key None
scanned first has_key room (scan.Complete statement) = judged first has_key room statement
scanned first has_key room (scan.GoesOn pending) = Next has_key (Some (record { first_line = first; room = room; pending = pending }))
scanned first has_key room scan.NotUnderstood = stop first kind.NotUnderstood

-- what a line does: the next one follows, a statement is done, or a fault stops
abbrev pub turn_of : Bool → Bool → ℕ → Option Item → List ℕ → Turn
turn_of old has_key number item line = scanned (first_of number item) has_key (room_after item line) (line_scan old (pending_of item) line)

abbrev pub after_turn : (Bool → Option Item → RegFile) → Turn → RegFile
after_turn rest (Next has_key item) = rest has_key item
after_turn rest (Done has_key statement) = onto_file (statement ∷ []) (rest has_key None)
after_turn rest (Stop fault) = record { statements = []; fault = fault }

-- a file may not end within a statement
abbrev pub end_fault : Option Item → Option Fault
end_fault None = None
end_fault (Some item) = Some (record { line = item.first_line; kind = kind.NotUnderstood })

-- the statements of lines, of which the first has this number
abbrev pub file_from : Bool → Bool → ℕ → Option Item → List (Option (List ℕ)) → RegFile
file_from old has_key number item [] = record { statements = []; fault = end_fault item }
file_from old has_key number item (None ∷ lines) = stopped (record { line = first_of number item; kind = kind.NotText })
file_from old has_key number item (Some line ∷ lines) = after_turn (λ key pending. file_from old key (number + 1) pending lines) (turn_of old has_key number item line)

-- the statements behind a header
abbrev pub behind_header : Option Bool → List (Option (List ℕ)) → RegFile
behind_header None lines = stopped (record { line = 1; kind = kind.NoHeader })
behind_header (Some old) lines = file_from old false 2 None lines

abbrev pub lines_file : List (Option (List ℕ)) → RegFile
lines_file [] = stopped (record { line = 1; kind = kind.NoHeader })
lines_file (None ∷ lines) = stopped (record { line = 1; kind = kind.NotText })
lines_file (Some line ∷ lines) = behind_header (header_of line) lines

-- the statements of a file's bytes, and its first fault
abbrev pub reg_file_of : List ℕ → RegFile
reg_file_of bytes = lines_file (file_lines bytes)
