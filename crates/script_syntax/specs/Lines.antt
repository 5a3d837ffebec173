-- The line that the words of a script's line are parsed to, if any.
use Rattle.std.specs.Prelude.{ℕ, ◌^◌, ◌-◌, nat_le, if◌then◌else◌, List, [], ◌∷◌, Option, Some, None, codes}
use Rattle.std.specs.Option.{option_map, option_and_then}
use Rattle.std.specs.Str.{bytes_eq}
use Rattle.script_syntax.specs.Words.{words, number_of, data_of, name_of, key_ref_of, label_of, uuid_of}
use Rattle.script_syntax.specs.declared.line.KeyRef.{KeyRef}
use Rattle.script_syntax.specs.declared.line.Request.{Request}
use Rattle.script_syntax.specs.declared.line.Request.TheVariants.{Create, Delete, Set, Unset, Get, Keys, Values, Info}
use Rattle.script_syntax.specs.declared.line.Line.{Line}
use Rattle.script_syntax.specs.declared.line.Line.TheVariants.{Hives, History, At, Session, End, Plain, Begin, Inside, Commit, Rollback, Close, Outcome, Kept, Flush, Fold, Served, Lab}
use Rattle.script_syntax.specs.declared.served_line.ServedLine.TheVariants.{Backup, Follow, Watch, Stats}
use Rattle.script_syntax.specs.declared.lab_line.LabLine.TheVariants.{Accept, JournalStep, FlusherStep, TrimStep, FlushWhole, StopAt, FailAt, Crash}
use Rattle.script_syntax.specs.declared.lab_line.CrashTear.{CrashTear}
use Rattle.script_syntax.specs.declared.lab_line.CrashTear.TheVariants.{Old, New, Torn}
use Rattle.refusals.specs.declared.limits.TheConstants.{MOST_HIVES, MOST_HISTORY}

-- the words after the first, if they are one, two or four
abbrev pub one_of : List (List ℕ) → Option (List ℕ)
one_of (a ∷ []) = Some a
one_of _ = None

abbrev pub two_of : List (List ℕ) → Option (List ℕ × List ℕ)
two_of (a ∷ b ∷ []) = Some (a, b)
two_of _ = None

abbrev pub four_of : List (List ℕ) → Option (List ℕ × List ℕ × List ℕ × List ℕ)
four_of (a ∷ b ∷ c ∷ d ∷ []) = Some (a, b, c, d)
four_of _ = None

-- a key alone, and a key with the name of a value
abbrev pub key_ref_in : List (List ℕ) → Option KeyRef
key_ref_in args = option_and_then key_ref_of (one_of args)

abbrev pub named_key_ref : List ℕ × List ℕ → Option (KeyRef × List ℕ)
named_key_ref args = option_and_then (λ at. option_map (λ units. (at, units)) (name_of args.1)) (key_ref_of args.0)

abbrev pub named_in : List (List ℕ) → Option (KeyRef × List ℕ)
named_in args = option_and_then named_key_ref (two_of args)

abbrev pub set_request : List ℕ × List ℕ × List ℕ × List ℕ → Option Request
set_request args =
    option_and_then (λ at. option_and_then (λ units. option_and_then (λ number. option_map (λ contents. Set at units number contents) (data_of args.3)) (number_of (2 ^ 32 - 1) args.2)) (name_of args.1)) (key_ref_of args.0)

-- what is asked of a key: the first word says what
abbrev pub request_with : List ℕ → List (List ℕ) → Option Request
request_with verb args =
    if bytes_eq verb (codes "create") then option_map (λ at. Create at) (key_ref_in args)
    else if bytes_eq verb (codes "delete") then option_map (λ at. Delete at) (key_ref_in args)
    else if bytes_eq verb (codes "set") then option_and_then set_request (four_of args)
    else if bytes_eq verb (codes "unset") then option_map (λ found. Unset found.0 found.1) (named_in args)
    else if bytes_eq verb (codes "get") then option_map (λ found. Get found.0 found.1) (named_in args)
    else if bytes_eq verb (codes "keys") then option_map (λ at. Keys at) (key_ref_in args)
    else if bytes_eq verb (codes "values") then option_map (λ at. Values at) (key_ref_in args)
    else if bytes_eq verb (codes "info") then option_map (λ at. Info at) (key_ref_in args)
    else None

abbrev pub request_of_words : List (List ℕ) → Option Request
request_of_words [] = None
request_of_words (verb ∷ args) = request_with verb args

-- a store has at least one hive
abbrev pub hives_of : ℕ → Option Line
hives_of count = if nat_le 1 count then Some (Hives count) else None

abbrev pub hives_line : List ℕ → Option Line
hives_line count = option_and_then hives_of (number_of MOST_HIVES count)

-- a history has room for at least one change
abbrev pub history_of : ℕ → Option Line
history_of limit = if nat_le 1 limit then Some (History limit) else None

abbrev pub history_line : List ℕ → Option Line
history_line limit = option_and_then history_of (number_of MOST_HISTORY limit)

abbrev pub at_line : List ℕ → Option Line
at_line moment = option_map (λ number. At number) (number_of (2 ^ 64 - 1) moment)

abbrev pub session_line : List ℕ → Option Line
session_line word = option_map (λ number. Session number) (number_of (2 ^ 32 - 1) word)

abbrev pub end_line : List ℕ → Option Line
end_line word = option_map (λ number. End number) (number_of (2 ^ 32 - 1) word)

-- a line of one word: nothing follows it
abbrev pub alone : Line → List (List ℕ) → Option Line
alone line [] = Some line
alone line (word ∷ args) = None

abbrev pub begin_line : List ℕ × List ℕ → Option Line
begin_line args = option_and_then (λ label. option_map (λ id. Begin label id) (uuid_of args.1)) (label_of args.0)

abbrev pub kept_line : List ℕ → Option Line
kept_line word = option_map (λ id. Kept id) (uuid_of word)

-- a label and a request
abbrev pub inside_line : List (List ℕ) → Option Line
inside_line [] = None
inside_line (word ∷ asked) = option_and_then (λ label. option_map (λ request. Inside label request) (request_of_words asked)) (label_of word)

-- a label alone
abbrev pub label_in : List (List ℕ) → Option (List ℕ)
label_in args = option_and_then label_of (one_of args)

-- the number of a hive
abbrev pub hive_in : List (List ℕ) → Option ℕ
hive_in args = option_and_then (number_of 255) (one_of args)

-- which call it is: they are counted from 1
abbrev pub call_of : ℕ → Option ℕ
call_of call = if nat_le 1 call then Some call else None

abbrev pub call_in : List (List ℕ) → Option ℕ
call_in args = option_and_then (λ word. option_and_then call_of (number_of (2 ^ 64 - 1) word)) (one_of args)

-- what a loss of power leaves
abbrev pub tear_of : List ℕ → Option CrashTear
tear_of word =
    if bytes_eq word (codes "old") then Some Old
    else if bytes_eq word (codes "new") then Some New
    else if bytes_eq word (codes "torn") then Some Torn
    else None

abbrev pub tear_in : List (List ℕ) → Option CrashTear
tear_in args = option_and_then tear_of (one_of args)

-- a backup's name, and the number after which changes are told
abbrev pub backup_line : List ℕ → Option Line
backup_line word = option_map (λ name. Served (Backup name)) (name_of word)

abbrev pub follow_line : List ℕ → Option Line
follow_line word = option_map (λ number. Served (Follow number)) (number_of (2 ^ 64 - 1) word)

-- a line that only a session of a served store takes, or a request alone
abbrev pub served_line : List ℕ → List (List ℕ) → Option Line
served_line verb args =
    if bytes_eq verb (codes "backup") then option_and_then backup_line (one_of args)
    else if bytes_eq verb (codes "follow") then option_and_then follow_line (one_of args)
    else if bytes_eq verb (codes "watch") then option_map (λ at. Served (Watch at)) (key_ref_in args)
    else if bytes_eq verb (codes "stats") then alone (Served Stats) args
    else option_map (λ request. Plain request) (request_with verb args)

-- a failure of the device to come, a loss of power, a line of a served store, or a request alone
abbrev pub device_line : List ℕ → List (List ℕ) → Option Line
device_line verb args =
    if bytes_eq verb (codes "stop") then option_map (λ call. Lab (StopAt call)) (call_in args)
    else if bytes_eq verb (codes "fail") then option_map (λ call. Lab (FailAt call)) (call_in args)
    else if bytes_eq verb (codes "crash") then option_map (λ tear. Lab (Crash tear)) (tear_in args)
    else served_line verb args

-- a line of a single step, one that has to do with the device, one of a served store, or a request alone
abbrev pub step_line : List ℕ → List (List ℕ) → Option Line
step_line verb args =
    if bytes_eq verb (codes "accept") then option_map (λ label. Lab (Accept label)) (label_in args)
    else if bytes_eq verb (codes "jstep") then alone (Lab JournalStep) args
    else if bytes_eq verb (codes "fstep") then option_map (λ hive. Lab (FlusherStep hive)) (hive_in args)
    else if bytes_eq verb (codes "tstep") then alone (Lab TrimStep) args
    else if bytes_eq verb (codes "fall") then option_map (λ hive. Lab (FlushWhole hive)) (hive_in args)
    else device_line verb args

-- a line of a transaction or of a unit of work, a laboratory's, or a request alone
abbrev pub transaction_line : List ℕ → List (List ℕ) → Option Line
transaction_line verb args =
    if bytes_eq verb (codes "tx") then inside_line args
    else if bytes_eq verb (codes "begin") then option_and_then begin_line (two_of args)
    else if bytes_eq verb (codes "commit") then option_map (λ label. Commit label) (label_in args)
    else if bytes_eq verb (codes "rollback") then option_map (λ label. Rollback label) (label_in args)
    else if bytes_eq verb (codes "close") then option_map (λ label. Close label) (label_in args)
    else if bytes_eq verb (codes "outcome") then option_map (λ label. Outcome label) (label_in args)
    else if bytes_eq verb (codes "kept") then option_and_then kept_line (one_of args)
    else step_line verb args

-- the first word says which line it is
abbrev pub line_with : List ℕ → List (List ℕ) → Option Line
line_with verb args =
    if bytes_eq verb (codes "hives") then option_and_then hives_line (one_of args)
    else if bytes_eq verb (codes "history") then option_and_then history_line (one_of args)
    else if bytes_eq verb (codes "at") then option_and_then at_line (one_of args)
    else if bytes_eq verb (codes "session") then option_and_then session_line (one_of args)
    else if bytes_eq verb (codes "end") then option_and_then end_line (one_of args)
    else if bytes_eq verb (codes "flush") then alone Flush args
    else if bytes_eq verb (codes "fold") then alone Fold args
    else transaction_line verb args

abbrev pub line_of_words : List (List ℕ) → Option Line
line_of_words [] = None
line_of_words (verb ∷ args) = line_with verb args

-- the line that bytes are parsed to, if any
abbrev pub line_of : List ℕ → Option Line
line_of bytes = line_of_words (words bytes)
