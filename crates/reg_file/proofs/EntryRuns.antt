-- What entries of the grammar make of the lines that they stand in.
use Rattle.std.proofs.Common.{◌≡◌, ◌≢◌, ℕ, ◌+◌, ◌-◌, ◌==◌, ◌&&◌, not, Bool, true, false, cond, List, [], ◌∷◌, ◌++◌, map, length, Option, Some, None, refl, sym, ◌∙◌, ap, subst, append_assoc, arith}
use Rattle.refusals.specs.declared.limits.TheConstants.{MOST_ELEMENT_BYTES}
use Rattle.reg_file.specs.Reading.{line_scan}
use Rattle.reg_file.specs.Files.{onto_file, key_after, wants_key, first_of, pending_of, room_after, stop, judged, scanned, after_turn, file_from}
use Rattle.reg_file.specs.Grammar.{Entry, IsEntry, units_of, IsPlaced, key_behind_entry, AreEntries, key_behind, entry_lines, one_numbered, numbered}
use Rattle.reg_file.specs.declared.statement.Statement.{Statement}
use Rattle.reg_file.specs.declared.statement.NumberedStatement.{NumberedStatement}
use Rattle.reg_file.specs.declared.scan.Pending.{Pending}
use Rattle.reg_file.specs.declared.scan.Scan.{Scan}
use Rattle.reg_file.specs.declared.scan.Scan.TheVariants as scan
use Rattle.reg_file.specs.declared.fault.FaultKind.TheVariants as kind
use Rattle.reg_file.specs.declared.turn.Item.{Item}
use Rattle.reg_file.specs.declared.turn.Turn.TheVariants.{Done}
use Rattle.reg_file.specs.declared.file.RegFile.{RegFile}
use Rattle.reg_file.proofs.Scans.{other_than}
use Rattle.reg_file.proofs.GrammarToScan.{Comes, statement_comes, blank_comes}

-- the room that lines leave
abbrev pub room_behind : Option Item → List (List ℕ) → ℕ
room_behind None lines = (MOST_ELEMENT_BYTES + 1) - units_of lines
room_behind (Some item) lines = item.room - (units_of lines + 1)

abbrev pub next_item : ℕ → Option Item → List ℕ → Pending → Item
next_item number item line pending = record { first_line = first_of number item; room = room_after item line; pending = pending }

more_room : (number : ℕ) (item : Option Item) (line next : List ℕ) (lines : List (List ℕ)) (pending : Pending) → room_behind (Some (next_item number item line pending)) (next ∷ lines) ≡ room_behind item (line ∷ next ∷ lines)
more_room number None line next lines pending = omega arith
more_room number (Some item) line next lines pending = omega arith

room_of_one : (item : Option Item) (line : List ℕ) → room_after item line ≡ room_behind item (line ∷ [])
room_of_one None line = refl
room_of_one (Some item) line = refl

-- lines as they are read
abbrev pub texts : List (List ℕ) → List (Option (List ℕ))
texts lines = map Some lines

pub texts_append : (xs ys : List (List ℕ)) → texts (xs ++ ys) ≡ texts xs ++ texts ys
texts_append [] ys = refl
texts_append (x ∷ xs) ys = ap (λ lines. Some x ∷ lines) (texts_append xs ys)

-- what follows lines that come to a scan
abbrev pub rest_file : Bool → ℕ → List (Option (List ℕ)) → Bool → Option Item → RegFile
rest_file old number rest = λ key item. file_from old key number item rest

abbrev pub behind : Bool → Bool → ℕ → Option Item → List (List ℕ) → List (Option (List ℕ)) → Scan → RegFile
behind old has_key number item lines rest scan = after_turn (rest_file old (number + length lines) rest) (scanned (first_of number item) has_key (room_behind item lines) scan)

-- one line of a file
line_taken : (old has_key : Bool) (number : ℕ) (item : Option Item) (line : List ℕ) (rest : List (Option (List ℕ))) (found : Scan) → line_scan old (pending_of item) line ≡ found → file_from old has_key number item (Some line ∷ rest) ≡ after_turn (rest_file old (number + 1) rest) (scanned (first_of number item) has_key (room_after item line) found)
line_taken old has_key number item line rest found e = ap (λ scan. after_turn (rest_file old (number + 1) rest) (scanned (first_of number item) has_key (room_after item line) scan)) e

one_line : (old has_key : Bool) (number : ℕ) (item : Option Item) (line : List ℕ) (rest : List (Option (List ℕ))) (found : Scan) → line_scan old (pending_of item) line ≡ found → file_from old has_key number item (Some line ∷ rest) ≡ behind old has_key number item (line ∷ []) rest found
one_line old has_key number item line rest found e =
    line_taken old has_key number item line rest found e
    ∙ ap (λ room. after_turn (rest_file old (number + 1) rest) (scanned (first_of number item) has_key room found)) (room_of_one item line)

pub line_goes_on : (old has_key : Bool) (number : ℕ) (item : Option Item) (line : List ℕ) (rest : List (Option (List ℕ))) (pending : Pending) → line_scan old (pending_of item) line ≡ scan.GoesOn pending → file_from old has_key number item (Some line ∷ rest) ≡ file_from old has_key (number + 1) (Some (next_item number item line pending)) rest
line_goes_on old has_key number item line rest pending e = line_taken old has_key number item line rest (scan.GoesOn pending) e

behind_more : (old has_key : Bool) (number : ℕ) (item : Option Item) (line next : List ℕ) (lines : List (List ℕ)) (rest : List (Option (List ℕ))) (pending : Pending) (found : Scan) → behind old has_key (number + 1) (Some (next_item number item line pending)) (next ∷ lines) rest found ≡ behind old has_key number item (line ∷ next ∷ lines) rest found
behind_more old has_key number item line next lines rest pending found =
    let count : number + 1 + length (next ∷ lines) ≡ number + length (line ∷ next ∷ lines) = omega arith in
    ap (λ n. after_turn (rest_file old n rest) (scanned (first_of number item) has_key (room_behind (Some (next_item number item line pending)) (next ∷ lines)) found)) count
    ∙ ap (λ room. after_turn (rest_file old (number + length (line ∷ next ∷ lines)) rest) (scanned (first_of number item) has_key room found)) (more_room number item line next lines pending)

-- lines that come to a scan
pub lines_come : (old has_key : Bool) (number : ℕ) (item : Option Item) (lines : List (List ℕ)) (rest : List (Option (List ℕ))) (found : Scan) → Comes old (pending_of item) lines found → file_from old has_key number item (texts lines ++ rest) ≡ behind old has_key number item lines rest found
lines_come old has_key number item [] rest found c = absurd c
lines_come old has_key number item (line ∷ []) rest found c = one_line old has_key number item line rest found c
lines_come old has_key number item (line ∷ next ∷ lines) rest found (pending, e, c) =
    line_goes_on old has_key number item line (texts (next ∷ lines) ++ rest) pending e
    ∙ lines_come old has_key (number + 1) (Some (next_item number item line pending)) (next ∷ lines) rest found c
    ∙ behind_more old has_key number item line next lines rest pending found

-- a statement that is judged and done
key_there : (wants has_key : Bool) → (wants ≡ true → has_key ≡ true) → (wants && not has_key) ≡ false
key_there true has_key h = ap not (h refl)
key_there false has_key h = refl

pub judged_done : (first : ℕ) (has_key : Bool) (room : ℕ) (statement : Statement) → (wants_key statement ≡ true → has_key ≡ true) → room ≢ 0 → judged first has_key room statement ≡ Done (key_after statement has_key) (record { line = first; statement = statement })
judged_done first has_key room statement h some =
    ap (λ test. cond test (stop first kind.NoKey) (cond (room == 0) (stop first kind.TooLarge) (Done (key_after statement has_key) (record { line = first; statement = statement })))) (key_there (wants_key statement) has_key h)
    ∙ ap (λ test. cond test (stop first kind.TooLarge) (Done (key_after statement has_key) (record { line = first; statement = statement }))) (other_than room 0 some)

-- an entry, in front of what follows it
pub entry_runs : (old has_key : Bool) (number : ℕ) (lines : List (List ℕ)) (statement : Option Statement) (rest : List (Option (List ℕ))) → IsEntry old lines statement → IsPlaced has_key lines statement
    → file_from old has_key number None (texts lines ++ rest) ≡ onto_file (one_numbered number statement) (file_from old (key_behind_entry statement has_key) (number + length lines) None rest)
entry_runs old has_key number lines None rest (line, e, blank) p =
    lines_come old has_key number None lines rest scan.Nothing (subst (λ all. Comes old None all scan.Nothing) (sym e) (blank_comes old line blank))
entry_runs old has_key number lines (Some statement) rest s (key, small) =
    let some : (MOST_ELEMENT_BYTES + 1) - units_of lines ≢ 0 = λ e. omega (arith, small, e) in
    lines_come old has_key number None lines rest (scan.Complete statement) (statement_comes old lines statement s)
    ∙ ap (after_turn (rest_file old (number + length lines) rest)) (judged_done number has_key ((MOST_ELEMENT_BYTES + 1) - units_of lines) statement key some)

pub onto_file_more : (front more : List NumberedStatement) (file : RegFile) → onto_file front (onto_file more file) ≡ onto_file (front ++ more) file
onto_file_more front more file = ap (λ all. record { statements = all; fault = file.fault }) (sym (append_assoc front more file.statements))

pub length_both : (xs ys : List (List ℕ)) (number : ℕ) → number + length xs + length ys ≡ number + length (xs ++ ys)
length_both [] ys number = omega arith
length_both (x ∷ xs) ys number = let more = length_both xs ys number in omega (arith, more)

-- entries one after another
pub entries_run : (old has_key : Bool) (number : ℕ) (entries : List Entry) (rest : List (Option (List ℕ))) → AreEntries old has_key entries
    → file_from old has_key number None (texts (entry_lines entries) ++ rest) ≡ onto_file (numbered number entries) (file_from old (key_behind has_key entries) (number + length (entry_lines entries)) None rest)
entries_run old has_key number [] rest a = let here : number ≡ number + 0 = omega arith in ap (λ n. file_from old has_key n None rest) here
entries_run old has_key number (entry ∷ entries) rest (is, placed, more) =
    let key = key_behind_entry entry.statement has_key in
    let next = number + length entry.lines in
    ap (λ lines. file_from old has_key number None (lines ++ rest)) (texts_append entry.lines (entry_lines entries))
    ∙ ap (file_from old has_key number None) (append_assoc (texts entry.lines) (texts (entry_lines entries)) rest)
    ∙ entry_runs old has_key number entry.lines entry.statement (texts (entry_lines entries) ++ rest) is placed
    ∙ ap (onto_file (one_numbered number entry.statement)) (entries_run old key next entries rest more)
    ∙ onto_file_more (one_numbered number entry.statement) (numbered next entries) (file_from old (key_behind key entries) (next + length (entry_lines entries)) None rest)
    ∙ ap (λ n. onto_file (one_numbered number entry.statement ++ numbered next entries) (file_from old (key_behind key entries) n None rest)) (length_both entry.lines (entry_lines entries) number)
