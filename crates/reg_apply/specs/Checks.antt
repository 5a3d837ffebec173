-- Which lines of a registration file a store would refuse.
use Rattle.std.specs.Prelude.{◌≡◌, ◌⊎◌, ℕ, nat_lt, Bool, true, false, if◌then◌else◌, List, [], ◌∷◌, ◌++◌, length, take, codes, Option, Some, None}
use Rattle.std.specs.List.{flat_map, list_any}
use Rattle.std.specs.Io.KnownBytes.{Appends}
use Rattle.refusals.specs.declared.refusal.Refusal.{Refusal}
use Rattle.refusals.specs.declared.refusal.Refusal.TheVariants.{NoMemory}
use Rattle.reg_tree.specs.Maps.{TreeMap}
use Rattle.store_model.specs.declared.room.TheConstants.{MOST_OUTCOME_BYTES}
use Rattle.hive_files.specs.Frames.{RefusalHasCause}
use Rattle.commit_journal.specs.Store.{Store}
use Rattle.recovery.specs.Recovered.{IsNoStore, IsRecovered}
use Rattle.reply_lines.specs.declared.status.Status.{Status}
use Rattle.reply_lines.specs.declared.status.Status.TheVariants as status
use Rattle.reg_prefixes.specs.declared.prefix.Prefix.{Prefix}
use Rattle.change_plan.specs.Plans.{Planned}
use Rattle.reg_file.specs.declared.fault.Fault.{Fault}
use Rattle.reg_file.specs.declared.file.RegFile.{RegFile}
use Rattle.reg_file.specs.declared.statement.Statement.{Statement}
use Rattle.reg_file.specs.declared.statement.Statement.TheVariants.{CreateKey, DeleteKey, SetValue, DeleteValue}
use Rattle.reg_file.specs.declared.statement.NumberedStatement.{NumberedStatement}
use Rattle.reg_apply.specs.declared.place.Place.{Place}
use Rattle.reg_apply.specs.declared.place.Denial.{Denial}
use Rattle.reg_apply.specs.declared.outcome.ApplyOutcome.{ApplyOutcome}
use Rattle.reg_apply.specs.declared.outcome.ApplyOutcome.TheVariants.{BadFile, Refused}
use Rattle.reg_apply.specs.Outcomes.{outcome_line, outcome_status}
use Rattle.reg_apply.specs.Statements.{DeniesStatement, TakesStatement}
use Rattle.reg_apply.specs.Applied.{PrintsApplication, StopsSo}

-- the key that is current after a statement that isn't taken: none if it names a key
abbrev pub key_after : Option Place → Statement → Option Place
key_after current (CreateKey path) = None
key_after current (DeleteKey path) = None
key_after current (SetValue name kind bytes) = current
key_after current (DeleteValue name) = current

-- A statement is tried: a plan takes its edit; or the statement is denied for this reason, and the plan is as before.
abbrev pub TriesStatement : List Prefix → ℕ → Option Place → Planned → Statement → Option Place → Option Denial → Planned → Type 0
TriesStatement prefixes hives current old statement next None new = TakesStatement prefixes hives current old statement next new
TriesStatement prefixes hives current old statement next (Some denial) new = DeniesStatement prefixes hives current old statement denial × (next ≡ key_after current statement) × (new ≡ old)

-- what is told of a statement on a line: how it ends an application, if it is denied
abbrev pub TellsDenial : ℕ → Option Denial → List ApplyOutcome → Type 0
TellsDenial line None told = told ≡ []
TellsDenial line (Some denial) told = (outcome : ApplyOutcome) × StopsSo line denial outcome × (told ≡ outcome ∷ [])

-- Statements are tried one after another, each on the plan with those before it that were taken; what is told of each
-- follows in their order.
abbrev pub TriesStatements : List Prefix → ℕ → Option Place → Planned → List NumberedStatement → Option Place → List ApplyOutcome → Planned → Type 0
TriesStatements prefixes hives first old [] last told new = (last ≡ first) × (told ≡ []) × (new ≡ old)
TriesStatements prefixes hives first old (numbered ∷ statements) last told new =
    (next : Option Place) × (denial : Option Denial) × (mid : Planned) × TriesStatement prefixes hives first old numbered.statement next denial mid
    × (one : List ApplyOutcome) × TellsDenial numbered.line denial one
    × (others : List ApplyOutcome) × TriesStatements prefixes hives next mid statements last others new × (told ≡ one ++ others)

-- the plan in which a file is tried, on the trees of the hives that calls name of a store with these trees: it sets bytes
-- aside if the store keeps outcomes of commits, which are in one tree more
abbrev pub trial_plan : List TreeMap → List TreeMap → Planned
trial_plan named all = record { view = named; ops = []; moment = 0; aside = if nat_lt (length named) (length all) then MOST_OUTCOME_BYTES else 0 }

-- the line of a file's fault, if it has one: nothing is read after it
abbrev pub fault_told : Option Fault → List ApplyOutcome
fault_told None = []
fault_told (Some fault) = BadFile fault ∷ []

-- what is told of a file: of its statements, and then of its fault
abbrev pub ChecksFile : List Prefix → List TreeMap → List TreeMap → RegFile → List ApplyOutcome → Type 0
ChecksFile prefixes named all file told =
    (last : Option Place) × (lines : List ApplyOutcome) × (plan : Planned) × TriesStatements prefixes (length named) None (trial_plan named all) file.statements last lines plan × (told ≡ lines ++ fault_told file.fault)

-- a line for each that is told, or `ok`
abbrev pub check_text : List ApplyOutcome → List ℕ
check_text [] = codes "ok\n"
check_text (outcome ∷ told) = flat_map outcome_line (outcome ∷ told)

-- whether an end has the status of a refusal
abbrev pub is_refused : Status → Bool
is_refused status.Refused = true
is_refused _ = false

abbrev pub is_refusal : ApplyOutcome → Bool
is_refusal outcome = is_refused (outcome_status outcome)

-- the status: that of a refusal if one is told, that of wrong lines if those alone are
abbrev pub check_status : List ApplyOutcome → Status
check_status [] = status.Clean
check_status (outcome ∷ told) = if list_any is_refusal (outcome ∷ told) then status.Refused else status.Wrong

-- it was told so, with this status
abbrev pub PrintsCheck : Option (List ℕ) → Option (List ℕ) → List ApplyOutcome → Status → Type 0
PrintsCheck before after told its_status = Appends before after (check_text told) × (its_status ≡ check_status told)

-- what is told of a file that is checked on these trees is printed; or that memory is lacking
abbrev pub ChecksOrNot : List Prefix → List TreeMap → List TreeMap → RegFile → Option (List ℕ) → Option (List ℕ) → Status → Type 0
ChecksOrNot prefixes named all file before after its_status =
    ((told : List ApplyOutcome) × ChecksFile prefixes named all file told × PrintsCheck before after told its_status)
    ⊎ PrintsApplication before after (Refused NoMemory) None its_status

-- The files of a store recover trees, if the disk is faithful, and what is told of a file on these is printed; or they are
-- refused, and that is.
abbrev pub ReportsCheck : Type 0 → Type 0 → (ℕ → List ℕ) → List Prefix → RegFile → Option (List ℕ) → Option (List ℕ) → Status → Type 0
ReportsCheck failed faithful files prefixes file before after its_status =
    ((store : Store) × (number : ℕ) × (trees : List TreeMap) × (faithful → IsRecovered files store number trees) × ChecksOrNot prefixes (take store.hives trees) trees file before after its_status)
    ⊎ ((why : Refusal) × RefusalHasCause failed (IsNoStore faithful files) why × PrintsApplication before after (Refused why) None its_status)
