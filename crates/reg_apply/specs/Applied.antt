-- How a registration file is applied to a store.
use Rattle.std.specs.Prelude.{◌≡◌, ◌⊎◌, ℕ, true, false, List, [], length, Option, Some, None, Result, IfOk, ⊤}
use Rattle.std.specs.Io.KnownBytes.{Appends}
use Rattle.refusals.specs.declared.refusal.Refusal.{Refusal}
use Rattle.refusals.specs.declared.refusal.Refusal.TheVariants.{NoMemory, Unsupported}
use Rattle.disk_model.specs.FileState.{FileState}
use Rattle.store_model.specs.Machine.{Machine, has_outcomes, named_trees, outcome_bytes, outcome_of}
use Rattle.reply_lines.specs.declared.status.Status.{Status}
use Rattle.reply_lines.specs.declared.status.Status.TheVariants as status
use Rattle.reg_prefixes.specs.declared.prefix.Prefix.{Prefix}
use Rattle.change_plan.specs.Plans.{Planned}
use Rattle.reg_tree.specs.declared.op.Op.{Op}
use Rattle.store_change.specs.Commits.{Commits, FailsToCommit, KeepsAccepted}
use Rattle.store_change.specs.Reports.{AllOrNothing, ChangesStore, report_text}
use Rattle.reg_file.specs.declared.fault.FaultKind.TheVariants as kind
use Rattle.reg_file.specs.declared.file.RegFile.{RegFile}
use Rattle.reg_apply.specs.declared.place.Place.{Place}
use Rattle.reg_apply.specs.declared.place.Denial.{Denial}
use Rattle.reg_apply.specs.declared.place.Denial.TheVariants as denial
use Rattle.reg_apply.specs.declared.outcome.ApplyOutcome.{ApplyOutcome}
use Rattle.reg_apply.specs.declared.outcome.ApplyOutcome.TheVariants.{Applied, BadFile, NoHive, Denied, Refused}
use Rattle.reg_apply.specs.declared.request.UnitOfWork.{UnitOfWork}
use Rattle.reg_apply.specs.declared.request.UnitOfWork.TheVariants.{Own, Again, Once}
use Rattle.reg_apply.specs.Outcomes.{is_applied, outcome_line, outcome_status}
use Rattle.reg_apply.specs.Statements.{StopsAt, TakesStatements}

-- the plan before a file's first statement: on the trees of the hives that calls name, without operations, with the bytes
-- set aside that a commit may add
abbrev pub first_plan : Machine → ℕ → Planned
first_plan old moment = record { view = named_trees old; ops = []; moment = moment; aside = outcome_bytes old }

-- all statements of a file are taken into a plan
abbrev pub TakesAll : List Prefix → ℕ → RegFile → Machine → Planned → Type 0
TakesAll prefixes moment file old plan =
    (last : Option Place) × TakesStatements prefixes (length (named_trees old)) None (first_plan old moment) file.statements last plan

-- a statement of a file is the first that isn't
abbrev pub StopsIn : List Prefix → ℕ → RegFile → Machine → ℕ → Denial → Type 0
StopsIn prefixes moment file old line why = StopsAt prefixes (length (named_trees old)) (first_plan old moment) file.statements line why

-- the unit of work of an application: the one that was asked for, or any if none was
abbrev pub IsUnit : Option (List ℕ) → List ℕ → Type 0
IsUnit None id = ⊤
IsUnit (Some unit) id = id ≡ unit

-- How it ends. The operations of all statements are the change that is committed for the unit of work, if the file has no
-- fault. If a statement is denied, or the file has a fault after statements that are taken, nothing is accepted. The
-- first of these is told. An application is refused if memory for its plan is lacking, or for the same reason as its
-- commit.
abbrev pub EndsApplication : List Prefix → ℕ → Option (List ℕ) → RegFile → Machine → ApplyOutcome → Machine → Type 0
EndsApplication prefixes moment unit file old (Applied number) new =
    (plan : Planned) × (file.fault ≡ None) × TakesAll prefixes moment file old plan × (id : List ℕ) × IsUnit unit id × Commits old id moment plan.ops number new
EndsApplication prefixes moment unit file old (BadFile fault) new =
    KeepsAccepted old new
    × (((plan : Planned) × (file.fault ≡ Some fault) × TakesAll prefixes moment file old plan)
    ⊎ ((fault.kind ≡ kind.NoKey) × StopsIn prefixes moment file old fault.line denial.NoKey))
EndsApplication prefixes moment unit file old (NoHive line) new = KeepsAccepted old new × StopsIn prefixes moment file old line denial.NoHive
EndsApplication prefixes moment unit file old (Denied line why) new = KeepsAccepted old new × StopsIn prefixes moment file old line (denial.Refused why)
EndsApplication prefixes moment unit file old (Refused why) new =
    ((why ≡ NoMemory) × KeepsAccepted old new)
    ⊎ ((plan : Planned) × (file.fault ≡ None) × TakesAll prefixes moment file old plan × (id : List ℕ) × IsUnit unit id × FailsToCommit old id moment plan.ops why new)

-- the unit of work that an application is for, if one is given
abbrev pub unit_of : UnitOfWork → Option (List ℕ)
unit_of Own = None
unit_of (Again unit) = Some unit
unit_of (Once unit) = Some unit

-- the store keeps a commit of a unit of work, whose number is told, and nothing is changed
abbrev pub IsKept : List ℕ → Machine → ApplyOutcome → Machine → Type 0
IsKept unit old outcome new = (number : ℕ) × (has_outcomes old ≡ true) × (outcome_of old unit ≡ Some number) × (outcome ≡ Applied number) × (new ≡ old)

-- the store keeps no commit of a unit of work
abbrev pub IsNotKept : List ℕ → Machine → Type 0
IsNotKept unit old = (has_outcomes old ≡ true) × (outcome_of old unit ≡ None)

-- it isn't told whether it does: memory is lacking, or it keeps no outcomes of commits; this is told, and nothing is changed
abbrev pub IsNotTold : Machine → ApplyOutcome → Machine → Type 0
IsNotTold old outcome new = (why : Refusal) × ((why ≡ NoMemory) ⊎ ((why ≡ Unsupported) × (has_outcomes old ≡ false))) × (outcome ≡ Refused why) × (new ≡ old)

-- How an application ends that is made once for a unit of work: the file is applied exactly if the store keeps no commit
-- of it.
abbrev pub EndsOnce : List ℕ → List Prefix → ℕ → RegFile → Machine → ApplyOutcome → Machine → Type 0
EndsOnce unit prefixes moment file old outcome new =
    IsKept unit old outcome new ⊎ ((IsNotKept unit old × EndsApplication prefixes moment (Some unit) file old outcome new) ⊎ IsNotTold old outcome new)

-- how it ends, for the unit of work that it is for
abbrev pub EndsFor : UnitOfWork → List Prefix → ℕ → RegFile → Machine → ApplyOutcome → Machine → Type 0
EndsFor Own prefixes moment file old outcome new = EndsApplication prefixes moment None file old outcome new
EndsFor (Again unit) prefixes moment file old outcome new = EndsApplication prefixes moment (Some unit) file old outcome new
EndsFor (Once unit) prefixes moment file old outcome new = EndsOnce unit prefixes moment file old outcome new

-- the status of an end, with what is refused of the steps that are left: that of a refusal if a step was refused
abbrev pub report_status : ApplyOutcome → Option Refusal → Status
report_status outcome None = outcome_status outcome
report_status outcome (Some why) = status.Refused

-- it ended so, which is printed, with this status
abbrev pub PrintsApplication : Option (List ℕ) → Option (List ℕ) → ApplyOutcome → Option Refusal → Status → Type 0
PrintsApplication before after outcome refused its_status = Appends before after (report_text (outcome_line outcome) refused) × (its_status ≡ report_status outcome refused)

-- a file asks for the operations of a plan that takes all its statements, for the unit of work of its application
abbrev pub AsksTaken : List Prefix → ℕ → Option (List ℕ) → RegFile → Machine → List ℕ → List Op → Type 0
AsksTaken prefixes moment unit file old id ops = (plan : Planned) × TakesAll prefixes moment file old plan × IsUnit unit id × (ops ≡ plan.ops)

-- No store was opened, or one was, and the file was applied to it. If it could be written, how that ended is printed, and
-- what is refused of the steps after it. What is left is what the application has left.
abbrev pub ReportsApplication : {D E : Type 0} → (D → Type 0) → (ℕ → List ℕ) → (ℕ → FileState) → List Prefix → ℕ → UnitOfWork → RegFile → Option (List ℕ) → Option (List ℕ) → Result Status E → Type 0 → Type 0 → (ℕ → ℕ → FileState) → ℕ → Type 0
ReportsApplication is_faithful files state prefixes moment work file before after told failed faithful states clock =
    (outcome : ApplyOutcome) × (refused : Option Refusal)
    × ChangesStore is_faithful files state (EndsFor work prefixes moment file) (AllOrNothing (AsksTaken prefixes moment (unit_of work) file) moment) is_applied Refused outcome refused told failed faithful states clock
    × IfOk told (PrintsApplication before after outcome refused)

-- a denial at a line, as it is told
abbrev pub StopsSo : ℕ → Denial → ApplyOutcome → Type 0
StopsSo line denial.NoHive outcome = outcome ≡ NoHive line
StopsSo line denial.NoKey outcome = outcome ≡ BadFile (record { line = line; kind = kind.NoKey })
StopsSo line (denial.Refused why) outcome = outcome ≡ Denied line why
