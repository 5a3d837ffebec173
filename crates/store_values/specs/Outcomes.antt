-- How a change of a store ends, and what is printed of it.
use Rattle.std.specs.Prelude.{◌≡◌, ◌⊎◌, ℕ, Bool, true, false, List, Option, Some, None, Result, Ok, Err, IfOk}
use Rattle.std.specs.Io.KnownBytes.{Appends}
use Rattle.refusals.specs.declared.refusal.Refusal.{Refusal}
use Rattle.reg_tree.specs.declared.op.Op.{Op}
use Rattle.disk_model.specs.FileState.{FileState}
use Rattle.store_model.specs.Machine.{Machine, named_trees, outcome_bytes}
use Rattle.reply_lines.specs.declared.status.Status.TheVariants as status
use Rattle.reply_lines.specs.declared.reply.ReplyLine.TheVariants as reply
use Rattle.reply_lines.specs.Replies.{reply_line}
use Rattle.change_plan.specs.Plans.{Planned}
use Rattle.store_change.specs.Commits.{Commits, FailsToCommit, KeepsAccepted}
use Rattle.store_change.specs.Reports.{AllOrNothing, ChangesStore, report_text}
use Rattle.store_values.specs.declared.change.Change.{Change}
use Rattle.store_values.specs.declared.change_result.ChangeResult.{ChangeResult}
use Rattle.store_values.specs.Changes.{ChangeIsDenied, ChangeIsPlanned}

-- How it ends: the operations that are planned are committed as one change of this number, for some unit of work. Or it
-- is refused: it can't be planned, and nothing is accepted; or its commit is refused, for this reason.
abbrev pub EndsChange : ℕ → Change → Machine → Result ℕ Refusal → Machine → Type 0
EndsChange moment change old (Ok number) new = (plan : Planned) × (id : List ℕ) × ChangeIsPlanned (named_trees old) (outcome_bytes old) moment change plan × Commits old id moment plan.ops number new
EndsChange moment change old (Err why) new =
    (KeepsAccepted old new × ChangeIsDenied (named_trees old) (outcome_bytes old) moment change why)
    ⊎ ((plan : Planned) × (id : List ℕ) × ChangeIsPlanned (named_trees old) (outcome_bytes old) moment change plan × FailsToCommit old id moment plan.ops why new)

-- the operations that a change asks for are those of a plan of it, for any unit of work
abbrev pub AsksPlanned : ℕ → Change → Machine → List ℕ → List Op → Type 0
AsksPlanned moment change old id ops = (plan : Planned) × ChangeIsPlanned (named_trees old) (outcome_bytes old) moment change plan × (ops ≡ plan.ops)

-- whether the change was committed
abbrev pub is_committed : Result ℕ Refusal → Bool
is_committed (Ok number) = true
is_committed (Err why) = false

-- the line of an end: the change's number, or the refusal
abbrev pub outcome_line : Result ℕ Refusal → List ℕ
outcome_line (Ok number) = reply_line (reply.Committed number)
outcome_line (Err why) = reply_line (reply.Refused why)

-- how it is told: with the status of a refusal if it is one, which is told too
abbrev pub told_of : Result ℕ Refusal → ChangeResult
told_of (Ok number) = record { status = status.Clean; refusal = None }
told_of (Err why) = record { status = status.Refused; refusal = Some why }

-- how both are told, an end and what is refused of the steps that are left: with the status of a refusal too if a step was
-- refused
abbrev pub report_told : Result ℕ Refusal → Option Refusal → ChangeResult
report_told outcome None = told_of outcome
report_told outcome (Some why) = record { status = status.Refused; refusal = (told_of outcome).refusal }

-- it ended so, which is printed, and told so
abbrev pub PrintsOutcome : Option (List ℕ) → Option (List ℕ) → Result ℕ Refusal → Option Refusal → ChangeResult → Type 0
PrintsOutcome before after outcome refused told = Appends before after (report_text (outcome_line outcome) refused) × (told ≡ report_told outcome refused)

-- No store was opened, or one was, and the change was made of it. If it could be written, how that ended is printed and told,
-- and what is refused of the steps after it. What is left is what the change has left.
abbrev pub ReportsChange : {D E : Type 0} → (D → Type 0) → (ℕ → List ℕ) → (ℕ → FileState) → ℕ → Change → Option (List ℕ) → Option (List ℕ) → Result ChangeResult E → Type 0 → Type 0 → (ℕ → ℕ → FileState) → ℕ → Type 0
ReportsChange is_faithful files state moment change before after told failed faithful states clock =
    (outcome : Result ℕ Refusal) × (refused : Option Refusal)
    × ChangesStore is_faithful files state (EndsChange moment change) (AllOrNothing (AsksPlanned moment change) moment) is_committed Err outcome refused told failed faithful states clock
    × IfOk told (PrintsOutcome before after outcome refused)
