-- What is printed of how an application ended, and with which status.
use Rattle.std.specs.Prelude.{ℕ, Bool, true, false, List, [], ◌∷◌, ◌++◌, codes}
use Rattle.std.specs.Fmt.{decimal}
use Rattle.refusals.specs.Refusals.{refusal_text}
use Rattle.reg_file.specs.Faults.{fault_text}
use Rattle.reg_file.specs.declared.fault.FaultKind.{FaultKind}
use Rattle.reg_file.specs.declared.fault.FaultKind.TheVariants.{TooLarge}
use Rattle.reply_lines.specs.declared.status.Status.{Status}
use Rattle.reply_lines.specs.declared.status.Status.TheVariants as status
use Rattle.reg_apply.specs.declared.outcome.ApplyOutcome.{ApplyOutcome}
use Rattle.reg_apply.specs.declared.outcome.ApplyOutcome.TheVariants.{Applied, BadFile, NoHive, Denied, Refused}

-- the line that is printed, without its end
abbrev pub outcome_text : ApplyOutcome → List ℕ
outcome_text (Applied number) = codes "applied " ++ decimal number
outcome_text (BadFile fault) = fault_text fault
outcome_text (NoHive line) = codes "line " ++ decimal line ++ codes ": no hive"
outcome_text (Denied line refusal) = codes "line " ++ decimal line ++ codes ": " ++ refusal_text refusal
outcome_text (Refused refusal) = refusal_text refusal

-- the line with its end
abbrev pub outcome_line : ApplyOutcome → List ℕ
outcome_line outcome = outcome_text outcome ++ 10 ∷ []

-- whether the file was applied
abbrev pub is_applied : ApplyOutcome → Bool
is_applied (Applied number) = true
is_applied _ = false

-- a statement that is too large is refused, and any other fault is the file's own
abbrev pub fault_status : FaultKind → Status
fault_status TooLarge = status.Refused
fault_status _ = status.Wrong

abbrev pub outcome_status : ApplyOutcome → Status
outcome_status (Applied number) = status.Clean
outcome_status (BadFile fault) = fault_status fault.kind
outcome_status (NoHive line) = status.Wrong
outcome_status (Denied line refusal) = status.Refused
outcome_status (Refused refusal) = status.Refused
