-- The shapes of answers: an event has a few answers of its own, and no other is ever given to it.
use Rattle.std.specs.Prelude.{ℕ, Option}
use Rattle.refusals.specs.declared.refusal.Refusal.{Refusal}
use Rattle.store_model.specs.declared.handle.Tx.{Tx}
use Rattle.store_model.specs.declared.handle.Outcome.{Outcome}
use Rattle.store_model.specs.declared.event.ReadResult.{ReadResult}
use Rattle.disk_model.specs.declared.progress.Progress.{Progress}
use Rattle.store_model.specs.declared.event.Reply.{Reply}
use Rattle.store_model.specs.declared.event.Reply.TheVariants as reply

-- only done, or refused
abbrev pub DoneOr : Type 0 → (Refusal → Type 0) → Reply → Type 0
DoneOr done refused reply.Done = done
DoneOr done refused (reply.Refused refusal) = refused refusal
DoneOr done refused _ = ⊥

-- only what was read, or refused
abbrev pub ReadOr : (ReadResult → Type 0) → (Refusal → Type 0) → Reply → Type 0
ReadOr read refused (reply.Read found) = read found
ReadOr read refused (reply.Refused refusal) = refused refusal
ReadOr read refused _ = ⊥

-- only accepted, opened or refused
abbrev pub AcceptedOr : (Option ℕ → ℕ → Type 0) → Type 0 → (Refusal → Type 0) → Reply → Type 0
AcceptedOr accepted opened refused (reply.Accepted levels number) = accepted levels number
AcceptedOr accepted opened refused reply.Opened = opened
AcceptedOr accepted opened refused (reply.Refused refusal) = refused refusal
AcceptedOr accepted opened refused _ = ⊥

-- only added, opened or refused
abbrev pub AddedOr : (Option ℕ → Type 0) → Type 0 → (Refusal → Type 0) → Reply → Type 0
AddedOr added opened refused (reply.Added levels) = added levels
AddedOr added opened refused reply.Opened = opened
AddedOr added opened refused (reply.Refused refusal) = refused refusal
AddedOr added opened refused _ = ⊥

-- only begun, or refused
abbrev pub BegunOr : (Tx → Type 0) → (Refusal → Type 0) → Reply → Type 0
BegunOr begun refused (reply.Begun tx) = begun tx
BegunOr begun refused (reply.Refused refusal) = refused refusal
BegunOr begun refused _ = ⊥

-- only a number to wait for, or refused
abbrev pub AwaitsOr : (ℕ → Type 0) → (Refusal → Type 0) → Reply → Type 0
AwaitsOr awaits refused (reply.Awaits number) = awaits number
AwaitsOr awaits refused (reply.Refused refusal) = refused refusal
AwaitsOr awaits refused _ = ⊥

-- only the outcome of a transaction, or refused
abbrev pub OutcomeOr : (Outcome → Type 0) → (Refusal → Type 0) → Reply → Type 0
OutcomeOr stands refused (reply.OutcomeIs outcome) = stands outcome
OutcomeOr stands refused (reply.Refused refusal) = refused refusal
OutcomeOr stands refused _ = ⊥

-- only the number of a commit, or refused
abbrev pub CommittedAsOr : (ℕ → Type 0) → (Refusal → Type 0) → Reply → Type 0
CommittedAsOr committed refused (reply.CommittedAs number) = committed number
CommittedAsOr committed refused (reply.Refused refusal) = refused refusal
CommittedAsOr committed refused _ = ⊥

-- only a receipt, not yet, or refused
abbrev pub ReceiptOr : (ℕ → Type 0) → Type 0 → (Refusal → Type 0) → Reply → Type 0
ReceiptOr receipt waits refused (reply.Receipt number) = receipt number
ReceiptOr receipt waits refused reply.NotYet = waits
ReceiptOr receipt waits refused (reply.Refused refusal) = refused refusal
ReceiptOr receipt waits refused _ = ⊥

-- only the number at which the history was folded, not yet, or refused
abbrev pub FoldedOr : (ℕ → Type 0) → Type 0 → (Refusal → Type 0) → Reply → Type 0
FoldedOr folds waits refused (reply.Folded number) = folds number
FoldedOr folds waits refused reply.NotYet = waits
FoldedOr folds waits refused (reply.Refused refusal) = refused refusal
FoldedOr folds waits refused _ = ⊥

-- only how far a step came, or refused
abbrev pub SteppedOr : (Progress → Type 0) → (Refusal → Type 0) → Reply → Type 0
SteppedOr stepped refused (reply.Stepped progress) = stepped progress
SteppedOr stepped refused (reply.Refused refusal) = refused refusal
SteppedOr stepped refused _ = ⊥
