-- The lines that a laboratory takes.
use Rattle.std.proofs.Common.{◌≡◌, Option, Some, None, refl}
use Rattle.std.specs.Prelude.{MatchOption}
use Rattle.script_syntax.specs.declared.line.Line.{Line}
use Rattle.script_syntax.specs.declared.line.Line.TheVariants.{Hives, History, At, Session, End, Plain, Begin, Inside, Commit, Rollback, Close, Outcome, Kept, Flush, Fold, Served, Lab}
use Rattle.reply_lines.specs.declared.reply.ReplyLine.{ReplyLine}
use Rattle.script_runner.specs.Scripts.{Answers as AnswersOf}
use Rattle.crash_lab.specs.LabStates.{LabState}
use Rattle.crash_lab.specs.Experiments.{AnswersLine, following_line}
use Rattle.crash_lab.specs.declared.reply.LabReply.{LabReply}
use Rattle.crash_lab.specs.declared.reply.LabReply.TheVariants.{OneLine}

-- a line of other scripts gets their reply, nothing more is asked of the device, and the limit stays
pub answered_as_theirs : (old new : LabState) (line : Line) (reported : ReplyLine) → AnswersOf old.script line reported new.script → (new.points ≡ old.points) × (new.limit ≡ old.limit)
    → (following_line (Some line) ≡ Some line) × AnswersLine old line (OneLine reported) new
answered_as_theirs old new (Hives count) reported is kept = absurd is
answered_as_theirs old new (History limit) reported is kept = absurd is
answered_as_theirs old new (At moment) reported is kept = (refl, (is, kept.0, kept.1))
answered_as_theirs old new (Session number) reported is kept = (refl, (is, kept.0, kept.1))
answered_as_theirs old new (End number) reported is kept = (refl, (is, kept.0, kept.1))
answered_as_theirs old new (Plain request) reported is kept = (refl, (is, kept.0, kept.1))
answered_as_theirs old new (Begin label id) reported is kept = (refl, (is, kept.0, kept.1))
answered_as_theirs old new (Inside label request) reported is kept = (refl, (is, kept.0, kept.1))
answered_as_theirs old new (Commit label) reported is kept = (refl, (is, kept.0, kept.1))
answered_as_theirs old new (Rollback label) reported is kept = (refl, (is, kept.0, kept.1))
answered_as_theirs old new (Close label) reported is kept = (refl, (is, kept.0, kept.1))
answered_as_theirs old new (Outcome label) reported is kept = (refl, (is, kept.0, kept.1))
answered_as_theirs old new (Kept id) reported is kept = (refl, (is, kept.0, kept.1))
answered_as_theirs old new Flush reported is kept = (refl, (is, kept.0, kept.1))
answered_as_theirs old new Fold reported is kept = (refl, (is, kept.0, kept.1))
answered_as_theirs old new (Served line) reported is kept = absurd is
answered_as_theirs old new (Lab line) reported is kept = absurd is

-- what is known after a line, whichever it is, holds of its answer too
pub also_kept : (none line : Type 0) (Answers : LabReply → Type 0) (kept : Type 0) (reported : Option LabReply) → MatchOption reported none (λ reported. line × Answers reported) → kept → MatchOption reported none (λ reported. line × (Answers reported × kept))
also_kept none line Answers kept None said is = said
also_kept none line Answers kept (Some reported) said is = (said.0, (said.1, is))
