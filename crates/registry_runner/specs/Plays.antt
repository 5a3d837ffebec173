-- What a script prints over registries, and how its lines end.
use Rattle.std.specs.Prelude.{◌≡◌, ℕ, ◌+◌, ◌⊎◌, Bool, true, false, List, [], ◌∷◌, ◌++◌, Option, Some, None, Result, Ok, Err, IfOk}
use Rattle.std.specs.Io.KnownBytes.{Appends}
use Rattle.refusals.specs.Refusals.{refusal_text}
use Rattle.refusals.specs.declared.refusal.Refusal.{Refusal}
use Rattle.reply_lines.specs.Replies.{reply_line}
use Rattle.reply_lines.specs.Statuses.{with_refusal}
use Rattle.script_syntax.specs.declared.line.Line.{Line}
use Rattle.script_syntax.specs.declared.line.Line.TheVariants.{Flush, Fold}
use Rattle.reply_lines.specs.declared.reply.ReplyLine.{ReplyLine}
use Rattle.reply_lines.specs.declared.status.Status.{Status}
use Rattle.reply_lines.specs.declared.status.Status.TheVariants.{Refused}
use Rattle.script_loop.specs.Lines.{WereRead}
use Rattle.script_loop.specs.Ends.{EndsAs, EndsScript, IsWrongLine}
use Rattle.script_runner.specs.Plays.{is_refusal}
use Rattle.script_runner.specs.Scripts.{line_asked}
use Rattle.script_loop.specs.declared.end_of_script.EndOfScript.{EndOfScript}
use Rattle.script_loop.specs.declared.end_of_script.EndOfScript.TheVariants.{Broken}
use Rattle.histories.specs.Points.{HistoryEntry}
use Rattle.registry_lines.specs.Scripts.{Script, Answers, IsFlushed}
use Rattle.registry_runner.specs.Parts.{Part, Folds, KeepsOrFolds, start_text, with_script}
use Rattle.registry_runner.specs.declared.parts.NextPart.{NextPart}
use Rattle.registry_runner.specs.declared.parts.PartKind.TheVariants.{Folded}
use Rattle.registry_runner.specs.declared.lines.LinesEnd.{LinesEnd}
use Rattle.registry_runner.specs.declared.lines.LinesEnd.TheVariants as come
use Rattle.registry_runner.specs.declared.part_run.LinesEnded.{LinesEnded}
use Rattle.registry_runner.specs.declared.part_run.LinesEnded.TheVariants as ended

-- no part follows: the reason is the last line, and nothing more is read
pub record IsStopped (why : Refusal) (lines : List (List ℕ)) (end_of_script : Option EndOfScript) (text : List ℕ) (status : Status) : Type 0 where
  pub last : lines ≡ []
  pub stopped : end_of_script ≡ None
  pub printed : text ≡ refusal_text why ++ 10 ∷ []
  pub refused : status ≡ Refused

-- From old, at the line of this number, the lines and the way that reading ended print this text, end with this status
-- and leave the run so. Each line is answered in turn, by a reply that may be given, up to one that is not understood.
-- A line `fold` that isn't refused folds the history, and the next part goes on with the line after it. A history may
-- have as many changes as the limit says. As a part's history is folded, what was seen of it stands in the whole one.
abbrev pub PlaysOn : List HistoryEntry → ℕ → Result Part Refusal → ℕ → List (List ℕ) → Option EndOfScript → List ℕ → Status → Result Part Refusal → Type 0
PlaysOn whole limit (Err why) number lines end_of_script text status end = IsStopped why lines end_of_script text status × (end ≡ Err why)
PlaysOn whole limit (Ok old) number [] end_of_script text status end = EndsAs end_of_script text status × (end ≡ Ok old)
PlaysOn whole limit (Ok old) number (line ∷ lines) end_of_script text status end =
    ((line_asked line ≡ None) × IsWrongLine number lines end_of_script text status × (end ≡ Ok old))
    ⊎ ((asked : Line) × (reported : ReplyLine) × (new : Script) × (kept : Result Part Refusal) × (rest : List ℕ) × (later : Status) × (line_asked line ≡ Some asked) × Answers old.sole old.start old.trees old.number old.hives old.script asked reported new
    × KeepsOrFolds whole limit (with_script old new) reported kept × PlaysOn whole limit kept (number + 1) lines end_of_script rest later end × (text ≡ reply_line reported ++ rest) × (status ≡ with_refusal (is_refusal reported) later))
    ⊎ ((mid : Script) × (next : Result Part Refusal) × (rest : List ℕ) × (line_asked line ≡ Some Fold) × IsFlushed old.sole old.start old.trees old.number old.hives old.script mid × Folds whole (with_script old mid) next
    × PlaysOn whole limit next (number + 1) lines end_of_script rest status end × (text ≡ start_text Folded next ++ rest))

-- a script that can be read was read so; of another one no line is read
abbrev pub WereReadIf : Bool → Option (List ℕ) → List (List ℕ) → Option EndOfScript → Type 0
WereReadIf true known lines end_of_script = WereRead known lines end_of_script
WereReadIf false known lines end_of_script = (lines ≡ []) × (end_of_script ≡ Some Broken)

-- some lines were read from the line of this number on, and what was written is what they print
abbrev pub IsPlayedOn : List HistoryEntry → ℕ → Bool → Result Part Refusal → ℕ → Option (List ℕ) → Option (List ℕ) → Option (List ℕ) → Status → Result Part Refusal → Type 0
IsPlayedOn whole limit can_read old number known was is status end =
    (lines : List (List ℕ)) × (end_of_script : Option EndOfScript) × (text : List ℕ) × WereReadIf can_read known lines end_of_script × PlaysOn whole limit old number lines end_of_script text status end × Appends was is text

-- However a run goes on once the history of a part is folded, that is how it goes on from a line of the part.
abbrev pub GoesOnFolded : List HistoryEntry → ℕ → Bool → Part → ℕ → Option (List ℕ) → Option (List ℕ) → NextPart → Part → Option (List ℕ) → Option (List ℕ) → Type 0
GoesOnFolded whole limit can_read old number known was next mid rest is =
    (can_read ≡ true) × (next.moment ≡ mid.script.moment)
    × ((follows : Result Part Refusal) (told after : Option (List ℕ)) (status : Status) (end : Result Part Refusal) → Folds whole mid follows → Appends is told (start_text next.kind follows) → IsPlayedOn whole limit can_read follows next.line rest told after status end
    → IsPlayedOn whole limit can_read (Ok old) number known was after (with_refusal next.has_refusal status) end)

-- What came of the lines from the line of this number on. They ended, and the script is left so. Or the history is to be
-- folded: however the run goes on then, that is how it goes on from the first of these lines.
abbrev pub LinesCome : List HistoryEntry → ℕ → Bool → Part → ℕ → Option (List ℕ) → Option (List ℕ) → LinesEnd → Script → Option (List ℕ) → Option (List ℕ) → Type 0
LinesCome whole limit can_read old number known was (come.Ended status) new rest is = IsPlayedOn whole limit can_read (Ok old) number known was is status (Ok (with_script old new))
LinesCome whole limit can_read old number known was (come.ToFold next) new rest is = GoesOnFolded whole limit can_read old number known was next (with_script old new) rest is

-- the lines were read, and the flush at their end was answered this reply
abbrev pub HaveEnded : List HistoryEntry → ℕ → Bool → Part → ℕ → Option (List ℕ) → Option (List ℕ) → Option (List ℕ) → Status → ReplyLine → Script → Type 0
HaveEnded whole limit can_read old number known was is status flushed last =
    (end : Script) × IsPlayedOn whole limit can_read (Ok old) number known was is status (Ok (with_script old end)) × Answers old.sole old.start old.trees old.number old.hives end Flush flushed last

-- what came of a part's lines, and of the flush at their end
abbrev pub PartComes : List HistoryEntry → ℕ → Bool → Part → ℕ → Option (List ℕ) → Option (List ℕ) → LinesEnded → Script → Option (List ℕ) → Option (List ℕ) → Type 0
PartComes whole limit can_read old number known was (ended.AtEnd played failed flush) new rest is = IfOk played (λ status. HaveEnded whole limit can_read old number known was is status flush new)
PartComes whole limit can_read old number known was (ended.ToFold next) new rest is = GoesOnFolded whole limit can_read old number known was next (with_script old new) rest is

-- no line is read of a script that can't be read
abbrev pub IsUnread : Option (List ℕ) → Option (List ℕ) → LinesEnd → Type 0
IsUnread was is (come.Ended status) = (text : List ℕ) × EndsScript Broken text status × Appends was is text
IsUnread was is (come.ToFold next) = ⊥
