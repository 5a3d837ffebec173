-- What answers a line of a part, and what is done before the next line.
use Rattle.std.specs.Prelude.{◌≡◌, ◌⊎◌, ℕ, Bool, false, List, [], Some}
use Rattle.reply_lines.specs.Replies.{reply_line}
use Rattle.script_syntax.specs.declared.line.Line.{Line}
use Rattle.script_syntax.specs.declared.line.Line.TheVariants.{Fold}
use Rattle.reply_lines.specs.declared.reply.ReplyLine.{ReplyLine}
use Rattle.script_runner.specs.Plays.{is_refusal}
use Rattle.script_runner.specs.Scripts.{line_asked}
use Rattle.registry_lines.specs.Scripts.{Script, Answers, FlushesThen, IsFlushed, HasNothingToEnd, number_told}
use Rattle.registry_runner.specs.Parts.{Part, IsDue, with_script}
use Rattle.registry_runner.specs.declared.history_use.HistoryUse.{HistoryUse}
use Rattle.registry_runner.specs.declared.lines.BetweenLines.{BetweenLines}
use Rattle.registry_runner.specs.declared.lines.BetweenLines.TheVariants as between
use Rattle.registry_runner.specs.declared.parts.PartKind.{PartKind}
use Rattle.registry_runner.specs.declared.parts.PartKind.TheVariants.{Opened, Folded, Continued}

-- after a line whose reply told a number, the script goes on in the same registry; or the history is to be folded
abbrev pub Between : ℕ → Part → ℕ → BetweenLines → Script → Type 0
Between limit old told (between.GoOn failed) new =
    (new ≡ old.script) ⊎ (IsDue limit old told × HasNothingToEnd old.script × (flushed : ReplyLine) × FlushesThen old.sole old.start old.trees old.number old.hives old.script flushed new)
Between limit old told between.ToFold new = IsDue limit old told × HasNothingToEnd old.script × IsFlushed old.sole old.start old.trees old.number old.hives old.script new

-- a line is answered, and then that is done
abbrev pub AnswersThen : ℕ → Part → List ℕ → List ℕ → Bool → BetweenLines → Script → Type 0
AnswersThen limit old line text refused next new =
    (asked : Line) × (reported : ReplyLine) × (mid : Script) × (line_asked line ≡ Some asked) × Answers old.sole old.start old.trees old.number old.hives old.script asked reported mid
    × (text ≡ reply_line reported) × (refused ≡ is_refusal reported) × Between limit (with_script old mid) (number_told reported) next new

-- a line is answered by this text, and the script goes on in the same registry
abbrev pub AnswersInPart : ℕ → Part → List ℕ → List ℕ → Bool → Script → Type 0
AnswersInPart limit old line text refused new = AnswersThen limit old line text refused (between.GoOn false) new

-- the history is to be folded: a line asks for it, for which all was flushed; or a line was answered, after which it is due
abbrev pub StopsInPart : ℕ → Part → List ℕ → List ℕ → Bool → PartKind → Script → Type 0
StopsInPart limit old line text refused Opened new = ⊥
StopsInPart limit old line text refused Folded new = (line_asked line ≡ Some Fold) × IsFlushed old.sole old.start old.trees old.number old.hives old.script new × (text ≡ []) × (refused ≡ false)
StopsInPart limit old line text refused Continued new = AnswersThen limit old line text refused between.ToFold new

-- this is so if the history begins after the change of this number; and it goes on beginning there, with the same limit
abbrev pub OverHistory : ℕ → HistoryUse → HistoryUse → Type 0 → Type 0
OverHistory number old new so = (new.first ≡ old.first) × (new.limit ≡ old.limit) × (old.first ≡ number → so)
