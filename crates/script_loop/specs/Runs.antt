-- What the lines of a script print, and how its run ends, by what answers them.
use Rattle.std.specs.Prelude.{◌≡◌, ◌⊎◌, ℕ, ◌+◌, Bool, ◌||◌, List, [], ◌∷◌, ◌++◌, Option}
use Rattle.std.specs.Io.KnownBytes.{Appends}
use Rattle.reply_lines.specs.Statuses.{with_refusal}
use Rattle.reply_lines.specs.declared.status.Status.{Status}
use Rattle.reply_lines.specs.declared.status.Status.TheVariants.{Wrong}
use Rattle.script_loop.specs.Ends.{EndsAs, EndsScript, IsWrongLine, wrong_text}
use Rattle.script_loop.specs.Lines.{TakesLine, TakesLines, WereRead}
use Rattle.script_loop.specs.Turns.{IsLeft}
use Rattle.script_loop.specs.declared.end_of_script.EndOfScript.{EndOfScript}
use Rattle.script_loop.specs.declared.end_of_script.EndOfScript.TheVariants.{OutOfMemory}
use Rattle.script_loop.specs.declared.line_loop.LoopEnd.{LoopEnd}
use Rattle.script_loop.specs.declared.line_loop.LoopEnd.TheVariants.{Over, Stopped}
use Rattle.script_loop.specs.declared.line_loop.LineOutcome.{LineOutcome}
use Rattle.script_loop.specs.declared.line_loop.LineOutcome.TheVariants as outcome

-- From old, at the line of this number, the lines and the way that reading ended print this text, and end with this
-- status. Each line is answered in turn, in the state that the last one left, up to one that is not understood. The state
-- in which no line is answered any more is one of these.
abbrev pub RunsOn : {S : Type 0} → (S → List ℕ → List ℕ → Bool → S → Type 0) → (List ℕ → Type 0) → (S → Type 0) → S → ℕ → List (List ℕ) → Option EndOfScript → List ℕ → Status → Type 0
RunsOn answers is_none is_last old number [] end_of_script text status = EndsAs end_of_script text status × is_last old
RunsOn {S} answers is_none is_last old number (line ∷ lines) end_of_script text status =
    (is_none line × IsWrongLine number lines end_of_script text status × is_last old)
    ⊎ ((new : S) × (reply : List ℕ) × (refused : Bool) × (rest : List ℕ) × (later : Status) × answers old line reply refused new
    × RunsOn answers is_none is_last new (number + 1) lines end_of_script rest later × (text ≡ reply ++ rest) × (status ≡ with_refusal refused later))

-- some lines were read from the line of this number on, and what was written is what they print
abbrev pub IsRunOn : {S : Type 0} → (S → List ℕ → List ℕ → Bool → S → Type 0) → (List ℕ → Type 0) → (S → Type 0) → S → ℕ → Option (List ℕ) → Option (List ℕ) → Option (List ℕ) → Status → Type 0
IsRunOn answers is_none is_last old number known before after status =
    (lines : List (List ℕ)) × (end_of_script : Option EndOfScript) × (text : List ℕ) × WereRead known lines end_of_script × RunsOn answers is_none is_last old number lines end_of_script text status × Appends before after text

-- From old, from the line of this number on, the lines are answered in turn by this text, up to the one at which the
-- answerer stops for this reason and leaves new. The next line has the number `next`. `refused` says whether a reply was
-- a refusal.
abbrev pub RunsToStop : {S T : Type 0} → (S → List ℕ → List ℕ → Bool → S → Type 0) → (S → List ℕ → List ℕ → Bool → T → S → Type 0) → S → ℕ → List (List ℕ) → List ℕ → Bool → T → ℕ → S → Type 0
RunsToStop answers stops old number [] text refused why next new = ⊥
RunsToStop {S} answers stops old number (line ∷ lines) text refused why next new =
    (stops old line text refused why new × (lines ≡ []) × (next ≡ number + 1))
    ⊎ ((mid : S) × (reply : List ℕ) × (now : Bool) × (rest : List ℕ) × (later : Bool) × answers old line reply now mid
    × RunsToStop answers stops mid (number + 1) lines rest later why next new × (text ≡ reply ++ rest) × (refused ≡ (now || later)))

-- What came of the lines from the line of this number on: they ended, and new is left; or the answerer stopped after the
-- last one that was read.
abbrev pub EndsLoop : {S T : Type 0} → (S → List ℕ → List ℕ → Bool → S → Type 0) → (S → List ℕ → List ℕ → Bool → T → S → Type 0) → (List ℕ → Type 0) → (S → S → Type 0) → S → ℕ → Option (List ℕ) → Option (List ℕ) → LoopEnd T → S → Option (List ℕ) → Option (List ℕ) → Type 0
EndsLoop answers stops is_none unanswered old number known before (Over status) new rest after = IsRunOn answers is_none (IsLeft unanswered new) old number known before after status
EndsLoop answers stops is_none unanswered old number known before (Stopped why next refused) new rest after =
    (lines : List (List ℕ)) × (text : List ℕ) × TakesLines known rest lines × RunsToStop answers stops old number lines text refused why next new × Appends before after text

-- the end of the loop over lines that follow a reply
abbrev pub end_after : {T : Type 0} → Bool → LoopEnd T → LoopEnd T
end_after refused (Over status) = Over (with_refusal refused status)
end_after refused (Stopped why next later) = Stopped why next (refused || later)

-- The line of this number, which was read, was answered. Or the loop ends with it: it is none, there was no memory for
-- it, or the answerer stopped after its reply.
abbrev pub AnswersReadLine : {S T : Type 0} → (S → List ℕ → List ℕ → Bool → S → Type 0) → (S → List ℕ → List ℕ → Bool → T → S → Type 0) → (List ℕ → Type 0) → (S → S → Type 0) → S → ℕ → List ℕ → Option (List ℕ) → LineOutcome T → S → Option (List ℕ) → Type 0
AnswersReadLine answers stops is_none unanswered old number line before (outcome.Replied refused) new after = (text : List ℕ) × answers old line text refused new × Appends before after text
AnswersReadLine answers stops is_none unanswered old number line before (outcome.Over (Over status)) new after =
    (is_none line × unanswered old new × (status ≡ Wrong) × Appends before after (wrong_text number))
    ⊎ ((text : List ℕ) × unanswered old new × EndsScript OutOfMemory text status × Appends before after text)
AnswersReadLine answers stops is_none unanswered old number line before (outcome.Over (Stopped why next refused)) new after =
    (text : List ℕ) × stops old line text refused why new × (next ≡ number + 1) × Appends before after text

-- a line was read and answered, or the loop ends here
abbrev pub TakesNext : {S T : Type 0} → (S → List ℕ → List ℕ → Bool → S → Type 0) → (S → List ℕ → List ℕ → Bool → T → S → Type 0) → (List ℕ → Type 0) → (S → S → Type 0) → S → ℕ → Option (List ℕ) → Option (List ℕ) → LineOutcome T → S → Option (List ℕ) → Option (List ℕ) → Type 0
TakesNext answers stops is_none unanswered old number known before (outcome.Replied refused) new rest after = (line : List ℕ) × (text : List ℕ) × TakesLine known rest line × answers old line text refused new × Appends before after text
TakesNext answers stops is_none unanswered old number known before (outcome.Over ended) new rest after = EndsLoop answers stops is_none unanswered old number known before ended new rest after
