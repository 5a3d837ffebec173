-- What came of one line.
use Rattle.std.specs.Prelude.{◌≡◌, ◌⊎◌, ℕ, Bool, List, Option}
use Rattle.std.specs.Io.KnownBytes.{Appends, Keeps}
use Rattle.script_loop.specs.declared.answerer.LineTurn.{LineTurn}
use Rattle.script_loop.specs.declared.answerer.LineTurn.TheVariants.{Replied, Stopped, NotUnderstood, NoMemory}

-- A line is answered by what was written, and the answerer may stop there. Or it is none, or there is no memory for it;
-- then nothing is written.
abbrev pub TakesTurn : {S T : Type 0} → (S → List ℕ → List ℕ → Bool → S → Type 0) → (S → List ℕ → List ℕ → Bool → T → S → Type 0) → (List ℕ → Type 0) → (S → S → Type 0) → S → List ℕ → Option (List ℕ) → LineTurn T → S → Option (List ℕ) → Type 0
TakesTurn answers stops is_none unanswered old line was (Replied refused) new is = (text : List ℕ) × answers old line text refused new × Appends was is text
TakesTurn answers stops is_none unanswered old line was (Stopped refused why) new is = (text : List ℕ) × stops old line text refused why new × Appends was is text
TakesTurn answers stops is_none unanswered old line was NotUnderstood new is = is_none line × unanswered old new × Keeps was is
TakesTurn answers stops is_none unanswered old line was NoMemory new is = unanswered old new × Keeps was is

-- what is left of a state in which no line is answered any more: itself, or what a line leaves that isn't answered
abbrev pub IsLeft : {S : Type 0} → (S → S → Type 0) → S → S → Type 0
IsLeft unanswered new old = (new ≡ old) ⊎ unanswered old new
