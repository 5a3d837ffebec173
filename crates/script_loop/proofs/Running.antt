-- The lines of a script, one after another.
use Rattle.std.proofs.Common.{◌≡◌, ℕ, ◌+◌, Bool, true, false, ◌||◌, List, [], ◌∷◌, ◌++◌, Option, Some, None, refl, ap, inl, inr}
use Rattle.std.specs.Io.KnownBytes.{Appends}
use Rattle.reply_lines.proofs.Written.{appends_more}
use Rattle.reply_lines.specs.Statuses.{with_refusal}
use Rattle.reply_lines.specs.declared.status.Status.{Status}
use Rattle.reply_lines.specs.declared.status.Status.TheVariants.{Clean, Refused, Wrong}
use Rattle.script_loop.specs.Ends.{EndsScript, wrong_text}
use Rattle.script_loop.specs.Lines.{TakesLine, WereRead}
use Rattle.script_loop.specs.Runs.{AnswersReadLine, EndsLoop, IsRunOn, TakesNext, end_after}
use Rattle.script_loop.specs.Turns.{IsLeft}
use Rattle.script_loop.specs.declared.end_of_script.EndOfScript.{EndOfScript}
use Rattle.script_loop.specs.declared.end_of_script.EndOfScript.TheVariants.{OutOfMemory}
use Rattle.script_loop.specs.declared.line_loop.LineOutcome.{LineOutcome}
use Rattle.script_loop.specs.declared.line_loop.LineOutcome.TheVariants as outcome
use Rattle.script_loop.specs.declared.line_loop.LoopEnd.{LoopEnd}
use Rattle.script_loop.specs.declared.line_loop.LoopEnd.TheVariants.{Over, Stopped}
use Rattle.script_loop.proofs.Reading.{is_end, more_read, more_taken, none_read, one_read, one_taken}

-- refusals before and after
pub refusals_join : (before now : Bool) (status : Status) → with_refusal before (with_refusal now status) ≡ with_refusal (before || now) status
refusals_join false now status = refl
refusals_join true false status = refl
refusals_join true true Clean = refl
refusals_join true true Refused = refl
refusals_join true true Wrong = refl

any_joins : (before now later : Bool) → (before || (now || later)) ≡ ((before || now) || later)
any_joins false now later = refl
any_joins true now later = refl

-- the same of the end of a loop
pub ends_join : {T : Type 0} (before now : Bool) (ended : LoopEnd T) → end_after before (end_after now ended) ≡ end_after (before || now) ended
ends_join before now (Over status) = ap Over (refusals_join before now status)
ends_join before now (Stopped why next later) = ap (Stopped why next) (any_joins before now later)

-- no refusal before it
pub end_alone : {T : Type 0} (ended : LoopEnd T) → end_after false ended ≡ ended
end_alone (Over status) = refl
end_alone (Stopped why next later) = refl

module _ {S T : Type 0} (answers : S → List ℕ → List ℕ → Bool → S → Type 0) (stops : S → List ℕ → List ℕ → Bool → T → S → Type 0) (is_none : List ℕ → Type 0) (unanswered : S → S → Type 0) where
  -- there is no further line
  pub ends_here : (old : S) (number : ℕ) (known before after : Option (List ℕ)) (end_of_script : EndOfScript) (text : List ℕ) (status : Status) → WereRead known [] (Some end_of_script) → EndsScript end_of_script text status → Appends before after text → IsRunOn answers is_none (IsLeft unanswered old) old number known before after status
  ends_here old number known before after end_of_script text status read how written = ([], Some end_of_script, text, read, (how, inl refl), written)

  -- a line that is none ends the run
  stops_wrong : (old new : S) (number : ℕ) (known rest before after : Option (List ℕ)) (line : List ℕ) (status : Status) → TakesLine known rest line → is_none line → unanswered old new → status ≡ Wrong → Appends before after (wrong_text number) → IsRunOn answers is_none (IsLeft unanswered new) old number known before after status
  stops_wrong old new number known rest before after line status taken none left wrong written =
      (line ∷ [], None, wrong_text number, one_read known rest line taken, inl (none, record { last = refl; stopped = refl; printed = refl; wrong = wrong }, inr left), written)

  -- and so does one for which there is no memory
  lacks_memory : (old new : S) (number : ℕ) (known before after : Option (List ℕ)) (text : List ℕ) (status : Status) → unanswered old new → EndsScript OutOfMemory text status → Appends before after text → IsRunOn answers is_none (IsLeft unanswered new) old number known before after status
  lacks_memory old new number known before after text status left how written = ([], Some OutOfMemory, text, none_read known OutOfMemory is_end, (how, inr left), written)

  -- the answerer stops at a line
  stops_here : (old new : S) (number next : ℕ) (known rest before after : Option (List ℕ)) (line text : List ℕ) (refused : Bool) (why : T) → TakesLine known rest line → stops old line text refused why new → next ≡ number + 1 → Appends before after text → EndsLoop answers stops is_none unanswered old number known before (Stopped why next refused) new rest after
  stops_here old new number next known rest before after line text refused why taken stopped numbered written = (line ∷ [], text, one_taken known rest line taken, inl (stopped, refl, numbered), written)

  -- a line was answered, and the others follow
  pub goes_on : (old mid new : S) (number : ℕ) (known rest left before told after : Option (List ℕ)) (refused : Bool) (ended : LoopEnd T) → TakesNext answers stops is_none unanswered old number known before (outcome.Replied refused) mid rest told → EndsLoop answers stops is_none unanswered mid (number + 1) rest told ended new left after
      → EndsLoop answers stops is_none unanswered old number known before (end_after refused ended) new left after
  goes_on old mid new number known rest left before told after refused (Over status) turn on = (
    turn.0 ∷ on.0,
    on.1,
    turn.1 ++ on.2,
    more_read known rest turn.0 on.0 on.1 turn.2 on.3,
    inr (mid, turn.1, refused, on.2, status, turn.3, on.4, refl, refl),
    appends_more before told after turn.1 on.2 turn.4 on.5,
  )
  goes_on old mid new number known rest left before told after refused (Stopped why next later) turn on = (
    turn.0 ∷ on.0,
    turn.1 ++ on.1,
    more_taken known rest left turn.0 on.0 turn.2 on.2,
    inr (mid, turn.1, refused, on.1, later, turn.3, on.3, refl, refl),
    appends_more before told after turn.1 on.1 turn.4 on.4,
  )

  -- what was answered to a line that was read, or how the loop ended with it
  pub taken_so : (old new : S) (number : ℕ) (known rest before after : Option (List ℕ)) (line : List ℕ) (outcome : LineOutcome T) → TakesLine known rest line → AnswersReadLine answers stops is_none unanswered old number line before outcome new after → TakesNext answers stops is_none unanswered old number known before outcome new rest after
  taken_so old new number known rest before after line (outcome.Replied refused) taken told = (line, told.0, taken, told.1, told.2)
  taken_so old new number known rest before after line (outcome.Over (Over status)) taken (inl wrong) = stops_wrong old new number known rest before after line status taken wrong.0 wrong.1 wrong.2 wrong.3
  taken_so old new number known rest before after line (outcome.Over (Over status)) taken (inr lacks) = lacks_memory old new number known before after lacks.0 status lacks.1 lacks.2 lacks.3
  taken_so old new number known rest before after line (outcome.Over (Stopped why next refused)) taken told = stops_here old new number next known rest before after line told.0 refused why taken told.1 told.2 told.3
