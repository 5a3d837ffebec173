-- The first lines of a script that makes its store.
use Rattle.std.proofs.Common.{◌≡◌, ℕ, Bool, List, [], ◌∷◌, ◌++◌, Option, Some, None, refl, inl, inr}
use Rattle.std.specs.Io.KnownBytes.{Appends}
use Rattle.reply_lines.proofs.Written.{appends_more}
use Rattle.reply_lines.specs.Replies.{reply_line}
use Rattle.reply_lines.specs.Statuses.{with_refusal}
use Rattle.reply_lines.specs.declared.reply.ReplyLine.TheVariants as reply
use Rattle.reply_lines.specs.declared.status.Status.{Status}
use Rattle.reply_lines.specs.declared.status.Status.TheVariants.{Wrong}
use Rattle.script_loop.specs.Ends.{EndsScript, wrong_text}
use Rattle.script_loop.specs.FirstLines.{hives_asked, history_asked}
use Rattle.script_loop.specs.Lines.{TakesLine, WereRead}
use Rattle.script_loop.specs.NewStores.{IsRunOverNew, IsScriptRun}
use Rattle.script_loop.specs.Runs.{AnswersReadLine, IsRunOn}
use Rattle.script_loop.specs.declared.end_of_script.EndOfScript.{EndOfScript}
use Rattle.script_loop.specs.declared.end_of_script.EndOfScript.TheVariants.{OutOfMemory}
use Rattle.script_loop.specs.declared.line_loop.LineOutcome.TheVariants as outcome
use Rattle.script_loop.specs.declared.line_loop.LoopEnd.TheVariants.{Over}
use Rattle.script_loop.proofs.Reading.{is_end, more_read, none_read, one_read}
use Rattle.script_loop.proofs.Views.{any_last}

module _ {S : Type 0} (is_made : ℕ → S → Type 0) (is_limited : ℕ → S → S → Type 0) (answers : S → List ℕ → List ℕ → Bool → S → Type 0) (is_none : List ℕ → Type 0) where
  -- The second line

  -- there is none
  pub no_second : (old : S) (known before after : Option (List ℕ)) (end_of_script : EndOfScript) (text : List ℕ) (status : Status) → WereRead known [] (Some end_of_script) → EndsScript end_of_script text status → Appends before after text → IsRunOverNew is_limited answers is_none old known before after status
  no_second old known before after end_of_script text status read how written = ([], Some end_of_script, text, read, how, written)

  -- one that is `history`
  pub limits : (old new : S) (is_last : S → Type 0) (known rest before mid after : Option (List ℕ)) (line : List ℕ) (limit : ℕ) (status : Status) → TakesLine known rest line → history_asked line ≡ Some limit → is_limited limit old new → Appends before mid (reply_line reply.Done) → IsRunOn answers is_none is_last new 3 rest mid after status
      → IsRunOverNew is_limited answers is_none old known before after status
  limits old new is_last known rest before mid after line limit status taken asked limited written on = (
    line ∷ on.0,
    on.1,
    reply_line reply.Done ++ on.2,
    more_read known rest line on.0 on.1 taken on.3,
    inr (limit, new, on.2, asked, limited, any_last answers is_none is_last new 3 on.0 on.1 on.2 status on.4, refl),
    appends_more before mid after (reply_line reply.Done) on.2 written on.5,
  )

  -- any other
  pub second_answered : (old new : S) (is_last : S → Type 0) (known rest before mid after : Option (List ℕ)) (line text : List ℕ) (refused : Bool) (status : Status) → TakesLine known rest line → history_asked line ≡ None → answers old line text refused new → Appends before mid text → IsRunOn answers is_none is_last new 3 rest mid after status
      → IsRunOverNew is_limited answers is_none old known before after (with_refusal refused status)
  second_answered old new is_last known rest before mid after line text refused status taken other answered written on = (
    line ∷ on.0,
    on.1,
    text ++ on.2,
    more_read known rest line on.0 on.1 taken on.3,
    inl (other, inr (new, text, refused, on.2, status, answered, any_last answers is_none is_last new 3 on.0 on.1 on.2 status on.4, refl, refl)),
    appends_more before mid after text on.2 written on.5,
  )

  -- one that ends the run
  pub second_ends : {T : Type 0} (stops : S → List ℕ → List ℕ → Bool → T → S → Type 0) (unanswered : S → S → Type 0) (old new : S) (known rest before after : Option (List ℕ)) (line : List ℕ) (status : Status) → TakesLine known rest line → history_asked line ≡ None → AnswersReadLine answers stops is_none unanswered old 2 line before (outcome.Over (Over status)) new after
      → IsRunOverNew is_limited answers is_none old known before after status
  second_ends stops unanswered old new known rest before after line status taken other (inl wrong) =
      (line ∷ [], None, wrong_text 2, one_read known rest line taken, inl (other, inl (wrong.0, record { last = refl; stopped = refl; printed = refl; wrong = wrong.2 }, tt)), wrong.3)
  second_ends stops unanswered old new known rest before after line status taken other (inr lacks) = no_second old known before after OutOfMemory lacks.0 status (none_read known OutOfMemory is_end) lacks.2 lacks.3

  -- The first line

  -- one that says how many hives there are
  pub begins : (known rest before mid after : Option (List ℕ)) (line : List ℕ) (hives : ℕ) (new : S) (status : Status) → TakesLine known rest line → hives_asked line ≡ Some hives → is_made hives new → Appends before mid (reply_line reply.Done) → IsRunOverNew is_limited answers is_none new rest mid after status
      → IsScriptRun is_made is_limited answers is_none known before after status
  begins known rest before mid after line hives new status taken asked made written on = (
    line ∷ on.0,
    on.1,
    reply_line reply.Done ++ on.2,
    more_read known rest line on.0 on.1 taken on.3,
    inr (hives, new, on.2, asked, made, on.4, refl),
    appends_more before mid after (reply_line reply.Done) on.2 written on.5,
  )

  -- one that is none
  pub begins_wrong : (known rest before after : Option (List ℕ)) (line : List ℕ) (status : Status) → TakesLine known rest line → hives_asked line ≡ None → status ≡ Wrong → Appends before after (wrong_text 1) → IsScriptRun is_made is_limited answers is_none known before after status
  begins_wrong known rest before after line status taken none wrong written =
      (line ∷ [], None, wrong_text 1, one_read known rest line taken, inl (none, record { last = refl; stopped = refl; printed = refl; wrong = wrong }), written)

  -- there is no memory for it
  pub begins_without_memory : (known before after : Option (List ℕ)) (text : List ℕ) (status : Status) → EndsScript OutOfMemory text status → Appends before after text → IsScriptRun is_made is_limited answers is_none known before after status
  begins_without_memory known before after text status how written = ([], Some OutOfMemory, text, none_read known OutOfMemory is_end, how, written)
