-- How the run of a script ends.
use Rattle.std.specs.Prelude.{◌≡◌, ℕ, List, [], ◌∷◌, ◌++◌, Option, Some, None, codes}
use Rattle.std.specs.Fmt.{decimal}
use Rattle.refusals.specs.Refusals.{refusal_text}
use Rattle.refusals.specs.declared.refusal.Refusal.TheVariants.{NoMemory}
use Rattle.reply_lines.specs.declared.status.Status.{Status}
use Rattle.reply_lines.specs.declared.status.Status.TheVariants.{Clean, Refused, Wrong}
use Rattle.script_loop.specs.declared.end_of_script.EndOfScript.{EndOfScript}
use Rattle.script_loop.specs.declared.end_of_script.EndOfScript.TheVariants.{Ended, Broken, OutOfMemory}

-- what is printed at a line that is none, which ends the run
abbrev pub wrong_text : ℕ → List ℕ
wrong_text number = codes "line " ++ decimal number ++ codes ": not understood\n"

-- a line is not understood, and nothing more is read
pub record IsWrongLine (number : ℕ) (lines : List (List ℕ)) (end_of_script : Option EndOfScript) (text : List ℕ) (status : Status) : Type 0 where
  pub last : lines ≡ []
  pub stopped : end_of_script ≡ None
  pub printed : text ≡ wrong_text number
  pub wrong : status ≡ Wrong

-- how a run ends when no line is left
abbrev pub EndsScript : EndOfScript → List ℕ → Status → Type 0
EndsScript Ended text status = (text ≡ []) × (status ≡ Clean)
EndsScript Broken text status = (text ≡ codes "cannot read script\n") × (status ≡ Refused)
EndsScript OutOfMemory text status = (text ≡ refusal_text NoMemory ++ 10 ∷ []) × (status ≡ Refused)

abbrev pub EndsAs : Option EndOfScript → List ℕ → Status → Type 0
EndsAs None text status = ⊥
EndsAs (Some end_of_script) text status = EndsScript end_of_script text status
