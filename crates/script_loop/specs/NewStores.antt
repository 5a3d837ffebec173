-- What a script prints that makes its store by its first line.
use Rattle.std.specs.Prelude.{◌≡◌, ◌⊎◌, ⊤, ℕ, Bool, List, [], ◌∷◌, ◌++◌, Option, Some, None}
use Rattle.std.specs.Io.KnownBytes.{Appends}
use Rattle.reply_lines.specs.Replies.{reply_line}
use Rattle.reply_lines.specs.declared.reply.ReplyLine.TheVariants as reply
use Rattle.reply_lines.specs.declared.status.Status.{Status}
use Rattle.reply_lines.specs.declared.status.Status.TheVariants.{Wrong}
use Rattle.script_loop.specs.Ends.{EndsAs, EndsScript, IsWrongLine, wrong_text}
use Rattle.script_loop.specs.FirstLines.{hives_asked, history_asked}
use Rattle.script_loop.specs.Lines.{WereRead}
use Rattle.script_loop.specs.Runs.{RunsOn}
use Rattle.script_loop.specs.declared.end_of_script.EndOfScript.{EndOfScript}
use Rattle.script_loop.specs.declared.end_of_script.EndOfScript.TheVariants.{Ended, Broken, OutOfMemory}

-- A script over its new store, from line 2 on. If that line is `history`, it is answered `ok`, and says how many changes
-- the store accepts until its history is folded. Any other is answered as those after it.
abbrev pub RunsOverNew : {S : Type 0} → (ℕ → S → S → Type 0) → (S → List ℕ → List ℕ → Bool → S → Type 0) → (List ℕ → Type 0) → S → List (List ℕ) → Option EndOfScript → List ℕ → Status → Type 0
RunsOverNew is_limited answers is_none old [] end_of_script text status = EndsAs end_of_script text status
RunsOverNew {S} is_limited answers is_none old (line ∷ lines) end_of_script text status =
    ((history_asked line ≡ None) × RunsOn answers is_none (λ last. ⊤) old 2 (line ∷ lines) end_of_script text status)
    ⊎ ((limit : ℕ) × (new : S) × (rest : List ℕ) × (history_asked line ≡ Some limit) × is_limited limit old new × RunsOn answers is_none (λ last. ⊤) new 3 lines end_of_script rest status
    × (text ≡ reply_line reply.Done ++ rest))

-- the first line says how many hives there are; a script without a line is wrong at line 1
abbrev pub RunsScript : {S : Type 0} → (ℕ → S → Type 0) → (ℕ → S → S → Type 0) → (S → List ℕ → List ℕ → Bool → S → Type 0) → (List ℕ → Type 0) → List (List ℕ) → Option EndOfScript → List ℕ → Status → Type 0
RunsScript is_made is_limited answers is_none [] (Some Ended) text status = (text ≡ wrong_text 1) × (status ≡ Wrong)
RunsScript is_made is_limited answers is_none [] (Some Broken) text status = EndsScript Broken text status
RunsScript is_made is_limited answers is_none [] (Some OutOfMemory) text status = EndsScript OutOfMemory text status
RunsScript is_made is_limited answers is_none [] None text status = ⊥
RunsScript {S} is_made is_limited answers is_none (line ∷ lines) end_of_script text status =
    ((hives_asked line ≡ None) × IsWrongLine 1 lines end_of_script text status)
    ⊎ ((hives : ℕ) × (new : S) × (rest : List ℕ) × (hives_asked line ≡ Some hives) × is_made hives new × RunsOverNew is_limited answers is_none new lines end_of_script rest status
    × (text ≡ reply_line reply.Done ++ rest))

-- some lines were read, and what was written is what they print
abbrev pub IsScriptRun : {S : Type 0} → (ℕ → S → Type 0) → (ℕ → S → S → Type 0) → (S → List ℕ → List ℕ → Bool → S → Type 0) → (List ℕ → Type 0) → Option (List ℕ) → Option (List ℕ) → Option (List ℕ) → Status → Type 0
IsScriptRun is_made is_limited answers is_none known before after status =
    (lines : List (List ℕ)) × (end_of_script : Option EndOfScript) × (text : List ℕ) × WereRead known lines end_of_script × RunsScript is_made is_limited answers is_none lines end_of_script text status × Appends before after text

-- the same from line 2 on, over a new store
abbrev pub IsRunOverNew : {S : Type 0} → (ℕ → S → S → Type 0) → (S → List ℕ → List ℕ → Bool → S → Type 0) → (List ℕ → Type 0) → S → Option (List ℕ) → Option (List ℕ) → Option (List ℕ) → Status → Type 0
IsRunOverNew is_limited answers is_none old known before after status =
    (lines : List (List ℕ)) × (end_of_script : Option EndOfScript) × (text : List ℕ) × WereRead known lines end_of_script × RunsOverNew is_limited answers is_none old lines end_of_script text status × Appends before after text
