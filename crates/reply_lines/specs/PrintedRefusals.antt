-- What a command that is refused prints and answers.
use Rattle.std.specs.Prelude.{◌≡◌, ℕ, List, [], ◌∷◌, ◌++◌, Option}
use Rattle.std.specs.Io.KnownBytes.{Appends}
use Rattle.refusals.specs.declared.refusal.Refusal.{Refusal}
use Rattle.refusals.specs.Refusals.{refusal_text}
use Rattle.reply_lines.specs.declared.status.Status.{Status}
use Rattle.reply_lines.specs.declared.status.Status.TheVariants as status

-- the line of a refusal was printed
abbrev pub PrintsRefusal : Option (List ℕ) → Option (List ℕ) → Refusal → Status → Type 0
PrintsRefusal before after why its_status = Appends before after (refusal_text why ++ 10 ∷ []) × (its_status ≡ status.Refused)
