-- The numbers with which the program ends.
use Rattle.std.specs.Prelude.{ℕ, Bool, true, false}
use Rattle.reply_lines.specs.declared.status.Status.{Status}
use Rattle.reply_lines.specs.declared.status.Status.TheVariants.{Clean, Refused, Wrong}

-- 0 if no reply was a refusal, 1 if one was, 2 at a line that is none
abbrev pub code_of : Status → ℕ
code_of Clean = 0
code_of Refused = 1
code_of Wrong = 2

-- a run with a reply that was a refusal is not clean
abbrev pub with_refusal : Bool → Status → Status
with_refusal false status = status
with_refusal true Clean = Refused
with_refusal true Refused = Refused
with_refusal true Wrong = Wrong
