-- What is true of the calls by which a file was made, or wasn't.
use Rattle.std.specs.Prelude.{◌≡◌, ℕ, true, false, List, [], ◌∷◌}
use Rattle.new_file.specs.Calls.{Call, created, looked, has_failed, is_made, is_named, NamesAfterSync}
use Rattle.new_file.specs.declared.making.MakeError.{MakeError}
use Rattle.new_file.specs.declared.making.MakeError.TheVariants as error

-- why no file was made, or why it may not last
abbrev pub IsMakeError : List Call → MakeError → Type 0
IsMakeError calls error.IsThere = calls ≡ looked true ∷ []
IsMakeError calls error.PartIsThere = calls ≡ created false ∷ looked false ∷ []
IsMakeError calls (error.Denied why) = (is_named calls ≡ false) × (has_failed calls ≡ true)
IsMakeError calls (error.NotKept why) = (is_named calls ≡ true) × (has_failed calls ≡ true)

-- calls were added that give no name and make nothing
pub record AddsNoName (before after : List Call) : Type 0 where
  pub safe : (bytes : List ℕ) → NamesAfterSync bytes before → NamesAfterSync bytes after
  pub named : is_named after ≡ is_named before
  pub made : is_made after ≡ is_made before
  pub failed : has_failed before ≡ true → has_failed after ≡ true
