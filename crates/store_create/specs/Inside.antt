-- What an import's fields mean.
use Rattle.std.specs.Prelude.{◌≡◌, ◌≤◌, ℕ, List, length, map, IfOk, Result}
use Rattle.std.specs.Global.{Vec}
use Rattle.std.specs.Result.{result_map_both}
use Rattle.refusals.specs.declared.limits.TheConstants.{MOST_HIVES}
use Rattle.refusals.specs.declared.refusal.Refusal.{Refusal}
use Rattle.store_create.specs.Imports.{Taken}
use Rattle.store_create.specs.declared.import.Import.TheInside.{Inside}

-- the bytes of each vector
abbrev pub bytes_in : List (Vec ℕ) → List (List ℕ)
bytes_in vectors = map (λ vector. vector.items) vectors

-- the bytes of vectors, or a refusal
abbrev pub outcome_in : Result (Vec (Vec ℕ)) Refusal → Result (List (List ℕ)) Refusal
outcome_in outcome = result_map_both (λ fronts. bytes_in fronts.items) (λ why. why) outcome

abbrev pub taken_in : Inside → Taken
taken_in import = record { count = import.count; outcome = outcome_in import.outcome }

-- no more files than hives, and bytes of each of them if memory was not wanting
abbrev pub IsInPlace : Inside → Type 0
IsInPlace import = (import.count ≤ MOST_HIVES) × IfOk import.outcome (λ fronts. length fronts.items ≡ import.count)
