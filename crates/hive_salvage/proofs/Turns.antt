-- A sibling at its place.
use Rattle.std.proofs.Common.{◌≡◌, ◌<◌, ℕ, List, length, get_or, Some, sym, ap, ◌∙◌}
use Rattle.std.specs.Prelude.{slice_get}
use Rattle.std.proofs.lemmas.Option.{slice_get-get_or}
use Rattle.hive_salvage.specs.declared.siblings.Sibling.{Sibling}

pub got : (siblings : List Sibling) (place : ℕ) (sibling : Sibling) → place < length siblings → sibling ≡ get_or siblings place sibling → slice_get siblings place ≡ Some sibling
got siblings place sibling lt is = slice_get-get_or siblings place sibling lt ∙ ap Some (sym is)
