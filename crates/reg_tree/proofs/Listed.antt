-- The names of a list, one after another.
use Rattle.std.proofs.Common.{◌≡◌, ℕ, ◌+◌, List, [], ◌∷◌, ◌++◌, take, Some, sym, ◌∙◌, ap}
use Rattle.std.specs.Prelude.{slice_get}
use Rattle.std.proofs.lemmas.Option.{slice_get_within, get_or_from_slice_get}
use Rattle.std.proofs.lemmas.List.{take_more}

-- one name more
pub one_name_more : (all names : List (List ℕ)) (index : ℕ) (name : List ℕ) → names ≡ take index all → slice_get all index ≡ Some name → names ++ name ∷ [] ≡ take (index + 1) all
one_name_more all names index name e found =
    ap (λ front. front ++ name ∷ []) e ∙ ap (λ last. take index all ++ last ∷ []) (sym (get_or_from_slice_get all index name [] found)) ∙ sym (take_more all index [] (slice_get_within all index name found))
