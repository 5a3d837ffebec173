-- Names joined by one backslash each are the text of a prefix.
use Rattle.std.proofs.Common.{◌≡◌, ◌≢◌, ℕ, Bool, true, false, cond, List, [], ◌∷◌, ◌++◌, refl, ◌∙◌, ap, subst}
use Rattle.std.specs.Prelude.{◌==◌}
use Rattle.std.specs.List.{AllByRecursion, slice_split, onto_first}
use Rattle.reg_names.specs.Printable.{is_printable}
use Rattle.reg_round_trip.specs.Exports.{IsPrefixText}

abbrev AreSome : List (List ℕ) → Type 0
AreSome parts = AllByRecursion (λ part. part ≢ []) parts

-- behind a backslash at the end there is an empty part
record EndsEmpty (parts : List (List ℕ)) : Type 0 where
  first : List ℕ
  rest : List (List ℕ)
  are : parts ≡ first ∷ rest
  not_some : AreSome rest → ⊥

ends_empty : (front : List ℕ) → EndsEmpty (slice_split (λ u. u == 92) (front ++ 92 ∷ []))
ends_empty [] = record { first = []; rest = [] ∷ []; are = refl; not_some = λ some. some.0 refl }
ends_empty (x ∷ front) = by_test (x == 92) (ends_empty front)
  where
    by_test : (t : Bool) → EndsEmpty (slice_split (λ u. u == 92) (front ++ 92 ∷ [])) → EndsEmpty (cond t ([] ∷ slice_split (λ u. u == 92) (front ++ 92 ∷ [])) (onto_first x (slice_split (λ u. u == 92) (front ++ 92 ∷ []))))
    by_test true e = record { first = []; rest = e.first ∷ e.rest; are = ap (λ parts. [] ∷ parts) e.are; not_some = λ some. e.not_some some.1 }
    by_test false e = record { first = x ∷ e.first; rest = e.rest; are = ap (onto_first x) e.are; not_some = e.not_some }

pub joined_text : (text : List ℕ) → AllByRecursion (λ u. is_printable u ≡ true) text → ((rest : List ℕ) → text ≢ 45 ∷ rest) → AreSome (slice_split (λ u. u == 92) text) → IsPrefixText text
joined_text text units minus some = record {
  units = units;
  no_minus = minus;
  no_separator = λ front e. let ends = ends_empty front in ends.not_some (subst AreSome (ap (slice_split (λ u. u == 92)) e ∙ ends.are) some).1;
}
