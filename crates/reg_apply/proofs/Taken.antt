-- One statement more is taken.
use Rattle.std.proofs.Common.{◌≡◌, ℕ, List, [], ◌∷◌, ◌++◌, Option, refl, sym, ◌∙◌, ap, subst, append_assoc}
use Rattle.reg_prefixes.specs.declared.prefix.Prefix.{Prefix}
use Rattle.change_plan.specs.Plans.{Planned}
use Rattle.reg_file.specs.declared.statement.NumberedStatement.{NumberedStatement}
use Rattle.reg_apply.specs.declared.place.Place.{Place}
use Rattle.reg_apply.specs.Statements.{TakesStatement, TakesStatements}

pub one_more : (prefixes : List Prefix) (hives : ℕ) (first : Option Place) (old : Planned) (front : List NumberedStatement) (current : Option Place) (mid : Planned) (stop : NumberedStatement) (next : Option Place) (new : Planned)
    → TakesStatements prefixes hives first old front current mid → TakesStatement prefixes hives current mid stop.statement next new → TakesStatements prefixes hives first old (front ++ stop ∷ []) next new
one_more prefixes hives first old [] current mid stop next new taken one =
    (next, new, subst (λ c. TakesStatement prefixes hives c old stop.statement next new) taken.0 (subst (λ m. TakesStatement prefixes hives current m stop.statement next new) taken.1 one), (refl, refl))
one_more prefixes hives first old (its ∷ front) current mid stop next new taken one =
    (taken.0, taken.1, taken.2, one_more prefixes hives taken.0 taken.1 front current mid stop next new taken.3 one)

pub parted : {X : Type 0} (all front rest : List X) (x : X) (others : List X) → all ≡ front ++ rest → rest ≡ x ∷ others → all ≡ (front ++ x ∷ []) ++ others
parted all front rest x others whole first = whole ∙ ap (λ xs. front ++ xs) first ∙ sym (append_assoc front (x ∷ []) others)
