-- The plan of statements is a legal one.
use Rattle.std.proofs.Common.{◌≡◌, ℕ, List, [], ◌∷◌, Option, sym, ◌∙◌, ap, subst}
use Rattle.reg_tree.specs.Maps.{TreeMap}
use Rattle.reg_prefixes.specs.declared.prefix.Prefix.{Prefix}
use Rattle.change_plan.specs.Plans.{Planned}
use Rattle.change_plan.proofs.LegalPlans.{IsLegalPlan, edit_on}
use Rattle.reg_file.specs.declared.statement.NumberedStatement.{NumberedStatement}
use Rattle.reg_apply.specs.declared.place.Place.{Place}
use Rattle.reg_apply.specs.Statements.{TakesStatements}

pub statements_on : (trees : List TreeMap) (prefixes : List Prefix) (hives : ℕ) (first : Option Place) (old : Planned) (statements : List NumberedStatement) (last : Option Place) (new : Planned)
    → IsLegalPlan trees old → TakesStatements prefixes hives first old statements last new → IsLegalPlan trees new
statements_on trees prefixes hives first old [] last new is takes = subst (IsLegalPlan trees) (sym takes.1) is
statements_on trees prefixes hives first old (numbered ∷ statements) last new is takes =
    statements_on trees prefixes hives takes.0 takes.1 statements last new (edit_on trees old takes.2.0 takes.1 is takes.2.2) takes.3

-- the moment of a plan stays
pub same_moment : (prefixes : List Prefix) (hives : ℕ) (first : Option Place) (old : Planned) (statements : List NumberedStatement) (last : Option Place) (new : Planned) → TakesStatements prefixes hives first old statements last new → new.moment ≡ old.moment
same_moment prefixes hives first old [] last new takes = ap (λ (plan : Planned). plan.moment) takes.1
same_moment prefixes hives first old (numbered ∷ statements) last new takes = same_moment prefixes hives takes.0 takes.1 statements last new takes.3 ∙ takes.2.2.moment
