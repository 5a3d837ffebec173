use Rattle.std.proofs.Common.{ℕ, List, subst, inl, inr}
use Rattle.reg_names.specs.Names.{folded}
use Rattle.hive_records.specs.Images.{splits}
use Rattle.hive_lookup.specs.declared.list_kind.ListKind.TheVariants.{Values}
use Rattle.hive_lookup.specs.Lookups.{ErrorTells, ListsNone, ListsOne, SearchBreaks, ValueBreaks}
use Rattle.hive_lookup.proofs.Searches.{tells, told_as}
use Rattle.hive_lookup.proofs.values.read_value.Goals as goal

pub returns-in-Err : goal.returns-in-Err
returns-in-Err c = λ cells shows.
    told_as (ListsNone Values cells c.args.key (folded c.args.name.now)) (ListsNone Values cells c.args.key (folded c.args.name.now)) (SearchBreaks Values cells c.args.key (folded c.args.name.now)) (ValueBreaks (splits c.args.minor) cells c.args.key (folded c.args.name.now)) c.in-Err.error
    (subst (λ (n : List ℕ). ErrorTells (ListsNone Values cells c.args.key (folded n)) (SearchBreaks Values cells c.args.key (folded n)) c.in-Err.error) c.name.ensures.same (c.in-Err.ensures cells shows))
    (λ h. h) (λ at why b. inl b)

pub returns-in-Err-value_of : goal.returns-in-Err-value_of
returns-in-Err-value_of c = λ cells shows.
    let one = subst (λ (n : List ℕ). ListsOne Values cells c.args.key (folded n) c.in-Ok.at) c.name.ensures.same (c.in-Ok.ensures cells shows) in
    tells (ListsNone Values cells c.args.key (folded c.args.name.now)) (ValueBreaks (splits c.args.minor) cells c.args.key (folded c.args.name.now)) c.in-Ok.at c.in-Err-value_of.refusal c.refused_at.result c.refused_at.ensures
    (elim (c.in-Err-value_of.ensures cells shows) [ inl e ↦ inl e | inr u ↦ inr (inr (one, u)) ])
