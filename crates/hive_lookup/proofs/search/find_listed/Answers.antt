use Rattle.std.proofs.Common.{ℕ, List, subst, sym, inr}
use Rattle.reg_names.specs.Names.{folded}
use Rattle.hive_lookup.specs.Lookups.{KeyLists, ListBreaks, ListsNone, SearchBreaks}
use Rattle.hive_lookup.proofs.Searches.{found_one, found_none, told_as}
use Rattle.hive_lookup.proofs.search.find_listed.Goals as goal

pub returns-in-Ok-Some : goal.returns-in-Ok-Some
returns-in-Ok-Some c = λ cells shows.
    found_one c.args.kind cells c.args.key (folded c.args.name.now) c.deref.result.now c.in-Ok-Some.field-0 c.in-Ok-Some.at
    (subst (λ (l : List ℕ). KeyLists c.args.kind cells c.args.key l) (sym c.deref.ensures.value) (c.in-Ok.ensures cells shows)) (c.in-Ok-Some.ensures cells shows) c.in-Ok-Some.field-0-is

pub returns-in-Ok-None : goal.returns-in-Ok-None
returns-in-Ok-None c = λ cells shows.
    found_none c.args.kind cells c.args.key (folded c.args.name.now) c.deref.result.now c.in-Ok-None.field-0
    (subst (λ (l : List ℕ). KeyLists c.args.kind cells c.args.key l) (sym c.deref.ensures.value) (c.in-Ok.ensures cells shows)) (c.in-Ok-None.ensures cells shows) c.in-Ok-None.field-0-is

pub returns : goal.returns
returns c = λ cells shows.
    told_as ⊥ (ListsNone c.args.kind cells c.args.key (folded c.args.name.now)) (ListBreaks c.args.kind cells c.args.key (folded c.args.name.now) c.deref.result.now) (SearchBreaks c.args.kind cells c.args.key (folded c.args.name.now))
    c.in-Err-one_named.error (c.in-Err-one_named.ensures cells shows) (λ h. absurd h)
    (λ at why b. inr (c.deref.result.now, subst (λ (l : List ℕ). KeyLists c.args.kind cells c.args.key l) (sym c.deref.ensures.value) (c.in-Ok.ensures cells shows), b))
