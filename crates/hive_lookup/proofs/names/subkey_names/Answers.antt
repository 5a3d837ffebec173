use Rattle.std.proofs.Common.{ℕ, List, subst, sym, inl, inr}
use Rattle.std.specs.List.{IsDistinct}
use Rattle.std.specs.List.Sorted.{IsPermutation}
use Rattle.std.specs.Ordering.{eq_by_cmp}
use Rattle.reg_names.specs.Names.{name_cmp}
use Rattle.hive_lookup.specs.declared.list_kind.ListKind.TheVariants.{Subkeys}
use Rattle.hive_lookup.specs.Lookups.{KeyLists}
use Rattle.hive_lookup.specs.Listings.{IsUnreadIn, NamesBreak}
use Rattle.hive_lookup.proofs.Searches.{told_as}
use Rattle.hive_lookup.proofs.names.subkey_names.Goals as goal

pub returns-in-Err-listed_names : goal.returns-in-Err-listed_names
returns-in-Err-listed_names c = λ cells shows.
    told_as ⊥ ⊥ (IsUnreadIn cells c.deref.result.now) (NamesBreak cells c.args.key) c.in-Err-listed_names.error (c.in-Err-listed_names.ensures cells shows) (λ h. h)
    (λ at why b. inr (c.deref.result.now, subst (λ (l : List ℕ). KeyLists Subkeys cells c.args.key l) (sym c.deref.ensures.value) (c.in-Ok.ensures cells shows), inl b))

pub returns-in-Some : goal.returns-in-Some
returns-in-Some c = λ cells shows.
    let its = c.in-Ok-listed_names.ensures cells shows in
    let sorted = c.in-Some.ensures in (
      c.deref.result.now,
      subst (λ (l : List ℕ). KeyLists Subkeys cells c.args.key l) (sym c.deref.ensures.value) (c.in-Ok.ensures cells shows),
      its.0,
      subst (λ (n : List (List ℕ)). IsDistinct (eq_by_cmp name_cmp) n) its.1 sorted.0,
      subst (λ (n : List (List ℕ)). IsPermutation n c.in-Some.names.items) its.1 sorted.1,
      sorted.2,
    )
