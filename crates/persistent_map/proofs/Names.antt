-- The order of folded names is total, and only equal names tie.
use Rattle.std.proofs.Common.{◌≡◌, ℕ, List, T, true, refl, sym, subst}
use Rattle.std.specs.Cmp.{IsTotalOrder}
use Rattle.std.specs.Ordering.{is_eq}
use Rattle.std.specs.declared.cmp.Ordering.TheVariants.{Less, Equal, Greater}
use Rattle.std.specs.FinMap.{IsAntisymmetric, nat_cmp-IsAntisymmetric, slice_cmp-IsAntisymmetric}
use Rattle.std.proofs.lemmas.Cmp.{nat_list_cmp_total}
use Rattle.persistent_map.specs.Orders.{name_order}

pub names_total : IsTotalOrder name_order
names_total = nat_list_cmp_total

pub names_apart : IsAntisymmetric name_order
names_apart = slice_cmp-IsAntisymmetric nat_cmp-IsAntisymmetric

-- names that tie are one
pub same_name : (a b : List ℕ) → is_eq (name_order a b) ≡ true → a ≡ b
same_name a b = elim (name_order a b) as (λ o. name_order a b ≡ o → is_eq o ≡ true → a ≡ b) [
  | Less ↦ λ o h. absurd (subst T (sym h) tt)
  | Equal ↦ λ o h. names_apart a b o
  | Greater ↦ λ o h. absurd (subst T (sym h) tt)
] refl
