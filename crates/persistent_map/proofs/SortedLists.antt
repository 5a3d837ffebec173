-- Lists in the order of their keys.
use Rattle.std.proofs.Common.{◌≡◌, ℕ, zero, suc, ◌<◌, ◌≤◌, Bool, true, false, ◌&&◌, T, List, [], ◌∷◌, length, get_or, take, map, refl, ◌∙◌, ap, arith}
use Rattle.std.specs.declared.cmp.Ordering.{Ordering}
use Rattle.std.specs.declared.cmp.Ordering.TheVariants.{Less, Equal, Greater}
use Rattle.std.specs.Ordering.{is_lt, ordering_reverse}
use Rattle.std.specs.Cmp.{IsTotalOrder}
use Rattle.std.specs.FinMap.Entries.{is_sorted, below_all}

pub less_of : (o : Ordering) → T (is_lt o) → o ≡ Less
less_of Less h = refl
less_of Equal h = absurd h
less_of Greater h = absurd h

pub front_of : (a b : Bool) → T (a && b) → T a
front_of true b h = tt
front_of false b h = absurd h

pub back_of : (a b : Bool) → T (a && b) → T b
back_of true b h = h
back_of false b h = absurd h

module _ {K : Type 0} {R : K → K → Ordering} (total : IsTotalOrder R) where
  -- an order turned round
  pub turned_less : (x y : K) → R x y ≡ Less → R y x ≡ Greater
  turned_less x y h = total.antisymm y x ∙ ap ordering_reverse h

  pub turned_greater : (x y : K) → R x y ≡ Greater → R y x ≡ Less
  turned_greater x y h = total.antisymm y x ∙ ap ordering_reverse h

module _ {A K X : Type 0} {R : K → K → Ordering} (total : IsTotalOrder R) (f : A → K × X) where
  -- what is below all is below the one at each index
  below_at : (x : K) (items : List A) (j : ℕ) (d : A) → T (below_all R x (map f items)) → j < length items → R x (f (get_or items j d)).0 ≡ Less
  below_at x [] j d h lt = absurd (omega arith)
  below_at x (a ∷ items) zero d h lt = less_of _ (front_of _ _ h)
  below_at x (a ∷ items) (suc j) d h lt = below_at x items j d (back_of _ _ h) (omega arith)

  -- the key at an earlier index is below the key at a later one
  pub keys_rise : (items : List A) (i j : ℕ) (d : A) → T (is_sorted R (map f items)) → i < j → j < length items → R (f (get_or items i d)).0 (f (get_or items j d)).0 ≡ Less
  keys_rise [] i j d h lt in_range = absurd (omega arith)
  keys_rise (a ∷ items) i zero d h lt in_range = absurd (omega arith)
  keys_rise (a ∷ items) zero (suc j) d h lt in_range = below_at (f a).0 items j d (front_of _ _ h) (omega arith)
  keys_rise (a ∷ items) (suc i) (suc j) d h lt in_range = keys_rise items i j d (back_of _ _ h) (omega arith) (omega arith)

-- a front as long as the list is the list
pub whole : {A : Type 0} (xs : List A) (i : ℕ) → length xs ≤ i → take i xs ≡ xs
whole [] zero le = refl
whole [] (suc i) le = refl
whole (x ∷ xs) zero le = absurd (omega arith)
whole (x ∷ xs) (suc i) le = ap (λ ys. x ∷ ys) (whole xs i (omega arith))
