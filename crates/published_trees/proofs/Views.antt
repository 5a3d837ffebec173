-- Steps of readers and of the writer keep the rule.
use Rattle.std.proofs.Common.{◌≡◌, ◌≢◌, ℕ, List, [], ◌∷◌, ◌++◌, fold, set, refl, subst, ⊎_elim}
use mathlib.Core.List.{IsPrefix}
use mathlib.Core.Option.{some}
use lib.ListN.{get_elem?}
use Rattle.atomic_table.proofs.Lists.{at_set, at_snoc}
use Rattle.reg_tree.specs.declared.element.Element.{Element}
use Rattle.published_trees.specs.Lists.{Begin}
use Rattle.published_trees.proofs.Prefixes.{prefix_self, prefix_trans}

-- a new reader has seen nothing
pub begin_new : (list : List Element) (views : List (List Element)) → Begin list views → Begin list (views ++ [] ∷ [])
begin_new list views h seat v at = ⊎_elim (h seat v) (λ (e : [] ≡ v). subst (λ (z : List Element). IsPrefix z list) e (list, refl)) (at_snoc views [] v seat at)

-- one reader has seen the whole longer list
pub begin_step : (x y : List Element) (views : List (List Element)) (seat : ℕ) → IsPrefix x y → Begin x views → Begin y (set views seat y)
begin_step x y views seat up h j u e =
    ⊎_elim (λ (t : (j ≡ seat) × (y ≡ u)). subst (λ (z : List Element). IsPrefix z y) t.1 (prefix_self y))
    (λ (t : (j ≢ seat) × (get_elem? views j ≡ some u)). prefix_trans u x y (h j u t.1) up)
    (at_set views seat j y u e)

-- the last of what is taken over stays
pub last_stays : {A : Type 0} (x : A) (xs : List A) (y : A) → fold (λ a b. b) x (xs ++ y ∷ []) ≡ y
last_stays x [] y = refl
last_stays x (z ∷ xs) y = last_stays z xs y
