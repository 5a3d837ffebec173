-- Nodes in another order.
use Rattle.std.proofs.Common.{◌≡◌, ◌<◌, inl, inr, ℕ, zero, suc, length, get_or, arith, Bool, true, false, ◌&&◌, T, List, [], ◌∷◌, refl, ◌∙◌, ap, sym, subst, cond, Option, Some, None}
use Rattle.std.specs.List.{AllByRecursion, IsDistinct}
use Rattle.std.specs.List.Sorted.{IsPermutation}
use Rattle.std.specs.FinMap.Entries.{find, is_sorted, below_all}
use Rattle.std.specs.Ordering.{is_lt}
use Rattle.std.specs.Cmp.{tied_itself}
use Rattle.reg_tree_parts.proofs.Keys.{names_total}
use Rattle.std.proofs.lemmas.List.Sorted.{IsPermutation-map, IsPermutation-sym, Contains-permutation}
use Rattle.std.specs.List.{Contains}
use Rattle.std.proofs.lemmas.Map.Keys.{IsDistinct-IsPermutation}
use Rattle.reg_tree_parts.specs.Orders.{name_order}
use Rattle.reg_tree_parts.specs.Nodes.{Entries, IsNode, AreNodes}
use Rattle.hive_tree_model.specs.Lists.{IsIn, Once}
use Rattle.hive_tree_model.specs.Trees.{same}
use Rattle.hive_tree_model.proofs.Basics.{decided, clash, never, same_is, same_of, same_not, same_itself, some_same, some_none}
use Rattle.hive_load.specs.Nodes.{names_of}

-- ---- names that are apart, by tests

flips : (n m : List ℕ) → same n m ≡ same m n
flips n m = elim (decided (same n m)) [
  | inl t ↦ t ∙ sym (same_of m n (sym (same_is n m t)))
  | inr f ↦ f ∙ sym (same_not m n (λ e. clash (same n m) (same_of n m (sym e)) f))
]

all_apart : (n : List ℕ) (names : List (List ℕ)) → (IsIn n names → ⊥) → AllByRecursion (λ m. same n m ≡ false) names
all_apart n [] h = tt
all_apart n (m ∷ names) h = (same_not n m (λ e. h (inl e)), all_apart n names (λ i. h (inr i)))

none_in : (n : List ℕ) (names : List (List ℕ)) → AllByRecursion (λ m. same n m ≡ false) names → IsIn n names → ⊥
none_in n [] h i = i
none_in n (m ∷ names) h (inl e) = clash (same n m) (same_of n m e) h.0
none_in n (m ∷ names) h (inr i) = none_in n names h.1 i

distinct : (names : List (List ℕ)) → Once names → IsDistinct same names
unfolding IsDistinct
distinct [] o = tt
distinct (n ∷ names) o = (all_apart n names o.0, distinct names o.1)

once : (names : List (List ℕ)) → IsDistinct same names → Once names
unfolding IsDistinct
once [] d = tt
once (n ∷ names) d = (none_in n names d.0, once names d.1)

pub once_shuffled : (xs ys : List (List ℕ)) → IsPermutation xs ys → Once xs → Once ys
once_shuffled xs ys p o = once ys (IsDistinct-IsPermutation same flips xs ys p (distinct xs o))

-- ---- names that rise are there once, and nodes with the same names

abbrev pub AreFoundIn : List (List ℕ × Entries) → List (List ℕ × Entries) → Type 0
AreFoundIn xs ys = (name : List ℕ) → find name_order name ys ≡ find name_order name xs

in_names : (xs : List (List ℕ × Entries)) (n : List ℕ) (e : Entries) → IsIn (n, e) xs → IsIn n (names_of xs)
in_names [] n e h = h
in_names (x ∷ xs) n e (inl g) = inl (ap (λ (z : List ℕ × Entries). z.0) g)
in_names (x ∷ xs) n e (inr h) = inr (in_names xs n e h)

-- what is in nodes whose names are apart is found
found : (xs : List (List ℕ × Entries)) → Once (names_of xs) → (n : List ℕ) (e : Entries) → IsIn (n, e) xs → find name_order n xs ≡ Some e
found [] o n e h = absurd h
found (x ∷ xs) o n e (inl g) = ap (λ (z : List ℕ × Entries). cond (same n z.0) (Some z.1) (find name_order n xs)) (sym g) ∙ ap (λ b. cond b (Some e) (find name_order n xs)) (same_itself n)
found (x ∷ xs) o n e (inr h) = ap (λ b. cond b (Some x.1) (find name_order n xs)) (same_not n x.0 (λ g. o.0 (subst (λ (z : List ℕ). IsIn z (names_of xs)) g (in_names xs n e h)))) ∙ found xs o.1 n e h

found_in : (xs : List (List ℕ × Entries)) (n : List ℕ) (o : Option Entries) → find name_order n xs ≡ o → (e : Entries) → o ≡ Some e → IsIn (n, e) xs
found_in [] n o is e f = some_none e (is ∙ f)
found_in (x ∷ xs) n o is e f = elim (decided (same n x.0)) [
  | inl t ↦ inl (pair_is n e x (same_is n x.0 t) (some_same x.1 e (sym (ap (λ b. cond b (Some x.1) (find name_order n xs)) t) ∙ is ∙ f)))
  | inr g ↦ inr (found_in xs n o (sym (ap (λ b. cond b (Some x.1) (find name_order n xs)) g) ∙ is) e f)
]
  where
    pair_is : (n : List ℕ) (e : Entries) (x : List ℕ × Entries) → n ≡ x.0 → x.1 ≡ e → (n, e) ≡ x
    pair_is n e x g h = λ i. (g i, sym h i)

as_contains : {A : Type 0} (xs : List A) (x : A) → IsIn x xs → Contains xs x
as_contains [] x h = absurd h
as_contains (y ∷ ys) x (inl e) = (0, omega arith, sym e)
as_contains (y ∷ ys) x (inr h) = let its : (k : ℕ) × (k < length ys) × (get_or ys k x ≡ x) = as_contains ys x h in (suc its.0, let lt = its.1 in omega (arith, lt), its.2)

at_place : {A : Type 0} (xs : List A) (k : ℕ) (x : A) → k < length xs → get_or xs k x ≡ x → IsIn x xs
at_place [] k x lt e = absurd (omega (arith, lt))
at_place (y ∷ ys) zero x lt e = inl (sym e)
at_place (y ∷ ys) (suc k) x lt e = inr (at_place ys k x (omega (arith, lt)) e)

as_in : {A : Type 0} (xs : List A) (x : A) → Contains xs x → IsIn x xs
as_in xs x h = at_place xs h.0 x h.1 h.2

pub in_shuffled : {A : Type 0} (xs ys : List A) → IsPermutation xs ys → (x : A) → IsIn x xs → IsIn x ys
in_shuffled xs ys p x h = as_in ys x (Contains-permutation xs ys x p (as_contains xs x h))

pub shuffled_found : (xs ys : List (List ℕ × Entries)) → IsPermutation xs ys → Once (names_of xs) → AreFoundIn xs ys
shuffled_found xs ys p o name = by_what (find name_order name ys) refl (find name_order name xs) refl
  where
    o' : Once (names_of ys)
    o' = once_shuffled (names_of xs) (names_of ys) (IsPermutation-map (λ (n : List ℕ × Entries). n.0) xs ys p) o

    by_what : (a : Option Entries) → find name_order name ys ≡ a → (b : Option Entries) → find name_order name xs ≡ b → a ≡ b
    by_what (Some e) f b g = sym (found xs o name e (in_shuffled ys xs (IsPermutation-sym xs ys p) (name, e) (found_in ys name (Some e) f e refl))) ∙ g
    by_what None f (Some e) g = sym f ∙ found ys o' name e (in_shuffled xs ys p (name, e) (found_in xs name (Some e) g e refl))
    by_what None f None g = refl

-- ---- nodes stay nodes

node_in : (xs : List (List ℕ × Entries)) → AreNodes xs → (x : List ℕ × Entries) → IsIn x xs → IsNode x.1
node_in [] h x i = absurd i
node_in (y ∷ ys) h x (inl e) = subst (λ (z : List ℕ × Entries). IsNode z.1) (sym e) h.0
node_in (y ∷ ys) h x (inr i) = node_in ys h.1 x i

are_nodes : (xs : List (List ℕ × Entries)) → ((x : List ℕ × Entries) → IsIn x xs → IsNode x.1) → AreNodes xs
are_nodes [] h = tt
are_nodes (y ∷ ys) h = (h y (inl refl), are_nodes ys (λ x i. h x (inr i)))

pub nodes_shuffled : (xs ys : List (List ℕ × Entries)) → IsPermutation xs ys → AreNodes xs → AreNodes ys
nodes_shuffled xs ys p h = are_nodes ys (λ x i. node_in xs h x (in_shuffled ys xs (IsPermutation-sym xs ys p) x i))

-- ---- the names that rise are there once

front_true : (a b : Bool) → (a && b) ≡ true → a ≡ true
front_true true b h = refl
front_true false b h = never h

back_true : (a b : Bool) → (a && b) ≡ true → b ≡ true
back_true true b h = h
back_true false b h = never h

not_below : (n m : List ℕ) → n ≡ m → is_lt (name_order n m) ≡ false
not_below n m g = ap (λ (z : List ℕ). is_lt (name_order n z)) (sym g) ∙ ap is_lt (tied_itself names_total n)

below_name : (n : List ℕ) (es : List (List ℕ × Entries)) → below_all name_order n es ≡ true → IsIn n (names_of es) → ⊥
below_name n [] h i = i
below_name n (e ∷ es) h (inl g) = never (sym (not_below n e.0 g) ∙ front_true (is_lt (name_order n e.0)) (below_all name_order n es) h)
below_name n (e ∷ es) h (inr i) = below_name n es (back_true (is_lt (name_order n e.0)) (below_all name_order n es) h) i

pub risen_once : (es : List (List ℕ × Entries)) → is_sorted name_order es ≡ true → Once (names_of es)
risen_once [] h = tt
risen_once (e ∷ es) h = (below_name e.0 es (front_true (below_all name_order e.0 es) (is_sorted name_order es) h), risen_once es (back_true (below_all name_order e.0 es) (is_sorted name_order es) h))

as_true : (b : Bool) → T b → b ≡ true
as_true true h = refl
as_true false h = absurd h

-- nodes that rise in another order have names that are apart
pub apart_if : (xs ys : List (List ℕ × Entries)) → IsPermutation xs ys → T (is_sorted name_order ys) → Once (names_of xs)
apart_if xs ys p h = once_shuffled (names_of ys) (names_of xs) (IsPermutation-map (λ (n : List ℕ × Entries). n.0) ys xs (IsPermutation-sym xs ys p)) (risen_once ys (as_true (is_sorted name_order ys) h))
