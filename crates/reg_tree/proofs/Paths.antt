-- Paths that are equal, and paths that extend others.
use Rattle.std.proofs.Common.{◌≡◌, ℕ, ◌+◌, Bool, true, false, ◌&&◌, ◌⊎◌, inl, inr, List, [], ◌∷◌, ◌++◌, length, refl, sym, ◌∙◌, ap, append-nil, zero-add, suc-add, arith}
use Rattle.std.specs.Prelude.{nat_lt, slice_index_or}
use Rattle.std.proofs.lemmas.Bool.Decides.{nat_tests}
use Rattle.std.specs.declared.cmp.Ordering.{Ordering}
use Rattle.std.specs.declared.cmp.Ordering.TheVariants.{Less, Equal, Greater}
use Rattle.std.specs.Ordering.{eq_by_cmp, is_eq, ordering_then}
use Rattle.std.specs.Cmp.{tied_itself, eq_by_cmp_equiv}
use Rattle.std.proofs.lemmas.Bool.{and_parts}
use mathlib.Core.Bool.{false≢true}
use Rattle.reg_tree_parts.specs.Orders.{name_order, path_order}
use Rattle.reg_tree_parts.specs.Nodes.{begins_path, one_below}
use Rattle.reg_tree_parts.proofs.Keys.{names_total, names_apart, paths_total, paths_apart}
use Rattle.reg_tree_parts.proofs.Finds.{equal_of}

-- names that tie are equal
pub same_name : (m n : List ℕ) → eq_by_cmp name_order m n ≡ true → m ≡ n
same_name m n e = names_apart m n (equal_of (name_order m n) e)

-- whether names tie does not depend on their order
pub swapped_name : (m n : List ℕ) → eq_by_cmp name_order m n ≡ eq_by_cmp name_order n m
swapped_name m n = (eq_by_cmp_equiv names_total).symm m n

-- a test is true or false
pub told : (b : Bool) → (b ≡ true) ⊎ (b ≡ false)
told true = inl refl
told false = inr refl

pub eq_self : (p : List (List ℕ)) → eq_by_cmp path_order p p ≡ true
eq_self p = ap is_eq (tied_itself paths_total p)

pub eq_is : (p q : List (List ℕ)) → eq_by_cmp path_order p q ≡ true → p ≡ q
eq_is p q e = paths_apart p q (equal_of (path_order p q) e)

pub name_self : (n : List ℕ) → eq_by_cmp name_order n n ≡ true
name_self n = ap is_eq (tied_itself names_total n)

-- a path extends its beginning
pub begins-append : (p r : List (List ℕ)) → begins_path p (p ++ r) ≡ true
begins-append [] r = refl
begins-append (n ∷ p) r = ap (λ b. b && begins_path p (p ++ r)) (name_self n) ∙ begins-append p r

-- and what extends a path is it with more after it
pub split_begins : (p q : List (List ℕ)) → begins_path p q ≡ true → (r : List (List ℕ)) × (q ≡ p ++ r)
split_begins [] q e = (q, refl)
split_begins (n ∷ p) [] e = absurd (false≢true e)
split_begins (n ∷ p) (m ∷ q) e =
    let parts = and_parts (eq_by_cmp name_order m n) (begins_path p q) e in
    let rest = split_begins p q parts.1 in
    (rest.0, λ i. same_name m n parts.0 i ∷ rest.1 i)

-- a longer path is another one
pub longer_apart : (p : List (List ℕ)) (n : List ℕ) (r : List (List ℕ)) → eq_by_cmp path_order (p ++ n ∷ r) p ≡ false
longer_apart [] n r = refl
longer_apart (a ∷ p) n r = ap (λ o. is_eq (ordering_then o (path_order (p ++ n ∷ r) p))) (tied_itself names_total a) ∙ longer_apart p n r

-- what does not extend a path is another one
pub unbegun_apart : (p q : List (List ℕ)) → begins_path p q ≡ false → eq_by_cmp path_order q p ≡ false
unbegun_apart p q off = elim (told (eq_by_cmp path_order q p)) [
  | inl same ↦
      let is : q ≡ p = eq_is q p same in
      absurd (false≢true (sym off ∙ ap (begins_path p) (is ∙ sym (append-nil p)) ∙ begins-append p []))
  | inr apart ↦ apart
]

-- what extends a longer path extends its beginning
pub begins_shorter : (p r q : List (List ℕ)) → begins_path p q ≡ false → begins_path (p ++ r) q ≡ false
begins_shorter [] r q off = absurd (false≢true (sym off))
begins_shorter (n ∷ p) r [] off = refl
begins_shorter (n ∷ p) r (m ∷ q) off =
    elim (eq_by_cmp name_order m n) as (λ b. (b && begins_path p q) ≡ false → (b && begins_path (p ++ r) q) ≡ false) [ true ↦ λ e. begins_shorter p r q e | false ↦ λ e. refl ] off

-- a path is one below its parent, and no path is one below another that does not begin it
pub one_below-append : (p : List (List ℕ)) (n : List ℕ) → one_below p (p ++ n ∷ []) ≡ true
one_below-append [] n = refl
one_below-append (a ∷ p) n = ap (λ b. b && one_below p (p ++ n ∷ [])) (name_self a) ∙ one_below-append p n

-- what is one below another path is that path and one name
pub split_below : (p q : List (List ℕ)) → one_below p q ≡ true → (n : List ℕ) × (q ≡ p ++ n ∷ [])
split_below [] [] e = absurd (false≢true e)
split_below [] (n ∷ []) e = (n, refl)
split_below [] (n ∷ m ∷ q) e = absurd (false≢true e)
split_below (a ∷ p) [] e = absurd (false≢true e)
split_below (a ∷ p) (n ∷ q) e =
    let parts = and_parts (eq_by_cmp name_order a n) (one_below p q) e in
    let rest = split_below p q parts.1 in
    (rest.0, λ i. sym (same_name a n parts.0) i ∷ rest.1 i)

-- paths with one front compare as their rests do
pub same_front : (p x y : List (List ℕ)) → eq_by_cmp path_order (p ++ x) (p ++ y) ≡ eq_by_cmp path_order x y
same_front [] x y = refl
same_front (a ∷ p) x y = ap (λ o. is_eq (ordering_then o (path_order (p ++ x) (p ++ y)))) (tied_itself names_total a) ∙ same_front p x y

-- a shorter path is another one
pub shorter_apart : (p : List (List ℕ)) (n : List ℕ) (r : List (List ℕ)) → eq_by_cmp path_order p (p ++ n ∷ r) ≡ false
shorter_apart [] n r = refl
shorter_apart (a ∷ p) n r = ap (λ o. is_eq (ordering_then o (path_order p (p ++ n ∷ r)))) (tied_itself names_total a) ∙ shorter_apart p n r

is_eq_then : (o p : Ordering) → is_eq o ≡ false → is_eq (ordering_then o p) ≡ false
is_eq_then Less p e = refl
is_eq_then Equal p e = absurd (false≢true (sym e))
is_eq_then Greater p e = refl

-- paths with other first names are others
pub names_differ : (m n : List ℕ) (r s : List (List ℕ)) → eq_by_cmp name_order m n ≡ false → eq_by_cmp path_order (m ∷ r) (n ∷ s) ≡ false
names_differ m n r s apart = is_eq_then (name_order m n) (path_order r s) apart

and_false : (b : Bool) → (b && false) ≡ false
and_false true = refl
and_false false = refl

-- a path as long as another is not its parent
pub not_one_below : (p : List (List ℕ)) (m : List ℕ) (r : List (List ℕ)) (n : List ℕ) → one_below (p ++ m ∷ r) (p ++ n ∷ []) ≡ false
not_one_below [] m [] n = and_false (eq_by_cmp name_order m n)
not_one_below [] m (k ∷ r) n = and_false (eq_by_cmp name_order m n)
not_one_below (a ∷ p) m r n = ap (λ b. b && one_below (p ++ m ∷ r) (p ++ n ∷ [])) (name_self a) ∙ not_one_below p m r n

-- two paths with one name more that are equal were equal
pub same_parent : (p q : List (List ℕ)) (n x : List ℕ) → p ++ n ∷ [] ≡ q ++ x ∷ [] → p ≡ q
same_parent [] [] n x e = refl
same_parent [] (b ∷ []) n x e = cc
same_parent [] (b ∷ c ∷ q) n x e = cc
same_parent (a ∷ []) [] n x e = cc
same_parent (a ∷ c ∷ p) [] n x e = cc
same_parent (a ∷ p) (b ∷ q) n x e =
    let head : a ≡ b = cc in
    let tail : p ++ n ∷ [] ≡ q ++ x ∷ [] = cc in
    λ i. head i ∷ same_parent p q n x tail i

-- a path that a longer one begins, after a front, extends that front
pub longer_begins : (p s q : List (List ℕ)) → begins_path q (p ++ s) ≡ true → nat_lt (length p) (length q) ≡ true → begins_path p q ≡ true
longer_begins [] s q on lt = refl
longer_begins (a ∷ p) s [] on lt = absurd (grind (arith, nat_tests))
longer_begins (a ∷ p) s (b ∷ q) on lt =
    let parts = and_parts (eq_by_cmp name_order a b) (begins_path q (p ++ s)) on in
    ap (λ x. eq_by_cmp name_order b x && begins_path p q) (same_name a b parts.0) ∙ ap (λ t. t && begins_path p q) (name_self b)
    ∙ longer_begins p s q parts.1 (grind (arith, nat_tests))

-- after one front, a path begins another as its rest does
pub begins_past : (p x y : List (List ℕ)) → begins_path (p ++ x) (p ++ y) ≡ begins_path x y
begins_past [] x y = refl
begins_past (a ∷ p) x y = ap (λ b. b && begins_path (p ++ x) (p ++ y)) (name_self a) ∙ begins_past p x y

-- what is after a front
pub behind : {A : Type 0} (xs ys : List A) (i : ℕ) (d : A) → slice_index_or (xs ++ ys) (length xs + i) d ≡ slice_index_or ys i d
behind [] ys i d = ap (λ n. slice_index_or ys n d) (zero-add i)
behind (x ∷ xs) ys i d = ap (λ n. slice_index_or (x ∷ xs ++ ys) n d) (suc-add (length xs) i) ∙ behind xs ys i d
