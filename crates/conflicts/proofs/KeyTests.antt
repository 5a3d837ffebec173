-- The tests of names and paths of trees are the tests of the law of claims.
use Rattle.std.proofs.Common.{◌≡◌, ℕ, Bool, true, false, List, ◌++◌, refl, sym, subst}
use Rattle.std.specs.Ordering.{eq_by_cmp}
use Rattle.reg_tree_parts.specs.Orders.{name_order, path_order}
use Rattle.reg_tree_parts.specs.Nodes as nodes
use Rattle.reg_tree.proofs.Paths.{same_name, eq_is, eq_self, name_self, begins-append, split_begins}
use Rattle.conflicts.specs.Skeleton as law
use Rattle.conflicts.proofs.Tests.{never, name_is, path_is, begins_is}
use Rattle.conflicts.proofs.Closed.{name_same, path_same, path_begins}

-- two tests of one fact agree
pub agree : {P : Type 0} (a b : Bool) → (a ≡ true → P) → (P → b ≡ true) → (b ≡ true → P) → (P → a ≡ true) → a ≡ b
agree true true f g h k = refl
agree false false f g h k = refl
agree true false f g h k = never (g (f refl))
agree false true f g h k = never (k (h refl))

pub names_agree : (m n : List ℕ) → law.same_name m n ≡ eq_by_cmp name_order m n
names_agree m n = agree {P = m ≡ n} _ _ (name_is m n) (λ e. subst (λ x. eq_by_cmp name_order m x ≡ true) e (name_self m)) (same_name m n) (λ e. subst (λ x. law.same_name m x ≡ true) e (name_same m))

pub paths_agree : (p q : List (List ℕ)) → law.same_path p q ≡ eq_by_cmp path_order p q
paths_agree p q = agree {P = p ≡ q} _ _ (path_is p q) (λ e. subst (λ x. eq_by_cmp path_order p x ≡ true) e (eq_self p)) (eq_is p q) (λ e. subst (λ x. law.same_path p x ≡ true) e (path_same p))

pub begins_agree : (p q : List (List ℕ)) → law.begins_path p q ≡ nodes.begins_path p q
begins_agree p q = agree {P = (r : List (List ℕ)) × (q ≡ p ++ r)} _ _ (begins_is p q) (λ b. subst (λ x. nodes.begins_path p x ≡ true) (sym b.1) (begins-append p b.0)) (split_begins p q) (λ b. subst (λ x. law.begins_path p x ≡ true) (sym b.1) (path_begins p b.0))
