-- Operations that may be carried out one after another may be so after others whose claims do not conflict with theirs.
use Rattle.std.proofs.Common.{◌≡◌, ◌⊎◌, inl, inr, ℕ, zero, suc, List, [], ◌∷◌, ◌++◌, map, Option, Some, None, Result, Ok, Err, cond, Bool, true, false, refl, sym, ap, subst}
use Rattle.std.specs.Prelude.{slice_get, slice_set, nat_lt}
use Rattle.std.specs.List.{AllByRecursion}
use Rattle.refusals.specs.declared.refusal.Refusal.{Refusal}
use Rattle.refusals.specs.declared.refusal.Refusal.TheVariants.{TooLarge}
use Rattle.refusals.specs.declared.limits.TheConstants.{MOST_WEIGHT}
use Rattle.reg_tree.specs.Maps.{TreeMap, weight}
use Rattle.reg_tree.specs.Operations.{hive_of, tree_after}
use Rattle.reg_tree.specs.Judgement.{judged, changed, changed_if, weighed, legal_after, legal_if, legal as told_legal, applied, applied_one, applied_if}
use Rattle.reg_tree.specs.Sequences.{AreTrees}
use Rattle.reg_tree.specs.declared.op.Op.{Op}
use Rattle.reg_tree.specs.declared.op.Op.TheVariants.{CreateKey, DeleteKey, SetValue, DeleteValue}
use Rattle.reg_tree.specs.declared.op.Legality.{Legality}
use Rattle.reg_tree.specs.declared.op.Legality.TheVariants.{Legal, Opened}
use Rattle.reg_tree.proofs.OthersStay.{trees_stay_one}
use Rattle.conflicts.specs.Skeleton as law
use Rattle.conflicts.specs.Legal as legal
use Rattle.conflicts.specs.Claims.{claim_of}
use Rattle.conflicts.specs.TreeOutlines.{skeleton, outline, judged_if, judged_in, FitsData, AreCarriedOut, OpsDontConflict}
use Rattle.conflicts.proofs.OnSkeletons.{follows}
use Rattle.conflicts.proofs.LegalOnSkeletons.{legal_from_judged, judged_from_legal}

-- the law of claims, as it is handed in
abbrev pub LawOfClaims : Type 0
LawOfClaims = (element ops : List law.Op) (s : law.Skeleton) → legal.NoneConflict element ops → legal.LegalInOrder ops s → legal.LegalInOrder ops (law.applied element s)

claim_is : (op : Op) → law.claim (outline op) ≡ claim_of op
claim_is (CreateKey hive path) = refl
claim_is (DeleteKey hive path) = refl
claim_is (SetValue hive path name kind bytes) = refl
claim_is (DeleteValue hive path name) = refl

-- To the law and back

on_law : (trees : List TreeMap) → AreTrees trees → (ops : List Op) (m : ℕ) → AreCarriedOut trees ops m → legal.LegalInOrder (map outline ops) (skeleton trees) × AllByRecursion FitsData ops
on_law trees are [] m c = (tt, tt)
on_law trees are (op ∷ ops) m c =
    let one = legal_from_judged trees are op c.0 in
    let rest = on_law (applied_one trees op m) (trees_stay_one trees op m are) ops m c.1 in
    ((one.0, subst (λ s. legal.LegalInOrder (map outline ops) s) (follows trees are m op c.0) rest.0), (one.1, rest.1))

from_law : (trees : List TreeMap) → AreTrees trees → (ops : List Op) (m : ℕ) → legal.LegalInOrder (map outline ops) (skeleton trees) → AllByRecursion FitsData ops → AreCarriedOut trees ops m
from_law trees are [] m l fits = tt
from_law trees are (op ∷ ops) m l fits =
    let one = judged_from_legal trees are op l.0 fits.0 in
    (one, from_law (applied_one trees op m) (trees_stay_one trees op m are) ops m (subst (λ s. legal.LegalInOrder (map outline ops) s) (sym (follows trees are m op one)) l.1) fits.1)

apart_one : (a : Op) (others : List Op) → AllByRecursion (λ b. law.Conflict (claim_of a) (claim_of b) → ⊥) others → AllByRecursion (λ b. legal.DontConflict (outline a) b) (map outline others)
apart_one a [] h = tt
apart_one a (b ∷ others) h = (λ c. h.0 (subst (λ x. law.Conflict x (claim_of b)) (claim_is a) (subst (λ x. law.Conflict (law.claim (outline a)) x) (claim_is b) c)), apart_one a others h.1)

-- An operation that may not be carried out changes nothing

set_itself : {A : Type 0} (xs : List A) (i : ℕ) (x : A) → slice_get xs i ≡ Some x → slice_set xs i x ≡ xs
set_itself [] i x e = refl
set_itself (z ∷ xs) zero x e = cc
set_itself (z ∷ xs) (suc i) x e = ap (λ ys. z ∷ ys) (set_itself xs i x e)

pub unchanged : (trees : List TreeMap) (op : Op) (m : ℕ) → (judged_in trees op ≡ Ok Legal → ⊥) → applied_one trees op m ≡ trees
unchanged trees op m not_legal = by_hive (slice_get trees (hive_of op)) refl not_legal
  where
    by_hive : (o : Option TreeMap) → slice_get trees (hive_of op) ≡ o → (judged_if o op ≡ Ok Legal → ⊥) → applied_if trees o op m ≡ trees
    by_hive None t n = refl
    by_hive (Some tree) t n = by_judgement (judged tree op) refl n
      where
        by_judgement : (j : Result Legality Refusal) → judged tree op ≡ j → (j ≡ Ok Legal → ⊥) → slice_set trees (hive_of op) (changed_if j (tree_after tree op m) tree) ≡ trees
        by_judgement (Ok Legal) e n = absurd (n refl)
        by_judgement (Ok Opened) e n = set_itself trees (hive_of op) tree t
        by_judgement (Err refusal) e n = set_itself trees (hive_of op) tree t

legal_or_not : (j : Result Legality Refusal) → (j ≡ Ok Legal) ⊎ (j ≡ Ok Legal → ⊥)
legal_or_not (Ok Legal) = inl refl
legal_or_not (Ok Opened) = inr (λ e. cc)
legal_or_not (Err refusal) = inr (λ e. cc)

-- The law, of trees

module _ (the_law : LawOfClaims) where
  pub past_one : (trees : List TreeMap) (op : Op) (ops : List Op) (m n : ℕ) → AreTrees trees → AllByRecursion (λ b. law.Conflict (claim_of op) (claim_of b) → ⊥) ops → AreCarriedOut trees ops m → AreCarriedOut (applied_one trees op n) ops m
  past_one trees op ops m n are apart c = elim (legal_or_not (judged_in trees op)) [
    | inl e ↦
        let known = on_law trees are ops m c in
        let moved : legal.LegalInOrder (map outline ops) (law.apply (outline op) (skeleton trees)) = the_law (outline op ∷ []) (map outline ops) (skeleton trees) (apart_one op ops apart, tt) known.0 in
        from_law (applied_one trees op n) (trees_stay_one trees op n are) ops m (subst (λ s. legal.LegalInOrder (map outline ops) s) (sym (follows trees are n op e)) moved) known.1
    | inr not_legal ↦ subst (λ t. AreCarriedOut t ops m) (sym (unchanged trees op n not_legal)) c
  ]

  past_all : (trees : List TreeMap) (first ops : List Op) (m n : ℕ) → AreTrees trees → OpsDontConflict first ops → AreCarriedOut trees ops m → AreCarriedOut (applied trees first n) ops m
  past_all trees [] ops m n are apart c = c
  past_all trees (op ∷ first) ops m n are apart c = past_all (applied_one trees op n) first ops m n (trees_stay_one trees op n are) apart.1 (past_one trees op ops m n are apart.0 c)

-- whatever the moment
pub any_moment : (trees : List TreeMap) → AreTrees trees → (ops : List Op) (m k : ℕ) → AreCarriedOut trees ops m → AreCarriedOut trees ops k
any_moment trees are ops m k c = let known = on_law trees are ops m c in from_law trees are ops k known.0 known.1

pub trees_stay : (trees : List TreeMap) (ops : List Op) (m : ℕ) → AreTrees trees → AreTrees (applied trees ops m)
trees_stay trees [] m are = are
trees_stay trees (op ∷ ops) m are = trees_stay (applied_one trees op m) ops m (trees_stay_one trees op m are)

pub stay_legal : LawOfClaims → (trees : List TreeMap) (first ops : List Op) (m n k : ℕ) → AreTrees trees → OpsDontConflict first ops → AreCarriedOut trees ops m → AreCarriedOut (applied trees first n) ops k
stay_legal the_law trees first ops m n k are apart c = any_moment (applied trees first n) (trees_stay trees first n are) ops m k (past_all the_law trees first ops m n are apart c)

-- one operation more, judged on the trees after those before it
pub more : (trees : List TreeMap) (ops : List Op) (op : Op) (m : ℕ) → AreCarriedOut trees ops m → judged_in (applied trees ops m) op ≡ Ok Legal → AreCarriedOut trees (ops ++ op ∷ []) m
more trees [] op m c j = (j, tt)
more trees (o ∷ ops) op m c j = (c.0, more (applied_one trees o m) ops op m c.1 j)

pub one_more : (trees : List TreeMap) (ops : List Op) (op : Op) (m k : ℕ) → AreTrees trees → AreCarriedOut trees ops m → judged_in (applied trees ops m) op ≡ Ok Legal → AreCarriedOut trees (ops ++ op ∷ []) k
one_more trees ops op m k are c j = any_moment trees are (ops ++ op ∷ []) m k (more trees ops op m c j)

-- what may be carried out is legal, but for weights
pub but_for_weight : (trees : List TreeMap) (op : Op) → judged_in trees op ≡ Ok Legal → (told_legal trees op ≡ Ok Legal) ⊎ (told_legal trees op ≡ Err TooLarge)
but_for_weight trees op e = by_hive (slice_get trees (hive_of op)) e
  where
    weighs : (total : ℕ) → (weighed total ≡ Ok Legal) ⊎ (weighed total ≡ Err TooLarge)
    weighs total = by_case (nat_lt MOST_WEIGHT total)
      where
        by_case : (b : Bool) → (cond {A = Result Legality Refusal} b (Err TooLarge) (Ok Legal) ≡ Ok Legal) ⊎ (cond {A = Result Legality Refusal} b (Err TooLarge) (Ok Legal) ≡ Err TooLarge)
        by_case true = inr refl
        by_case false = inl refl

    by_kind : (op : Op) (total : ℕ) → (legal_after op (Ok Legal) total ≡ Ok Legal) ⊎ (legal_after op (Ok Legal) total ≡ Err TooLarge)
    by_kind (CreateKey hive path) total = weighs total
    by_kind (DeleteKey hive path) total = inl refl
    by_kind (SetValue hive path name kind bytes) total = weighs total
    by_kind (DeleteValue hive path name) total = inl refl

    by_hive : (o : Option TreeMap) → judged_if o op ≡ Ok Legal → (legal_if o op ≡ Ok Legal) ⊎ (legal_if o op ≡ Err TooLarge)
    by_hive None e = cc
    by_hive (Some tree) e = subst (λ j. (legal_after op j (weight (changed tree op 0)) ≡ Ok Legal) ⊎ (legal_after op j (weight (changed tree op 0)) ≡ Err TooLarge)) (sym e) (by_kind op (weight (changed tree op 0)))
