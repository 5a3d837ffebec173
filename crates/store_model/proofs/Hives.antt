-- Operations one after another, and the hives that they leave.
use Rattle.std.proofs.Common.{◌≡◌, ◌≢◌, inl, inr, ℕ, ◌<◌, List, [], ◌∷◌, ◌++◌, refl, sym, ◌∙◌, ap, arith, slice_index_or}
use Rattle.std.specs.Prelude.{slice_get, unwrap_or}
use Rattle.std.specs.List.{AllByRecursion}
use Rattle.std.proofs.lemmas.Option.{unwrap_or-slice_get}
use Rattle.std.proofs.lemmas.List.Elements.{All-head, All-tail}
use Rattle.reg_tree.specs.Maps.{TreeMap}
use Rattle.reg_tree.specs.Operations.{hive_of}
use Rattle.reg_tree.specs.Judgement.{applied, applied_one}
use Rattle.reg_tree.specs.declared.op.Op.{Op}
use Rattle.reg_tree.specs.declared.op.Op.TheVariants.{CreateKey, DeleteKey, SetValue, DeleteValue}
use Rattle.reg_tree.proofs.OthersStay.{hives_stay}
use Rattle.conflicts.specs.Skeleton.{Claim, Conflict}
use Rattle.conflicts.specs.Claims.{claim_of}
use Rattle.conflicts.specs.TreeOutlines.{AreCarriedOut, OpsDontConflict}
use Rattle.store_model.specs.Invariant.{HivesAreNamable}

-- Operations after others

pub applied_on : (trees : List TreeMap) (ops others : List Op) (moment : ℕ) → applied trees (ops ++ others) moment ≡ applied (applied trees ops moment) others moment
applied_on trees [] others moment = refl
applied_on trees (op ∷ ops) others moment = applied_on (applied_one trees op moment) ops others moment

pub carried_on : (trees : List TreeMap) (ops others : List Op) (moment : ℕ) → AreCarriedOut trees ops moment → AreCarriedOut (applied trees ops moment) others moment → AreCarriedOut trees (ops ++ others) moment
carried_on trees [] others moment front rest = rest
carried_on trees (op ∷ ops) others moment front rest = (front.0, carried_on (applied_one trees op moment) ops others moment front.1 rest)

pub apart_on : (ops more others : List Op) → OpsDontConflict ops others → OpsDontConflict more others → OpsDontConflict (ops ++ more) others
apart_on [] more others front rest = rest
apart_on (op ∷ ops) more others front rest = (front.0, apart_on ops more others front.1 rest)

-- Operations on hives below one

-- the tree of a hive stays if each operation is on one below it
pub tree_stays : (trees : List TreeMap) (ops : List Op) (moment hive : ℕ) → HivesAreNamable hive ops → slice_get (applied trees ops moment) hive ≡ slice_get trees hive
tree_stays trees [] moment hive below = refl
tree_stays trees (op ∷ ops) moment hive below =
    tree_stays (applied_one trees op moment) ops moment hive (All-tail (λ op. hive_of op < hive) op ops below)
    ∙ hives_stay trees op moment hive (λ e. let lt : hive_of op < hive = All-head (λ op. hive_of op < hive) op ops below in omega (arith, e, lt))

-- what is read of a hive's place is the same
pub same_place : (trees others : List TreeMap) (hive : ℕ) (else : TreeMap) → slice_get trees hive ≡ slice_get others hive → slice_index_or trees hive else ≡ slice_index_or others hive else
same_place trees others hive else e = sym (unwrap_or-slice_get trees hive else) ∙ ap (λ o. unwrap_or o else) e ∙ unwrap_or-slice_get others hive else

-- Claims on different hives don't conflict

hive_claimed : (op : Op) → (claim_of op).key.hive ≡ hive_of op
hive_claimed (CreateKey hive path) = refl
hive_claimed (DeleteKey hive path) = refl
hive_claimed (SetValue hive path name kind bytes) = refl
hive_claimed (DeleteValue hive path name) = refl

elsewhere : (c d : Claim) → c.key.hive ≢ d.key.hive → Conflict c d → ⊥
elsewhere c d n (inl same) = n same.0
elsewhere c d n (inr (inl below)) = n below.1.0
elsewhere c d n (inr (inr below)) = n (sym below.1.0)

one_apart : (hive : ℕ) (op : Op) (others : List Op) → hive_of op ≡ hive → HivesAreNamable hive others → AllByRecursion (λ o. Conflict (claim_of op) (claim_of o) → ⊥) others
one_apart hive op [] on below = tt
one_apart hive op (o ∷ others) on below =
    let lt : hive_of o < hive = All-head (λ op. hive_of op < hive) o others below in
    (elsewhere (claim_of op) (claim_of o) (λ e. omega (arith, hive_claimed op, hive_claimed o, e, on, lt)), one_apart hive op others on (All-tail (λ op. hive_of op < hive) o others below))

pub hive_apart : (hive : ℕ) (ops others : List Op) → AllByRecursion (λ op. hive_of op ≡ hive) ops → HivesAreNamable hive others → OpsDontConflict ops others
hive_apart hive [] others on below = tt
hive_apart hive (op ∷ ops) others on below = (one_apart hive op others on.0 below, hive_apart hive ops others on.1 below)
