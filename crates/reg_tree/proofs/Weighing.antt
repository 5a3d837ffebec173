-- An operation that may be carried out is refused by the weight of what it leaves, and by nothing else.
use Rattle.std.proofs.Common.{◌≡◌, ℕ, Bool, true, false, cond, Result, Ok, Err, List, Some, refl, sym, ◌∙◌, ap}
use Rattle.std.specs.Prelude.{nat_lt, slice_get}
use Rattle.std.specs.Result.{is_err}
use Rattle.refusals.specs.declared.refusal.Refusal.{Refusal}
use Rattle.refusals.specs.declared.refusal.Refusal.TheVariants.{TooLarge}
use Rattle.refusals.specs.declared.limits.TheConstants.{MOST_WEIGHT}
use Rattle.reg_tree.specs.Maps.{TreeMap, weight}
use Rattle.reg_tree.specs.Operations.{hive_of}
use Rattle.reg_tree.specs.Judgement.{judged, changed, legal_after, legal_in, legal_if, legal, outweighs, outweighs_if}
use Rattle.reg_tree.specs.declared.op.Op.{Op}
use Rattle.reg_tree.specs.declared.op.Op.TheVariants.{CreateKey, DeleteKey, SetValue, DeleteValue}
use Rattle.reg_tree.specs.declared.op.Legality.{Legality}
use Rattle.reg_tree.specs.declared.op.Legality.TheVariants.{Legal}
use Rattle.reg_tree.proofs.Times.{weight_any_moment}

-- what is refused for its weight is too large
by_weight : (op : Op) (total : ℕ) → legal_after op (Ok Legal) total ≡ cond (is_err (legal_after op (Ok Legal) total)) (Err TooLarge) (Ok Legal)
by_weight (CreateKey hive path) total = elim (nat_lt MOST_WEIGHT total) as (λ b. cond {A = Result Legality Refusal} b (Err TooLarge) (Ok Legal) ≡ cond (is_err (cond {A = Result Legality Refusal} b (Err TooLarge) (Ok Legal))) (Err TooLarge) (Ok Legal)) [ true ↦ refl | false ↦ refl ]
by_weight (DeleteKey hive path) total = refl
by_weight (SetValue hive path name kind bytes) total = elim (nat_lt MOST_WEIGHT total) as (λ b. cond {A = Result Legality Refusal} b (Err TooLarge) (Ok Legal) ≡ cond (is_err (cond {A = Result Legality Refusal} b (Err TooLarge) (Ok Legal))) (Err TooLarge) (Ok Legal)) [ true ↦ refl | false ↦ refl ]
by_weight (DeleteValue hive path name) total = refl

-- on one tree, at whatever moment
pub legal_by_weight : (tree : TreeMap) (op : Op) (moment : ℕ) → judged tree op ≡ Ok Legal → legal_in tree op ≡ cond (is_err (legal_after op (Ok Legal) (weight (changed tree op moment)))) (Err TooLarge) (Ok Legal)
legal_by_weight tree op moment may =
    ap (λ j. legal_after op j (weight (changed tree op 0))) may ∙ by_weight op (weight (changed tree op 0))
    ∙ ap (λ total. cond (is_err (legal_after op (Ok Legal) total)) (Err TooLarge) (Ok Legal)) (weight_any_moment tree op 0 moment)

-- so the weight of the tree that was made decides it
pub told_by_weight : (tree made : TreeMap) (op : Op) (moment : ℕ) (over b : Bool) → judged tree op ≡ Ok Legal → made ≡ changed tree op moment → over ≡ is_err (legal_after op (Ok Legal) (weight made)) → over ≡ b → legal_in tree op ≡ cond b (Err TooLarge) (Ok Legal)
told_by_weight tree made op moment over b may is weighs tested =
    legal_by_weight tree op moment may ∙ ap (λ left. cond (is_err (legal_after op (Ok Legal) (weight left))) (Err TooLarge) (Ok Legal)) (sym is)
    ∙ ap (λ t. cond t (Err TooLarge) (Ok Legal)) (sym weighs ∙ tested)

-- and of all hives
pub weight_refuses : (trees : List TreeMap) (op : Op) (moment : ℕ) (tree : TreeMap) → slice_get trees (hive_of op) ≡ Some tree → judged tree op ≡ Ok Legal → legal trees op ≡ cond (outweighs trees op moment) (Err TooLarge) (Ok Legal)
weight_refuses trees op moment tree there may =
    ap (λ o. legal_if o op) there ∙ legal_by_weight tree op moment may ∙ ap (λ o. cond (outweighs_if o op moment) (Err TooLarge) (Ok Legal)) (sym there)
