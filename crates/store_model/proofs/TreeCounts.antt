-- Changes leave as many trees as there were.
use Rattle.std.proofs.Common.{◌≡◌, ℕ, List, [], ◌∷◌, length, Option, Some, None, refl, ◌∙◌}
use Rattle.std.specs.Prelude.{slice_get}
use Rattle.std.proofs.lemmas.List.{length-set}
use Rattle.reg_tree.specs.Maps.{TreeMap}
use Rattle.reg_tree.specs.Operations.{hive_of}
use Rattle.reg_tree.specs.Judgement.{applied, applied_if, applied_one, changed}
use Rattle.reg_tree.specs.Sequences.{after_elements}
use Rattle.reg_tree.specs.declared.element.Element.{Element}
use Rattle.reg_tree.specs.declared.op.Op.{Op}

pub one_long : (trees : List TreeMap) (op : Op) (moment : ℕ) → length (applied_one trees op moment) ≡ length trees
one_long trees op moment = by_slot (slice_get trees (hive_of op))
  where
    by_slot : (o : Option TreeMap) → length (applied_if trees o op moment) ≡ length trees
    by_slot None = refl
    by_slot (Some tree) = length-set trees (hive_of op) (changed tree op moment)

pub ops_long : (trees : List TreeMap) (ops : List Op) (moment : ℕ) → length (applied trees ops moment) ≡ length trees
ops_long trees [] moment = refl
ops_long trees (op ∷ ops) moment = ops_long (applied_one trees op moment) ops moment ∙ one_long trees op moment

pub all_long : (trees : List TreeMap) (elements : List Element) → length (after_elements trees elements) ≡ length trees
all_long trees [] = refl
all_long trees (element ∷ elements) = all_long (applied trees element.ops element.moment) elements ∙ ops_long trees element.ops element.moment
