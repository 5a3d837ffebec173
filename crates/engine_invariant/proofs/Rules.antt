-- Which trees a store may have makes no difference to what operations do, and when they are legal.
use Rattle.std.proofs.Common.{◌≡◌, ℕ, List, [], ◌∷◌, refl, sym, ◌∙◌, ap, Some, None, cond}
use Rattle.reg_tree.specs.Maps.{TreeMap}
use Rattle.crash_model.specs.Changes.{AreLegal, replay, applied}
use Rattle.change_codec.specs.ModelChanges.{TimedOp, tree_rules}
use Rattle.engine_invariant.specs.Rules.{rules}

pub same_replay : (named : ℕ) (ops : List TimedOp) (t : TreeMap) → replay (rules named) ops t ≡ replay tree_rules ops t
unfolding rules
same_replay named [] t = refl
same_replay named (o ∷ os) t = ap (λ z. cond (tree_rules.legal o t) z None) (same_replay named os (tree_rules.apply o t))

pub same_applied : (named : ℕ) (ops : List TimedOp) (t : TreeMap) → applied (rules named) ops t ≡ applied tree_rules ops t
unfolding rules
same_applied named [] t = refl
same_applied named (o ∷ os) t = same_applied named os (tree_rules.apply o t)

pub same_legal : (named : ℕ) (ops : List TimedOp) (t : TreeMap) → AreLegal (rules named) ops t → AreLegal tree_rules ops t
same_legal named ops t h = sym (same_replay named ops t) ∙ h ∙ ap Some (same_applied named ops t)
