use Rattle.std.proofs.Common.{◌≡◌, inl, inr, ap, sym, ◌∙◌, subst, arith, Result, Ok, Err, slice_get}
use Rattle.std.specs.Prelude.{IfErr, IfOk}
use Rattle.std.proofs.lemmas.Option.{same_Some}
use Rattle.refusals.specs.declared.refusal.Refusal.{Refusal}
use Rattle.refusals.specs.declared.refusal.Refusal.TheVariants.{NoMemory}
use Rattle.reg_tree.specs.Maps.{TreeMap, weight}
use Rattle.reg_tree.specs.Fresh.{fresh_tree}
use Rattle.hive_flush.specs.Creation.{IsImageOf}
use Rattle.hive_flush.specs.Decoders.{IsRefusedFor}
use Rattle.recovery.proofs.FreshTree.{light}
use Rattle.recovery.proofs.creation.image_of_new.Goals as goal

-- a light tree is refused for memory alone
for_memory : {T : Type 0} (result : Result T Refusal) (tree : TreeMap) → tree ≡ fresh_tree → IfErr result (IsRefusedFor (weight tree)) → IfErr result (λ why. why ≡ NoMemory)
for_memory (Ok x) tree is r = tt
for_memory (Err why) tree is (inl memory) = memory
for_memory (Err why) tree is (inr (large, heavy)) = absurd (omega (arith, heavy, ap weight is, light))

pub returns-clause-image : goal.returns-clause-image
returns-clause-image c =
    let is = same_Some c.tree_at.result.now fresh_tree (sym c.tree_at.ensures ∙ ap (λ ts. slice_get ts 0) c.in_ok-trees.ensures) in
    subst (λ (t : TreeMap). IfOk c.of.result (IsImageOf c.args.id t 0)) is c.of.ensures.image

pub returns-clause-refused : goal.returns-clause-refused
returns-clause-refused c =
    let is = same_Some c.tree_at.result.now fresh_tree (sym c.tree_at.ensures ∙ ap (λ ts. slice_get ts 0) c.in_ok-trees.ensures) in
    for_memory c.of.result c.tree_at.result.now is c.of.ensures.refused
