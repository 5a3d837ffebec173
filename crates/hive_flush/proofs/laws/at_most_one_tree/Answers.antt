use Rattle.std.proofs.Common.{◌≡◌, ℕ, List, sym, ap, subst, ◌∙◌}
use Rattle.reg_tree.specs.Maps.{TreeMap}
use Rattle.base_block.specs.declared.block.BaseBlock.{BaseBlock}
use Rattle.hive_records.specs.Images.{BinsEncodeTree}
use Rattle.hive_flush_model.proofs.StoredTrees.{same_parts}
use Rattle.hive_flush.proofs.laws.at_most_one_tree.Goals as goal

made : TreeMap → ℕ → TreeMap × ℕ
made t n = (t, n)

pub returns : goal.returns
unfolding made
returns c = λ store primary log x y h k.
    let same = same_parts primary log h.block k.block h.bins k.bins h.in_use k.in_use in
    let moved = subst (λ (l : List ℕ). BinsEncodeTree l k.block.root k.block.minor x.0) same.1 (subst (λ (b : BaseBlock). BinsEncodeTree h.bins b.root b.minor x.0) same.0 h.tree.0) in
    let tree : x.0 ≡ y.0 = c.one_tree.ensures.one k.bins k.block.root k.block.minor x.0 y.0 moved k.tree.0 in
    let number : x.1 ≡ y.1 = sym h.number ∙ ap (λ (b : BaseBlock). b.applied.0) same.0 ∙ k.number in
    ap (λ (t : TreeMap). made t x.1) tree ∙ ap (made y.0) number
