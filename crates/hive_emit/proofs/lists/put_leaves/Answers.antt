use Rattle.std.proofs.Common.{◌≡◌, ◌+◌, ◌-◌, ◌*◌, ◌<◌, ◌++◌, [], ◌∷◌, ℕ, min, length, take, drop, sym, ap, subst, arith, length-append, length-take, length-drop}
use Rattle.std.proofs.lemmas.List.{take_all}
use Rattle.reg_tree_parts.specs.Nodes.{subkeys_of}
use Rattle.hive_emit.specs.CellWrites.{Makes}
use Rattle.hive_emit.specs.KeyLists.{placed, ListedLeaves}
use Rattle.hive_emit.proofs.Leaves.{no_leaves, one_leaf_more, placed_more, chunk_long}
use Rattle.hive_emit.specs.CellCosts.{leaf_cost, leaves_cost}
use Rattle.hive_emit.proofs.NewCells.{none_used, uses_more, both_used, stops_later}
use Rattle.hive_emit.proofs.lists.put_leaves.Goals as goal

pub loop-index-init : goal.loop-index-init
loop-index-init c = record { made = subst (λ ps. Makes c.args.image.now.bytes c.args.image.now.bytes (ListedLeaves c.args.plain ps [])) (sym c.new-leaves.ensures.items) (no_leaves c.args.image.now.bytes c.args.plain); uses = uses_more c.args.image.now.bytes c.args.image.now.bytes 0 (8 * min 0 (length c.args.cell_offsets.now) + 0) (omega arith) (none_used c.args.image.now.bytes); count = ap length c.new-leaves.ensures.items }

pub loop-index-preserved : goal.loop-index-preserved
loop-index-preserved c =
    let from : ℕ = c.loop-index.index * 500 in
    let from_is : from ≡ 500 * c.loop-index.index = omega arith in
    let to_is : c.min-to.result ≡ min (length c.args.cell_offsets.now) (from + 500) = omega (arith, c.min-to.ensures) in
    let inside : from < length c.args.cell_offsets.now = omega (arith, c.loop-index-test.true, c.div_ceil-index-end.ensures) in
    let long = chunk_long c.args.cell_offsets.now (subkeys_of c.args.node.now) from c.min-to.result c.requires.within inside to_is in
    record {
      made = subst (λ ps. Makes c.args.image.now.bytes c.put_leaf.new.image.bytes (ListedLeaves c.args.plain ps (placed (take (500 * (c.loop-index.index + 1)) c.args.cell_offsets.now) (subkeys_of c.args.node.now)))) (sym c.in_ok-push.ensures.items)
          (subst (λ ks. Makes c.args.image.now.bytes c.put_leaf.new.image.bytes (ListedLeaves c.args.plain (c.loop-index.leaves.items ++ c.in-Ok.at ∷ []) ks)) (placed_more c.args.cell_offsets.now (subkeys_of c.args.node.now) c.loop-index.index from c.min-to.result c.requires.within inside from_is to_is)
          (one_leaf_more c.args.image.now.bytes c.loop-index.image.bytes c.put_leaf.new.image.bytes c.args.plain c.loop-index.leaves.items (placed (take (500 * c.loop-index.index) c.args.cell_offsets.now) (subkeys_of c.args.node.now)) (placed (take (c.min-to.result - from) (drop from c.args.cell_offsets.now)) (drop from (subkeys_of c.args.node.now))) c.in-Ok.at
          (omega (arith, long, to_is, inside)) (omega (arith, long, to_is, inside)) c.loop-index.invariant.made c.in-Ok.ensures.made));
      uses = uses_more c.args.image.now.bytes c.put_leaf.new.image.bytes (8 * min (500 * c.loop-index.index) (length c.args.cell_offsets.now) + 8 * c.loop-index.index + leaf_cost (length (take (c.min-to.result - from) (drop from c.args.cell_offsets.now)))) (8 * min (500 * (c.loop-index.index + 1)) (length c.args.cell_offsets.now) + 8 * (c.loop-index.index + 1)) (omega (arith, to_is, inside, length-take (c.min-to.result - from) (drop from c.args.cell_offsets.now), length-drop from c.args.cell_offsets.now))
          (both_used c.args.image.now.bytes c.loop-index.image.bytes c.put_leaf.new.image.bytes (8 * min (500 * c.loop-index.index) (length c.args.cell_offsets.now) + 8 * c.loop-index.index) (leaf_cost (length (take (c.min-to.result - from) (drop from c.args.cell_offsets.now)))) c.loop-index.invariant.uses c.in-Ok.ensures.uses);
      count = omega (arith, ap length c.in_ok-push.ensures.items, length-append c.loop-index.leaves.items (c.in-Ok.at ∷ []), c.loop-index.invariant.count);
    }

pub returns-clause-made : goal.returns-clause-made
returns-clause-made c = subst (λ ps. Makes c.args.image.now.bytes c.loop-index.image.bytes (ListedLeaves c.args.plain c.loop-index.leaves.items (placed ps (subkeys_of c.args.node.now)))) (take_all (500 * c.loop-index.index) c.args.cell_offsets.now (omega (arith, c.loop-index-test.false, c.div_ceil-index-end.ensures))) c.loop-index.invariant.made

pub returns-clause-uses : goal.returns-clause-uses
returns-clause-uses c = uses_more c.args.image.now.bytes c.loop-index.image.bytes (8 * min (500 * c.loop-index.index) (length c.args.cell_offsets.now) + 8 * c.loop-index.index) (leaves_cost (length c.args.cell_offsets.now)) (omega (arith, c.loop-index-test.false, c.div_ceil-index-end.ensures)) c.loop-index.invariant.uses

pub returns-in-Err-clause-stops : goal.returns-in-Err-clause-stops
returns-in-Err-clause-stops c =
    let from : ℕ = c.loop-index.index * 500 in
    let to_is : c.min-to.result ≡ min (length c.args.cell_offsets.now) (from + 500) = omega (arith, c.min-to.ensures) in
    let inside : from < length c.args.cell_offsets.now = omega (arith, c.loop-index-test.true, c.div_ceil-index-end.ensures) in
    stops_later c.args.image.now.bytes c.loop-index.image.bytes (8 * min (500 * c.loop-index.index) (length c.args.cell_offsets.now) + 8 * c.loop-index.index) (leaf_cost (length (take (c.min-to.result - from) (drop from c.args.cell_offsets.now)))) (leaves_cost (length c.args.cell_offsets.now)) c.in-Err.why
    (omega (arith, to_is, inside, length-take (c.min-to.result - from) (drop from c.args.cell_offsets.now), length-drop from c.args.cell_offsets.now)) c.loop-index.invariant.uses c.in-Err.ensures.stops
