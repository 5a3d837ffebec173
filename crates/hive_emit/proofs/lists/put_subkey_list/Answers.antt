use Rattle.std.proofs.Common.{◌≡◌, ◌+◌, ◌≤◌, ◌++◌, length, arith, ◌∙◌, ap, subst, sym}
use Rattle.reg_tree_parts.specs.Nodes.{subkeys_of}
use Rattle.hive_records.specs.ListEncodings.{indirect}
use Rattle.hive_emit.specs.CellWrites.{Makes, Puts, cell_cost}
use Rattle.hive_emit.specs.KeyLists.{placed, SubkeysAt}
use Rattle.hive_emit.proofs.Leaves.{no_subkeys_made, one_leaf_made, leaves_made, placed_long, nothing_placed, is_zero, not_zero}
use Rattle.hive_records.proofs.Sizes.{long_indirect}
use Rattle.hive_emit.specs.CellCosts.{leaf_cost, leaves_cost, subkeys_cost}
use Rattle.hive_emit.proofs.NewCells.{none_used, uses_more, both_used, lands_used, stops_more, stops_later}
use Rattle.hive_emit.proofs.lists.put_subkey_list.Goals as goal

pub returns-then-is_empty-clause-made : goal.returns-then-is_empty-clause-made
returns-then-is_empty-clause-made c = subst (λ ks. Makes c.args.image.now.bytes c.args.image.now.bytes (SubkeysAt 0xffff_ffff c.args.plain ks)) (sym (nothing_placed c.args.cell_offsets.now (subkeys_of c.args.node.now) (is_zero (length c.args.cell_offsets.now) c.if-is_empty.ensures))) (no_subkeys_made c.args.image.now.bytes c.args.plain)

pub returns-in-Ok-clause-made : goal.returns-in-Ok-clause-made
returns-in-Ok-clause-made c =
    let long = placed_long c.args.cell_offsets.now (subkeys_of c.args.node.now) (omega (arith, c.requires.all)) in
    one_leaf_made c.args.image.now.bytes c.put_leaf.new.image.bytes c.args.plain (placed c.args.cell_offsets.now (subkeys_of c.args.node.now)) c.in-Ok.list (let some = not_zero (length c.args.cell_offsets.now) c.if-is_empty.ensures in omega (arith, some, long)) (omega (arith, long)) c.in-Ok.ensures.made

pub returns-in-Ok-put_cell-clause-made : goal.returns-in-Ok-put_cell-clause-made
returns-in-Ok-put_cell-clause-made c =
    let long = placed_long c.args.cell_offsets.now (subkeys_of c.args.node.now) (omega (arith, c.requires.all)) in
    let encoding : c.deref-2.result.now ≡ indirect c.in-Ok-put_leaves.leaves.items = c.deref-2.ensures.value ∙ c.in_ok-put_indirect.ensures ∙ ap (λ xs. xs ++ indirect c.deref.result.now) c.clear.ensures.items ∙ ap indirect c.deref.ensures.value in
    leaves_made c.args.image.now.bytes c.put_leaves.new.image.bytes c.put_cell.new.image.bytes c.args.plain c.in-Ok-put_leaves.leaves.items (placed c.args.cell_offsets.now (subkeys_of c.args.node.now)) c.in-Ok-put_cell.list (omega (arith, long)) (omega (arith, c.in-Ok-put_leaves.ensures.count, c.requires.few)) c.in-Ok-put_leaves.ensures.made
    (subst (λ t. Makes c.put_leaves.new.image.bytes c.put_cell.new.image.bytes (Puts c.in-Ok-put_cell.list t)) encoding c.in-Ok-put_cell.ensures.0)

pub returns-then-is_empty-clause-uses : goal.returns-then-is_empty-clause-uses
returns-then-is_empty-clause-uses c = uses_more c.args.image.now.bytes c.args.image.now.bytes 0 (subkeys_cost (length c.args.cell_offsets.now)) (omega arith) (none_used c.args.image.now.bytes)

pub returns-in-Ok-clause-uses : goal.returns-in-Ok-clause-uses
returns-in-Ok-clause-uses c =
    let some = not_zero (length c.args.cell_offsets.now) c.if-is_empty.ensures in
    uses_more c.args.image.now.bytes c.put_leaf.new.image.bytes (leaf_cost (length c.args.cell_offsets.now)) (subkeys_cost (length c.args.cell_offsets.now)) (omega (arith, some)) c.in-Ok.ensures.uses

pub returns-in-Err-clause-stops : goal.returns-in-Err-clause-stops
returns-in-Err-clause-stops c =
    let some = not_zero (length c.args.cell_offsets.now) c.if-is_empty.ensures in
    stops_more c.args.image.now.bytes (leaf_cost (length c.args.cell_offsets.now)) (subkeys_cost (length c.args.cell_offsets.now)) c.in-Err.why (omega (arith, some)) c.in-Err.ensures.stops

pub returns-in-Ok-put_cell-clause-uses : goal.returns-in-Ok-put_cell-clause-uses
returns-in-Ok-put_cell-clause-uses c =
    let encoding = ap length (c.in_ok-put_indirect.ensures ∙ ap (λ xs. xs ++ indirect c.deref.result.now) c.clear.ensures.items ∙ ap indirect c.deref.ensures.value) in
    let bound : leaves_cost (length c.args.cell_offsets.now) + cell_cost c.len.result ≤ subkeys_cost (length c.args.cell_offsets.now) = omega (arith, c.len.ensures, encoding, long_indirect c.in-Ok-put_leaves.leaves.items, c.in-Ok-put_leaves.ensures.count) in
    uses_more c.args.image.now.bytes c.put_cell.new.image.bytes (leaves_cost (length c.args.cell_offsets.now) + cell_cost c.len.result) (subkeys_cost (length c.args.cell_offsets.now)) bound
    (both_used c.args.image.now.bytes c.put_leaves.new.image.bytes c.put_cell.new.image.bytes (leaves_cost (length c.args.cell_offsets.now)) (cell_cost c.len.result) c.in-Ok-put_leaves.ensures.uses (lands_used c.put_leaves.new.image.bytes c.put_cell.new.image.bytes c.in-Ok-put_cell.list (cell_cost c.len.result) c.in-Ok-put_cell.ensures.1))

pub returns-in-Err-put_leaves-clause-stops : goal.returns-in-Err-put_leaves-clause-stops
returns-in-Err-put_leaves-clause-stops c = stops_more c.args.image.now.bytes (leaves_cost (length c.args.cell_offsets.now)) (subkeys_cost (length c.args.cell_offsets.now)) c.in-Err-put_leaves.why (omega arith) c.in-Err-put_leaves.ensures.stops

pub returns-clause-stops : goal.returns-clause-stops
returns-clause-stops c =
    let encoding = ap length (c.in_ok-put_indirect.ensures ∙ ap (λ xs. xs ++ indirect c.deref.result.now) c.clear.ensures.items ∙ ap indirect c.deref.ensures.value) in
    let bound : leaves_cost (length c.args.cell_offsets.now) + cell_cost c.len.result ≤ subkeys_cost (length c.args.cell_offsets.now) = omega (arith, c.len.ensures, encoding, long_indirect c.in-Ok-put_leaves.leaves.items, c.in-Ok-put_leaves.ensures.count) in
    stops_later c.args.image.now.bytes c.put_leaves.new.image.bytes (leaves_cost (length c.args.cell_offsets.now)) (cell_cost c.len.result) (subkeys_cost (length c.args.cell_offsets.now)) c.in-Err-put_cell.why bound c.in-Ok-put_leaves.ensures.uses c.in-Err-put_cell.ensures
