use Rattle.std.proofs.Common.{◌≡◌, ◌≤◌, ◌++◌, length, drop, arith, length-drop, ◌∙◌, ap, subst}
use Rattle.reg_tree_parts.specs.Nodes.{subkeys_of}
use Rattle.hive_emit.specs.CellWrites.{Makes, Puts, cell_cost}
use Rattle.hive_emit.specs.KeyLists.{leaf_bytes, placed}
use Rattle.hive_emit.specs.CellCosts.{leaf_cost}
use Rattle.hive_emit.proofs.Leaves.{placed_long}
use Rattle.hive_emit.proofs.NewCells.{uses_more, lands_used, stops_more}
use Rattle.hive_emit.proofs.Sums.{leaf_long}
use Rattle.hive_emit.proofs.lists.put_leaf.Goals as goal

pub returns-in-Ok-clause-made : goal.returns-in-Ok-clause-made
returns-in-Ok-clause-made c = subst (λ t. Makes c.args.image.now.bytes c.put_cell.new.image.bytes (Puts c.in-Ok.at t)) (c.deref.ensures.value ∙ c.in_ok-put_leaf_bytes.ensures ∙ ap (λ xs. xs ++ leaf_bytes c.args.plain (placed c.args.cell_offsets.now (drop c.args.from (subkeys_of c.args.node.now)))) c.clear.ensures.items) c.in-Ok.ensures.0

pub returns-in-Ok-clause-uses : goal.returns-in-Ok-clause-uses
returns-in-Ok-clause-uses c =
    let subkey_list = placed c.args.cell_offsets.now (drop c.args.from (subkeys_of c.args.node.now)) in
    let long : length subkey_list ≡ length c.args.cell_offsets.now = placed_long c.args.cell_offsets.now (drop c.args.from (subkeys_of c.args.node.now)) (omega (arith, length-drop c.args.from (subkeys_of c.args.node.now), c.requires.within)) in
    let encoding = ap length (c.in_ok-put_leaf_bytes.ensures ∙ ap (λ xs. xs ++ leaf_bytes c.args.plain subkey_list) c.clear.ensures.items) in
    let most : cell_cost c.len.result ≤ leaf_cost (length c.args.cell_offsets.now) = omega (arith, c.len.ensures, encoding, long, leaf_long c.args.plain subkey_list) in
    uses_more c.args.image.now.bytes c.put_cell.new.image.bytes (cell_cost c.len.result) (leaf_cost (length c.args.cell_offsets.now)) most (lands_used c.args.image.now.bytes c.put_cell.new.image.bytes c.in-Ok.at (cell_cost c.len.result) c.in-Ok.ensures.1)

pub returns-in-Err-clause-stops : goal.returns-in-Err-clause-stops
returns-in-Err-clause-stops c =
    let subkey_list = placed c.args.cell_offsets.now (drop c.args.from (subkeys_of c.args.node.now)) in
    let long : length subkey_list ≡ length c.args.cell_offsets.now = placed_long c.args.cell_offsets.now (drop c.args.from (subkeys_of c.args.node.now)) (omega (arith, length-drop c.args.from (subkeys_of c.args.node.now), c.requires.within)) in
    let encoding = ap length (c.in_ok-put_leaf_bytes.ensures ∙ ap (λ xs. xs ++ leaf_bytes c.args.plain subkey_list) c.clear.ensures.items) in
    let most : cell_cost c.len.result ≤ leaf_cost (length c.args.cell_offsets.now) = omega (arith, c.len.ensures, encoding, long, leaf_long c.args.plain subkey_list) in
    stops_more c.args.image.now.bytes (cell_cost c.len.result) (leaf_cost (length c.args.cell_offsets.now)) c.in-Err.why most c.in-Err.ensures
