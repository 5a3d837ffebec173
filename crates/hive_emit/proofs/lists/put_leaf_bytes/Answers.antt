use Rattle.std.proofs.Common.{◌++◌, ◌∙◌, ap, sym, drop, arith, length-drop}
use Rattle.reg_tree_parts.specs.Nodes.{subkeys_of}
use Rattle.hive_records.specs.ListEncodings.{plain_leaf}
use Rattle.hive_emit.specs.KeyLists.{leaf_bytes, placed}
use Rattle.hive_emit.proofs.Leaves.{placed_places}
use Rattle.hive_emit.proofs.lists.put_leaf_bytes.Goals as goal

pub returns-in_ok-put_plain_leaf : goal.returns-in_ok-put_plain_leaf
returns-in_ok-put_plain_leaf c =
    c.in_ok-put_plain_leaf.ensures
    ∙ ap (λ os. c.args.encoding.now.items ++ plain_leaf os) (sym (placed_places c.args.cell_offsets.now (drop c.args.from (subkeys_of c.args.node.now)) (omega (arith, length-drop c.args.from (subkeys_of c.args.node.now), c.requires.within))))
    ∙ ap (λ b. c.args.encoding.now.items ++ leaf_bytes b (placed c.args.cell_offsets.now (drop c.args.from (subkeys_of c.args.node.now)))) (sym c.if-plain.true)
