use Rattle.std.proofs.Common.{◌≡◌, ◌++◌, length, drop, flat_map, List, arith, refl, ◌∙◌, ap, sym, append_assoc, length-drop}
use Rattle.std.proofs.lemmas.List.{take_all}
use Rattle.reg_tree_parts.specs.Nodes.{subkeys_of}
use Rattle.reg_names.specs.Names.{folded}
use Rattle.hive_records.specs.Fields.{u16_bytes}
use Rattle.hive_records.specs.ListEncodings.{Subkey, hashed}
use Rattle.hive_emit.specs.KeyLists.{placed}
use Rattle.hive_emit.proofs.Leaves.{hash_more, placed_long}
use Rattle.hive_emit.proofs.lists.put_hashes.Goals as goal

pub loop-index-preserved : goal.loop-index-preserved
loop-index-preserved c = c.in_ok-put_hashed.ensures ∙ hash_more c.loop-index.encoding.items c.put_hashed_head.new.bytes.items c.args.cell_offsets.now (subkeys_of c.args.node.now) c.args.from c.loop-index.index _ c.in-Some.subkey.now _ c.loop-index-test.true refl c.in-Some.ensures.has.named c.in-Some.ensures.at (c.key.ensures.named ∙ ap folded (sym c.name.ensures) ∙ ap folded (sym c.units.ensures)) c.loop-index.invariant

pub returns : goal.returns
returns c =
    let subkey_list : List Subkey = placed c.args.cell_offsets.now (drop c.args.from (subkeys_of c.args.node.now)) in
    let long : length subkey_list ≡ length c.args.cell_offsets.now = placed_long c.args.cell_offsets.now (drop c.args.from (subkeys_of c.args.node.now)) (omega (arith, length-drop c.args.from (subkeys_of c.args.node.now), c.requires.within)) in
    c.loop-index.invariant ∙ ap (λ ks. c.put_hashed_head.new.bytes.items ++ flat_map hashed ks) (take_all c.loop-index.index subkey_list (omega (arith, long)))
    ∙ ap (λ bs. bs ++ flat_map hashed subkey_list) c.in_ok-put_hashed_head.ensures ∙ append_assoc c.args.encoding.now.items (u16_bytes 0x686c ++ u16_bytes (length c.args.cell_offsets.now)) (flat_map hashed subkey_list)
    ∙ ap (λ n. c.args.encoding.now.items ++ ((u16_bytes 0x686c ++ u16_bytes n) ++ flat_map hashed subkey_list)) (sym long)
