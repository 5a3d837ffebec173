use Rattle.std.proofs.Common.{◌≡◌, ◌+◌, length, sym, ap, subst, arith}
use Rattle.reg_tree_parts.specs.Nodes.{subkeys_of}
use Rattle.reg_tree_parts.specs.Rows.{Row}
use Rattle.hive_emit.specs.CellWrites.{Makes}
use Rattle.hive_emit.specs.Values.{CanPutAll, ValuesAt}
use Rattle.hive_emit.specs.EmittedKeys.{ClassAt, OwnAt}
use Rattle.hive_emit.proofs.Owns.{own_made, own_can, row_same}
use Rattle.hive_emit.specs.CellCosts.{values_cost, subkeys_cost}
use Rattle.hive_emit.proofs.NewCells.{uses_more, both_used, stops_more, stops_later}
use Rattle.hive_emit.specs.KeyCosts.{class_cost, own_cost}
use Rattle.hive_emit.proofs.keys.put_own.Goals as goal

pub put_values-requires : goal.put_values-requires
put_values-requires c = subst CanPutAll (sym c.values.ensures) (own_can c.args.node.now c.key-key.result.now c.key-key.ensures.node c.key-key.ensures.here c.requires.can).values

pub returns-clause-made : goal.returns-clause-made
returns-clause-made c = λ row e. subst (λ (r : Row). Makes c.args.image.now.bytes c.put_subkey_list.new.image.bytes (OwnAt c.in-Ok.class c.in-Ok-put_values.values c.in-Ok-put_subkey_list.subkey_list r c.args.cell_offsets.now (subkeys_of c.args.node.now))) (row_same c.args.node.now c.key-key.result.now row c.key-key.ensures.here e)
    (own_made c.args.image.now.bytes c.put_class.new.image.bytes c.put_values.new.image.bytes c.put_subkey_list.new.image.bytes c.in-Ok.class c.in-Ok-put_values.values c.in-Ok-put_subkey_list.subkey_list c.key-key.result.now c.args.cell_offsets.now (subkeys_of c.args.node.now) c.is_plain.result c.requires.near c.requires.all c.is_plain.ensures
    (subst (λ cs. Makes c.args.image.now.bytes c.put_class.new.image.bytes (ClassAt c.in-Ok.class cs)) (c.class.ensures) c.in-Ok.ensures.made)
    (subst (λ vs. Makes c.put_class.new.image.bytes c.put_values.new.image.bytes (ValuesAt c.in-Ok-put_values.values vs)) c.values.ensures c.in-Ok-put_values.ensures.made)
    c.in-Ok-put_subkey_list.ensures.made)

pub returns-clause-uses : goal.returns-clause-uses
returns-clause-uses c = λ row e.
    let class : class_cost (length c.class.result.now) ≡ class_cost (length c.key-key.result.now.class) = ap (λ xs. class_cost (length xs)) (c.class.ensures) in
    let values : values_cost c.values.result.now ≡ values_cost c.key-key.result.now.values = ap values_cost c.values.ensures in
    let same : own_cost c.key-key.result.now (length c.args.cell_offsets.now) ≡ own_cost row (length c.args.cell_offsets.now) = ap (λ (r : Row). own_cost r (length c.args.cell_offsets.now)) (row_same c.args.node.now c.key-key.result.now row c.key-key.ensures.here e) in
    uses_more c.args.image.now.bytes c.put_subkey_list.new.image.bytes (class_cost (length c.class.result.now) + values_cost c.values.result.now + subkeys_cost (length c.args.cell_offsets.now)) (own_cost row (length c.args.cell_offsets.now)) (omega (arith, class, values, same))
    (both_used c.args.image.now.bytes c.put_values.new.image.bytes c.put_subkey_list.new.image.bytes (class_cost (length c.class.result.now) + values_cost c.values.result.now) (subkeys_cost (length c.args.cell_offsets.now)) (both_used c.args.image.now.bytes c.put_class.new.image.bytes c.put_values.new.image.bytes (class_cost (length c.class.result.now)) (values_cost c.values.result.now) c.in-Ok.ensures.uses c.in-Ok-put_values.ensures.uses) c.in-Ok-put_subkey_list.ensures.uses)

pub returns-in-Err-clause-stops : goal.returns-in-Err-clause-stops
returns-in-Err-clause-stops c = λ row e.
    let class : class_cost (length c.class.result.now) ≡ class_cost (length c.key-key.result.now.class) = ap (λ xs. class_cost (length xs)) (c.class.ensures) in
    let same : own_cost c.key-key.result.now (length c.args.cell_offsets.now) ≡ own_cost row (length c.args.cell_offsets.now) = ap (λ (r : Row). own_cost r (length c.args.cell_offsets.now)) (row_same c.args.node.now c.key-key.result.now row c.key-key.ensures.here e) in
    stops_more c.args.image.now.bytes (class_cost (length c.class.result.now)) (own_cost row (length c.args.cell_offsets.now)) c.in-Err.why (omega (arith, class, same)) c.in-Err.ensures.stops

pub returns-in-Err-put_values-clause-stops : goal.returns-in-Err-put_values-clause-stops
returns-in-Err-put_values-clause-stops c = λ row e.
    let class : class_cost (length c.class.result.now) ≡ class_cost (length c.key-key.result.now.class) = ap (λ xs. class_cost (length xs)) (c.class.ensures) in
    let values : values_cost c.values.result.now ≡ values_cost c.key-key.result.now.values = ap values_cost c.values.ensures in
    let same : own_cost c.key-key.result.now (length c.args.cell_offsets.now) ≡ own_cost row (length c.args.cell_offsets.now) = ap (λ (r : Row). own_cost r (length c.args.cell_offsets.now)) (row_same c.args.node.now c.key-key.result.now row c.key-key.ensures.here e) in
    stops_later c.args.image.now.bytes c.put_class.new.image.bytes (class_cost (length c.class.result.now)) (values_cost c.values.result.now) (own_cost row (length c.args.cell_offsets.now)) c.in-Err-put_values.why (omega (arith, class, values, same)) c.in-Ok.ensures.uses c.in-Err-put_values.ensures.stops

pub returns-in-Err-put_subkey_list-clause-stops : goal.returns-in-Err-put_subkey_list-clause-stops
returns-in-Err-put_subkey_list-clause-stops c = λ row e.
    let class : class_cost (length c.class.result.now) ≡ class_cost (length c.key-key.result.now.class) = ap (λ xs. class_cost (length xs)) (c.class.ensures) in
    let values : values_cost c.values.result.now ≡ values_cost c.key-key.result.now.values = ap values_cost c.values.ensures in
    let same : own_cost c.key-key.result.now (length c.args.cell_offsets.now) ≡ own_cost row (length c.args.cell_offsets.now) = ap (λ (r : Row). own_cost r (length c.args.cell_offsets.now)) (row_same c.args.node.now c.key-key.result.now row c.key-key.ensures.here e) in
    stops_later c.args.image.now.bytes c.put_values.new.image.bytes (class_cost (length c.class.result.now) + values_cost c.values.result.now) (subkeys_cost (length c.args.cell_offsets.now)) (own_cost row (length c.args.cell_offsets.now)) c.in-Err-put_subkey_list.why (omega (arith, class, values, same)) (both_used c.args.image.now.bytes c.put_class.new.image.bytes c.put_values.new.image.bytes (class_cost (length c.class.result.now)) (values_cost c.values.result.now) c.in-Ok.ensures.uses c.in-Ok-put_values.ensures.uses) c.in-Err-put_subkey_list.ensures.stops
