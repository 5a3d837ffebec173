use Rattle.std.proofs.Common.{◌≡◌, ◌+◌, ◌<◌, ◌^◌, [], ◌∷◌, Some, length, take, sum_by, sym, arith, ap, subst, ◌∙◌, length-append}
use Rattle.std.proofs.lemmas.List.{take_all}
use Rattle.reg_tree_parts.specs.Nodes.{Entries, row_at, subkeys_of, HasSubkeys}
use Rattle.reg_tree_parts.specs.Rows.{Row}
use Rattle.hive_records.specs.NameEncodings.{name_bytes}
use Rattle.hive_records.specs.ListEncodings.{AreOffsets}
use Rattle.hive_emit.specs.CellWrites.{Makes, IsLongCell, Uses, cell_cost}
use Rattle.hive_emit.proofs.Makings.{all_push}
use Rattle.hive_emit.specs.EmittedKeys.{PutsSubkeys, IsOffsetOf, OwnAt}
use Rattle.hive_emit.proofs.Owns.{row_same, own_can}
use Rattle.hive_emit.proofs.KeyProofs.{no_subkeys_done, subkeys_next, subkeys_can, can_subkey, counted_subkey, counted_parts, key_made, long_stays, subkey_there, subkeys_few, both_made}
use Rattle.hive_emit.proofs.NewCells.{none_used, uses_more, both_used, lands_used, stops_more, stops_later}
use Rattle.hive_emit.specs.KeyCosts.{keys_cost, own_cost, below_cost}
use Rattle.hive_emit.proofs.KeySums.{keys_sum, row_sum, row_parts, own_least, below_next, below_within}
use Rattle.hive_emit.proofs.keys.+puts.Goals as goal

pub put_subkeys-put_key-requires : goal.put_subkeys-put_key-requires
put_subkeys-put_key-requires t c = (
  omega (arith, c.decreases, c.in-Some.ensures.smaller),
  (
    can_subkey (subkeys_of c.args.node.now) c.loop-index.index c.in-Some.subkey.now c.in-Some.ensures.at (subkeys_can c.args.node.now c.key.result.now c.in-Some.ensures.has c.key.ensures.here c.requires.can),
    (
      counted_subkey c.args.securities.now (subkeys_of c.args.node.now) c.loop-index.index c.in-Some.subkey.now c.in-Some.ensures.at (counted_parts c.args.securities.now c.args.node.now c.key.result.now c.in-Some.ensures.has c.key.ensures.here c.requires.counted).1,
      omega (arith, c.in-Some.ensures.smaller, c.requires.few),
    ),
  ),
)

pub put_subkeys-loop-index-init : goal.put_subkeys-loop-index-init
put_subkeys-loop-index-init t c = record {
  made = subst (λ ps. Makes c.args.image.now.bytes c.args.image.now.bytes (PutsSubkeys c.args.securities.now c.args.parent ps [])) (sym c.new-cell_offsets.ensures.items) (no_subkeys_done c.args.image.now.bytes c.args.securities.now c.args.parent);
  uses = none_used c.args.image.now.bytes;
  count = ap length c.new-cell_offsets.ensures.items;
  near = subst AreOffsets (sym c.new-cell_offsets.ensures.items) tt;
}

pub put_subkeys-unreachable-requires : goal.put_subkeys-unreachable-requires
put_subkeys-unreachable-requires t c = subkey_there (subkeys_of c.args.node.now) c.loop-index.index (omega (arith, c.loop-index-test.true, c.subkey_count-index-end.ensures.subkeys)) c.in_default.ensures.at

pub put_subkeys-loop-index-preserved : goal.put_subkeys-loop-index-preserved
put_subkeys-loop-index-preserved t c = record {
  made = subst (λ ps. Makes c.args.image.now.bytes c.put_key.new.image.bytes (PutsSubkeys c.args.securities.now c.args.parent ps (take (c.loop-index.index + 1) (subkeys_of c.args.node.now)))) (sym c.in_ok-push.ensures.items)
      (subkeys_next c.args.image.now.bytes c.loop-index.image.bytes c.put_key.new.image.bytes c.args.securities.now c.args.parent c.loop-index.cell_offsets.items (subkeys_of c.args.node.now) c.loop-index.index c.in-Ok.at c.in-Some.subkey.now c.in-Some.ensures.has.named c.in-Some.ensures.at c.loop-index.invariant.made c.in-Ok.ensures.made);
  uses = subst (Uses c.args.image.now.bytes c.put_key.new.image.bytes) (sym (below_next (subkeys_of c.args.node.now) c.loop-index.index c.in-Some.subkey.now c.in-Some.ensures.has.named c.in-Some.ensures.at))
      (both_used c.args.image.now.bytes c.loop-index.image.bytes c.put_key.new.image.bytes (sum_by (λ k. keys_cost k.1) (take c.loop-index.index (subkeys_of c.args.node.now))) (keys_cost c.in-Some.subkey.now) c.loop-index.invariant.uses c.in-Ok.ensures.uses);
  count = omega (arith, ap length c.in_ok-push.ensures.items, length-append c.loop-index.cell_offsets.items (c.in-Ok.at ∷ []), c.loop-index.invariant.count);
  near = subst AreOffsets (sym c.in_ok-push.ensures.items) (all_push (λ at. at < 2 ^ 32) c.loop-index.cell_offsets.items c.in-Ok.at c.loop-index.invariant.near (omega arith));
}

pub put_key-record_len-requires : goal.put_key-record_len-requires
put_key-record_len-requires t c = let few = ((own_can c.args.node.now c.key-key.result.now c.key-key.ensures.node c.key-key.ensures.here c.requires.can).fits (omega (arith, c.time-time.ensures))).name in subst (λ n. length (name_bytes n) < 2 ^ 16) (sym (c.units.ensures ∙ c.name.ensures)) few

pub put_key-put_own-requires-clause-few : goal.put_key-put_own-requires-clause-few
put_key-put_own-requires-clause-few t c = omega (arith, ap length c.deref.ensures.value, c.in-Ok-put_subkeys.ensures.count, subkeys_few c.args.node.now c.key-key.result.now c.in-Ok-put_subkeys.ensures.has c.key-key.ensures.here, c.requires.few)

pub put_key-key_node_fields-its-requires-clause-few : goal.put_key-key_node_fields-its-requires-clause-few
put_key-key_node_fields-its-requires-clause-few t c = omega (arith, subkeys_few c.args.node.now c.key-key.result.now c.in-Ok-put_subkeys.ensures.has c.key-key.ensures.here, c.requires.few)

pub put_key-fill_key-requires-clause-long : goal.put_key-fill_key-requires-clause-long
put_key-fill_key-requires-clause-long t c = λ row e.
    let len : c.record_len.result ≡ 76 + length (name_bytes row.name) = c.record_len.ensures ∙ ap (λ n. 76 + length (name_bytes n)) (c.units.ensures ∙ c.name.ensures) ∙ ap (λ (r : Row). 76 + length (name_bytes r.name)) (row_same c.args.node.now c.key-key.result.now row c.key-key.ensures.here e) in
    subst (λ n. IsLongCell c.put_own.new.image.bytes c.in-Ok.at n) len
    (long_stays c.new_cell.new.image.bytes c.put_own.new.image.bytes _ c.in-Ok.at c.record_len.result c.tiles.ensures.shown.0 c.tiles.ensures.shown.1 c.tiles.ensures.tiles c.tiles-2.ensures.tiles
    (both_made c.new_cell.new.image.bytes c.put_subkeys.new.image.bytes c.put_own.new.image.bytes _ _ c.in-Ok-put_subkeys.ensures.made (c.in-Ok-put_own.ensures.made row e)) c.in-Ok.ensures.1)

pub put_key-returns-in-Ok-fill_key-clause-made : goal.put_key-returns-in-Ok-fill_key-clause-made
put_key-returns-in-Ok-fill_key-clause-made t c =
    let here = c.key-key.ensures.here in
    let encoding : c.bytes.result.now ≡ c.key-key.result.now.descriptor = c.bytes.ensures ∙ c.descriptor.ensures in
    key_made c.args.securities.now c.args.image.now.bytes c.new_cell.new.image.bytes c.put_subkeys.new.image.bytes c.put_own.new.image.bytes c.fill_key.new.image.bytes c.args.parent c.in-Ok.at c.record_len.result c.offset-security.result c.in-Ok-put_own.own.class c.in-Ok-put_own.own.values c.in-Ok-put_own.own.subkey_list c.key-key.result.now c.key_node_fields-its.result c.args.node.now c.in-Ok-put_subkeys.cell_offsets.items
    (record {
      count = c.in-Ok-put_subkeys.ensures.count;
      near = c.in-Ok-put_subkeys.ensures.near;
      few = omega (arith, subkeys_few c.args.node.now c.key-key.result.now c.in-Ok-put_subkeys.ensures.has here, c.requires.few);
      near_at = omega arith;
      security_near = omega arith;
      has = c.in-Ok-put_subkeys.ensures.has;
      here = here;
      can = c.requires.can;
      time = c.in-Ok-fill_key.ensures.time c.key-key.result.now here;
      said = c.key_node_fields-its.ensures c.key-key.result.now here;
      offset = subst (λ d. IsOffsetOf c.args.securities.now d c.offset-security.result) encoding c.offset-security.ensures;
    })
    c.in-Ok.ensures.0 c.in-Ok-put_subkeys.ensures.made (subst (λ ps. Makes c.put_subkeys.new.image.bytes c.put_own.new.image.bytes (OwnAt c.in-Ok-put_own.own.class c.in-Ok-put_own.own.values c.in-Ok-put_own.own.subkey_list c.key-key.result.now ps (subkeys_of c.args.node.now))) c.deref.ensures.value (c.in-Ok-put_own.ensures.made c.key-key.result.now here)) (c.in-Ok-fill_key.ensures.filled c.key-key.result.now here)

-- what subkeys take
pub put_subkeys-returns-clause-uses : goal.put_subkeys-returns-clause-uses
put_subkeys-returns-clause-uses t c = subst (λ ks. Uses c.args.image.now.bytes c.loop-index.image.bytes (sum_by (λ k. keys_cost k.1) ks)) (take_all c.loop-index.index (subkeys_of c.args.node.now) (omega (arith, c.loop-index-test.false, c.subkey_count-index-end.ensures.subkeys))) c.loop-index.invariant.uses

pub put_subkeys-returns-in-Err-clause-stops : goal.put_subkeys-returns-in-Err-clause-stops
put_subkeys-returns-in-Err-clause-stops t c = stops_later c.args.image.now.bytes c.loop-index.image.bytes (sum_by (λ k. keys_cost k.1) (take c.loop-index.index (subkeys_of c.args.node.now))) (keys_cost c.in-Some.subkey.now) (below_cost c.args.node.now) c.in-Err.why (below_within (subkeys_of c.args.node.now) c.loop-index.index c.in-Some.subkey.now c.in-Some.ensures.has.named c.in-Some.ensures.at) c.loop-index.invariant.uses c.in-Err.ensures.stops

-- what a key takes with all below it
key_sum : (entries : Entries) (row : Row) → HasSubkeys entries (subkeys_of entries) → row_at entries [] ≡ Some row → cell_cost (76 + length (name_bytes row.name)) + below_cost entries + own_cost row (length (subkeys_of entries)) ≡ keys_cost entries
key_sum entries row has here = omega (arith, keys_sum entries row has here, row_sum row (length (subkeys_of entries)))

pub put_key-returns-in-Err-clause-stops : goal.put_key-returns-in-Err-clause-stops
put_key-returns-in-Err-clause-stops t c =
    let row : Row = c.key-key.result.now in
    let len : c.record_len.result ≡ 76 + length (name_bytes row.name) = c.record_len.ensures ∙ ap (λ xs. 76 + length (name_bytes xs)) (c.units.ensures ∙ c.name.ensures) in
    let least = own_least c.args.node.now row c.key-key.ensures.node c.key-key.ensures.here in
    stops_more c.args.image.now.bytes (cell_cost c.record_len.result) (keys_cost c.args.node.now) c.in-Err.why (omega (arith, len, least, row_parts row)) c.in-Err.ensures

pub put_key-returns-in-Err-put_subkeys-clause-stops : goal.put_key-returns-in-Err-put_subkeys-clause-stops
put_key-returns-in-Err-put_subkeys-clause-stops t c =
    let row : Row = c.key-key.result.now in
    let len : c.record_len.result ≡ 76 + length (name_bytes row.name) = c.record_len.ensures ∙ ap (λ xs. 76 + length (name_bytes xs)) (c.units.ensures ∙ c.name.ensures) in
    let whole : cell_cost (76 + length (name_bytes row.name)) + below_cost c.args.node.now + own_cost row (length (subkeys_of c.args.node.now)) ≡ keys_cost c.args.node.now = key_sum c.args.node.now row c.in-Err-put_subkeys.ensures.has c.key-key.ensures.here in
    stops_later c.args.image.now.bytes c.new_cell.new.image.bytes (cell_cost c.record_len.result) (below_cost c.args.node.now) (keys_cost c.args.node.now) c.in-Err-put_subkeys.why (omega (arith, len, whole)) (lands_used c.args.image.now.bytes c.new_cell.new.image.bytes c.in-Ok.at (cell_cost c.record_len.result) c.in-Ok.ensures.2) c.in-Err-put_subkeys.ensures.stops

pub put_key-returns-in-Err-put_own-clause-stops : goal.put_key-returns-in-Err-put_own-clause-stops
put_key-returns-in-Err-put_own-clause-stops t c =
    let row : Row = c.key-key.result.now in
    let len : c.record_len.result ≡ 76 + length (name_bytes row.name) = c.record_len.ensures ∙ ap (λ xs. 76 + length (name_bytes xs)) (c.units.ensures ∙ c.name.ensures) in
    let whole : cell_cost (76 + length (name_bytes row.name)) + below_cost c.args.node.now + own_cost row (length (subkeys_of c.args.node.now)) ≡ keys_cost c.args.node.now = key_sum c.args.node.now row c.in-Ok-put_subkeys.ensures.has c.key-key.ensures.here in
    let own : own_cost row (length c.deref.result.now) ≡ own_cost row (length (subkeys_of c.args.node.now)) = ap (own_cost row) (ap length c.deref.ensures.value ∙ c.in-Ok-put_subkeys.ensures.count) in
    stops_later c.args.image.now.bytes c.put_subkeys.new.image.bytes (cell_cost c.record_len.result + below_cost c.args.node.now) (own_cost row (length c.deref.result.now)) (keys_cost c.args.node.now) c.in-Err-put_own.why (omega (arith, len, whole, own))
    (both_used c.args.image.now.bytes c.new_cell.new.image.bytes c.put_subkeys.new.image.bytes (cell_cost c.record_len.result) (below_cost c.args.node.now) (lands_used c.args.image.now.bytes c.new_cell.new.image.bytes c.in-Ok.at (cell_cost c.record_len.result) c.in-Ok.ensures.2) c.in-Ok-put_subkeys.ensures.uses)
    (c.in-Err-put_own.ensures.stops row c.key-key.ensures.here)

pub put_key-returns-in-Ok-fill_key-clause-uses : goal.put_key-returns-in-Ok-fill_key-clause-uses
put_key-returns-in-Ok-fill_key-clause-uses t c =
    let row : Row = c.key-key.result.now in
    let len : c.record_len.result ≡ 76 + length (name_bytes row.name) = c.record_len.ensures ∙ ap (λ xs. 76 + length (name_bytes xs)) (c.units.ensures ∙ c.name.ensures) in
    let whole : cell_cost (76 + length (name_bytes row.name)) + below_cost c.args.node.now + own_cost row (length (subkeys_of c.args.node.now)) ≡ keys_cost c.args.node.now = key_sum c.args.node.now row c.in-Ok-put_subkeys.ensures.has c.key-key.ensures.here in
    let own : own_cost row (length c.deref.result.now) ≡ own_cost row (length (subkeys_of c.args.node.now)) = ap (own_cost row) (ap length c.deref.ensures.value ∙ c.in-Ok-put_subkeys.ensures.count) in
    let uses : Uses c.args.image.now.bytes c.put_own.new.image.bytes (keys_cost c.args.node.now) =
    uses_more c.args.image.now.bytes c.put_own.new.image.bytes (cell_cost c.record_len.result + below_cost c.args.node.now + own_cost row (length c.deref.result.now)) (keys_cost c.args.node.now) (omega (arith, len, whole, own))
    (both_used c.args.image.now.bytes c.put_subkeys.new.image.bytes c.put_own.new.image.bytes (cell_cost c.record_len.result + below_cost c.args.node.now) (own_cost row (length c.deref.result.now)) (both_used c.args.image.now.bytes c.new_cell.new.image.bytes c.put_subkeys.new.image.bytes (cell_cost c.record_len.result) (below_cost c.args.node.now) (lands_used c.args.image.now.bytes c.new_cell.new.image.bytes c.in-Ok.at (cell_cost c.record_len.result) c.in-Ok.ensures.2) c.in-Ok-put_subkeys.ensures.uses) (c.in-Ok-put_own.ensures.uses row c.key-key.ensures.here)) in
    λ more r. let x = uses more r in (x.0, (c.in-Ok-fill_key.ensures.filled row c.key-key.ensures.here).room x.0 more x.1)
