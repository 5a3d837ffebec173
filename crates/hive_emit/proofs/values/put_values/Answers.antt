use Rattle.std.proofs.Common.{◌≡◌, ◌++◌, ◌+◌, ◌≤◌, ℕ, length, sum_by, arith, ◌∙◌, ap, subst}
use Rattle.hive_records.specs.ListEncodings.{offsets_bytes}
use Rattle.hive_emit.specs.CellWrites.{Makes, Puts, cell_cost}
use Rattle.hive_emit.proofs.ValueMaps.{values_made, none_made}
use Rattle.std.specs.FinMap as finite
use Rattle.hive_records.proofs.WordsAgain.{offsets_length}
use Rattle.hive_emit.specs.CellCosts.{value_cost, values_cost}
use Rattle.hive_emit.proofs.NewCells.{none_used, uses_more, both_used, lands_used, stops_more, stops_later}
use Rattle.hive_emit.proofs.values.put_values.Goals as goal

pub returns-then-len-eq0-clause-made : goal.returns-then-len-eq0-clause-made
returns-then-len-eq0-clause-made c = none_made c.args.image.now.bytes c.args.values.now c.requires (omega (arith, c.len.ensures, c.if-len-eq0.true))

pub returns-in-Ok-put_cell-clause-made : goal.returns-in-Ok-put_cell-clause-made
returns-in-Ok-put_cell-clause-made c =
    let encoding : c.deref-2.result.now ≡ offsets_bytes c.in-Ok.cell_offsets.items = c.deref-2.ensures.value ∙ c.in_ok-put_offsets.ensures ∙ ap (λ xs. xs ++ offsets_bytes c.deref.result.now) c.clear.ensures.items ∙ ap offsets_bytes c.deref.ensures.value in
    values_made c.args.image.now.bytes c.put_each.new.image.bytes c.put_cell.new.image.bytes c.in-Ok-put_cell.list c.in-Ok.cell_offsets.items c.args.values.now c.requires (omega arith) c.in-Ok.ensures.made
    (subst (λ t. Makes c.put_each.new.image.bytes c.put_cell.new.image.bytes (Puts c.in-Ok-put_cell.list t)) encoding c.in-Ok-put_cell.ensures.0)

pub returns-then-len-eq0-clause-uses : goal.returns-then-len-eq0-clause-uses
returns-then-len-eq0-clause-uses c = uses_more c.args.image.now.bytes c.args.image.now.bytes 0 (values_cost c.args.values.now) (omega arith) (none_used c.args.image.now.bytes)

pub returns-in-Ok-put_cell-clause-uses : goal.returns-in-Ok-put_cell-clause-uses
returns-in-Ok-put_cell-clause-uses c =
    let sum : ℕ = sum_by value_cost (finite.values c.args.values.now) in
    let encoding = ap length (c.in_ok-put_offsets.ensures ∙ ap (λ xs. xs ++ offsets_bytes c.deref.result.now) c.clear.ensures.items ∙ ap offsets_bytes c.deref.ensures.value) in
    let bound : sum_by value_cost (finite.values c.args.values.now) + cell_cost c.len-2.result ≤ values_cost c.args.values.now = omega (arith, c.len.ensures, c.if-len-eq0.false, c.len-2.ensures, encoding, offsets_length c.in-Ok.cell_offsets.items, c.in-Ok.ensures.count) in
    uses_more c.args.image.now.bytes c.put_cell.new.image.bytes (sum + cell_cost c.len-2.result) (values_cost c.args.values.now) bound
    (both_used c.args.image.now.bytes c.put_each.new.image.bytes c.put_cell.new.image.bytes sum (cell_cost c.len-2.result) c.in-Ok.ensures.uses (lands_used c.put_each.new.image.bytes c.put_cell.new.image.bytes c.in-Ok-put_cell.list (cell_cost c.len-2.result) c.in-Ok-put_cell.ensures.1))

pub returns-in-Err-clause-stops : goal.returns-in-Err-clause-stops
returns-in-Err-clause-stops c = stops_more c.args.image.now.bytes (sum_by value_cost (finite.values c.args.values.now)) (values_cost c.args.values.now) c.in-Err.why (omega arith) c.in-Err.ensures.stops

pub returns-clause-stops : goal.returns-clause-stops
returns-clause-stops c =
    let sum : ℕ = sum_by value_cost (finite.values c.args.values.now) in
    let encoding = ap length (c.in_ok-put_offsets.ensures ∙ ap (λ xs. xs ++ offsets_bytes c.deref.result.now) c.clear.ensures.items ∙ ap offsets_bytes c.deref.ensures.value) in
    let bound : sum_by value_cost (finite.values c.args.values.now) + cell_cost c.len-2.result ≤ values_cost c.args.values.now = omega (arith, c.len.ensures, c.if-len-eq0.false, c.len-2.ensures, encoding, offsets_length c.in-Ok.cell_offsets.items, c.in-Ok.ensures.count) in
    stops_later c.args.image.now.bytes c.put_each.new.image.bytes sum (cell_cost c.len-2.result) (values_cost c.args.values.now) c.in-Err-put_cell.why bound c.in-Ok.ensures.uses c.in-Err-put_cell.ensures
