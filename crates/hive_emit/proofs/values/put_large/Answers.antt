use Rattle.std.proofs.Common.{◌≡◌, ◌++◌, ◌+◌, ◌≤◌, ℕ, length, arith, ◌∙◌, ap, subst}
use Rattle.hive_records.specs.ValueEncodings.{large_value}
use Rattle.hive_emit.specs.CellWrites.{Makes, Puts, cell_cost}
use Rattle.hive_emit.specs.Values.{DataAt}
use Rattle.hive_emit.proofs.Valued.{large_made}
use Rattle.hive_emit.specs.CellCosts.{value_cost, apart_cost}
use Rattle.hive_emit.proofs.NewCells.{uses_more, both_used, lands_used, stops_more, stops_later}
use Rattle.hive_emit.proofs.Sums.{large_cost, data_first}
use Rattle.hive_emit.proofs.values.put_large.Goals as goal

pub returns-in-Ok-put_cell-clause-made : goal.returns-in-Ok-put_cell-clause-made
returns-in-Ok-put_cell-clause-made c =
    let encoding : c.deref.result.now ≡ large_value c.args.value.now c.in-Ok.to = c.deref.ensures.value ∙ c.in_ok-put_large_value.ensures ∙ ap (λ xs. xs ++ large_value c.args.value.now c.in-Ok.to) c.clear.ensures.items in
    large_made c.args.image.now.bytes c.put_data.new.image.bytes c.put_cell.new.image.bytes c.in-Ok-put_cell.at c.in-Ok.to c.args.value.now c.requires.can (omega arith) c.requires.some
    (subst (λ t. Makes c.args.image.now.bytes c.put_data.new.image.bytes (DataAt c.in-Ok.to t)) c.bytes.ensures c.in-Ok.ensures.made)
    (subst (λ t. Makes c.put_data.new.image.bytes c.put_cell.new.image.bytes (Puts c.in-Ok-put_cell.at t)) encoding c.in-Ok-put_cell.ensures.0)

pub returns-in-Ok-put_cell-clause-uses : goal.returns-in-Ok-put_cell-clause-uses
returns-in-Ok-put_cell-clause-uses c =
    let size : ℕ = length c.bytes.result.now in
    let same : length c.bytes.result.now ≡ length c.args.value.now.«data» = ap length c.bytes.ensures in
    let encoding = ap length (c.in_ok-put_large_value.ensures ∙ ap (λ xs. xs ++ large_value c.args.value.now c.in-Ok.to) c.clear.ensures.items) in
    let bound : apart_cost (length c.bytes.result.now) + cell_cost c.len.result ≤ value_cost c.args.value.now = omega (arith, c.len.ensures, encoding, ap apart_cost same, large_cost c.args.value.now c.in-Ok.to c.requires.some) in
    uses_more c.args.image.now.bytes c.put_cell.new.image.bytes (apart_cost size + cell_cost c.len.result) (value_cost c.args.value.now) bound
    (both_used c.args.image.now.bytes c.put_data.new.image.bytes c.put_cell.new.image.bytes (apart_cost size) (cell_cost c.len.result) c.in-Ok.ensures.uses (lands_used c.put_data.new.image.bytes c.put_cell.new.image.bytes c.in-Ok-put_cell.at (cell_cost c.len.result) c.in-Ok-put_cell.ensures.1))

pub returns-in-Err-clause-stops : goal.returns-in-Err-clause-stops
returns-in-Err-clause-stops c =
    let same : length c.bytes.result.now ≡ length c.args.value.now.«data» = ap length c.bytes.ensures in
    stops_more c.args.image.now.bytes (apart_cost (length c.bytes.result.now)) (value_cost c.args.value.now) c.in-Err.why (omega (arith, ap apart_cost same, data_first c.args.value.now c.requires.some)) c.in-Err.ensures.stops

pub returns-in-Err-put_cell-clause-stops : goal.returns-in-Err-put_cell-clause-stops
returns-in-Err-put_cell-clause-stops c =
    let size : ℕ = length c.bytes.result.now in
    let same : length c.bytes.result.now ≡ length c.args.value.now.«data» = ap length c.bytes.ensures in
    let encoding = ap length (c.in_ok-put_large_value.ensures ∙ ap (λ xs. xs ++ large_value c.args.value.now c.in-Ok.to) c.clear.ensures.items) in
    let bound : apart_cost (length c.bytes.result.now) + cell_cost c.len.result ≤ value_cost c.args.value.now = omega (arith, c.len.ensures, encoding, ap apart_cost same, large_cost c.args.value.now c.in-Ok.to c.requires.some) in
    stops_later c.args.image.now.bytes c.put_data.new.image.bytes (apart_cost size) (cell_cost c.len.result) (value_cost c.args.value.now) c.in-Err-put_cell.why bound c.in-Ok.ensures.uses c.in-Err-put_cell.ensures
