use Rattle.std.proofs.Common.{◌≡◌, ◌++◌, ◌≤◌, length, arith, ◌∙◌, ap, subst}
use Rattle.hive_records.specs.ValueEncodings.{small_value}
use Rattle.hive_emit.specs.CellWrites.{Makes, Puts, cell_cost}
use Rattle.hive_emit.proofs.Valued.{small_made}
use Rattle.hive_emit.specs.CellCosts.{value_cost}
use Rattle.hive_emit.proofs.NewCells.{uses_more, lands_used, stops_more}
use Rattle.hive_emit.proofs.Sums.{small_cost}
use Rattle.hive_emit.proofs.values.put_small.Goals as goal

pub returns-in-Ok-clause-made : goal.returns-in-Ok-clause-made
returns-in-Ok-clause-made c =
    let encoding : c.deref.result.now ≡ small_value c.args.value.now = c.deref.ensures.value ∙ c.in_ok-put_small_value.ensures ∙ ap (λ xs. xs ++ small_value c.args.value.now) c.clear.ensures.items in
    small_made c.args.image.now.bytes c.put_cell.new.image.bytes c.in-Ok.at c.args.value.now c.requires.can (omega arith) c.requires.few
    (subst (λ t. Makes c.args.image.now.bytes c.put_cell.new.image.bytes (Puts c.in-Ok.at t)) encoding c.in-Ok.ensures.0)

pub returns-in-Ok-clause-uses : goal.returns-in-Ok-clause-uses
returns-in-Ok-clause-uses c =
    let encoding = ap length (c.in_ok-put_small_value.ensures ∙ ap (λ xs. xs ++ small_value c.args.value.now) c.clear.ensures.items) in
    let most : cell_cost c.len.result ≤ value_cost c.args.value.now = omega (arith, c.len.ensures, encoding, small_cost c.args.value.now) in
    uses_more c.args.image.now.bytes c.put_cell.new.image.bytes (cell_cost c.len.result) (value_cost c.args.value.now) most (lands_used c.args.image.now.bytes c.put_cell.new.image.bytes c.in-Ok.at (cell_cost c.len.result) c.in-Ok.ensures.1)

pub returns-in-Err-clause-stops : goal.returns-in-Err-clause-stops
returns-in-Err-clause-stops c =
    let encoding = ap length (c.in_ok-put_small_value.ensures ∙ ap (λ xs. xs ++ small_value c.args.value.now) c.clear.ensures.items) in
    let most : cell_cost c.len.result ≤ value_cost c.args.value.now = omega (arith, c.len.ensures, encoding, small_cost c.args.value.now) in
    stops_more c.args.image.now.bytes (cell_cost c.len.result) (value_cost c.args.value.now) c.in-Err.why most c.in-Err.ensures
