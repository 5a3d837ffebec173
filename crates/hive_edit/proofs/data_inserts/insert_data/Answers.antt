use Rattle.std.proofs.Common.{ℕ, ◌<◌, ◌^◌, arith}
use Rattle.hive_emit.specs.Values.{DataAt}
use Rattle.hive_savepoint.specs.Puts.{AddsCell}
use Rattle.hive_edit.specs.DataInserts.{Inserts}
use Rattle.hive_edit.proofs.CellChanges.{both_made}
use Rattle.hive_edit.proofs.DataInserts.{one_cell}
use Rattle.hive_edit.proofs.data_inserts.insert_data.Goals as goal

pub returns-then-data-le-SEGMENT_BYTES-clause-added : goal.returns-then-data-le-SEGMENT_BYTES-clause-added
returns-then-data-le-SEGMENT_BYTES-clause-added c =
    let old = c.args.image.now.bytes in
    let new = c.insert_cell.new.image.bytes in
    let text = c.args.data.now in
    both_made c.insert_cell.result (λ (to : ℕ). AddsCell old new to text) (λ (to : ℕ). to < 2 ^ 32) (λ (to : ℕ). Inserts old new (DataAt to text))
    (λ to adds near. one_cell old new to text (omega (arith, c.if-data-le-SEGMENT_BYTES.true)) near adds) c.insert_cell.ensures.added c.insert_cell.ensures.near
