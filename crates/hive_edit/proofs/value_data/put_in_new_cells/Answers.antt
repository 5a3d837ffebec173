use Rattle.std.proofs.Common.{ℕ}
use Rattle.hive_emit.specs.Values.{DataAt}
use Rattle.hive_edit.specs.DataInserts.{Inserts}
use Rattle.hive_edit.proofs.CellChanges.{some_says}
use Rattle.hive_edit.proofs.DataReads.{data_put}
use Rattle.hive_edit.proofs.value_data.put_in_new_cells.Goals as goal

pub returns-clause-put : goal.returns-clause-put
returns-clause-put c = λ old.
    let bytes = c.args.image.now.bytes in
    let new = c.insert_data.new.image.bytes in
    data_put bytes new c.in-Some.at old c.args.data.now c.at_offset.result (some_says c.in_ok-at.field-0 c.in-Some.at (λ (at : ℕ). Inserts bytes new (DataAt at c.args.data.now)) c.in-Some.is c.in_ok-at.ensures.added)
    c.at_offset.ensures.is c.at_offset.ensures.place c.requires.some c.requires.few
