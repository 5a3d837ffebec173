use Rattle.std.proofs.Common.{ℕ, List, ◌++◌, ◌∙◌, ap, subst}
use Rattle.hive_records.specs.ValueEncodings.{small_value}
use Rattle.hive_savepoint.specs.Puts.{AddsCell}
use Rattle.hive_edit.proofs.CellChanges.{if_made}
use Rattle.hive_edit.proofs.ValueInserts.{small_added}
use Rattle.hive_edit.proofs.value_insert.insert_small.Goals as goal

pub returns-clause-added : goal.returns-clause-added
returns-clause-added c =
    let old = c.args.image.now.bytes in
    let new = c.insert_cell.new.image.bytes in
    let is = c.deref.ensures.value ∙ c.in_ok-put_small_value.ensures ∙ ap (λ (z : List ℕ). z ++ small_value c.args.value.now) c.new-text.ensures.items in
    if_made c.insert_cell.result (λ at. AddsCell old new at c.deref.result.now) _
    (λ at adds. small_added old new c.args.value.now at c.requires.fits c.requires.few (subst (λ (z : List ℕ). AddsCell old new at z) is adds))
    c.insert_cell.ensures.added
