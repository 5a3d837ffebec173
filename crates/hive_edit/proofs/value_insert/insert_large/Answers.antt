use Rattle.std.proofs.Common.{ℕ, List, ◌++◌, ◌∙◌, ap, subst}
use Rattle.hive_records.specs.ValueEncodings.{large_value}
use Rattle.hive_emit.specs.Values.{DataAt}
use Rattle.hive_savepoint.specs.Puts.{HasData, AddsCell}
use Rattle.hive_edit.specs.DataInserts.{Inserts}
use Rattle.hive_edit.proofs.CellChanges.{on_ok, if_made, some_says}
use Rattle.hive_edit.proofs.DataReads.{large_added}
use Rattle.hive_edit.proofs.value_insert.insert_large.Goals as goal

pub returns-clause-added : goal.returns-clause-added
returns-clause-added c =
    let old = c.args.image.now.bytes in
    let mid = c.insert_data.new.image.bytes in
    let new = c.insert_cell.new.image.bytes in
    let to = c.in-Some.to in
    let is = c.deref.ensures.value ∙ c.in_ok-put_large_value.ensures ∙ ap (λ (z : List ℕ). z ++ large_value c.args.value.now to) c.new-text.ensures.items in
    if_made c.insert_cell.result (λ at. AddsCell mid new at c.deref.result.now) _
    (λ at adds. large_added old mid new c.args.value.now to at c.requires.fits c.requires.some c.requires.few
    (subst (λ (z : List ℕ). Inserts old mid (DataAt to z)) c.bytes.ensures (some_says c.in_ok-to.field-0 to (λ at. Inserts old mid (DataAt at c.bytes.result.now)) c.in-Some.is c.in_ok-to.ensures.added))
    (subst (λ (z : List ℕ). AddsCell mid new at z) is adds))
    c.insert_cell.ensures.added

pub returns-clause-sizes : goal.returns-clause-sizes
returns-clause-sizes c = on_ok c.insert_cell.result ((cell len : ℕ) → HasData c.insert_data.new.image.bytes cell len → HasData c.insert_cell.new.image.bytes cell len) ((cell len : ℕ) → HasData c.args.image.now.bytes cell len → HasData c.insert_cell.new.image.bytes cell len)
    (λ h cell len has. h cell len (c.in_ok-to.ensures.sizes cell len has)) c.insert_cell.ensures.sizes
