use Rattle.std.proofs.Common.{◌≡◌, ℕ, List, ◌<◌, ◌+◌, ◌*◌, ◌++◌, ◌^◌, length, subst, arith}
use Rattle.hive_records.specs.Fields.{u16_bytes, u32_bytes}
use Rattle.hive_records.specs.ListEncodings.{offsets_bytes}
use Rattle.hive_records.specs.BigDataEncodings.{AreFull}
use Rattle.hive_emit.specs.Values.{InSegments, DataAt}
use Rattle.hive_savepoint.specs.Puts.{HasData, AddsCell}
use Rattle.hive_edit.specs.DataInserts.{Inserts}
use Rattle.hive_edit.proofs.CellChanges.{on_ok, both_made, some_says}
use Rattle.hive_edit.proofs.DataInserts.{big_inserted}
use Rattle.hive_edit.proofs.data_inserts.insert_big.Goals as goal

pub returns-in_default-2-clause-sizes : goal.returns-in_default-2-clause-sizes
returns-in_default-2-clause-sizes c = λ cell len has. c.in_ok-list.ensures.sizes cell len (c.in_ok-offsets.ensures.sizes cell len has)

pub returns-clause-sizes : goal.returns-clause-sizes
returns-clause-sizes c = on_ok c.insert_db.result ((cell len : ℕ) → HasData c.insert_list.new.image.bytes cell len → HasData c.insert_db.new.image.bytes cell len) ((cell len : ℕ) → HasData c.args.image.now.bytes cell len → HasData c.insert_db.new.image.bytes cell len)
    (λ h cell len has. h cell len (c.in_ok-list.ensures.sizes cell len (c.in_ok-offsets.ensures.sizes cell len has))) c.insert_db.ensures.sizes

pub returns-clause-added : goal.returns-clause-added
returns-clause-added c =
    let a = c.args.image.now.bytes in
    let b = c.insert_segments.new.image.bytes in
    let d = c.insert_list.new.image.bytes in
    let e = c.insert_db.new.image.bytes in
    let text = c.args.data.now in
    let offsets = c.in-Some.offsets.items in
    let list = c.in-Some-2.list in
    let count_is : c.len.result ≡ length offsets = omega (arith, c.len.ensures) in
    both_made c.insert_db.result (λ (to : ℕ). AddsCell d e to (u16_bytes 0x6264 ++ u16_bytes c.len.result ++ u32_bytes list)) (λ (to : ℕ). to < 2 ^ 32) (λ (to : ℕ). Inserts a e (DataAt to text))
    (λ to adds near. big_inserted a b d e offsets text list to c.requires.many c.requires.few
    (some_says c.in_ok-offsets.field-0 c.in-Some.offsets (λ v. 16_344 * length v.items < length text + 16_344) c.in-Some.is c.in_ok-offsets.ensures.count)
    (some_says c.in_ok-list.field-0 list (λ (at : ℕ). at < 2 ^ 32) c.in-Some-2.is c.in_ok-list.ensures.near) near
    (some_says c.in_ok-offsets.field-0 c.in-Some.offsets (λ v. Inserts a b (InSegments AreFull v.items text)) c.in-Some.is c.in_ok-offsets.ensures.added)
    (subst (λ (z : List ℕ). AddsCell b d list (offsets_bytes z)) c.deref.ensures.value (some_says c.in_ok-list.field-0 list (λ (at : ℕ). AddsCell b d at (offsets_bytes c.deref.result.now)) c.in-Some-2.is c.in_ok-list.ensures.added))
    (subst (λ (n : ℕ). AddsCell d e to (u16_bytes 0x6264 ++ u16_bytes n ++ u32_bytes list)) count_is adds))
    c.insert_db.ensures.added c.insert_db.ensures.near
