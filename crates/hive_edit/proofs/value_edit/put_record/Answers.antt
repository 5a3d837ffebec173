use Rattle.std.proofs.Common.{List, ℕ}
use Rattle.hive_edit.specs.DataPlaces.{RecordIsPut}
use Rattle.hive_savepoint.specs.Puts.{Overlays, ChangesCell}
use Rattle.hive_edit.proofs.CellChanges.{on_ok, weakly}
use Rattle.hive_edit.proofs.value_edit.put_record.Goals as goal

pub returns-clause-put : goal.returns-clause-put
returns-clause-put c =
    let text = c.record_text.result in
    let first : List ℕ → List ℕ → Type 0 = λ its now. Overlays its now 4 text in
    on_ok c.write.result (ChangesCell c.args.image.now.bytes c.write.new.self.bytes c.args.at first) (ChangesCell c.args.image.now.bytes c.write.new.self.bytes c.args.at (RecordIsPut c.args.new.now c.args.kind))
    (weakly c.args.image.now.bytes c.write.new.self.bytes c.args.at first (RecordIsPut c.args.new.now c.args.kind) (λ its now over. (text, c.record_text.ensures, over))) c.write.ensures.written
