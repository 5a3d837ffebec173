use Rattle.std.proofs.Common.{◌∙◌, ap, length}
use Rattle.hive_savepoint.specs.Puts.{AddsCell}
use Rattle.hive_edit.proofs.CellChanges.{if_made}
use Rattle.hive_edit.proofs.ListInserts.{kept_room, moved_room}
use Rattle.hive_edit.proofs.list_room.make_room.Goals as goal

pub returns-then-list-clause-given : goal.returns-then-list-clause-given
returns-then-list-clause-given c = kept_room c.args.image.now.bytes c.args.list.now c.if-list-eq0.false (c.requires.there c.if-list-eq0.false)

pub returns-clause-given : goal.returns-clause-given
returns-clause-given c =
    let old = c.args.image.now.bytes in
    let new = c.insert_cell-2.new.image.bytes in
    if_made c.insert_cell-2.result (λ at. AddsCell old new at c.deref.result.now) _
    (λ at adds. moved_room old new c.args.list.now c.deref.result.now at (c.deref.ensures.value ∙ c.in_ok-words.ensures.words) (ap length c.deref.ensures.value ∙ c.in_ok-words.ensures.len) adds)
    c.insert_cell-2.ensures.added
