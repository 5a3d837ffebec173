use Rattle.std.proofs.Common.{◌+◌, ◌-◌, length, refl, arith}
use Rattle.hive_cells.specs.Tiles.{cell_size}
use Rattle.hive_cells.proofs.Shown.{cell_eights}
use Rattle.hive_savepoint.proofs.CellChanges.{added, no_place}
use Rattle.hive_savepoint.proofs.WaysBack.{wrote_back}
use Rattle.hive_savepoint.proofs.changes.insert.Goals.{then-source-gt-MOST_BINS_BYTES-via-then-source-gt-MOST_BINS_BYTES, then-source-gt-MOST_BINS_BYTES-via-else-source-gt-MOST_BINS_BYTES+then-room-source}
use Rattle.hive_savepoint.proofs.changes.insert.Goals as goal

pub returns-then-source-gt-MOST_BINS_BYTES-clause-refused : goal.returns-then-source-gt-MOST_BINS_BYTES-clause-refused
returns-then-source-gt-MOST_BINS_BYTES-clause-refused c =
    no_place c.args.image.now.bytes (length c.args.source.now + c.args.room) c.tiles.ensures.tiles c.requires.whole
    (elim c.then-source-gt-MOST_BINS_BYTES.branch [
      | then-source-gt-MOST_BINS_BYTES-via-then-source-gt-MOST_BINS_BYTES w ↦ omega arith
      | then-source-gt-MOST_BINS_BYTES-via-else-source-gt-MOST_BINS_BYTES+then-room-source w ↦ omega arith
    ])

pub returns-clause-back : goal.returns-clause-back
returns-clause-back c saved b =
    let mid = c.alloc.new.image.bytes in
    let offset = c.in_ok-offset.offset in
    wrote_back saved mid mid mid c.fill.new.self.bytes c.alloc.new.log c.alloc.new.log c.args.limit offset (offset + 4) (offset + cell_size mid offset) refl refl (λ any size s. s)
    (λ i after before less. c.in_ok-offset.ensures.saved i (omega (arith, after)) before less) c.fill.ensures.written (c.alloc.ensures.back saved b)

pub returns-clause-added : goal.returns-clause-added
returns-clause-added c =
    let mid = c.alloc.new.image.bytes in
    let offset = c.in_ok-offset.offset in
    added c.args.image.now.bytes mid c.fill.new.self.bytes (length c.args.source.now + c.args.room) offset c.args.source.now (cell_size mid offset - (4 + length c.args.source.now)) (omega arith)
    c.in_ok-offset.ensures.allocated c.fill.ensures.written c.fill.ensures.data

pub returns-clause-eights : goal.returns-clause-eights
returns-clause-eights c = let begins = c.fill.ensures.written.begins.0 in cell_eights c.fill.new.self.bytes begins.0 c.in_ok-offset.offset begins.1
