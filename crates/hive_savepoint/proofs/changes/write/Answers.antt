use Rattle.std.proofs.Common.{◌+◌, length, ap, subst, arith}
use Rattle.hive_cells.specs.Bins.{Bins}
use Rattle.hive_cells.specs.Changes.{Writes}
use Rattle.hive_savepoint.proofs.CellChanges.{cell_most, put_in}
use Rattle.hive_savepoint.proofs.WaysBack.{wrote_back}
use Rattle.hive_savepoint.proofs.changes.write.Goals as goal

pub overflow_add-from-2 : goal.overflow_add-from-2
overflow_add-from-2 c = let m = cell_most c.args.image.now.bytes c.args.offset c.requires.room.0 in let f = c.ranges.offset.fits in let r = c.requires.room.1 in omega (arith, m, r, f)

pub overflow_add-from-3 : goal.overflow_add-from-3
overflow_add-from-3 c = let m = cell_most c.args.image.now.bytes c.args.offset c.requires.room.0 in let f = c.ranges.offset.fits in let r = c.requires.room.1 in omega (arith, m, r, f)

pub returns-clause-back : goal.returns-clause-back
returns-clause-back c saved =
    wrote_back saved c.args.image.now.bytes c.bytes.result.now c.bytes.follows.lender-at-none.bytes c.write.new.self.bytes c.args.log.now c.save.new.self c.args.limit c.args.offset (c.args.offset + 4 + c.args.at) (c.args.offset + 4 + c.args.at + length c.args.source.now) c.bytes.ensures.all (ap (λ (b : Bins). b.bytes) c.bytes.follows.holds-at-none) c.in_ok-save.ensures.sound c.in_ok-save.ensures.saved c.in_ok-write.ensures.written.0

pub returns-clause-written : goal.returns-clause-written
returns-clause-written c =
    let w : Writes c.args.image.now.bytes c.write.new.self.bytes c.args.offset (c.args.offset + 4 + c.args.at) (c.args.offset + 4 + c.args.at + length c.args.source.now) =
    subst (λ (x : Bins). Writes x.bytes c.write.new.self.bytes c.args.offset (c.args.offset + 4 + c.args.at) (c.args.offset + 4 + c.args.at + length c.args.source.now)) c.bytes.follows.holds-at-none c.in_ok-write.ensures.written.0 in
    put_in c.args.image.now.bytes c.write.new.self.bytes c.args.offset c.args.at c.args.source.now c.requires.room w c.in_ok-write.ensures.written.1
