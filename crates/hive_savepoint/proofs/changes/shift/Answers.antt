use Rattle.std.proofs.Common.{◌+◌, slice_index, ap, ◌∙◌, subst, arith}
use Rattle.hive_cells.specs.Bins.{Bins}
use Rattle.hive_cells.specs.Changes.{Writes}
use Rattle.hive_savepoint.proofs.CellChanges.{cell_most, moved_in}
use Rattle.hive_savepoint.proofs.WaysBack.{wrote_back}
use Rattle.hive_savepoint.proofs.changes.shift.Goals as goal

pub overflow_add-first-2 : goal.overflow_add-first-2
overflow_add-first-2 c = let m = cell_most c.args.image.now.bytes c.args.offset c.requires.target.0 in let f = c.ranges.offset.fits in let r = c.requires.target.1 in omega (arith, m, r, f)

pub overflow_add-first-3 : goal.overflow_add-first-3
overflow_add-first-3 c = let m = cell_most c.args.image.now.bytes c.args.offset c.requires.target.0 in let f = c.ranges.offset.fits in let r = c.requires.target.1 in omega (arith, m, r, f)

pub returns-clause-back : goal.returns-clause-back
returns-clause-back c saved =
    wrote_back saved c.args.image.now.bytes c.bytes.result.now c.bytes.follows.lender-at-none.bytes c.shift.new.self.bytes c.args.log.now c.save.new.self c.args.limit c.args.offset (c.args.offset + 4 + c.args.to) (c.args.offset + 4 + c.args.to + c.args.len) c.bytes.ensures.all (ap (λ (b : Bins). b.bytes) c.bytes.follows.holds-at-none) c.in_ok-save.ensures.sound c.in_ok-save.ensures.saved c.in_ok-shift.ensures.moved.0

pub returns-clause-moved : goal.returns-clause-moved
returns-clause-moved c =
    let w : Writes c.args.image.now.bytes c.shift.new.self.bytes c.args.offset (c.args.offset + 4 + c.args.to) (c.args.offset + 4 + c.args.to + c.args.len) =
    subst (λ (x : Bins). Writes x.bytes c.shift.new.self.bytes c.args.offset (c.args.offset + 4 + c.args.to) (c.args.offset + 4 + c.args.to + c.args.len)) c.bytes.follows.holds-at-none c.in_ok-shift.ensures.moved.0 in
    moved_in c.args.image.now.bytes c.shift.new.self.bytes c.args.offset c.args.from c.args.to c.args.len c.requires.source c.requires.target w
    (λ j less. c.in_ok-shift.ensures.moved.1 j less ∙ ap (λ (x : Bins). slice_index x.bytes (c.args.offset + 4 + c.args.from + j)) c.bytes.follows.holds-at-none)
