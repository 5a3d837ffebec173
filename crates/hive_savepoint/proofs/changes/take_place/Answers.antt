use Rattle.std.proofs.Common.{ap}
use Rattle.hive_cells.specs.Bins.{Bins}
use Rattle.hive_savepoint.proofs.WaysBack.{took_back}
use Rattle.hive_savepoint.proofs.changes.take_place.Goals as goal

pub returns-clause-back : goal.returns-clause-back
returns-clause-back c saved =
    took_back saved c.args.image.now.bytes c.bytes.result.now c.bytes.follows.lender-at-none.bytes c.alloc_at.new.self.bytes c.args.log.now c.save.new.self c.args.limit c.args.len c.args.place
    c.bytes.ensures.all (ap (λ (b : Bins). b.bytes) c.bytes.follows.holds-at-none) c.in_ok-save.ensures.sound c.in_ok-save.ensures.saved c.alloc_at.ensures.allocated c.alloc_at.ensures.len c.requires.within
