use Rattle.std.proofs.Common.{◌≡◌, ◌+◌, ap, refl, sym, subst, ◌∙◌}
use Rattle.hive_cells.specs.Bins.{Bins}
use Rattle.hive_cells.specs.Changes.{Frees}
use Rattle.hive_savepoint.proofs.CellChanges.{dropped}
use Rattle.hive_savepoint.proofs.WaysBack.{Covers, freed_back}
use Rattle.hive_savepoint.proofs.changes.free.Goals as goal

pub returns-clause-back : goal.returns-clause-back
returns-clause-back c saved =
    let image = c.bytes-2.follows.lender-at-none in
    let kept : image ≡ c.args.image.now = c.bytes-2.follows.holds-at-none ∙ c.bytes.follows.holds-at-none in
    let freed : Frees c.args.image.now.bytes c.free.new.self.bytes c.args.offset c.in_ok-free.field-0 =
    subst (λ (x : Bins). Frees x.bytes c.free.new.self.bytes c.args.offset c.in_ok-free.field-0) kept c.in_ok-free.ensures.freed in
    let from : c.in_ok-free.field-0 ≡ c.merges_from-from.result = c.merges_from-from.ensures.freed c.free.new.self.bytes c.in_ok-free.field-0 freed in
    freed_back saved c.args.image.now.bytes c.bytes.result.now c.bytes-2.result.now c.args.image.now.bytes c.free.new.self.bytes c.args.log.now c.save.new.self c.save-2.new.self c.args.limit c.args.offset c.in_ok-free.field-0
    c.bytes.ensures.all (c.bytes-2.ensures.all ∙ ap (λ (x : Bins). x.bytes) c.bytes.follows.holds-at-none) refl c.in_ok-save.ensures.sound c.in_ok-save-2.ensures.sound c.in_ok-save-2.ensures.kept
    c.in_ok-save.ensures.saved (subst (λ n. Covers c.save-2.new.self c.args.limit n (n + 4)) (sym from) c.in_ok-save-2.ensures.saved) freed

pub returns-clause-dropped : goal.returns-clause-dropped
returns-clause-dropped c =
    dropped c.args.image.now.bytes c.free.new.self.bytes c.args.offset c.in_ok-free.field-0
    (subst (λ (x : Bins). Frees x.bytes c.free.new.self.bytes c.args.offset c.in_ok-free.field-0) (c.bytes-2.follows.holds-at-none ∙ c.bytes.follows.holds-at-none) c.in_ok-free.ensures.freed)
