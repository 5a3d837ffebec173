use Rattle.std.proofs.Common.{◌≡◌, ap, subst, ◌∙◌}
use Rattle.hive_cells.specs.Bins.{Bins}
use Rattle.hive_cells.specs.Changes.{Allocates}
use Rattle.hive_savepoint.proofs.WaysBack.{extends}
use Rattle.hive_savepoint.proofs.changes.add_place.Goals.{then-bin-le-MOST_BINS_BYTES+in_ok-reserve, else-bin-le-MOST_BINS_BYTES}
use Rattle.hive_savepoint.proofs.changes.add_place.Goals as goal

pub returns-clause-extends : goal.returns-clause-extends
returns-clause-extends c =
    let kept : c.if-bin-le-MOST_BINS_BYTES.image.bytes ≡ c.args.image.now.bytes = elim c.if-bin-le-MOST_BINS_BYTES.branch [
      | then-bin-le-MOST_BINS_BYTES+in_ok-reserve w ↦ ap (λ (b : Bins). b.bytes) (w.image-is ∙ w.in_ok-reserve.ensures.ok)
      | else-bin-le-MOST_BINS_BYTES w ↦ ap (λ (b : Bins). b.bytes) w.image-is
    ] in
    extends c.args.image.now.bytes c.alloc.new.self.bytes c.args.len c.in_ok-offset.offset c.requires.none
    (subst (λ x. Allocates x c.alloc.new.self.bytes c.args.len c.in_ok-offset.offset) kept c.in_ok-offset.ensures.allocated)
