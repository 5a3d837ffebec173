use Rattle.std.proofs.Common.{ℕ, Ok, ap, subst, ◌∙◌, arith}
use Rattle.hive_edit.specs.DataPlaces.{FreesCells}
use Rattle.hive_edit.specs.OwnCells.{list_record_cells}
use Rattle.hive_edit.proofs.KeyFrees.{next_freed}
use Rattle.hive_edit.proofs.key_frees.free_records.Goals as goal

pub loop-index-preserved : goal.loop-index-preserved
loop-index-preserved c = record {
  freed = λ root tree path found. next_freed c.args.image.now.bytes root tree path c.args.key found c.args.list.now c.requires.there c.loop-index.index c.loop-index-test.true c.loop-index.image.bytes c.free_record_at.new.image.bytes
      (c.loop-index.invariant.freed root tree path found) (c.in_ok-free_record_at.ensures.freed (ap Ok c.in-Done.is));
  saved = c.in_ok-free_record_at.ensures.saved ∙ c.loop-index.invariant.saved;
}

pub returns-clause-freed : goal.returns-clause-freed
returns-clause-freed c = λ is root tree path found. subst (λ (n : ℕ). FreesCells c.args.image.now.bytes c.loop-index.image.bytes (list_record_cells c.args.image.now.bytes found.cells c.args.list.now.at n))
    (omega (arith, c.loop-index.auto.index-end, c.loop-index-test.false)) (c.loop-index.invariant.freed root tree path found)
