use Rattle.std.proofs.Common.{ℕ, List, ap, ◌∙◌, subst, sym}
use Rattle.hive_cells.specs.Bins.{Bins}
use Rattle.hive_file_reader.specs.Hives.{FileHasBins}
use Rattle.hive_check.specs.CellCounts.{CellsAreCounted}
use Rattle.hive_check.proofs.finding.finding_in.Goals as goal

pub returns-in-Ok-open : goal.returns-in-Ok-open
returns-in-Ok-open c = λ file has.
    let same = sym (ap (λ (b : Bins). b.bytes) c.in-Ok-open.ensures.0) in
    c.walked.ensures file (subst (FileHasBins file c.args.block.now) same has) (subst (λ (bytes : List ℕ). CellsAreCounted bytes c.in-Ok.cells) (c.deref.ensures.value ∙ same) c.in-Ok.ensures)
