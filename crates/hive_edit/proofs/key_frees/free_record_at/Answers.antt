use Rattle.std.proofs.Common.{ℕ, subst}
use Rattle.hive_edit.specs.OwnCells.{FreesRecord}
use Rattle.hive_edit.proofs.key_frees.free_record_at.Goals as goal

pub returns-clause-freed : goal.returns-clause-freed
returns-clause-freed c = λ is. subst (λ (z : ℕ). FreesRecord c.args.image.now.bytes c.free_record.new.image.bytes z) c.in-Some.ensures.word (c.in-Some-data_place.place, c.in-Some-data_place.ensures.place, c.free_record.ensures.freed is)
