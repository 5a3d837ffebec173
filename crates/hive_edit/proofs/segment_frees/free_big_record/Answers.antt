use Rattle.std.proofs.Common.{ap, Ok}
use Rattle.hive_edit.proofs.ValueSegments.{record_freed}
use Rattle.hive_edit.proofs.segment_frees.free_big_record.Goals as goal

pub returns-in-Done-clause-freed : goal.returns-in-Done-clause-freed
returns-in-Done-clause-freed c = λ is. record_freed c.args.image.now.bytes c.free_big_data.new.image.bytes c.free_cells.new.image.bytes c.args.at c.in-Some.size c.in-Some-word_at.db c.in-Some.ensures.word c.in-Some-word_at.ensures.word
    (c.in_ok-free_big_data.ensures.freed (ap Ok c.in-Done.is)) (c.free_cells.ensures.freed is)
