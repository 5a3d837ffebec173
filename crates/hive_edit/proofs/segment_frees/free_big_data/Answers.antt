use Rattle.std.proofs.Common.{ap, Ok}
use Rattle.hive_edit.proofs.ValueSegments.{big_freed}
use Rattle.hive_edit.proofs.segment_frees.free_big_data.Goals as goal

pub returns-in-Done-clause-freed : goal.returns-in-Done-clause-freed
returns-in-Done-clause-freed c = λ is. big_freed c.args.image.now.bytes c.free_segments.new.image.bytes c.free_cells.new.image.bytes c.args.db c.args.size c.in-Some.list c.in-Some.ensures.word
    (c.in_ok-free_segments.ensures.freed (ap Ok c.in-Done.is)) (c.free_cells.ensures.freed is)
