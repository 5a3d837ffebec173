use Rattle.std.proofs.Common.{None, get_or}
use Rattle.hive_recovery.specs.Laid.{HoldsImage, part_laid}
use Rattle.hive_recovery.proofs.bins.lay_page.Given as goal

abbrev pub invariant-bytes : goal.invariant-bytes
invariant-bytes l = HoldsImage l.cells (part_laid (λ place. get_or l.initial.cells place None) l.offset l.index l.bytes)
