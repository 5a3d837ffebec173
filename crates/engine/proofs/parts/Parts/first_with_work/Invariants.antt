use Rattle.std.proofs.Common.{map}
use Rattle.engine_invariant.specs.Prefixes.{view_of}
use Rattle.engine.specs.EarlierChanges.{changes_before}
use Rattle.engine.specs.Work.{AreFlushed}
use Rattle.engine.proofs.parts.Parts.first_with_work.Given as goal

-- the hives so far have nothing to flush
abbrev pub invariant-loop-hive : goal.invariant-loop-hive
invariant-loop-hive g l = AreFlushed l.fn.self.store.machine l.fn.self.base (changes_before l.fn.self.earlier) (map view_of l.fn.self.hives.items) l.fn.from l.hive
