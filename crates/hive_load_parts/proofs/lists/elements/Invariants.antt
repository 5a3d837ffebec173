use Rattle.std.proofs.Common.{◌≡◌, take}
use Rattle.hive_records.specs.RecordReaders.{elements_of}
use Rattle.hive_load_parts.proofs.lists.elements.Given as goal

abbrev pub invariant-loop-index : goal.invariant-loop-index
invariant-loop-index l = l.found.items ≡ take l.index (elements_of l.list)
