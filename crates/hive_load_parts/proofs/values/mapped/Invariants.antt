use Rattle.std.proofs.Common.{◌≡◌, take, true}
use Rattle.hive_records.specs.Names.{all_apart}
use Rattle.hive_records.specs.Values.{map_of}
use Rattle.hive_load_parts.specs.CellReads.{names_in}
use Rattle.hive_load_parts.proofs.values.mapped.Given as goal

abbrev pub invariant-loop-value : goal.invariant-loop-value
invariant-loop-value l = record {
  map : l.values ≡ map_of (take l.value-index l.found);
  apart : all_apart (names_in (take l.value-index l.found)) ≡ true;
}
