use Rattle.crash_model.proofs.MemoryCounts.{left_with_memory, remembered, memory_absorbs, memory_flushes}
use Rattle.crash_model.proofs.memory_counts.Goals as goal

pub returns : goal.returns
returns g c = record {
  leaves = λ file memory own x left. left_with_memory file memory own x left;
  remembers = λ r most hives memory old new kept step. remembered r most hives memory old new kept step;
  absorbs = λ r most hives old new kept step. memory_absorbs r most hives old new kept step;
  flushes = λ r most hives answer old new kept step. memory_flushes r most hives answer old new kept step;
}
