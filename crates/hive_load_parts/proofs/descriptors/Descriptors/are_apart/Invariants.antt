use Rattle.std.proofs.Common.{◌≡◌, ◌⊎◌, ℕ, false, IsSome}
use Rattle.hive_tree_model.specs.Lists.{IsIn}
use Rattle.hive_load_parts.specs.Descriptors.{descriptor_in}
use Rattle.hive_load_parts.specs.CellReads.{marks_of}
use Rattle.hive_load_parts.proofs.descriptors.Descriptors.are_apart.Given as goal

abbrev pub invariant-loop-at : goal.invariant-loop-at
invariant-loop-at l = record {
  left : (at : ℕ) → IsSome (descriptor_in l.self at) → IsIn at l.at-iterator ⊎ (marks_of l.seen at ≡ false);
  kept : (at : ℕ) → IsIn at l.at-iterator → IsSome (descriptor_in l.self at);
}
