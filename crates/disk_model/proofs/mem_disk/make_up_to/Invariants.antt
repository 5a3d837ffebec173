use Rattle.std.proofs.Common.{◌≡◌, ◌≤◌, ℕ, length}
use Rattle.disk_model.specs.MemFile.{state_of}
use Rattle.disk_model.proofs.mem_disk.make_up_to.Given as goal

abbrev pub invariant-loop-made : goal.invariant-loop-made
invariant-loop-made l = record {
  made : l._made ≤ length l.files.items;
  same : (f : ℕ) → state_of l.files.items f ≡ state_of l.fn.files.items f;
}
