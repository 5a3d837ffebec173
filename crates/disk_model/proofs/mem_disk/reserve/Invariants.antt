use Rattle.std.proofs.Common.{◌≡◌, ℕ, length}
use Rattle.std.specs.List.{AllWithin}
use Rattle.disk_model.specs.MemFile.{state_of, FileHasRoom}
use Rattle.disk_model.proofs.mem_disk.reserve.Given as goal

abbrev pub invariant-loop-number : goal.invariant-loop-number
invariant-loop-number l = record {
  at_first : length l.files.items ≡ length l.fn.files.items;
  same : (f : ℕ) → state_of l.files.items f ≡ state_of l.fn.files.items f;
  room : AllWithin (FileHasRoom l.bytes l.calls) l.files.items 0 l.number;
}
