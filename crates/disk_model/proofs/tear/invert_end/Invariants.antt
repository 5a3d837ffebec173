use Rattle.std.proofs.Common.{◌≡◌, ℕ, ◌+◌, ◌-◌, ◌<◌, length}
use Rattle.std.specs.Prelude.{slice_index, ◌==◌, if◌then◌else◌, ◌&&◌, nat_le, nat_lt}
use Rattle.disk_model.proofs.tear.invert_end.Given as goal

abbrev pub invariant-loop-p : goal.invariant-loop-p
invariant-loop-p l = (q : ℕ) → q < length l.seen → slice_index l.bytes q ≡ (if nat_le l.fn.write.offset q && nat_lt q l.p
    then (if q + 1 == l.fn.write.offset + l.fn.write.len then 255 - slice_index l.seen q else slice_index l.seen q) else slice_index l.fn.bytes q)
