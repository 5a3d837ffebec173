use Rattle.std.proofs.Common.{◌≤◌, ◌-◌, length, take}
use Rattle.std.specs.Io.KnownBytes.{Consumes}
use Rattle.client_frames.proofs.frame_reader.read_all.Given as goal

-- what the buffer begins with was read
abbrev pub invariant-reads : goal.invariant-reads
invariant-reads g l = record {
  within : l.from ≤ length l.buffer;
  bytes : Consumes (g.R.Read.remaining l.initial.reader) (g.R.Read.remaining l.reader) (take l.from l.buffer);
}

abbrev pub decreases-reads : goal.decreases-reads
decreases-reads g l = length l.buffer - l.from
