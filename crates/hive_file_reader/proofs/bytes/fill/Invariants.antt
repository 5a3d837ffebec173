use Rattle.std.proofs.Common.{◌≡◌, ◌≤◌, length, take}
use Rattle.std.specs.Io.KnownBytes.{Consumes}
use Rattle.hive_file_reader.proofs.bytes.fill.Given as goal

-- what the buffer begins with was read
abbrev pub invariant-reads : goal.invariant-reads
invariant-reads g l = record {
  size : length l.buffer ≡ length l.initial.buffer;
  within : l.count ≤ length l.buffer;
  bytes : Consumes (g.R.Read.remaining l.initial.reader) (g.R.Read.remaining l.reader) (take l.count l.buffer);
}
