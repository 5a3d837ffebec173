use Rattle.std.proofs.Common.{◌≡◌, take}
use Rattle.file_disk.specs.Records.{bytes_in}
use Rattle.file_disk.proofs.record.noted.Given as goal

abbrev pub invariant-loop-byte : goal.invariant-loop-byte
invariant-loop-byte l = bytes_in l.kept ≡ take l.byte-index l.bytes
