use Rattle.std.proofs.Common.{◌≡◌, take}
use Rattle.new_file.specs.Records.{bytes_in}
use Rattle.new_file.proofs.record.noted.Given as goal

abbrev pub invariant-loop-byte : goal.invariant-loop-byte
invariant-loop-byte l = bytes_in l.kept ≡ take l.byte-index l.bytes
