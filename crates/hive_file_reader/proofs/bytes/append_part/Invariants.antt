use Rattle.std.proofs.Common.{◌≡◌, ◌+◌, length}
use Rattle.std.specs.Io.{StartsWith, appended_bytes}
use Rattle.std.specs.Io.KnownBytes.{Consumes}
use Rattle.hive_file_reader.proofs.bytes.append_part.Given as goal

-- what was appended so far was read, and what isn't is still to be
abbrev pub invariant-pieces : goal.invariant-pieces
invariant-pieces g l = record {
  appends : StartsWith l.bytes.items l.initial.bytes.items;
  count : length l.bytes.items + l.left ≡ length l.initial.bytes.items + l.size;
  bytes : Consumes (g.R.Read.remaining l.initial.reader) (g.R.Read.remaining l.reader) (appended_bytes l.initial.bytes.items l.bytes.items);
}

abbrev pub decreases-pieces : goal.decreases-pieces
decreases-pieces g l = l.left
