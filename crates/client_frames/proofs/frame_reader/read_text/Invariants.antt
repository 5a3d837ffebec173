use Rattle.std.proofs.Common.{◌≡◌, ◌≤◌, ◌-◌, length, take}
use Rattle.std.specs.Io.KnownBytes.{Consumes}
use Rattle.client_frames.specs.Heads.{Lacks}
use Rattle.client_frames.proofs.frame_reader.read_text.Given as goal

-- what the text begins with was read, and has no line feed
abbrev pub invariant-bytes : goal.invariant-bytes
invariant-bytes g l = record {
  size : length l.text ≡ length l.initial.text;
  within : l.len ≤ length l.text;
  lacks : Lacks 10 (take l.len l.text);
  bytes : Consumes (g.R.Read.remaining l.initial.reader) (g.R.Read.remaining l.reader) (take l.len l.text);
}

abbrev pub decreases-bytes : goal.decreases-bytes
decreases-bytes g l = length l.text - l.len
