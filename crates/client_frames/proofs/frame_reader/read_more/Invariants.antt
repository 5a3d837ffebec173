use Rattle.std.proofs.Common.{[]}
use Rattle.std.specs.Io.KnownBytes.{Consumes}
use Rattle.client_frames.proofs.frame_reader.read_more.Given as goal

-- what was interrupted took nothing
abbrev pub invariant-tries : goal.invariant-tries
invariant-tries g l = Consumes (g.R.Read.remaining l.initial.reader) (g.R.Read.remaining l.reader) []
