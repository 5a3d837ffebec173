use Rattle.std.proofs.Common.{List}
use Rattle.std.specs.List.{AllByRecursion}
use Rattle.std.specs.Io.KnownBytes.{Consumes}
use Rattle.client_frames.specs.Frames.{encode_all}
use Rattle.client_frames.specs.declared.frame.Frame.{Frame}
use Rattle.client_desks.specs.Deliveries.{IsToPlaceBelow}
use Rattle.client_desks.proofs.frames.deliver_all.Given as goal

-- frames were read, each of which is of a place that is there
abbrev pub invariant-frames : goal.invariant-frames
invariant-frames g l =
    (frames : List Frame) × AllByRecursion (IsToPlaceBelow l.desks) frames
    × Consumes (g.B.Read.remaining l.initial.reader) (g.B.Read.remaining l.reader) (encode_all frames)
