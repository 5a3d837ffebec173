-- Frames that are delivered.
use Rattle.std.specs.Prelude.{◌≡◌, ℕ, ◌<◌, List}
use Rattle.std.specs.List.{AllByRecursion}
use Rattle.client_frames.specs.Frames.{encode_all}
use Rattle.client_frames.specs.declared.frame.Frame.{Frame}
use Rattle.client_frames.specs.declared.frame.Frame.TheVariants.{Ready, Open, Data, More, End, Gone}

-- a frame is of a client at one of the first so many places
abbrev pub IsToPlaceBelow : ℕ → Frame → Type 0
IsToPlaceBelow count Ready = ⊥
IsToPlaceBelow count (Open place) = place < count
IsToPlaceBelow count (Data place piece) = place < count
IsToPlaceBelow count (More place) = place < count
IsToPlaceBelow count (End place) = place < count
IsToPlaceBelow count (Gone place) = place < count

-- bytes are frames, each of a client at one of the first so many places
abbrev pub EncodeFrames : ℕ → List ℕ → Type 0
EncodeFrames count bytes =
    (frames : List Frame) × AllByRecursion (IsToPlaceBelow count) frames × (bytes ≡ encode_all frames)
