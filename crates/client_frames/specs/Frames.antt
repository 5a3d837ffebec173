-- Frames, and the bytes that encode them.
use Rattle.std.specs.Prelude.{ℕ, List, [], ◌∷◌, ◌++◌, length}
use Rattle.std.specs.List.{flat_map}
use Rattle.client_frames.specs.Heads.{IsFrameHead, head_text}
use Rattle.client_frames.specs.declared.frame.Frame.{Frame}
use Rattle.client_frames.specs.declared.frame.Frame.TheVariants.{Ready, Open, Data, More, End, Gone}
use Rattle.client_frames.specs.declared.head.Head.{Head}
use Rattle.client_frames.specs.declared.head.Head.TheVariants as head

-- the head of a frame: that of bytes has their count
abbrev pub head_of : Frame → Head
head_of Ready = head.Ready
head_of (Open place) = head.Open place
head_of (Data place bytes) = head.Data place (length bytes)
head_of (More place) = head.More place
head_of (End place) = head.End place
head_of (Gone place) = head.Gone place

-- the bytes that a frame carries
abbrev pub payload : Frame → List ℕ
payload Ready = []
payload (Open place) = []
payload (Data place bytes) = bytes
payload (More place) = []
payload (End place) = []
payload (Gone place) = []

-- its place is one, and it carries no more bytes than it may
abbrev pub IsFrame : Frame → Type 0
IsFrame frame = IsFrameHead (head_of frame)

-- a frame is encoded as the text of its head, a line feed, and the bytes that it carries
abbrev pub encode : Frame → List ℕ
encode frame = head_text (head_of frame) ++ 10 ∷ payload frame

-- frames are encoded one after the other
abbrev pub encode_all : List Frame → List ℕ
encode_all frames = flat_map encode frames
