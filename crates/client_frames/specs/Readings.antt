-- What the first bytes of an input are read as.
use Rattle.std.specs.Prelude.{◌≡◌, ◌≢◌, ◌⊎◌, ⊤, ℕ, ◌<◌, ◌≤◌, List, [], ◌∷◌, ◌++◌, length, Result, Ok, Err}
use Rattle.client_frames.specs.Frames.{IsFrame, encode, head_of, payload}
use Rattle.client_frames.specs.Heads.{Lacks, head_text}
use Rattle.client_frames.specs.declared.frame.Frame.{Frame}
use Rattle.client_frames.specs.declared.frame_error.FrameError.{FrameError}
use Rattle.client_frames.specs.declared.frame_error.FrameError.TheVariants.{Ended, Broken, NotFrame, NoMemory, Unreadable}
use Rattle.client_frames.specs.declared.head.Head.{Head}
use Rattle.client_frames.specs.declared.head.TheConstants.{LONGEST_HEAD}

-- they begin with the head of this frame, and these follow it
abbrev pub BeginWith : List ℕ → Frame → List ℕ → Type 0
BeginWith bytes frame rest = IsFrame frame × (bytes ≡ head_text (head_of frame) ++ 10 ∷ rest)

-- they end before the line feed of a head
abbrev pub EndInHead : List ℕ → Type 0
EndInHead bytes = (bytes ≢ []) × (length bytes ≤ LONGEST_HEAD) × Lacks 10 bytes

-- they begin with the head of a frame, and end before all that it carries is there
abbrev pub EndInPayload : List ℕ → Type 0
EndInPayload bytes = (frame : Frame) × (part : List ℕ) × BeginWith bytes frame part × (length part < length (payload frame))

-- they begin with no head, and don't end in one
abbrev pub BeginNoFrame : List ℕ → Type 0
BeginNoFrame bytes = (bytes ≢ []) × ¬ (EndInHead bytes) × ((frame : Frame) (rest : List ℕ) → ¬ (BeginWith bytes frame rest))

-- they begin with the head of a frame that carries bytes
abbrev pub BeginPayload : List ℕ → Type 0
BeginPayload bytes = (frame : Frame) × (rest : List ℕ) × BeginWith bytes frame rest × (1 ≤ length (payload frame))

-- why no frame is read of them
abbrev pub GiveNoFrame : List ℕ → FrameError → Type 0
GiveNoFrame bytes Ended = bytes ≡ []
GiveNoFrame bytes Broken = EndInHead bytes ⊎ EndInPayload bytes
GiveNoFrame bytes NotFrame = BeginNoFrame bytes
GiveNoFrame bytes NoMemory = BeginPayload bytes
GiveNoFrame bytes Unreadable = ⊤

-- they are read as the frame with whose encoding they begin, or refused
abbrev pub HasReading : List ℕ → Result Frame FrameError → Type 0
HasReading bytes (Ok frame) = IsFrame frame × (rest : List ℕ) × (bytes ≡ encode frame ++ rest)
HasReading bytes (Err why) = GiveNoFrame bytes why

-- memory was refused, or a read failed
abbrev pub IsByChance : Result Frame FrameError → Type 0
IsByChance (Ok frame) = ⊥
IsByChance (Err Ended) = ⊥
IsByChance (Err Broken) = ⊥
IsByChance (Err NotFrame) = ⊥
IsByChance (Err NoMemory) = ⊤
IsByChance (Err Unreadable) = ⊤

-- why so many bytes aren't read
abbrev pub IsPieceRefused : ℕ → List ℕ → FrameError → Type 0
IsPieceRefused count bytes Ended = ⊥
IsPieceRefused count bytes Broken = length bytes < count
IsPieceRefused count bytes NotFrame = ⊥
IsPieceRefused count bytes NoMemory = ⊤
IsPieceRefused count bytes Unreadable = ⊤

-- why no frame with this head is read of the bytes that follow it
abbrev pub IsRestRefused : Head → List ℕ → FrameError → Type 0
IsRestRefused head bytes Ended = ⊥
IsRestRefused head bytes Broken = (frame : Frame) × IsFrame frame × (head_of frame ≡ head) × (length bytes < length (payload frame))
IsRestRefused head bytes NotFrame = ⊥
IsRestRefused head bytes NoMemory = (frame : Frame) × IsFrame frame × (head_of frame ≡ head) × (1 ≤ length (payload frame))
IsRestRefused head bytes Unreadable = ⊤
