-- Lines, and bytes that come in pieces.
use Rattle.std.specs.Prelude.{◌≡◌, ◌↔◌, ℕ, ◌+◌, ◌<◌, ◌≤◌, List, [], ◌∷◌, ◌++◌, EachIndex, length, slice_index, take}
use Rattle.client_frames.specs.Heads.{Lacks}
use Rattle.client_desks.specs.declared.line_buffer.NextLine.{NextLine}
use Rattle.client_desks.specs.declared.line_buffer.NextLine.TheVariants.{Whole, Part, TooLong}
use Rattle.client_desks.specs.declared.line_buffer.TheConstants.{LINE_BYTES}

-- bytes are a line: a text without a line feed that isn't too long, and a line feed
abbrev pub IsLine : List ℕ → Type 0
IsLine line = (text : List ℕ) × Lacks 10 text × (length text ≤ LINE_BYTES) × (line ≡ text ++ 10 ∷ [])

-- bytes have no line feed, and aren't too long for a line
abbrev pub IsLinePart : List ℕ → Type 0
IsLinePart bytes = Lacks 10 bytes × (length bytes ≤ LINE_BYTES)

-- bytes begin with more than a line may have
abbrev pub BeginTooLong : List ℕ → Type 0
BeginTooLong bytes = (text : List ℕ) × (rest : List ℕ) × Lacks 10 text × (LINE_BYTES < length text) × (bytes ≡ text ++ rest)

-- the first line of bytes was taken, and left the others; or none was taken, since the bytes are a part of a line, or
-- begin with too long a one
abbrev pub TakesFirstLine : NextLine → List ℕ → List ℕ → List ℕ → Type 0
TakesFirstLine Whole bytes line rest = IsLine line × (bytes ≡ line ++ rest)
TakesFirstLine Part bytes line rest = IsLinePart bytes × (line ≡ []) × (rest ≡ bytes)
TakesFirstLine TooLong bytes line rest = BeginTooLong bytes × (line ≡ []) × (rest ≡ bytes)

-- bytes end with a line feed if there are any, and have no other
abbrev pub IsLineRest : List ℕ → Type 0
IsLineRest bytes = EachIndex bytes (λ k. (slice_index bytes k ≡ 10) ↔ (k + 1 ≡ length bytes))

-- a line feed is the last of the first so many bytes, if it is among them
abbrev pub AreOfOneLine : ℕ → List ℕ → Type 0
AreOfOneLine count bytes = (k : ℕ) → k < count → slice_index bytes k ≡ 10 → k + 1 ≡ count

-- bytes without a line feed up to a place, and one there
abbrev pub IsLineFeedAt : List ℕ → ℕ → Type 0
IsLineFeedAt bytes at = Lacks 10 (take at bytes) × ((rest : List ℕ) × (bytes ≡ take at bytes ++ 10 ∷ rest))

-- what is left of a client's line, and the place of the client
pub record LineRest : Type 0 where
  pub place : ℕ
  pub rest : List ℕ
