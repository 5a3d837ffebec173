-- The heads of frames, and their texts.
use Rattle.std.specs.Prelude.{◌≡◌, ◌≢◌, ⊤, ℕ, ◌≤◌, List, ◌∷◌, ◌++◌, codes}
use Rattle.std.specs.Fmt.{decimal}
use Rattle.std.specs.List.{AllByRecursion}
use Rattle.client_frames.specs.declared.head.Head.{Head}
use Rattle.client_frames.specs.declared.head.Head.TheVariants.{Ready, Open, Data, More, End, Gone}
use Rattle.client_frames.specs.declared.piece.TheConstants.{PIECE_BYTES}
use Rattle.client_frames.specs.declared.place.TheConstants.{LAST_PLACE}

-- a count of the bytes of one frame
abbrev pub IsPieceLength : ℕ → Type 0
IsPieceLength count = (1 ≤ count) × (count ≤ PIECE_BYTES)

-- a head's place is one, and so is its count
abbrev pub IsFrameHead : Head → Type 0
IsFrameHead Ready = ⊤
IsFrameHead (Open place) = place ≤ LAST_PLACE
IsFrameHead (Data place count) = (place ≤ LAST_PLACE) × IsPieceLength count
IsFrameHead (More place) = place ≤ LAST_PLACE
IsFrameHead (End place) = place ≤ LAST_PLACE
IsFrameHead (Gone place) = place ≤ LAST_PLACE

-- the text of a head: a word and numbers, with one blank between each two
abbrev pub head_text : Head → List ℕ
head_text Ready = codes "ready"
head_text (Open place) = codes "open " ++ decimal place
head_text (Data place count) = codes "data " ++ decimal place ++ codes " " ++ decimal count
head_text (More place) = codes "more " ++ decimal place
head_text (End place) = codes "end " ++ decimal place
head_text (Gone place) = codes "gone " ++ decimal place

-- a byte is not among these
abbrev pub Lacks : ℕ → List ℕ → Type 0
Lacks byte bytes = AllByRecursion (λ other. other ≢ byte) bytes

-- a text is the head of nothing
abbrev pub IsNoHead : List ℕ → Type 0
IsNoHead text = (head : Head) → IsFrameHead head → text ≢ head_text head

-- a text is no number up to this one
abbrev pub IsNoNumber : ℕ → List ℕ → Type 0
IsNoNumber most text = (number : ℕ) → number ≤ most → text ≢ decimal number

-- a word is none that a place alone follows
pub record IsOtherWord (word : List ℕ) : Type 0 where
  pub opens : word ≢ codes "open"
  pub asks : word ≢ codes "more"
  pub ends : word ≢ codes "end"
  pub goes : word ≢ codes "gone"

-- a head is this word and this place
abbrev pub IsHeadOf : Head → List ℕ → ℕ → Type 0
IsHeadOf Ready word other = ⊥
IsHeadOf (Open place) word other = (word ≡ codes "open") × (place ≡ other)
IsHeadOf (Data place count) word other = ⊥
IsHeadOf (More place) word other = (word ≡ codes "more") × (place ≡ other)
IsHeadOf (End place) word other = (word ≡ codes "end") × (place ≡ other)
IsHeadOf (Gone place) word other = (word ≡ codes "gone") × (place ≡ other)

-- a text is no place and count with a blank between
abbrev pub IsNoDataHead : List ℕ → Type 0
IsNoDataHead text = (place count : ℕ) → place ≤ LAST_PLACE → IsPieceLength count → text ≢ decimal place ++ 32 ∷ decimal count

-- a text is the place and the count of this head
abbrev pub IsDataHead : List ℕ → Head → Type 0
IsDataHead text head = (place : ℕ) × (count : ℕ) × (place ≤ LAST_PLACE) × IsPieceLength count × (head ≡ Data place count) × (text ≡ decimal place ++ 32 ∷ decimal count)
