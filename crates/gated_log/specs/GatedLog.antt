-- What the bytes of a gated log decode to.
use Rattle.std.specs.Prelude.{◌≡◌, ◌⊎◌, ℕ, ◌+◌, List, [], ◌∷◌, ◌++◌, length, if◌then◌else◌, ◌==◌}
use Rattle.disk_model.specs.FileState.{FileState, at_rest}

-- the bytes after the gates up to the first that isn't open, or whose entry is cut short
abbrev pub entries_of : List ℕ → List ℕ
entries_of (gate ∷ byte ∷ rest) = if gate == 0xc3 then byte ∷ entries_of rest else []
entries_of rest = []

-- an open gate before each of these bytes
abbrev pub open_entries : List ℕ → List ℕ
open_entries [] = []
open_entries (byte ∷ bytes) = 0xc3 ∷ byte ∷ open_entries bytes

-- the log of these bytes: open gates, and then a closed one
abbrev pub log_of : List ℕ → List ℕ
log_of bytes = open_entries bytes ++ 0 ∷ []

-- both files are on the disk, and the first is a log of a number of entries
pub record IsSettled (state : ℕ → FileState) (count : ℕ) : Type 0 where
  pub log : state 0 ≡ at_rest (log_of (entries_of (state 0).seen))
  pub counted : count ≡ length (entries_of (state 0).seen)
  pub other : state 1 ≡ at_rest (state 1).seen

-- the log is settled with this byte after what it had, and the other file is as it was
pub record HasOneMore (old new : ℕ → FileState) (count byte : ℕ) : Type 0 where
  pub settled : IsSettled new (count + 1)
  pub entries : entries_of (new 0).seen ≡ entries_of (old 0).seen ++ byte ∷ []
  pub other : (new 1).seen ≡ (old 1).seen

-- a crash left the log with the new byte or without, and the other file as it was
abbrev pub IsBeforeOrAfter : (ℕ → FileState) → ℕ → (ℕ → List ℕ) → Type 0
IsBeforeOrAfter old byte files = ((entries_of (files 0) ≡ entries_of (old 0).seen) ⊎ (entries_of (files 0) ≡ entries_of (old 0).seen ++ byte ∷ [])) × (files 1 ≡ (old 1).seen)
