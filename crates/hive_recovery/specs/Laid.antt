-- What bins data are after the pages of entries were laid over them. An image gives the byte at each place, or none.
use Rattle.std.specs.Prelude.{◌≡◌, ◌⊎◌, ◌<◌, ℕ, zero, suc, ◌+◌, ◌-◌, nat_lt, if◌then◌else◌, List, [], ◌∷◌, ◌++◌, length, slice_index, slice_index_or, slice_get, Option, Some, None, fold}
use Rattle.refusals.specs.declared.refusal.Refusal.{Refusal}
use Rattle.refusals.specs.declared.refusal.Refusal.TheVariants.{HiveDamaged}
use Rattle.refusals.specs.declared.refusal.Cause.TheVariants.{BadLog}
use Rattle.hive_log_entries.specs.Pages.{page_count, reference_at, page_bytes}

-- a file's own bins data: its bytes from offset 4,096 on
abbrev pub own_bytes : List ℕ → ℕ → Option ℕ
own_bytes file place = slice_get file (4096 + place)

-- the first bytes of these laid over an image from an offset on
abbrev pub part_laid : (ℕ → Option ℕ) → ℕ → ℕ → List ℕ → ℕ → Option ℕ
part_laid image offset count bytes place =
    if nat_lt place offset then image place
    else (if nat_lt place (offset + count) then Some (slice_index bytes (place - offset)) else image place)

-- bytes laid over an image from an offset on
abbrev pub overlaid : (ℕ → Option ℕ) → ℕ → List ℕ → ℕ → Option ℕ
overlaid image offset bytes = part_laid image offset (length bytes) bytes

-- the first n pages of an entry laid over an image, one after the other
abbrev pub pages_laid : (ℕ → Option ℕ) → List ℕ → ℕ → ℕ → Option ℕ
pages_laid image entry zero = image
pages_laid image entry (suc n) = overlaid (pages_laid image entry n) (reference_at entry n).offset (page_bytes entry n)

-- all pages of an entry
abbrev pub entry_laid : (ℕ → Option ℕ) → List ℕ → ℕ → Option ℕ
entry_laid image entry = pages_laid image entry (page_count entry)

-- entries laid over an image, one after the other: the last page that covers a byte gives it
abbrev pub laid : (ℕ → Option ℕ) → List (List ℕ) → ℕ → Option ℕ
laid image entries = fold entry_laid image entries

-- a byte behind others, if it and they are there
abbrev pub with_byte : Option (List ℕ) → Option ℕ → Option (List ℕ)
with_byte None byte = None
with_byte (Some bytes) None = None
with_byte (Some bytes) (Some byte) = Some (bytes ++ byte ∷ [])

-- the first n bytes of an image, if all are there
abbrev pub first_bytes : (ℕ → Option ℕ) → ℕ → Option (List ℕ)
first_bytes image zero = Some []
first_bytes image (suc n) = with_byte (first_bytes image n) (image n)

-- a list has the bytes of an image, as far as it goes
abbrev pub HoldsImage : List (Option ℕ) → (ℕ → Option ℕ) → Type 0
HoldsImage cells image = (place : ℕ) → place < length cells → slice_index_or cells place None ≡ image place

-- the refusal of logs that leave a byte out
abbrev pub lacks_bytes : Refusal
lacks_bytes = HiveDamaged 0 BadLog

-- a byte is one of those that a place has before entries, between two of them, or behind them
abbrev pub IsByteOfState : (ℕ → Option ℕ) → List (List ℕ) → ℕ → Option ℕ → Type 0
IsByteOfState image [] place byte = byte ≡ image place
IsByteOfState image (entry ∷ rest) place byte = (byte ≡ image place) ⊎ IsByteOfState (entry_laid image entry) rest place byte
