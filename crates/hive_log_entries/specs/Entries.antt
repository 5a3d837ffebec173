-- Entries of a log (regf format, new transaction log: log entry), and why there is none.
use Rattle.std.specs.Prelude.{◌≡◌, ◌≤◌, ℕ, ◌+◌, ◌%◌, ◌==◌, nat_le, nat_lt, not, Bool, ◌&&◌, if◌then◌else◌, List, length, take, drop, Option, Some, None, Result, Ok, Err}
use Rattle.base_block.specs.Layout.{number_at}
use Rattle.marvin32.specs.Marvin32.{hash_of}
use Rattle.hive_log_entries.specs.Pages.{bins_size_of, has_pages}
use Rattle.base_block.specs.declared.fields.SequenceNumber.{SequenceNumber}
use Rattle.hive_log_entries.specs.declared.entry_end.EntryEnd.{EntryEnd}
use Rattle.hive_log_entries.specs.declared.entry_end.EntryEnd.TheVariants.{NoLetters, WrongSize, Cut, WrongSecondHash, WrongFirstHash, WrongBinsSize, WrongPage}

-- bytes begin with the letters `HvLE`
abbrev pub has_letters : List ℕ → Bool
has_letters bytes = nat_le 4 (length bytes) && (number_at 0 4 bytes == 0x454c_7648)

-- a size of an entry: a multiple of 512, from 512 on
abbrev pub is_entry_size : ℕ → Bool
is_entry_size size = (size % 512 == 0) && nat_le 512 size

-- the size of the bins data after an entry is a multiple of 4,096, not 0
unfoldable pub has_bins_size : List ℕ → Bool
has_bins_size bytes = (bins_size_of bytes % 4096 == 0) && not (bins_size_of bytes == 0)

-- the size of the entry that bytes begin with: its letters are tested first, then its size, and then that it is there whole
unfoldable pub size_at_front : List ℕ → Result ℕ EntryEnd
size_at_front bytes =
    let size = number_at 4 4 bytes in
    if not (has_letters bytes) then Err NoLetters
    else (if nat_lt (length bytes) 8 then Err Cut
    else (if not (is_entry_size size) then Err WrongSize
    else (if nat_lt (length bytes) size then Err Cut
    else Ok size)))

-- the hash that stands at an offset, the low half first
abbrev pub hash_at : ℕ → List ℕ → ℕ × ℕ
hash_at offset bytes = (number_at offset 4 bytes, number_at (offset + 4) 4 bytes)

-- the seed of the hashes: the bytes 82 EF 4D 88 7A 4E 55 C5, the low half first
abbrev pub log_seed : ℕ × ℕ
log_seed = (0x884d_ef82, 0xc555_4e7a)

-- two hashes are equal
abbrev pub same_hash : ℕ × ℕ → ℕ × ℕ → Bool
same_hash one other = (one.0 == other.0) && (one.1 == other.1)

-- the second hash is of the first 32 bytes, and the first hash of the bytes from 40 on
unfoldable pub has_second_hash : List ℕ → Bool
has_second_hash bytes = same_hash (hash_at 32 bytes) (hash_of log_seed (take 32 bytes))

unfoldable pub has_first_hash : List ℕ → Bool
has_first_hash bytes = same_hash (hash_at 24 bytes) (hash_of log_seed (drop 40 bytes))

-- the first test that all bytes of an entry fail, after those of its size
unfoldable pub fault_of : List ℕ → Option EntryEnd
fault_of bytes =
    if not (has_second_hash bytes) then Some WrongSecondHash
    else (if not (has_first_hash bytes) then Some WrongFirstHash
    else (if not (has_bins_size bytes) then Some WrongBinsSize
    else (if not (has_pages bytes) then Some WrongPage
    else None)))

-- the number of an entry that has these bytes
abbrev pub number_of : List ℕ → SequenceNumber
number_of bytes = record { 0 = number_at 12 4 bytes }

-- these bytes, if an entry has them, or the first test that they fail
abbrev pub judged_entry : List ℕ → Result (List ℕ) EntryEnd
judged_entry bytes = elim (fault_of bytes) as (λ _. Result (List ℕ) EntryEnd) [ None ↦ Ok bytes | Some why ↦ Err why ]

-- the entry that these bytes begin with, if it has a size
abbrev pub first_entry : Result ℕ EntryEnd → List ℕ → Result (List ℕ) EntryEnd
first_entry (Err why) bytes = Err why
first_entry (Ok size) bytes = judged_entry (take size bytes)

-- the bytes of the entry that stands at a place of a log, or the first test that fails there
unfoldable pub entry_at : List ℕ → ℕ → Result (List ℕ) EntryEnd
entry_at log at = first_entry (size_at_front (drop at log)) (drop at log)

-- an entry that stands at a place is within the log
abbrev pub IsWithinLog : List ℕ → ℕ → List ℕ → Type 0
IsWithinLog log at entry = (512 ≤ length entry) × (at + length entry ≤ length log)

-- this entry stands at a place of a log
abbrev pub EntryAt : List ℕ → ℕ → List ℕ → Type 0
EntryAt log at entry = entry_at log at ≡ Ok entry

-- no entry stands there: this test is the first that fails
abbrev pub NoEntryAt : List ℕ → ℕ → EntryEnd → Type 0
NoEntryAt log at why = entry_at log at ≡ Err why
