-- Which entries of several logs are applied, by their numbers. A log is the list of its entries, an entry the list of its bytes.
use Rattle.std.specs.Prelude.{ℕ, zero, suc, ◌+◌, ◌-◌, ◌%◌, ◌^◌, ◌==◌, nat_le, Bool, false, Option, Some, None, if◌then◌else◌, List, [], ◌∷◌, ◌++◌}
use Rattle.base_block.specs.Numbers.{number_after}
use Rattle.hive_log_entries.specs.Entries.{number_of}
use Rattle.hive_recovery.specs.declared.log.Log.{Log}

-- the entries of a log
abbrev pub entries_of : Log → List (List ℕ)
entries_of log = log.entries.items

-- a number is below another; numbers wrap, and their difference is one of 32 bits with a sign
abbrev pub is_older : ℕ → ℕ → Bool
is_older number other = nat_le (2 ^ 31) ((number + (2 ^ 32 - other)) % 2 ^ 32)

-- the entries of a log from the first on that isn't below a number
abbrev pub left_from : ℕ → List (List ℕ) → List (List ℕ)
left_from number [] = []
left_from number (entry ∷ rest) = if is_older (number_of entry).0 number then left_from number rest else entry ∷ rest

-- entries begin with one that has a number
abbrev pub begins : ℕ → List (List ℕ) → Bool
begins number [] = false
begins number (entry ∷ rest) = (number_of entry).0 == number

-- the number behind entries, which is another if there are none
abbrev pub number_behind : ℕ → List (List ℕ) → ℕ
number_behind other [] = other
number_behind other (entry ∷ rest) = number_behind (number_after (number_of entry).0) rest

-- what the first log has from a number on that goes on with the next number; nothing if none does
abbrev pub first_with : ℕ → ℕ → List (List (List ℕ)) → List (List ℕ)
first_with number next [] = []
first_with number next (log ∷ rest) = if begins next (left_from number log) then left_from number log else first_with number next rest

-- the entries of at most n logs, one after the other, each of which goes on with the number behind the one before
abbrev pub in_sequence : ℕ → ℕ → ℕ → List (List (List ℕ)) → List (List ℕ)
in_sequence zero number next logs = []
in_sequence (suc n) number next logs = let more = first_with number next logs in more ++ in_sequence n number (number_behind next more) logs

-- a log that isn't gone on with, though it has entries behind the next number, lacks that number
abbrev pub missing_of : ℕ → List (List ℕ) → Option ℕ
missing_of next [] = None
missing_of next (entry ∷ rest) = if is_older next (number_of entry).0 then Some next else None
