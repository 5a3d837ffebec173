-- Which entries of logs may be applied, if somebody sets limits to their numbers.
use Rattle.std.specs.Prelude.{◌≡◌, ℕ, ◌==◌, not, Bool, true, false, ◌&&◌, Option, Some, None, if◌then◌else◌, List, [], ◌∷◌, length, map}
use Rattle.base_block.specs.declared.fields.SequenceNumber.{SequenceNumber}
use Rattle.hive_log_entries.specs.Entries.{number_of}
use Rattle.hive_recovery.specs.Sequences.{entries_of, is_older, left_from, begins, number_behind, in_sequence}
use Rattle.hive_recovery.specs.declared.limits.RecoveryLimits.{RecoveryLimits}
use Rattle.hive_recovery.specs.declared.limits.Reach.{Reach}
use Rattle.hive_recovery.specs.declared.log.Log.{Log}

-- the number that the first entry has to have: that of the limits, or else the hive's own
abbrev pub first_number : Option SequenceNumber → SequenceNumber → SequenceNumber
first_number None own = own
first_number (Some number) own = number

-- the numbers of entries that are applied to a hive with this number
abbrev pub reach_of : RecoveryLimits → SequenceNumber → Reach
reach_of limits own = record { from = first_number limits.from own; to = limits.to }

-- a number is above the greatest one, if there is one
abbrev pub is_beyond : Option SequenceNumber → ℕ → Bool
is_beyond None number = false
is_beyond (Some most) number = is_older most.0 number

-- the entries up to the first that is above the greatest number
abbrev pub upto : Option SequenceNumber → List (List ℕ) → List (List ℕ)
upto most [] = []
upto most (entry ∷ rest) = if is_beyond most (number_of entry).0 then [] else entry ∷ upto most rest

-- the entries of a log that may be applied: as if it ended before the first that is above the greatest number
abbrev pub usable : Option SequenceNumber → Log → List (List ℕ)
usable most log = upto most (entries_of log)

-- the entries from the one with the first number on, or all if none is told
abbrev pub starting : Option SequenceNumber → List (List ℕ) → List (List ℕ)
starting None entries = entries
starting (Some number) entries = if begins number.0 (left_from number.0 entries) then left_from number.0 entries else []

-- a number is the first one, if one is told
abbrev pub is_first : Option SequenceNumber → ℕ → Bool
is_first None number = true
is_first (Some first) number = first.0 == number

-- what has a number may be applied alone
abbrev pub is_within : RecoveryLimits → ℕ → Bool
is_within limits number = is_first limits.from number && not (is_beyond limits.to number)

-- the entries that logs have within a reach, each in its turn
abbrev pub sequence_of : Reach → List Log → List (List ℕ)
sequence_of reach logs = in_sequence (length logs) reach.from.0 reach.from.0 (map (usable reach.to) logs)

-- the number behind all of them
abbrev pub next_of : Reach → List Log → ℕ
next_of reach logs = number_behind reach.from.0 (sequence_of reach logs)

-- what two logs have within a reach begins with different numbers, if each has something
abbrev pub BeginApart : Reach → Log → Log → Type 0
BeginApart reach one other = (next : ℕ) → begins next (left_from reach.from.0 (usable reach.to one)) ≡ true → begins next (left_from reach.from.0 (usable reach.to other)) ≡ false
