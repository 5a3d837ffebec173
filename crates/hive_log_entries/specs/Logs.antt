-- The entries of a log (regf format, new transaction log): those of its last round. An entry is the list of its bytes.
use Rattle.std.specs.Prelude.{◌≡◌, ℕ, ◌+◌, ◌==◌, if◌then◌else◌, List, [], ◌∷◌, length, Option, Some, None, Result, Ok, Err}
use Rattle.base_block.specs.Numbers.{number_after}
use Rattle.base_block.specs.declared.fields.SequenceNumber.{SequenceNumber}
use Rattle.hive_log_entries.specs.Entries.{entry_at, number_of}
use Rattle.hive_log_entries.specs.declared.entry_end.EntryEnd.{EntryEnd}
use Rattle.hive_log_entries.specs.declared.entry_end.LogEnd.{LogEnd}
use Rattle.hive_log_entries.specs.declared.entry_end.LogEnd.TheVariants.{NoEntry, OutOfTurn}

-- an entry that may follow the one of a number, or be the first; numbers wrap
abbrev pub in_turn : Option SequenceNumber → List ℕ → Result (List ℕ) LogEnd
in_turn None entry = Ok entry
in_turn (Some before) entry = if number_after before.0 == (number_of entry).0 then Ok entry else Err (OutOfTurn (number_of entry) before)

-- the same of what stands at a place
abbrev pub next_in : Option SequenceNumber → Result (List ℕ) EntryEnd → Result (List ℕ) LogEnd
next_in before (Err why) = Err (NoEntry why)
next_in before (Ok entry) = in_turn before entry

-- the entry at a place that follows the one of a number, or why none does
unfoldable pub next_at : List ℕ → ℕ → Option SequenceNumber → Result (List ℕ) LogEnd
next_at log at before = next_in before (entry_at log at)

-- these entries stand from a place on, one behind the other, each in turn; and at their end there is none, for this cause
abbrev pub EntriesFrom : List ℕ → ℕ → Option SequenceNumber → List (List ℕ) → ℕ → LogEnd → Type 0
EntriesFrom log at before [] ended_at end = (next_at log at before ≡ Err end) × (ended_at ≡ at)
EntriesFrom log at before (entry ∷ rest) ended_at end = (next_at log at before ≡ Ok entry) × EntriesFrom log (at + length entry) (Some (number_of entry)) rest ended_at end

-- these are the entries of a log: they stand from offset 512 on
abbrev pub EntriesAre : List ℕ → List (List ℕ) → ℕ → LogEnd → Type 0
EntriesAre log entries ended_at end = EntriesFrom log 512 None entries ended_at end
