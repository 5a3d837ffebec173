-- How a log ended: what its first sector says, or why its entries end.
use Rattle.std.specs.Prelude.{ℕ, false, List, [], ◌∷◌, ◌++◌, length, slice_index_or, Option, Some, None, codes}
use Rattle.std.specs.Fmt.{decimal, digits}
use Rattle.hive_log_entries.specs.declared.entry_end.EntryEnd.{EntryEnd}
use Rattle.hive_log_entries.specs.declared.entry_end.EntryEnd.TheVariants as fault
use Rattle.hive_log_entries.specs.declared.entry_end.LogEnd.{LogEnd}
use Rattle.hive_log_entries.specs.declared.entry_end.LogEnd.TheVariants as end
use Rattle.hive_log_entries.specs.Entries.{number_of}
use Rattle.hive_recovery.specs.declared.report.EntryNumbers.{EntryNumbers}
use Rattle.hive_recovery.specs.declared.log.LogHead.{LogHead}
use Rattle.hive_recovery.specs.declared.log.LogHead.TheVariants as head
use Rattle.hive_recovery.specs.declared.report.LogEnding.{LogEnding}
use Rattle.hive_recovery.specs.declared.report.LogEnding.TheVariants as ending

-- why the entries of a log end at a place
abbrev pub entries_ending : ℕ → LogEnd → LogEnding
entries_ending at (end.NoEntry why) = ending.NoEntry why at
entries_ending at (end.OutOfTurn found before) = ending.OutOfTurn found before at

-- how a log ended
abbrev pub ending_of : LogHead → ℕ → LogEnd → LogEnding
ending_of head.Empty at why = ending.Empty
ending_of head.NoLetters at why = ending.NoLogLetters
ending_of head.WrongSum at why = ending.NoLogSum
ending_of (head.OtherType kind) at why = ending.NoLogType kind
ending_of head.OtherVersion at why = ending.NoLogVersion
ending_of head.Entries at why = entries_ending at why

-- what is said of the first test that fails
abbrev pub fault_text : EntryEnd → List ℕ
fault_text fault.NoLetters = codes "no letters"
fault_text fault.WrongSize = codes "wrong size"
fault_text fault.Cut = codes "is cut"
fault_text fault.WrongSecondHash = codes "hash-2 is wrong"
fault_text fault.WrongFirstHash = codes "hash-1 is wrong"
fault_text fault.WrongBinsSize = codes "wrong bins size"
fault_text fault.WrongPage = codes "wrong page"

-- a place in a log
abbrev pub place_text : ℕ → List ℕ
place_text at = codes " at 0x" ++ digits 16 false at

-- how a log ended, for people
abbrev pub ending_text : LogEnding → List ℕ
ending_text ending.Empty = codes "empty"
ending_text ending.NoLogLetters = codes "no log: letters"
ending_text ending.NoLogSum = codes "no log: sum"
ending_text (ending.NoLogType kind) = codes "no log: type " ++ decimal kind.0
ending_text ending.NoLogVersion = codes "no log: version"
ending_text (ending.NoEntry why at) = fault_text why ++ place_text at
ending_text (ending.OutOfTurn found before at) = (codes "number " ++ decimal found.0) ++ ((codes " after " ++ decimal before.0) ++ place_text at)

-- the numbers of the first and of the last entry, if there are some
abbrev pub numbers_of : List (List ℕ) → Option EntryNumbers
numbers_of [] = None
numbers_of (entry ∷ rest) = Some (record { first = number_of entry; last = number_of (slice_index_or (entry ∷ rest) (length rest) []) })
