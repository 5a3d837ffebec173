-- The text that the program prints for a refusal: `E`, its number, a blank and its name. The text for a damaged hive
-- goes on with the hive's number and the cause.
use Rattle.std.specs.Prelude.{ℕ, List, ◌++◌, codes}
use Rattle.std.specs.Fmt.{decimal}
use Rattle.refusals.specs.declared.refusal.Cause.{Cause}
use Rattle.refusals.specs.declared.refusal.Refusal.{Refusal}
use Rattle.refusals.specs.declared.refusal.Cause.TheVariants as cause
use Rattle.refusals.specs.declared.refusal.Refusal.TheVariants as refusal

-- the name of a cause
abbrev pub cause_text : Cause → List ℕ
cause_text cause.Truncated = codes "Truncated"
cause_text cause.BadBase = codes "BadBase"
cause_text cause.BadBin = codes "BadBin"
cause_text cause.BadCell = codes "BadCell"
cause_text cause.BadOffset = codes "BadOffset"
cause_text cause.BadRecord = codes "BadRecord"
cause_text cause.BadList = codes "BadList"
cause_text cause.BadName = codes "BadName"
cause_text cause.Shared = codes "Shared"
cause_text cause.BadLog = codes "BadLog"
cause_text cause.NotClean = codes "NotClean"
cause_text cause.BadStore = codes "BadStore"
cause_text cause.TooLarge = codes "TooLarge"

-- the number and the name of a refusal
abbrev pub refusal_name : Refusal → List ℕ
refusal_name refusal.NoMemory = codes "E1 NoMemory"
refusal_name refusal.NotFound = codes "E2 NotFound"
refusal_name refusal.HasSubkeys = codes "E3 HasSubkeys"
refusal_name refusal.BadName = codes "E4 BadName"
refusal_name refusal.TooDeep = codes "E5 TooDeep"
refusal_name refusal.TooLarge = codes "E6 TooLarge"
refusal_name refusal.Conflict = codes "E7 Conflict"
refusal_name refusal.NotActive = codes "E8 NotActive"
refusal_name refusal.NoSuchHandle = codes "E9 NoSuchHandle"
refusal_name refusal.NoSeat = codes "E10 NoSeat"
refusal_name refusal.JournalFull = codes "E11 JournalFull"
refusal_name refusal.HistoryFull = codes "E12 HistoryFull"
refusal_name refusal.DiskFault = codes "E13 DiskFault"
refusal_name refusal.Faulted = codes "E14 Faulted"
refusal_name (refusal.HiveDamaged h c) = codes "E15 HiveDamaged"
refusal_name refusal.JournalDamaged = codes "E16 JournalDamaged"
refusal_name refusal.Unsupported = codes "E17 Unsupported"
refusal_name refusal.Fixed = codes "E18 Fixed"

-- the whole text of a refusal
abbrev pub refusal_text : Refusal → List ℕ
refusal_text (refusal.HiveDamaged h c) = codes "E15 HiveDamaged " ++ decimal h ++ codes " " ++ cause_text c
refusal_text r = refusal_name r
