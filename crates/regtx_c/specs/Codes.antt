-- The number that a call of C gives for each refusal.
use Rattle.std.specs.Prelude.{ℕ}
use Rattle.refusals.specs.declared.refusal.Cause.{Cause}
use Rattle.refusals.specs.declared.refusal.Refusal.{Refusal}
use Rattle.refusals.specs.declared.refusal.Cause.TheVariants as cause
use Rattle.refusals.specs.declared.refusal.Refusal.TheVariants as refusal

-- the number of a cause of damage
abbrev pub damage_code : Cause → ℕ
damage_code cause.Truncated = 1501
damage_code cause.BadBase = 1502
damage_code cause.BadBin = 1503
damage_code cause.BadCell = 1504
damage_code cause.BadOffset = 1505
damage_code cause.BadRecord = 1506
damage_code cause.BadList = 1507
damage_code cause.BadName = 1508
damage_code cause.Shared = 1509
damage_code cause.BadLog = 1510
damage_code cause.NotClean = 1511
damage_code cause.BadStore = 1512
damage_code cause.TooLarge = 1513

-- the number of a refusal: the one after the `E` of its text. Damage, whose text begins with `E15`, has one for each cause
abbrev pub refusal_code : Refusal → ℕ
refusal_code refusal.NoMemory = 1
refusal_code refusal.NotFound = 2
refusal_code refusal.HasSubkeys = 3
refusal_code refusal.BadName = 4
refusal_code refusal.TooDeep = 5
refusal_code refusal.TooLarge = 6
refusal_code refusal.Conflict = 7
refusal_code refusal.NotActive = 8
refusal_code refusal.NoSuchHandle = 9
refusal_code refusal.NoSeat = 10
refusal_code refusal.JournalFull = 11
refusal_code refusal.HistoryFull = 12
refusal_code refusal.DiskFault = 13
refusal_code refusal.Faulted = 14
refusal_code (refusal.HiveDamaged hive cause) = damage_code cause
refusal_code refusal.JournalDamaged = 16
refusal_code refusal.Unsupported = 17
refusal_code refusal.Fixed = 18
