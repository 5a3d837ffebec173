-- What to do about a hive's file that isn't whole.
use Rattle.std.specs.Prelude.{ℕ, Bool, true, false, List, codes}
use Rattle.refusals.specs.declared.refusal.Cause.{Cause}
use Rattle.refusals.specs.declared.refusal.Cause.TheVariants as cause
use Rattle.refusals.specs.declared.refusal.Refusal.{Refusal}
use Rattle.refusals.specs.declared.refusal.Refusal.TheVariants as refusal

-- about damage
abbrev pub damage_advice : Cause → List ℕ
damage_advice cause.Truncated = codes "the file ends early: copy it again from its source, or restore a backup"
damage_advice cause.BadBase = codes "no hive begins here: check which file this is, or restore a backup"
damage_advice cause.NotClean = codes "not closed: open its store, or `recover` it by its logs; or restore a backup"
damage_advice cause.BadLog = codes "its logs don't fit: take the hive and all its logs from one moment; or restore a backup"
damage_advice _ = codes "damaged: restore a backup; other programs may read what is left"

-- about a refusal
abbrev pub advice : Refusal → List ℕ
advice refusal.NoMemory = codes "memory was wanting: give more and check again"
advice refusal.Unsupported = codes "a version, type or flag that this program doesn't read: use a program that does"
advice refusal.TooLarge = codes "over a limit of this program: use a program that reads it"
advice (refusal.HiveDamaged hive cause) = damage_advice cause
advice _ = codes "restore a backup"

-- about a refused file, which may be a log by its base block
abbrev pub file_advice : Bool → Refusal → List ℕ
file_advice false why = advice why
file_advice true refusal.NoMemory = advice refusal.NoMemory
file_advice true _ = codes "a log, not a hive: check the hive's own file, or `recover` it by its logs"
