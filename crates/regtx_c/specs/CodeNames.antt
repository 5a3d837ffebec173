-- The name that regtx.h gives a number, and which numbers are damage.
use Rattle.std.specs.Prelude.{◌≡◌, ◌≢◌, ℕ, ◌==◌, if◌then◌else◌, Bool, true, false, List, codes, MatchBool}
use Rattle.refusals.specs.declared.refusal.Cause.{Cause}
use Rattle.refusals.specs.declared.refusal.Refusal.{Refusal}
use Rattle.refusals.specs.declared.refusal.Cause.TheVariants as cause
use Rattle.refusals.specs.declared.refusal.Refusal.TheVariants as refusal
use Rattle.regtx_c.specs.declared.codes.TheConstants.{OK, NOT_OPEN, NO_ROOM}
use Rattle.regtx_c.specs.declared.code_names.TheConstants.{HIVE_DAMAGED}
use Rattle.regtx_c.specs.Codes.{damage_code, refusal_code}
use Rattle.regtx_c.specs.Buffers.{IsCopied}

-- the name of the number of a cause of damage
abbrev pub damage_code_name : Cause → List ℕ
damage_code_name cause.Truncated = codes "REGTX_TRUNCATED"
damage_code_name cause.BadBase = codes "REGTX_BAD_BASE"
damage_code_name cause.BadBin = codes "REGTX_BAD_BIN"
damage_code_name cause.BadCell = codes "REGTX_BAD_CELL"
damage_code_name cause.BadOffset = codes "REGTX_BAD_OFFSET"
damage_code_name cause.BadRecord = codes "REGTX_BAD_RECORD"
damage_code_name cause.BadList = codes "REGTX_BAD_LIST"
damage_code_name cause.BadName = codes "REGTX_BAD_STORED_NAME"
damage_code_name cause.Shared = codes "REGTX_SHARED"
damage_code_name cause.BadLog = codes "REGTX_BAD_LOG"
damage_code_name cause.NotClean = codes "REGTX_NOT_CLEAN"
damage_code_name cause.BadStore = codes "REGTX_BAD_STORE"
damage_code_name cause.TooLarge = codes "REGTX_HIVE_TOO_LARGE"

-- the name of the number of a refusal
abbrev pub refusal_code_name : Refusal → List ℕ
refusal_code_name refusal.NoMemory = codes "REGTX_NO_MEMORY"
refusal_code_name refusal.NotFound = codes "REGTX_NOT_FOUND"
refusal_code_name refusal.HasSubkeys = codes "REGTX_HAS_SUBKEYS"
refusal_code_name refusal.BadName = codes "REGTX_BAD_NAME"
refusal_code_name refusal.TooDeep = codes "REGTX_TOO_DEEP"
refusal_code_name refusal.TooLarge = codes "REGTX_TOO_LARGE"
refusal_code_name refusal.Conflict = codes "REGTX_CONFLICT"
refusal_code_name refusal.NotActive = codes "REGTX_NOT_ACTIVE"
refusal_code_name refusal.NoSuchHandle = codes "REGTX_NO_SUCH_HANDLE"
refusal_code_name refusal.NoSeat = codes "REGTX_NO_SEAT"
refusal_code_name refusal.JournalFull = codes "REGTX_JOURNAL_FULL"
refusal_code_name refusal.HistoryFull = codes "REGTX_HISTORY_FULL"
refusal_code_name refusal.DiskFault = codes "REGTX_DISK_FAULT"
refusal_code_name refusal.Faulted = codes "REGTX_FAULTED"
refusal_code_name (refusal.HiveDamaged hive cause) = damage_code_name cause
refusal_code_name refusal.JournalDamaged = codes "REGTX_JOURNAL_DAMAGED"
refusal_code_name refusal.Unsupported = codes "REGTX_UNSUPPORTED"
refusal_code_name refusal.Fixed = codes "REGTX_FIXED"

-- the name of a number that no refusal has; the empty text if it is no code
abbrev pub own_code_name : ℕ → List ℕ
own_code_name code =
    if code == OK then codes "REGTX_OK"
    else if code == HIVE_DAMAGED then codes "REGTX_HIVE_DAMAGED"
    else if code == NOT_OPEN then codes "REGTX_NOT_OPEN"
    else if code == NO_ROOM then codes "REGTX_NO_ROOM"
    else codes ""

-- a text is the name of a number: the name of the refusal that has the number, if one has
pub record IsCodeName (code : ℕ) (name : List ℕ) : Type 0 where
  pub refused : (why : Refusal) → refusal_code why ≡ code → name ≡ refusal_code_name why
  pub other : ((why : Refusal) → refusal_code why ≢ code) → name ≡ own_code_name code

-- the name of a number is copied
abbrev pub CopiesName : ℕ → List ℕ → List ℕ → ℕ → ℕ → Type 0
CopiesName code before after len told = (name : List ℕ) × IsCodeName code name × IsCopied name before after len told

-- whether a refusal is damage of a hive
abbrev pub is_damage : Refusal → Bool
is_damage (refusal.HiveDamaged hive cause) = true
is_damage why = false

-- a number is one of damage: a cause has it
abbrev pub IsDamage : ℕ → Type 0
IsDamage code = (why : Cause) × (damage_code why ≡ code)

-- whether a number is one of damage is told
abbrev pub TellsDamage : ℕ → Bool → Type 0
TellsDamage code told = MatchBool told (IsDamage code) (¬ (IsDamage code))
