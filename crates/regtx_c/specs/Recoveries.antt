-- What opening a hive by its logs answers and leaves open.
use Rattle.std.specs.Prelude.{◌≡◌, ◌⊎◌, ℕ, List, map, Option, None}
use Rattle.std.specs.List.{All}
use Rattle.refusals.specs.declared.refusal.Refusal.{Refusal}
use Rattle.refusals.specs.declared.refusal.Refusal.TheVariants as refusal
use Rattle.reg_tree.specs.Maps.{TreeMap}
use Rattle.hive_recovery.specs.Logs.{HasEntries, log_head}
use Rattle.hive_recovery.specs.declared.limits.RecoveryLimits.{RecoveryLimits}
use Rattle.hive_recovery.specs.declared.log.Log.{Log}
use Rattle.recovery_report.specs.Recoveries.{IsRecoveryOf}
use Rattle.recovery_report.specs.declared.judgement.RecoveryOutcome.{RecoveryOutcome}
use Rattle.recovery_report.specs.declared.judgement.RecoveryOutcome.TheVariants as outcome
use Rattle.recovery_report.specs.declared.report.Recovery.{Recovery}
use Rattle.hive_file_reader.specs.Readings.{ShallowFileRefusedAs}
use Rattle.regtx_c.specs.declared.codes.TheConstants.{OK}
use Rattle.regtx_c.specs.declared.recovery.LogBytes.{LogBytes}
use Rattle.regtx_c.specs.Codes.{refusal_code}
use Rattle.regtx_c.specs.Openings.{HoldsFile}

-- a log is read of its bytes
abbrev pub IsLog : Log → Type 0
IsLog log = (log.head ≡ log_head log.bytes.now) × HasEntries log.bytes.now (log_head log.bytes.now) log.entries.items log.ended_at log.end

-- logs are read of these bytes, one after the other
abbrev pub AreLogs : List LogBytes → List Log → Type 0
AreLogs files logs = (map (λ (log : Log). log.bytes.now) logs ≡ map (λ (its : LogBytes). its.bytes.now) files) × All IsLog logs

-- nothing is left out of what logs have
abbrev pub no_limits : RecoveryLimits
no_limits = record { from = None; to = None }

-- this comes of a recovery of a hive's file by logs
abbrev pub IsOutcomeOf : List ℕ → List LogBytes → RecoveryOutcome → Type 0
IsOutcomeOf file logs its = (read : List Log) × AreLogs logs read × (found : Recovery) × IsRecoveryOf file no_limits read found × (found.outcome ≡ its)

-- a file comes of it with these bytes, a whole hive or not
abbrev pub HasBytes : RecoveryOutcome → List ℕ → Type 0
HasBytes (outcome.Whole made) bytes = made.bytes.items ≡ bytes
HasBytes (outcome.NotWhole made) bytes = made.bytes.items ≡ bytes
HasBytes (outcome.Refused why) bytes = ⊥

abbrev pub GivesFile : List ℕ → List LogBytes → List ℕ → Type 0
GivesFile file logs bytes = (its : RecoveryOutcome) × IsOutcomeOf file logs its × HasBytes its bytes

-- no file comes of it for a reason, or memory was not given
abbrev pub GivesNone : List ℕ → List LogBytes → Refusal → Type 0
GivesNone file logs why = (why ≡ refusal.NoMemory) ⊎ IsOutcomeOf file logs (outcome.Refused why)

-- why there is no hive: no file comes of it, or one that is refused as hive 0
abbrev pub RecoveryRefused : List ℕ → List LogBytes → Refusal → Type 0
RecoveryRefused file logs why = GivesNone file logs why ⊎ ((bytes : List ℕ) × GivesFile file logs bytes × ShallowFileRefusedAs 0 bytes why)

-- a file is opened by logs: at OK the tree is open that the file holds which comes of a recovery, at any other number there is
-- none for what that says, and what was open stays
abbrev pub IsOpenedByLogs : List ℕ → List LogBytes → Option TreeMap → Option TreeMap → ℕ → Type 0
IsOpenedByLogs file logs before after code =
    ((code ≡ OK) × (bytes : List ℕ) × GivesFile file logs bytes × HoldsFile bytes after)
    ⊎ ((why : Refusal) × RecoveryRefused file logs why × (code ≡ refusal_code why) × (after ≡ before))
