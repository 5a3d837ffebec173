-- Which logs the entries that are applied are of, if no entry above a number is. An entry is the list of its bytes.
use Rattle.std.specs.Prelude.{◌≡◌, ℕ, ◌+◌, ◌-◌, true, Option, Some, List, [], ◌∷◌, ◌++◌, length, slice_get, slice_index_or}
use Rattle.base_block.specs.declared.fields.SequenceNumber.{SequenceNumber}
use Rattle.hive_log_entries.specs.Entries.{number_of}
use Rattle.hive_recovery.specs.Limits.{usable}
use Rattle.hive_recovery.specs.Sequences.{begins}
use Rattle.hive_recovery.specs.declared.log.Log.{Log}
use Rattle.hive_recovery.specs.declared.sequence.LogRun.{LogRun}

-- a log has a number among logs, which are counted from 1 on
abbrev pub IsNumbered : List Log → ℕ → Log → Type 0
IsNumbered logs number log = (index : ℕ) × (number ≡ index + 1) × (slice_get logs index ≡ Some log)

-- entries are the last ones of the log of a number that may be applied
pub record AreLastOf (most : Option SequenceNumber) (logs : List Log) (number : ℕ) (part : List (List ℕ)) : Type 0 where
  pub log : Log
  pub before : List (List ℕ)
  pub there : IsNumbered logs number log
  pub end : usable most log ≡ before ++ part

-- a run is the last entries of its log that may be applied, and tells their first and their last number
pub record IsRunOf (most : Option SequenceNumber) (logs : List Log) (run : LogRun) (part : List (List ℕ)) : Type 0 where
  pub of_log : AreLastOf most logs run.log part
  pub first : begins run.first.0 part ≡ true
  pub last : run.last ≡ number_of (slice_index_or part (length part - 1) [])

-- entries are these runs of logs, one behind the other
abbrev pub AreRunsOf : Option SequenceNumber → List Log → List LogRun → List (List ℕ) → Type 0
AreRunsOf most logs [] entries = entries ≡ []
AreRunsOf most logs (run ∷ rest) entries = (part : List (List ℕ)) × (more : List (List ℕ)) × (entries ≡ part ++ more) × IsRunOf most logs run part × AreRunsOf most logs rest more
