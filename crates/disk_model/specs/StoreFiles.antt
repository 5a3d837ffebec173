-- The files of a store, by their numbers: the journal is file 0, and hive i has a primary file and a log.
use Rattle.std.specs.Prelude.{◌≡◌, ◌⊎◌, ℕ, ◌+◌, ◌*◌}

abbrev pub journal_file : ℕ
journal_file = 0

abbrev pub primary_file : ℕ → ℕ
primary_file i = 1 + 2 * i

abbrev pub log_file : ℕ → ℕ
log_file i = 2 + 2 * i

-- the journal's file
abbrev pub IsJournal : ℕ → Type 0
IsJournal f = f ≡ journal_file

-- the primary file of some hive: the files that have a first sector
abbrev pub IsPrimaryFile : ℕ → Type 0
IsPrimaryFile f = (i : ℕ) × (f ≡ primary_file i)

-- one of the two files of hive i
abbrev pub IsFileOfHive : ℕ → ℕ → Type 0
IsFileOfHive i f = (f ≡ primary_file i) ⊎ (f ≡ log_file i)
