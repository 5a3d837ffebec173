-- The journal's file as it is read.
use Rattle.std.specs.Prelude.{◌≡◌, ◌⊎◌, ℕ, ◌+◌, ◌-◌, List, ◌++◌, length, take, drop}
use Rattle.refusals.specs.declared.refusal.Refusal.{Refusal}
use Rattle.refusals.specs.declared.refusal.Refusal.TheVariants.{NoMemory, DiskFault, JournalDamaged}
use Rattle.disk_model.specs.FileState.{FileState}
use Rattle.commit_journal.specs.declared.buffer.ReadBuffer.{ReadBuffer}

-- the bytes in memory that aren't taken
abbrev pub held : ReadBuffer → List ℕ
held w = take (w.end - w.start) (drop w.start w.bytes.items)

-- the bytes of a file that aren't taken: those in memory, and those after them
abbrev pub rest_of : List ℕ → ReadBuffer → List ℕ
rest_of file w = held w ++ drop w.at file

-- how many these are, by the file's length
abbrev pub left_of : ReadBuffer → ℕ
left_of w = length (held w) + (w.end_of_file - w.at)

-- what a read of the journal's file gives at a moment
abbrev pub journal_bytes_at : (ℕ → ℕ → FileState) → ℕ → List ℕ
journal_bytes_at states clock = (states clock 0).seen

-- The refusal is `NoMemory`; or the device failed; or the file is damaged, in this way.
abbrev pub FailsBy : Type 0 → Type 0 → Refusal → Type 0
FailsBy fault damaged why = (why ≡ NoMemory) ⊎ (((why ≡ DiskFault) × fault) ⊎ ((why ≡ JournalDamaged) × damaged))
