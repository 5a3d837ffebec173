-- What the files of a disk hold by the record of its calls, and when each answer is one that they allow.
use Rattle.std.specs.Prelude.{◌≡◌, ◌⊎◌, ◌==◌, ℕ, ◌+◌, nat_le, cond, if◌then◌else◌, Bool, true, false, List, [], ◌∷◌, ◌++◌, length, ⊤}
use Rattle.disk_model.specs.Call.{ReadGives}
use Rattle.disk_model.specs.FileState.{FileState, PutsPart, after_cut, after_write, at_rest, put, resized}
use Rattle.file_disk.specs.declared.record.Bytes.{Bytes}
use Rattle.file_disk.specs.declared.record.Bytes.TheVariants as bytes
use Rattle.file_disk.specs.declared.record.Call.{Call}
use Rattle.file_disk.specs.declared.record.Call.TheVariants as call
use Rattle.file_disk.specs.declared.record.Record.{Record}
use Rattle.file_disk.specs.declared.record.Record.TheVariants as record'

-- the bytes of a call, in their order
abbrev pub bytes_in : Bytes → List ℕ
bytes_in bytes.None = []
bytes_in (bytes.Then' shape before byte) = bytes_in before ++ byte ∷ []

-- the calls of a record, the last one first
abbrev pub calls_in : Record → List Call
calls_in record'.Begun = []
calls_in (record'.Then' shape before call) = call ∷ calls_in before

-- how many of some calls have failed
abbrev pub has_failed : Call → Bool
has_failed (call.Measured file length) = false
has_failed (call.Read file offset before after count) = false
has_failed (call.Written file offset bytes failed) = failed
has_failed (call.Cut file length failed) = failed
has_failed (call.Synced file) = false
has_failed call.Denied = true

abbrev pub failures_in : List Call → ℕ
failures_in [] = 0
failures_in (last ∷ calls) = cond (has_failed last) (failures_in calls + 1) (failures_in calls)

-- What the files of a folder hold as it is opened, by their numbers; and what a file shows after a write or a cut that
-- failed, by the number of calls before it.
pub record Seen : Type 0 where
  pub first : ℕ → List ℕ
  pub torn : ℕ → List ℕ

-- the file of this number alone changes
abbrev pub changed : ℕ → FileState → (ℕ → FileState) → ℕ → FileState
changed file new state f = if f == file then new else state f

-- the files after a call, if a file shows this after one that failed
abbrev pub after : Call → List ℕ → (ℕ → FileState) → ℕ → FileState
after (call.Measured file length) torn state = state
after (call.Read file offset before later count) torn state = state
after (call.Written file offset bytes failed) torn state = changed file (after_write (state file) offset (bytes_in bytes.value) (cond failed torn (put (state file).seen offset (bytes_in bytes.value)))) state
after (call.Cut file length failed) torn state = changed file (after_cut (state file) length (cond failed torn (resized (state file).seen length))) state
after (call.Synced file) torn state = changed file (at_rest (state file).seen) state
after call.Denied torn state = state

-- the files after a number of first calls, or after all of them if there are no more
unfoldable pub states : Seen → List Call → ℕ → ℕ → FileState
states seen [] k f = at_rest (seen.first f)
states seen (last ∷ calls) k f = if nat_le k (length calls) then states seen calls k f else after last (seen.torn (length calls)) (states seen calls (length calls)) f

-- an answer is one that the files allow
abbrev pub Allows : Call → List ℕ → (ℕ → FileState) → Type 0
Allows (call.Measured file told) torn state = told ≡ length (state file).seen
Allows (call.Read file offset before later count) torn state = ReadGives offset (state file).seen (bytes_in before.value) (bytes_in later.value) count
Allows (call.Written file offset bytes true) torn state = PutsPart offset (bytes_in bytes.value) (state file).seen torn
Allows (call.Written file offset bytes false) torn state = ⊤
Allows (call.Cut file length true) torn state = (torn ≡ (state file).seen) ⊎ (torn ≡ resized (state file).seen length)
Allows (call.Cut file length false) torn state = ⊤
Allows (call.Synced file) torn state = ⊤
Allows call.Denied torn state = ⊤

-- each answer is one that the files allow
unfoldable pub AreFaithful : Seen → List Call → Type 0
AreFaithful seen [] = ⊤
AreFaithful seen (last ∷ calls) = AreFaithful seen calls × Allows last (seen.torn (length calls)) (states seen calls (length calls))
