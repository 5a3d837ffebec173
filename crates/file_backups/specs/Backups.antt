-- What a copy of a store in files holds.
use Rattle.std.specs.Prelude.{ℕ, List, [], length}
use Rattle.reg_tree.specs.Maps.{TreeMap}
use Rattle.commit_journal.specs.Store.{Store}
use Rattle.file_disk.specs.Records.{AreFaithful, Seen, states}
use Rattle.file_disk.specs.declared.record.Call.{Call}
use Rattle.recovery.specs.Created.{RecoversTrees}

-- files that are all empty at first
abbrev pub empty_files : Seen
empty_files = record { first = λ f. []; torn = λ k. [] }

-- New files were written by some calls. If each answer of the system was one that they allow, then whatever a crash leaves
-- of them from then on recovers these trees, as a store's at a number.
abbrev pub CopyIsLeft : Store → ℕ → List TreeMap → Type 0
CopyIsLeft store number trees = (calls : List Call) × (AreFaithful empty_files calls → RecoversTrees store number trees (states empty_files calls (length calls)))
