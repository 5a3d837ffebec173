-- What an opening after a power cut finds.
use Rattle.std.specs.Prelude.{◌≡◌, ◌⊎◌, ℕ, ◌<◌, ◌≤◌, List}
use Rattle.refusals.specs.declared.refusal.Refusal.TheVariants.{DiskFault}
use Rattle.disk_model.specs.FileState.{FileState}
use Rattle.disk_model.specs.Tear.{IsCrashOf}
use Rattle.disk_model.specs.declared.tear.Tear.{Tear}
use Rattle.reg_tree.specs.Maps.{TreeMap}
use Rattle.commit_journal.specs.Store.{Store}
use Rattle.recovery.specs.Recovered.{IsNoStore, IsRecovered, seen_in}
use Rattle.crash_sweep.specs.declared.finding.NumberRange.{NumberRange}
use Rattle.crash_sweep.specs.declared.finding.Finding.{Finding}
use Rattle.crash_sweep.specs.declared.finding.Finding.TheVariants.{Within, Outside, OtherTrees, Nothing}

-- files recover this number
abbrev pub FilesRecoverNumber : (ℕ → List ℕ) → ℕ → Type 0
FilesRecoverNumber files number = (store : Store) × (trees : List TreeMap) × IsRecovered files store number trees

-- a finding says which number files recover, and whether that is within bounds; or why they recover nothing
abbrev pub FindingIsRight : NumberRange → (ℕ → List ℕ) → Finding → Type 0
FindingIsRight bounds files (Within number) = FilesRecoverNumber files number × (bounds.low ≤ number) × (number ≤ bounds.high)
FindingIsRight bounds files (Outside number) = FilesRecoverNumber files number × ((number < bounds.low) ⊎ (bounds.high < number))
FindingIsRight bounds files (OtherTrees number) = FilesRecoverNumber files number × (bounds.low ≤ number) × (number ≤ bounds.high)
FindingIsRight bounds files (Nothing why) = (why ≡ DiskFault) ⊎ IsNoStore (Unit {0}) files why

-- a power cut with this tear, of files in these states, leaves files for which a finding is right
abbrev pub CrashGivesFinding : Tear → NumberRange → (ℕ → FileState) → Finding → Type 0
CrashGivesFinding tear bounds state finding = (left : ℕ → FileState) × ((f : ℕ) → IsCrashOf tear (state f) (left f)) × FindingIsRight bounds (seen_in left) finding
