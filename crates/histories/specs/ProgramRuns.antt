-- Runs of a program over the files of one store, one after another.
use Rattle.std.specs.Prelude.{◌≡◌, ◌⊎◌, ℕ, ⊤, Bool, true, List, [], ◌∷◌}
use Rattle.disk_model.specs.FileState.{FileState, at_rest}
use Rattle.disk_model.specs.Crash.{LeavesHonest}
use Rattle.engine_invariant.specs.Prefixes.{IsPrimaryOf}
use Rattle.engine.specs.Lives.{ReadsSafely}
use Rattle.store_driver.specs.Openings.{LeavesLife}

-- a run of a program: the files as it left them, and whether the device failed in it
pub record ProgramRun : Type 0 where
  pub left : ℕ → FileState
  pub failed : Bool

-- The next run begins on whatever a crash after a run left, with honest first sectors. Or it begins on the files as they
-- are. If the device failed in the run, what a read gives of them has honest first sectors then.
abbrev pub IsNextRun : ℕ → ProgramRun → (ℕ → FileState) → Type 0
IsNextRun hives run next = ((files : ℕ → List ℕ) × LeavesHonest (IsPrimaryOf hives) run.left files × ((f : ℕ) → next f ≡ at_rest (files f)))
    ⊎ ((run.failed ≡ true → ReadsSafely hives run.left) × ((f : ℕ) → next f ≡ run.left f))

-- runs, one after another, over a device that answers as it should: each leaves what a life of a store leaves
abbrev pub AreProgramRuns : ℕ → (ℕ → FileState) → List ProgramRun → Type 0
AreProgramRuns hives state [] = ⊤
AreProgramRuns hives state (run ∷ runs) = LeavesLife (run.failed ≡ true) ⊤ state run.left × ((next : ℕ → FileState) × IsNextRun hives run next × AreProgramRuns hives next runs)
