-- A run of events on a disk. Each event makes at most one device call, so each moment of the run is the
-- moment of some boundary between two events.
use Rattle.std.specs.Prelude.{◌⊎◌, ℕ, ◌+◌, ◌*◌, ◌<◌, ◌≤◌, List, [], ◌∷◌, Bool, IsTrue}
use Rattle.crash_model.specs.Changes.{Rules}
use Rattle.crash_model.specs.Promises.{Content, JournalOn, HiveOn}
use Rattle.crash_model.specs.Invariant.{State, InvariantHolds}

-- A boundary is an engine between two events: the number of device calls made so far, and the state.
pub record Boundary (T Op : Type 0) : Type 0 where
  pub clock : ℕ
  pub state : State T Op

-- A crash at moment k may leave bytes of file f if a test says so.
abbrev pub LeavesBy : (ℕ → ℕ → List ℕ → Bool) → ℕ → ℕ → List ℕ → Type 0
LeavesBy test k f c = IsTrue (test k f c)

-- All is in order at the boundary: the engine's invariant holds, and at the boundary's moment the promises of the
-- journal and of each hive hold. `may_leave k f c` says that a crash at moment k may leave the bytes c of file f.
pub record InOrder {T Op : Type 0} (rules : Rules T Op) (decodes : List ℕ → Content Op → Type 0)
    (holds : List ℕ → List ℕ → T × ℕ → Type 0) (most hives : ℕ) (may_leave : ℕ → ℕ → List ℕ → Type 0)
    (b : Boundary T Op) : Type 0 where
  pub kept : InvariantHolds rules most hives b.state
  pub journal : JournalOn decodes b.state.journal (may_leave b.clock 0)
  pub files : (i : ℕ) → i < hives
      → HiveOn holds (b.state.files i) (may_leave b.clock (1 + 2 * i)) (may_leave b.clock (2 + 2 * i))

-- One event makes at most one device call.
abbrev pub Follows : {T Op : Type 0} → Boundary T Op → Boundary T Op → Type 0
Follows old new = new.clock ≤ old.clock + 1

-- Boundaries one after another, one event between each two.
abbrev pub Trace : {T Op : Type 0} → Boundary T Op → List (Boundary T Op) → Type 0
Trace b [] = Unit {0}
Trace b (c ∷ cs) = Follows b c × Trace c cs

-- The clock of the last boundary.
abbrev pub end_of : {T Op : Type 0} → Boundary T Op → List (Boundary T Op) → ℕ
end_of b [] = b.clock
end_of b (c ∷ cs) = end_of c cs

-- Something holds at one of these boundaries.
abbrev pub AtSome : {T Op : Type 0} → (Boundary T Op → Type 0) → List (Boundary T Op) → Type 0
AtSome P [] = ⊥
AtSome P (b ∷ bs) = P b ⊎ AtSome P bs

-- These files may be what a crash at moment k left, each for itself.
abbrev pub LeftAt : (ℕ → ℕ → List ℕ → Type 0) → ℕ → (ℕ → List ℕ) → Type 0
LeftAt may_leave k files = (f : ℕ) → may_leave k f (files f)
