-- Crashes, openings, and whole lists of lives.
use Rattle.std.specs.Prelude.{◌≡◌, ◌⊎◌, ℕ, ◌<◌, ◌≤◌, List, [], ◌∷◌}
use Rattle.std.specs.List.{AllByRecursion}
use Rattle.crash_model.specs.Changes.{Rules}
use Rattle.crash_model.specs.Promises.{Leaves, settled, Content, Answer}
use Rattle.crash_model.specs.Recovery.{Recovers}
use Rattle.crash_model.specs.Life.{last_number, tree_at, opened_life}
use Rattle.crash_model.specs.Invariant.{State}
use Rattle.crash_model.specs.Steps.{AllStay, Step}
use Rattle.crash_model.specs.Memory.{Remembers, Absorbs, MemoryStep}

-- A crash, and an opening of what it left: of the journal and of each hive something that it might leave, and
-- then any number and trees that are recovered from these. Whether the crash came in a step, between two,
-- inside an opening or inside a repair makes no difference here: each leaves what the choices say.
pub record Reopens {T Op : Type 0} (rules : Rules T Op) (most hives : ℕ) (old new : State T Op) : Type 0 where
  pub n : ℕ
  pub trees : ℕ → T
  pub decoded : Content Op
  pub held : ℕ → T × ℕ
  pub left : Leaves old.journal decoded
  pub each : (i : ℕ) → i < hives → Leaves (old.files i) (held i)
  pub found : Recovers rules most hives decoded held n trees
  pub life : new.life ≡ opened_life n trees decoded
  pub durable : new.durable ≡ n
  pub journal : new.journal ≡ settled decoded
  pub files : AllStay hives (λ i. settled (held i)) new.files

-- The new life begins at a number that is not below the old durable one and not above the last accepted one. It begins
-- with the old life's trees after that number.
pub record LifeContinues {T Op : Type 0} (rules : Rules T Op) (hives : ℕ) (old new : State T Op) : Type 0 where
  pub no_loss : old.durable ≤ new.durable
  pub no_more : new.durable ≤ last_number old.life
  pub trees : (i : ℕ) → i < hives → new.life.trees i ≡ tree_at rules old.life new.durable i

-- A step of the protocol, a call in which memory counts as under way, or a call that changes nothing.
abbrev pub Moves : {T Op : Type 0} → Rules T Op → ℕ → ℕ → State T Op → State T Op → Type 0
Moves {T = T} rules most hives s t = Step rules most hives s t ⊎ ((memory : ℕ → T × ℕ) × Remembers rules hives memory s t)
    ⊎ Absorbs rules hives s t ⊎ ((answer : Answer) × MemoryStep hives answer s t) ⊎ (t ≡ s)

-- Steps of the protocol and openings after crashes, one after another, in any order.
abbrev pub Runs : {T Op : Type 0} → Rules T Op → ℕ → ℕ → State T Op → List (State T Op) → Type 0
Runs rules most hives s [] = Unit {0}
Runs rules most hives s (t ∷ ts) = (Moves rules most hives s t ⊎ Reopens rules most hives s t)
    × Runs rules most hives t ts

-- In such a list, each opening continues from the state before it.
abbrev pub OpeningsContinue : {T Op : Type 0} → Rules T Op → ℕ → ℕ → State T Op → List (State T Op) → Type 0
OpeningsContinue rules most hives s [] = Unit {0}
OpeningsContinue rules most hives s (t ∷ ts) = (Moves rules most hives s t ⊎ LifeContinues rules hives s t)
    × OpeningsContinue rules most hives t ts

-- No durable number is lost: each is at most all later ones.
abbrev pub OnlyRises : {T Op : Type 0} → List (State T Op) → Type 0
OnlyRises [] = Unit {0}
OnlyRises (s ∷ ts) = AllByRecursion (λ t. s.durable ≤ t.durable) ts × OnlyRises ts
