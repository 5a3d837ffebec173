-- What a hive has in memory, counted as under way to its files at all times.
use Rattle.std.specs.Prelude.{◌≡◌, ◌⊎◌, ℕ, ◌<◌, ◌≤◌, Some, None}
use Rattle.crash_model.specs.Changes.{Rules, replay}
use Rattle.crash_model.specs.Promises.{Choice, under_way, Answer, HiveSays}
use Rattle.crash_model.specs.Life.{ops_in}
use Rattle.crash_model.specs.Invariant.{State}
use Rattle.crash_model.specs.Steps.{OthersStay, AllStay}
use Rattle.crash_model.specs.Calls.{MemoryFits}

-- A hive's choice with what it has in memory counted as under way, whether or not a flush has begun.
abbrev pub with_memory : {X : Type 0} → Choice X → X → Choice X
with_memory file memory = under_way file.now memory

-- What is under way to a hive's files, if anything, is what it has in memory.
abbrev pub IsOfMemory : {X : Type 0} → Choice X → X → Type 0
IsOfMemory file memory = (file.next ≡ None) ⊎ (file.next ≡ Some memory)

-- From here on what each hive has in memory counts as under way; it fits.
pub record Remembers {T Op : Type 0} (rules : Rules T Op) (hives : ℕ) (memory : ℕ → T
    × ℕ) (old new : State T Op) : Type 0 where
  pub fits : (i : ℕ) → i < hives → MemoryFits rules old i (memory i)
  pub life : new.life ≡ old.life
  pub durable : new.durable ≡ old.durable
  pub journal : new.journal ≡ old.journal
  pub files : AllStay hives (λ i. with_memory (old.files i) (memory i)) new.files

-- A hive replays on its memory the elements above the memory's number, up to a number that is not below it
-- and not above the durable one.
pub record Absorbs {T Op : Type 0} (rules : Rules T Op) (hives : ℕ) (old new : State T Op) : Type 0 where
  pub hive : ℕ
  pub file : Choice (T × ℕ)
  pub memory : T × ℕ
  pub upto : ℕ
  pub tree : T
  pub before : old.files hive ≡ with_memory file memory
  pub low : memory.1 ≤ upto
  pub high : upto ≤ old.durable
  pub replayed : replay rules (ops_in old.life hive memory.1 upto) memory.0 ≡ Some tree
  pub after : new.files hive ≡ with_memory file (tree, upto)
  pub life : new.life ≡ old.life
  pub durable : new.durable ≡ old.durable
  pub journal : new.journal ≡ old.journal
  pub others : OthersStay hives hive old.files new.files

-- A flush step of a hive whose memory counts as under way: the files' own choice changes as the step says, and the
-- memory still counts.
pub record MemoryStep {T Op : Type 0} (hives : ℕ) (answer : Answer) (old new : State T Op) : Type 0 where
  pub hive : ℕ
  pub memory : T × ℕ
  pub file : Choice (T × ℕ)
  pub written : Choice (T × ℕ)
  pub own : IsOfMemory file memory
  pub says : HiveSays memory answer file written
  pub before : old.files hive ≡ with_memory file memory
  pub after : new.files hive ≡ with_memory written memory
  pub life : new.life ≡ old.life
  pub durable : new.durable ≡ old.durable
  pub journal : new.journal ≡ old.journal
  pub others : OthersStay hives hive old.files new.files
