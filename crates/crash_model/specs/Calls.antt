-- What an engine makes of the promises of its journal and of its hives' files: one call each.
use Rattle.std.specs.Prelude.{◌≡◌, ℕ, ◌+◌, ◌<◌, ◌≤◌, List, ◌∷◌, None}
use Rattle.crash_model.specs.Changes.{Rules, Element}
use Rattle.crash_model.specs.Promises.{Content, Choice, top, Answer, Answer.Idle, Answer.More, Answer.Done, Answer.NoMemory, Answer.DiskFault, Answer.Faulted, JournalSays, TrimSays, HiveSays}
use Rattle.crash_model.specs.Invariant.{HiveFits, State}
use Rattle.crash_model.specs.Steps.{pending_elements, OthersStay, AllStay, MayTrim}

-- The durable number after a call of the journal: at Done the number of the journal's last element, and else as it was.
abbrev pub durable_after : {Op : Type 0} → Answer → ℕ → Choice (Content Op) → ℕ
durable_after Done durable journal = top durable journal.now
durable_after Idle durable journal = durable
durable_after More durable journal = durable
durable_after NoMemory durable journal = durable
durable_after DiskFault durable journal = durable
durable_after Faulted durable journal = durable

-- The engine hands the pending elements to a batch step of the journal.
pub record JournalStep {T Op : Type 0} (hives : ℕ) (answer : Answer) (old new : State T Op) : Type 0 where
  pub journal : JournalSays (old.durable + 1) (pending_elements old) answer old.journal new.journal
  pub life : new.life ≡ old.life
  pub durable : new.durable ≡ durable_after answer old.durable new.journal
  pub files : AllStay hives old.files new.files

-- The engine makes a trim step of the journal; it checks that a trim may begin.
pub record TrimStep {T Op : Type 0} (hives : ℕ) (answer : Answer) (old new : State T Op) : Type 0 where
  pub may : old.journal.next ≡ None → ((e : Element Op) × (es : List (Element Op))
      × (old.journal.now.elements ≡ e ∷ es)) × MayTrim hives old
  pub journal : TrimSays answer old.journal new.journal
  pub life : new.life ≡ old.life
  pub durable : new.durable ≡ durable_after answer old.durable new.journal
  pub files : AllStay hives old.files new.files

-- What hive i has in memory fits: its tree and number might as well be left by a crash, and the number is not below the
-- durable content's.
pub record MemoryFits {T Op : Type 0} (rules : Rules T Op) (s : State T Op) (i : ℕ) (memory : T
    × ℕ) : Type 0 where
  pub fits : HiveFits rules s.life s.durable i memory
  pub higher : (s.files i).now.1 ≤ memory.1

-- The engine makes a flush step of one hive, whose memory fits.
pub record FlusherStep {T Op : Type 0} (rules : Rules T Op) (hives : ℕ) (answer : Answer) (hive : ℕ)
    (memory : T × ℕ) (old new : State T Op) : Type 0 where
  pub fits : hive < hives → MemoryFits rules old hive memory
  pub file : HiveSays memory answer (old.files hive) (new.files hive)
  pub life : new.life ≡ old.life
  pub durable : new.durable ≡ old.durable
  pub journal : new.journal ≡ old.journal
  pub others : OthersStay hives hive old.files new.files
