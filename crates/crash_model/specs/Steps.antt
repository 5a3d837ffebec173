-- The events of an engine, as far as the journal and the hives see them: the protocol.
use Rattle.std.specs.Prelude.{◌≡◌, ◌⊎◌, ℕ, ◌+◌, ◌-◌, ◌<◌, List, [], ◌∷◌, drop, IsTrue, Some, None}
use Rattle.crash_model.specs.Changes.{Rules, AreLegal, Element, on_hive, ops_on, replay, applied}
use Rattle.crash_model.specs.Promises.{Choice, under_way, top, Ends, BeginsBatch, BeginsTrim}
use Rattle.crash_model.specs.Recovery.{above}
use Rattle.crash_model.specs.Life.{opened_number, last_number, ops_in, tree_at, NamesHive, with_accepted, folded_life}
use Rattle.crash_model.specs.Invariant.{State}

-- The accepted elements that are not durable.
abbrev pub pending_elements : {T Op : Type 0} → State T Op → List (Element Op)
pending_elements s = drop (s.durable - opened_number s.life) s.life.accepted

-- All hives but the i-th are as they were.
abbrev pub OthersStay : {X : Type 0} → ℕ → ℕ → (ℕ → X) → (ℕ → X) → Type 0
OthersStay hives i old new = (j : ℕ) → j < hives → (j ≡ i) ⊎ (new j ≡ old j)

-- All hives are as they were.
abbrev pub AllStay : {X : Type 0} → ℕ → (ℕ → X) → (ℕ → X) → Type 0
AllStay hives old new = (j : ℕ) → j < hives → new j ≡ old j

-- A trim may begin: the durable content of each hive has every operation on it that the journal decodes to.
abbrev pub MayTrim : {T Op : Type 0} → ℕ → State T Op → Type 0
MayTrim hives s = (i : ℕ) → i < hives → ops_on i (above (s.files i).now.1 s.journal.now) ≡ []

-- A hive begins a flush of these operations: the tree that they make of the durable one is under way, under the number
-- `upto`.
abbrev pub BeginsFlush : {T Op : Type 0} → Rules T Op → List Op → ℕ → Choice (T × ℕ) → Choice (T × ℕ) → Type 0
BeginsFlush {T = T} rules ops upto old new = (t : T) × (old.next ≡ None)
    × (replay rules ops old.now.0 ≡ Some t) × (new ≡ under_way old.now (t, upto))

-- A change is accepted: there is room for its number, it names a hive, it is legal hive by hive on the trees
-- of now, and each hive's tree after it is allowed. No file changes.
pub record Accepts {T Op : Type 0} (rules : Rules T Op) (most hives : ℕ) (old new : State T Op) : Type 0 where
  pub element : Element Op
  pub room : last_number old.life < most
  pub names : NamesHive hives element
  pub legal : (i : ℕ) → i < hives → AreLegal rules (on_hive i element) (tree_at rules old.life (last_number old.life) i)
  pub allowed : (i : ℕ) → i < hives → IsTrue (rules.allows i (last_number old.life + 1)
      (applied rules (on_hive i element) (tree_at rules old.life (last_number old.life) i)))
  pub life : new.life ≡ with_accepted old.life element
  pub durable : new.durable ≡ old.durable
  pub journal : new.journal ≡ old.journal
  pub files : AllStay hives old.files new.files

-- A batch of the pending elements begins, from the first of them on.
pub record Batches {T Op : Type 0} (hives : ℕ) (old new : State T Op) : Type 0 where
  pub life : new.life ≡ old.life
  pub durable : new.durable ≡ old.durable
  pub journal : BeginsBatch (old.durable + 1) (pending_elements old) old.journal new.journal
  pub files : AllStay hives old.files new.files

-- A batch or a trim ends; the durable number is then that of the last decoded element, if there is one, and else as it
-- was.
pub record EndsJournalWrite {T Op : Type 0} (hives : ℕ) (old new : State T Op) : Type 0 where
  pub life : new.life ≡ old.life
  pub journal : Ends old.journal new.journal
  pub durable : new.durable ≡ top old.durable new.journal.now
  pub files : AllStay hives old.files new.files

-- A trim begins, of a journal that decodes to an element, if it may.
pub record Trims {T Op : Type 0} (hives : ℕ) (old new : State T Op) : Type 0 where
  pub decodes : (e : Element Op) × (es : List (Element Op)) × (old.journal.now.elements ≡ e ∷ es)
  pub may : MayTrim hives old
  pub life : new.life ≡ old.life
  pub durable : new.durable ≡ old.durable
  pub journal : BeginsTrim old.journal new.journal
  pub files : AllStay hives old.files new.files

-- A hive begins a flush of the durable elements that it lacks, and of no others.
pub record Flushes {T Op : Type 0} (rules : Rules T Op) (hives : ℕ) (old new : State T Op) : Type 0 where
  pub hive : ℕ
  pub life : new.life ≡ old.life
  pub durable : new.durable ≡ old.durable
  pub journal : new.journal ≡ old.journal
  pub file : BeginsFlush rules (ops_in old.life hive (old.files hive).now.1 old.durable) old.durable
      (old.files hive) (new.files hive)
  pub files : OthersStay hives hive old.files new.files

-- A hive's flush ends.
pub record HiveFlushEnds {T Op : Type 0} (hives : ℕ) (old new : State T Op) : Type 0 where
  pub hive : ℕ
  pub life : new.life ≡ old.life
  pub durable : new.durable ≡ old.durable
  pub journal : new.journal ≡ old.journal
  pub file : Ends (old.files hive) (new.files hive)
  pub files : OthersStay hives hive old.files new.files

-- All is durable, and the accepted elements are counted among the opened ones, so the history may be discarded.
pub record Folds {T Op : Type 0} (rules : Rules T Op) (hives : ℕ) (old new : State T Op) : Type 0 where
  pub all_durable : old.durable ≡ last_number old.life
  pub life : new.life ≡ folded_life rules old.life
  pub durable : new.durable ≡ old.durable
  pub journal : new.journal ≡ old.journal
  pub files : AllStay hives old.files new.files

-- One step of the protocol is one of these seven.
abbrev pub Step : {T Op : Type 0} → Rules T Op → ℕ → ℕ → State T Op → State T Op → Type 0
Step rules most hives old new = Accepts rules most hives old new ⊎ Batches hives old new
    ⊎ EndsJournalWrite hives old new ⊎ Trims hives old new ⊎ Flushes rules hives old new ⊎ HiveFlushEnds hives old new
    ⊎ Folds rules hives old new
