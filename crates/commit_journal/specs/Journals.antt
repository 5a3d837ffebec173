-- What contracts see of a journal.
use Rattle.std.specs.Prelude.{◌≡◌, ◌⊎◌, ℕ, ◌+◌, ◌-◌, ◌<◌, List, [], ◌∷◌, ◌++◌, length, take, Some}
use Rattle.reg_tree.specs.declared.element.Element.{Element}
use Rattle.crash_model.specs.Changes as law
use Rattle.crash_model.specs.Promises.{Choice, Content, nothing, Ends, JournalSays, Answer.More, Answer.Done}
use Rattle.change_codec.specs.ModelChanges.{TimedOp, timed_elements}
use Rattle.commit_journal.specs.Encoding.{Encodings, IsBody}
use Rattle.commit_journal.specs.Store.{Store, encodings}
use Rattle.commit_journal.specs.OnDisk.{JournalView, view_at, with_elements}
use Rattle.commit_journal.specs.Handed.{IsLongestPrefix}
use Rattle.commit_journal.specs.OnDisk as phase
use Rattle.commit_journal.specs.GhostLog.{logged_changes, logged_content}
use Rattle.commit_journal.specs.declared.extent.Extent.{Extent}
use Rattle.commit_journal.specs.declared.journal.Phase.{Phase}
use Rattle.commit_journal.specs.declared.journal.Phase.TheVariants.{AtRest, BodyWritten, BodySynced, GateWritten, TrimWritten, Broken}
use Rattle.commit_journal.specs.declared.journal.Journal.{Journal}

abbrev pub content_of : Extent → Content TimedOp
content_of s = logged_content s.below s.ghost_log

-- what is under way in a phase, the offset of its gate, and how far it has come
abbrev pub view_in_phase : Extent → Phase → JournalView TimedOp
view_in_phase now AtRest = view_at (content_of now) nothing now.gate now.gate phase.Phase.AtRest
view_in_phase now (BodyWritten batch) = view_at (content_of now) (content_of batch.ahead) now.gate batch.ahead.gate phase.Phase.BodyWritten
view_in_phase now (BodySynced batch) = view_at (content_of now) (content_of batch.ahead) now.gate batch.ahead.gate phase.Phase.BodySynced
view_in_phase now (GateWritten batch) = view_at (content_of now) (content_of batch.ahead) now.gate batch.ahead.gate phase.Phase.GateWritten
view_in_phase now TrimWritten = view_at (content_of now) nothing now.gate 64 phase.Phase.TrimWritten
view_in_phase now (Broken ahead) = view_at (content_of now) (content_of ahead.value) now.gate ahead.value.gate phase.Phase.Broken

abbrev pub journal_view : Journal → JournalView TimedOp
journal_view j = view_in_phase j.on_device j.phase

-- the durable content of the file, and what is under way there
abbrev pub choice_of : Journal → Choice (Content TimedOp)
choice_of j = (journal_view j).choice

-- the durable changes
abbrev pub changes_of : Journal → List Element
changes_of j = logged_changes j.on_device.ghost_log

-- the store of the journal
abbrev pub store_of : Journal → Store
store_of j = record { id = j.id; hives = j.hives; layout = j.layout }

abbrev pub encodings_of : Journal → Encodings TimedOp
encodings_of j = encodings (store_of j)

-- A trim is under way: its first call was made.
abbrev pub IsTrimming : Journal → Type 0
IsTrimming j = (journal_view j).phase ≡ phase.Phase.TrimWritten

-- The device has failed in a call of this journal.
abbrev pub IsBroken : Journal → Type 0
IsBroken j = (journal_view j).phase ≡ phase.Phase.Broken

-- A batch is ready to be written: as many of the handed elements as fit, at least one; their body, with a gate that
-- isn't open after it; and what will be durable.
pub record IsReady (t : Encodings TimedOp) (now : Extent) (first : ℕ) (handed : List Element) (bytes : List ℕ) (ahead : Extent) : Type 0 where
  pub count : ℕ
  pub chunk : List ℕ
  pub some : 0 < count
  pub prefix : IsLongestPrefix count handed
  pub body : IsBody t chunk (record { first = first; elements = timed_elements (take count handed) })
  pub is : bytes ≡ chunk ++ 0 ∷ []
  pub decodes : content_of ahead ≡ with_elements (content_of now) (first - 1) (timed_elements (take count handed))
  pub gate : ahead.gate ≡ now.gate + 1 + length chunk

-- A batch that begins takes as many of the first elements as fit a body.
abbrev pub BeginsLongest : ℕ → List Element → Choice (Content TimedOp) → Choice (Content TimedOp) → Type 0
BeginsLongest first handed old new = (count : ℕ) × IsLongestPrefix count handed
    × (new.next ≡ Some (with_elements old.now (first - 1) (timed_elements (take count handed))))

-- How many steps that aren't refused are left until something is durable, if elements wait: a trim that is under way is
-- ended first, and a batch takes four.
abbrev pub steps_in : phase.Phase → ℕ
steps_in phase.Phase.AtRest = 4
steps_in phase.Phase.BodyWritten = 3
steps_in phase.Phase.BodySynced = 2
steps_in phase.Phase.GateWritten = 1
steps_in phase.Phase.TrimWritten = 5
steps_in phase.Phase.Broken = 0

abbrev pub steps_left : Journal → ℕ
steps_left j = steps_in (journal_view j).phase

-- The batch that was under way is durable, and nothing else is under way.
abbrev pub BatchIsDurable : Journal → Journal → Type 0
BatchIsDurable old new = (steps_left old ≡ 1) × Ends (choice_of old) (choice_of new)

-- A step that wasn't refused came nearer to that, or it was the last one: the batch that was under way is durable.
abbrev pub MakesProgress : Journal → Journal → Type 0
MakesProgress old new = (steps_left new + 1 ≡ steps_left old) ⊎ BatchIsDurable old new

-- One of the first `count` steps made a batch durable. These are the journals before each step.
abbrev pub DurableWithin : ℕ → (ℕ → Journal) → Type 0
DurableWithin count journals = (k : ℕ) × (k < count) × BatchIsDurable (journals k) (journals (k + 1))

-- What a step that isn't refused says. It isn't idle since elements wait.
pub record IsStep (old new : Journal) : Type 0 where
  pub first : ℕ
  pub handed : List (law.Element TimedOp)
  pub says : JournalSays first handed More (choice_of old) (choice_of new) ⊎ JournalSays first handed Done (choice_of old) (choice_of new)
  pub nearer : MakesProgress old new

-- More elements are durable than before.
abbrev pub DurableGrows : Journal → Journal → Type 0
DurableGrows old new = length (choice_of old).now.elements < length (choice_of new).now.elements
