-- The view of a journal, and what its phase says of its file.
use Rattle.std.specs.Prelude.{◌≡◌, ◌≢◌, ℕ, ◌+◌, ◌≤◌, List, [], ◌∷◌, ◌++◌, length, drop, Option, Some, None}
use Rattle.crash_model.specs.Promises.{Choice, Content, nothing, floor, top, settled, under_way, JournalOn}
use Rattle.crash_model.specs.Changes.{Element}
use Rattle.crash_model.specs.Files.{DecodesBy}
use Rattle.disk_model.specs.FileState.{FileState, at_rest, after_write}
use Rattle.disk_model.specs.FileState as file
use Rattle.commit_journal.specs.declared.layout.TheConstants.{OPEN_GATE}
use Rattle.commit_journal.specs.Encoding.{Encodings, Body, IsBody, PrefixEncodes, decoded}

-- How far a batch or a trim has come.
pub data Phase : Type 0 where
  -- nothing is under way
  AtRest : Phase
  -- a batch: its body and the next gate are written; they are synced; its gate is opened
  BodyWritten : Phase
  BodySynced : Phase
  GateWritten : Phase
  -- a trim: the first gate is closed
  TrimWritten : Phase
  -- the device has failed in a call of a batch or of a trim
  Broken : Phase

-- What contracts see of a journal: the durable content and what is under way, the offset of the gate that isn't open,
-- its offset once what is under way is durable, and the phase.
pub record JournalView (Op : Type 0) : Type 0 where
  pub choice : Choice (Content Op)
  pub gate : ℕ
  pub ahead : ℕ
  pub phase : Phase

-- all is on the disk, and what is after the gate is free
pub record IsAtRest {Op : Type 0} (t : Encodings Op) (choice : Choice (Content Op)) (gate ahead : ℕ) (state : FileState) : Type 0 where
  pub prefix : List ℕ
  pub closed : ℕ
  pub tail : List ℕ
  pub none : choice.next ≡ None
  pub on_device : PrefixEncodes t choice.now gate prefix
  pub shut : closed ≢ OPEN_GATE
  pub is : state ≡ at_rest (prefix ++ closed ∷ tail)

-- the bytes of a batch that is under way: with the gate open they decode to what will be durable
pub record Batch {Op : Type 0} (t : Encodings Op) (choice : Choice (Content Op)) (gate ahead : ℕ) : Type 0 where
  pub prefix : List ℕ
  pub closed : ℕ
  pub chunk : List ℕ
  pub then : Content Op
  pub next : choice.next ≡ Some then
  pub on_device : PrefixEncodes t choice.now gate prefix
  pub shut : closed ≢ OPEN_GATE
  pub will : PrefixEncodes t then ahead (prefix ++ OPEN_GATE ∷ chunk)

-- the file with the body and the next gate after a gate
abbrev pub staged : List ℕ → ℕ → List ℕ → List ℕ → List ℕ
staged prefix gate chunk tail = prefix ++ (gate ∷ chunk ++ 0 ∷ tail)

-- the body and the next gate are written, and not yet synced
pub record IsBodyWritten {Op : Type 0} (t : Encodings Op) (choice : Choice (Content Op)) (gate ahead : ℕ) (state : FileState) : Type 0 where
  pub batch : Batch t choice gate ahead
  pub tail : List ℕ
  pub is : state ≡ after_write (at_rest (batch.prefix ++ batch.closed ∷ tail)) (gate + 1) (batch.chunk ++ 0 ∷ [])
      (staged batch.prefix batch.closed batch.chunk (drop (length batch.chunk + 1) tail))

-- they are synced
pub record IsBodySynced {Op : Type 0} (t : Encodings Op) (choice : Choice (Content Op)) (gate ahead : ℕ) (state : FileState) : Type 0 where
  pub batch : Batch t choice gate ahead
  pub tail : List ℕ
  pub is : state ≡ at_rest (staged batch.prefix batch.closed batch.chunk tail)

-- the gate is opened, and not yet synced
pub record IsGateWritten {Op : Type 0} (t : Encodings Op) (choice : Choice (Content Op)) (gate ahead : ℕ) (state : FileState) : Type 0 where
  pub batch : Batch t choice gate ahead
  pub tail : List ℕ
  pub is : state ≡ after_write (at_rest (staged batch.prefix batch.closed batch.chunk tail)) gate (OPEN_GATE ∷ []) (staged batch.prefix OPEN_GATE batch.chunk tail)

-- the first gate, which was open, is closed, and not yet synced
pub record IsTrimWritten {Op : Type 0} (t : Encodings Op) (choice : Choice (Content Op)) (gate ahead : ℕ) (state : FileState) : Type 0 where
  pub head : length t.header ≡ 64
  pub rest : List ℕ
  pub next : choice.next ≡ Some nothing
  pub decodes : decoded t (t.header ++ OPEN_GATE ∷ rest) ≡ Some choice.now
  pub is : state ≡ after_write (at_rest (t.header ++ OPEN_GATE ∷ rest)) 64 (0 ∷ []) (t.header ++ 0 ∷ rest)

-- after a device call that failed: no more is known than what a crash leaves
pub record IsBroken {Op : Type 0} (t : Encodings Op) (choice : Choice (Content Op)) (gate ahead : ℕ) (state : FileState) : Type 0 where
  pub then : Content Op
  pub next : choice.next ≡ Some then
  pub on : JournalOn (DecodesBy (decoded t)) choice (file.Leaves state)

-- the file is as the journal's phase says
abbrev pub in_phase : {Op : Type 0} → Phase → Encodings Op → Choice (Content Op) → ℕ → ℕ → FileState → Type 0
in_phase AtRest t choice gate ahead state = IsAtRest t choice gate ahead state
in_phase BodyWritten t choice gate ahead state = IsBodyWritten t choice gate ahead state
in_phase BodySynced t choice gate ahead state = IsBodySynced t choice gate ahead state
in_phase GateWritten t choice gate ahead state = IsGateWritten t choice gate ahead state
in_phase TrimWritten t choice gate ahead state = IsTrimWritten t choice gate ahead state
in_phase Broken t choice gate ahead state = IsBroken t choice gate ahead state

unfoldable pub is_on : {Op : Type 0} → Encodings Op → JournalView Op → FileState → Type 0
is_on t v state = in_phase v.phase t v.choice v.gate v.ahead state

-- A body that a batch may begin with, and its bytes: its elements continue from the durable number, and there is room
-- for their numbers.
pub record MayBegin {Op : Type 0} (t : Encodings Op) (now : Content Op) (durable : ℕ) (chunk : List ℕ) (b : Body Op) : Type 0 where
  pub body : IsBody t chunk b
  pub ends : top durable now ≡ durable
  pub first : b.first ≡ durable + 1
  pub some : 1 ≤ length b.elements
  pub room : durable + length b.elements ≤ t.most

-- what a batch with such a body is to make of the durable content
abbrev pub with_elements : {Op : Type 0} → Content Op → ℕ → List (Element Op) → Content Op
with_elements now durable more = record { below = floor durable now; elements = now.elements ++ more }

-- a batch is begun: its body and the next gate are written
abbrev pub begun : {Op : Type 0} → JournalView Op → ℕ → List ℕ → Body Op → JournalView Op
begun v durable chunk b = record { choice = under_way v.choice.now (with_elements v.choice.now durable b.elements); gate = v.gate; ahead = v.gate + 1 + length chunk; phase = BodyWritten }

-- a trim is begun: the first gate is closed
abbrev pub trimmed : {Op : Type 0} → Phase → JournalView Op → JournalView Op
trimmed phase v = record { choice = under_way v.choice.now nothing; gate = v.gate; ahead = 64; phase = phase }

-- the same, further on, or broken
abbrev pub with_phase : {Op : Type 0} → Phase → JournalView Op → JournalView Op
with_phase phase v = record { choice = v.choice; gate = v.gate; ahead = v.ahead; phase = phase }

-- what was under way is durable
abbrev pub ended : {Op : Type 0} → Content Op → JournalView Op → JournalView Op
ended then v = record { choice = settled then; gate = v.ahead; ahead = v.ahead; phase = AtRest }

-- what is under way in a phase
abbrev pub next_at : {Op : Type 0} → Phase → Content Op → Option (Content Op)
next_at AtRest then = None
next_at BodyWritten then = Some then
next_at BodySynced then = Some then
next_at GateWritten then = Some then
next_at TrimWritten then = Some then
next_at Broken then = Some then

-- the view of the durable content, of what will be durable, the offset of the gate, its offset then, and a phase
abbrev pub view_at : {Op : Type 0} → Content Op → Content Op → ℕ → ℕ → Phase → JournalView Op
view_at now then gate ahead phase = record { choice = record { now = now; next = next_at phase then }; gate = gate; ahead = ahead; phase = phase }
