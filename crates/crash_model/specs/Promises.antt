-- The words of the journal's and the hives' clauses: what each promises of the bytes that a crash may leave,
-- and what each of its calls makes of that promise. The journal and the hive files cite these words, and the
-- law is about them.
use Rattle.std.specs.Prelude.{◌≡◌, ◌⊎◌, ℕ, ◌+◌, ◌-◌, ◌≤◌, List, [], ◌∷◌, ◌++◌, length, take, Option, Some, None}
use Rattle.crash_model.specs.Changes.{Element}

-- A choice is the one durable value, and perhaps one that is under way.
pub record Choice (X : Type 0) : Type 0 where
  pub now : X
  pub next : Option X

-- A crash may leave the durable value, or the one that is under way.
abbrev pub Leaves : {X : Type 0} → Choice X → X → Type 0
Leaves c x = (x ≡ c.now) ⊎ (c.next ≡ Some x)

-- A settled choice has nothing under way.
abbrev pub settled : {X : Type 0} → X → Choice X
settled x = record { now = x; next = None }

-- One value is durable, and another is under way.
abbrev pub under_way : {X : Type 0} → X → X → Choice X
under_way now next = record { now = now; next = Some next }

-- A journal decodes to elements that are numbered without gaps from below + 1 on, or to none.
pub record Content (Op : Type 0) : Type 0 where
  pub below : ℕ
  pub elements : List (Element Op)

-- A journal that decodes to no element has no number of its own: its `below` is 0, so bytes decode to one content.
abbrev pub nothing : {Op : Type 0} → Content Op
nothing = record { below = 0; elements = [] }

-- The number before elements that are numbered from `below` + 1 on; of none, the durable number.
abbrev pub floor_of : {Op : Type 0} → ℕ → ℕ → List (Element Op) → ℕ
floor_of durable below [] = durable
floor_of durable below (e ∷ es) = below

-- The number before what a journal decodes to.
abbrev pub floor : {Op : Type 0} → ℕ → Content Op → ℕ
floor durable s = floor_of durable s.below s.elements

-- The number up to which a journal has elements: that of its last element, or the durable number if it decodes to none.
abbrev pub top : {Op : Type 0} → ℕ → Content Op → ℕ
top durable s = floor durable s + length s.elements

-- What a step answers. NoMemory, DiskFault and Faulted are its three refusals: lack of memory, a device that failed in
-- this step, and a device that had failed in an earlier one.
pub data Answer : Type 0 where
  Idle : Answer
  More : Answer
  Done : Answer
  NoMemory : Answer
  DiskFault : Answer
  Faulted : Answer

-- What was under way is durable now, and nothing else is under way.
abbrev pub Ends : {X : Type 0} → Choice X → Choice X → Type 0
Ends {X = X} old new = (x : X) × (old.next ≡ Some x) × (new ≡ settled x)

-- Something is under way, and nothing has changed.
abbrev pub IsUnderway : {X : Type 0} → Choice X → Choice X → Type 0
IsUnderway {X = X} old new = ((x : X) × (old.next ≡ Some x)) × (new ≡ old)

-- The journal begins a batch: after what it decodes to, a prefix of the elements handed in, at least one, is under way.
-- `first` is the number of the first one handed in.
abbrev pub BeginsBatch : {Op : Type 0} → ℕ → List (Element Op) → Choice (Content Op) → Choice (Content Op)
    → Type 0
BeginsBatch first handed old new = (m : ℕ) × (1 ≤ m) × (m ≤ length handed) × (old.next ≡ None)
    × (new ≡ under_way old.now (record { below = floor (first - 1) old.now; elements = old.now.elements ++ take m handed }))

-- The journal begins a trim: the content without elements is under way.
abbrev pub BeginsTrim : {Op : Type 0} → Choice (Content Op) → Choice (Content Op) → Type 0
BeginsTrim old new = (old.next ≡ None) × (new ≡ under_way old.now nothing)

-- A hive begins to write what it has in memory.
abbrev pub BeginsWrite : {X : Type 0} → X → Choice X → Choice X → Type 0
BeginsWrite memory old new = (old.next ≡ None) × (new ≡ under_way old.now memory)

-- Elements that a batch may begin with, if nothing is under way: the durable content ends at the durable number, the
-- elements are numbered after it, and their numbers are at most `most`. Content without elements ends anywhere.
pub record MayFollow {Op : Type 0} (most durable : ℕ) (handed : List (Element Op)) (now : Content Op) : Type 0 where
  pub ends : top durable now ≡ durable
  pub room : durable + length handed ≤ most

-- What a batch step of the journal says. Idle: nothing was under way or handed in. NoMemory: no batch was begun. More:
-- one was begun, or is still under way. Done: what was under way is durable. DiskFault: a batch may have been begun,
-- and else nothing has changed. Faulted: nothing has changed.
abbrev pub JournalSays : {Op : Type 0} → ℕ → List (Element Op) → Answer → Choice (Content Op)
    → Choice (Content Op) → Type 0
JournalSays first handed Idle old new = (old.next ≡ None) × (handed ≡ []) × (new ≡ old)
JournalSays first handed NoMemory old new = (old.next ≡ None) × (new ≡ old)
JournalSays first handed More old new = BeginsBatch first handed old new ⊎ IsUnderway old new
JournalSays first handed Done old new = Ends old new
JournalSays first handed DiskFault old new = BeginsBatch first handed old new ⊎ (new ≡ old)
JournalSays first handed Faulted old new = new ≡ old

-- What a trim step of the journal says. Its first call begins a trim and its second ends it. It is never idle, since
-- its caller judges whether to trim, and takes no memory.
abbrev pub TrimSays : {Op : Type 0} → Answer → Choice (Content Op) → Choice (Content Op) → Type 0
TrimSays More old new = BeginsTrim old new
TrimSays Done old new = Ends old new
TrimSays DiskFault old new = BeginsTrim old new ⊎ (new ≡ old)
TrimSays Faulted old new = new ≡ old
TrimSays Idle old new = ⊥
TrimSays NoMemory old new = ⊥

-- What a flush step of a hive's files says, over the tree and number in memory. Done: what was under way is durable. It
-- is never idle, since its caller judges whether to flush.
abbrev pub HiveSays : {T : Type 0} → T × ℕ → Answer → Choice (T × ℕ) → Choice (T × ℕ) → Type 0
HiveSays memory More old new = BeginsWrite memory old new ⊎ IsUnderway old new
HiveSays memory Done old new = Ends old new
HiveSays memory DiskFault old new = BeginsWrite memory old new ⊎ (new ≡ old)
HiveSays memory Faulted old new = new ≡ old
HiveSays memory NoMemory old new = (old.next ≡ None) × (new ≡ old)
HiveSays memory Idle old new = ⊥

-- At a moment: all bytes that a crash may leave of the journal's file decode to what the choice leaves.
abbrev pub JournalOn : {Op : Type 0} → (List ℕ → Content Op → Type 0) → Choice (Content Op)
    → (List ℕ → Type 0) → Type 0
JournalOn {Op = Op} decodes journal leaves = (c : List ℕ) → leaves c → (s : Content Op) × Leaves journal s
    × decodes c s

-- At a moment: any two lists of bytes that a crash may leave of a hive's primary file and its log together decode to
-- what the choice leaves.
abbrev pub HiveOn : {T : Type 0} → (List ℕ → List ℕ → T × ℕ → Type 0) → Choice (T × ℕ) → (List ℕ → Type 0)
    → (List ℕ → Type 0) → Type 0
HiveOn {T = T} holds file primary log = (p l : List ℕ) → primary p → log l → (x : T × ℕ) × Leaves file x
    × holds p l x
