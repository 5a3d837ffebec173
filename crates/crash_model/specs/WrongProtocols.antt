-- Nine protocols that are nearly right, and the small store on which each of them breaks.
use Rattle.std.specs.Prelude.{◌≡◌, ℕ, ◌+◌, ◌<◌, List, [], ◌∷◌, ◌++◌, drop, true, Some}
use Rattle.crash_model.specs.Changes.{Rules, Element, on_hive, ops_on, replay}
use Rattle.crash_model.specs.Promises.{Leaves, Content, top, BeginsBatch, BeginsTrim}
use Rattle.crash_model.specs.Recovery.{above}
use Rattle.crash_model.specs.Life.{last_number, ops_in, tree_at, with_accepted}
use Rattle.crash_model.specs.Invariant.{State, InvariantHolds, IsSafe}
use Rattle.crash_model.specs.Steps.{pending_elements, OthersStay, AllStay, BeginsFlush}
use Rattle.crash_model.specs.Lives.{Runs}

-- A small store: a tree is the list of the marks put into it, the latest first; an operation is a mark, and
-- is legal everywhere.
abbrev pub marks : Rules (List ℕ) ℕ
marks = record { apply = λ o t. o ∷ t; legal = λ o t. true; allows = λ i n t. true }

-- A wrong step breaks the law: on a small store of two hives it leads from some state with the invariant to one in
-- which a crash may leave what is no prefix.
abbrev pub Breaks : (State (List ℕ) ℕ → State (List ℕ) ℕ → Type 0) → Type 0
Breaks wrong = (old : State (List ℕ) ℕ) × (new : State (List ℕ) ℕ) × InvariantHolds marks 3 2 old × wrong old new
    × ¬ IsSafe marks 3 2 new

-- Nothing but one hive's files has changed.
abbrev pub OnlyHive : {T Op : Type 0} → ℕ → ℕ → State T Op → State T Op → Type 0
OnlyHive hives i old new = (new.life ≡ old.life) × (new.durable ≡ old.durable) × (new.journal ≡ old.journal)
    × OthersStay hives i old.files new.files

-- Nothing but the journal, and perhaps the durable number, has changed.
abbrev pub OnlyJournal : {T Op : Type 0} → ℕ → State T Op → State T Op → Type 0
OnlyJournal hives old new = (new.life ≡ old.life) × AllStay hives old.files new.files

-- A hive begins a flush of all accepted elements that it lacks, durable or not.
abbrev pub FlushesPending : {T Op : Type 0} → Rules T Op → ℕ → State T Op → State T Op → Type 0
FlushesPending rules hives old new = (i : ℕ) × OnlyHive hives i old new
    × BeginsFlush rules (ops_in old.life i (old.files i).now.1 (last_number old.life)) (last_number old.life)
    (old.files i) (new.files i)

-- A hive begins a flush of the durable elements that it lacks, under a number below the durable one.
abbrev pub FlushesUnderLess : {T Op : Type 0} → Rules T Op → ℕ → State T Op → State T Op → Type 0
FlushesUnderLess rules hives old new = (i : ℕ) × (upto : ℕ) × (upto < old.durable) × OnlyHive hives i old new
    × BeginsFlush rules (ops_in old.life i (old.files i).now.1 old.durable) upto (old.files i) (new.files i)

-- A trim begins once one hive has every operation on it that the journal decodes to.
abbrev pub TrimsAfterOne : {T Op : Type 0} → ℕ → State T Op → State T Op → Type 0
TrimsAfterOne hives old new = OnlyJournal hives old new × (new.durable ≡ old.durable)
    × BeginsTrim old.journal new.journal
    × ((i : ℕ) × (i < hives) × (ops_on i (above (old.files i).now.1 old.journal.now) ≡ []))

-- A trim begins once the hives that the first decoded element names have what the journal decodes to of them.
abbrev pub TrimsByFirst : {T Op : Type 0} → ℕ → State T Op → State T Op → Type 0
TrimsByFirst {Op = Op} hives old new = OnlyJournal hives old new × (new.durable ≡ old.durable)
    × BeginsTrim old.journal new.journal
    × ((e : Element Op) × (es : List (Element Op)) × (old.journal.now.elements ≡ e ∷ es)
    × ((i : ℕ) → i < hives → (o : Op) (os : List Op) → on_hive i e ≡ o ∷ os
    → ops_on i (above (old.files i).now.1 old.journal.now) ≡ []))

-- A trim begins once each hive, by its durable content or by what is under way, has what the journal decodes to of it.
abbrev pub TrimsByMemory : {T Op : Type 0} → ℕ → State T Op → State T Op → Type 0
TrimsByMemory {T = T} hives old new = OnlyJournal hives old new × (new.durable ≡ old.durable)
    × BeginsTrim old.journal new.journal
    × ((i : ℕ) → i < hives → (x : T × ℕ) × Leaves (old.files i) x
    × (ops_on i (above x.1 old.journal.now) ≡ []))

-- A batch begins after the first pending element.
abbrev pub BatchesSkipping : {T Op : Type 0} → ℕ → State T Op → State T Op → Type 0
BatchesSkipping hives old new = OnlyJournal hives old new × (new.durable ≡ old.durable)
    × BeginsBatch (old.durable + 2) (drop 1 (pending_elements old)) old.journal new.journal

-- A batch begins, and what is under way counts as durable at once.
abbrev pub CountsEarly : {T Op : Type 0} → ℕ → State T Op → State T Op → Type 0
CountsEarly {Op = Op} hives old new = OnlyJournal hives old new
    × BeginsBatch (old.durable + 1) (pending_elements old) old.journal new.journal
    × ((s : Content Op) × (new.journal.next ≡ Some s) × (new.durable ≡ top old.durable s))

-- An element with no operation is accepted.
abbrev pub AcceptsEmpty : {T Op : Type 0} → ℕ → ℕ → State T Op → State T Op → Type 0
AcceptsEmpty most hives old new = (last_number old.life < most) × (new.life ≡ with_accepted old.life [])
    × (new.durable ≡ old.durable) × (new.journal ≡ old.journal) × AllStay hives old.files new.files

-- An empty element and then steps that are all right lead from a state with the invariant to a state in which a crash
-- may leave what is no prefix.
abbrev pub EmptyBreaks : Type 0
EmptyBreaks = (old : State (List ℕ) ℕ) × (new : State (List ℕ) ℕ) × (later : State (List ℕ) ℕ)
    × (between : List (State (List ℕ) ℕ))
    × InvariantHolds marks 3 2 old × AcceptsEmpty 3 2 old new × Runs marks 3 2 new (between ++ later ∷ [])
    × ¬ IsSafe marks 3 2 later

-- In a state with the invariant, with nothing under way, replaying all decoded elements on the hives' trees, which
-- already have some of them, gives the trees after no number.
abbrev pub ReplayingAllBreaks : Type 0
ReplayingAllBreaks = (s : State (List ℕ) ℕ) × InvariantHolds marks 3 2 s
    × ((n : ℕ) (trees : ℕ → List ℕ)
    → ((i : ℕ) → i < 2 → replay marks (ops_on i s.journal.now.elements) (s.files i).now.0 ≡ Some (trees i))
    → ¬ ((i : ℕ) → i < 2 → trees i ≡ tree_at marks s.life n i))
