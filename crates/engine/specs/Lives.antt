-- Lives of a store, one after another on the same files.
use Rattle.std.specs.Prelude.{◌≡◌, ◌⊎◌, ℕ, ◌≤◌, ⊤, Bool, true, false, List, [], ◌∷◌, length}
use Rattle.reg_tree.specs.Maps.{TreeMap}
use Rattle.disk_model.specs.FileState.{FileState, at_rest}
use Rattle.disk_model.specs.Crash.{LeavesHonest}
use Rattle.disk_model.specs.ReadOnly.{IsSyncedOrSame}
use Rattle.store_model.specs.Machine.{Machine, bounds_for, last_number, opened_machine, with_history}
use Rattle.store_model.specs.Steps.{Run}
use Rattle.store_model.specs.declared.event.Event.{Event}
use Rattle.store_model.specs.declared.event.Reply.{Reply}
use Rattle.commit_journal.specs.Store.{Store, all_hives}
use Rattle.engine_invariant.specs.Prefixes.{IsPrefix, IsPrimaryOf, trees_after}
use Rattle.recovery.specs.Recovered.{IsRecovered, seen_in}

-- A life of a store, up to some moment at which the files are in this state. Either it hasn't opened, since an opening
-- was refused or was under way. Or it has, at a number and trees, and its machine has come so far.
pub data Life : Type 0 where
  NeverOpened : (ℕ → FileState) → Life
  Opened : ℕ → List TreeMap → Machine → (ℕ → FileState) → Life

abbrev pub end_of : Life → ℕ → FileState
end_of (NeverOpened end) = end
end_of (Opened number trees last end) = end

-- whether the device failed in a life that opened
abbrev pub faulted_in : Life → Bool
faulted_in (NeverOpened end) = false
faulted_in (Opened number trees last end) = last.faulted

-- A machine that was opened at a number and trees of a store, with some room and some limit of its history, and faulted
-- if the device failed in a repair, has reached this one by events.
pub record ReachedFromOpening (store : Store) (number : ℕ) (trees : List TreeMap) (last : Machine) : Type 0 where
  pub room : ℕ
  pub limit : ℕ
  pub broken : Bool
  pub events : List Event
  pub replies : List Reply
  pub run : Run (with_history limit (record (opened_machine (bounds_for store.hives) trees number [] 0) { room = room; faulted = broken })) events replies last

-- whatever a crash leaves of these files, with honest first sectors of the store's primary files, is a prefix of a
-- machine's changes
abbrev pub IsSafe : Store → Machine → (ℕ → FileState) → Type 0
IsSafe store machine state = (files : ℕ → List ℕ) → LeavesHonest (IsPrimaryOf (length machine.opened)) state files → IsPrefix store machine files

-- what a read gives of the files of `hives` hives is what a crash may leave of them, with honest first sectors
abbrev pub ReadsSafely : ℕ → (ℕ → FileState) → Type 0
ReadsSafely hives state = LeavesHonest (IsPrimaryOf hives) state (seen_in state)

-- A life on files that are in this state as it begins. Before it has opened, each file is as it was, or synced. It
-- opens at what the files recover, as they are read. Then what a crash leaves is a prefix of what it accepted since,
-- and so is what a read gives as long as the device hasn't failed.
abbrev pub IsLife : Store → (ℕ → FileState) → Life → Type 0
IsLife store state (NeverOpened end) = (f : ℕ) → IsSyncedOrSame (state f) (end f)
IsLife store state (Opened number trees last end) =
    IsRecovered (seen_in state) store number trees × ReachedFromOpening store number trees last × IsSafe store last end × (last.faulted ≡ false → ReadsSafely (length last.opened) end)

-- The next life begins where a life has ended. After a crash it begins on whatever that left, with honest first
-- sectors. Without one it begins on the files as they are. If the device failed in the life, what a read gives of them
-- has honest first sectors then.
abbrev pub IsNext : ℕ → Life → (ℕ → FileState) → Type 0
IsNext hives life next = ((left : ℕ → List ℕ) × LeavesHonest (IsPrimaryOf hives) (end_of life) left × ((f : ℕ) → next f ≡ at_rest (left f)))
    ⊎ ((faulted_in life ≡ true → ReadsSafely hives (end_of life)) × ((f : ℕ) → next f ≡ end_of life f))

-- lives, one after another
abbrev pub AreLives : Store → (ℕ → FileState) → List Life → Type 0
AreLives store state [] = ⊤
AreLives store state (life ∷ lives) = IsLife store state life × ((next : ℕ → FileState) × IsNext (all_hives store) life next × AreLives store next lives)

-- lives, one after another, each of some store
abbrev pub AreLivesOfStores : ℕ → (ℕ → FileState) → List Life → Type 0
AreLivesOfStores hives state [] = ⊤
AreLivesOfStores hives state (life ∷ lives) = ((store : Store) × IsLife store state life) × ((next : ℕ → FileState) × IsNext hives life next × AreLivesOfStores hives next lives)

-- An opening continues from a machine: at one of its numbers, not below the durable one, and at the trees after it.
pub record OpensFrom (machine : Machine) (number : ℕ) (trees : List TreeMap) : Type 0 where
  pub low : machine.durable ≤ number
  pub high : number ≤ last_number machine
  pub trees_are : trees ≡ trees_after machine number

-- The first of some lives that opens does so at this number and these trees.
abbrev pub FirstOpensAt : ℕ → List TreeMap → List Life → Type 0
FirstOpensAt number trees [] = ⊤
FirstOpensAt number trees (NeverOpened end ∷ lives) = FirstOpensAt number trees lives
FirstOpensAt number trees (Opened at found last end ∷ lives) = (at ≡ number) × (found ≡ trees)

-- Each life that opens continues from the last life before it that opened.
abbrev pub EachLifeContinues : Machine → List Life → Type 0
EachLifeContinues machine [] = ⊤
EachLifeContinues machine (NeverOpened end ∷ lives) = EachLifeContinues machine lives
EachLifeContinues machine (Opened number trees last end ∷ lives) = OpensFrom machine number trees × EachLifeContinues last lives
