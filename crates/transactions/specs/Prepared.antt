-- What an event that may accept a change is going to do, once all its memory is allocated.
use Rattle.std.specs.Prelude.{◌≡◌, ◌↔◌, Contains, ℕ, ◌+◌, ◌<◌, ◌≤◌, ◌==◌, if◌then◌else◌, Bool, true, false, List, [], ◌∷◌, ◌++◌, length, Option, Some, None, Ok, Err, Result}
use Rattle.refusals.specs.declared.refusal.Refusal.{Refusal}
use Rattle.refusals.specs.declared.refusal.Refusal.TheVariants.{NoMemory, TooLarge}
use Rattle.reg_tree.specs.Maps.{TreeMap}
use Rattle.reg_tree.specs.Operations.{hive_of}
use Rattle.reg_tree.specs.Judgement.{legal, applied, applied_one, any_outweighs}
use Rattle.reg_tree.specs.TreeLists.{levels_made}
use Rattle.refusals.specs.declared.limits.TheConstants.{MOST_ELEMENT_BYTES}
use Rattle.reg_tree.specs.Encodings.{element_encoded_len, ops_encoded_len}
use Rattle.reg_tree.specs.declared.element.Element.{Element}
use Rattle.reg_tree.specs.declared.op.Op.{Op}
use Rattle.reg_tree.specs.declared.op.Legality.TheVariants.{Legal}
use Rattle.conflicts.specs.Claims.{claim_of}
use Rattle.conflicts.specs.TreeOutlines.{AreCarriedOut}
use Rattle.std.specs.List.{AllByRecursion}
use Rattle.commit_outcomes.specs.Units.{unit_name}
use Rattle.commit_outcomes.specs.Commits.{Commit}
use Rattle.commit_outcomes.specs.Operations.{outcome_ops}
use Rattle.store_model.specs.Invariant.{HivesAreNamable}
use Rattle.store_model.specs.Transactions.{Transaction, at, own, inactive_refusal}
use Rattle.store_model.specs.Machine.{Machine, change, committed, commit_change, has_outcomes, outcome_bytes, outcome_of, outcome_tree, commit_refusal_if, fault, first_of, refused_if, found_in, is_open, unnamed_refusal, room_of, room_refusal, trees_now, last_number, write_refusal}
use Rattle.store_model.specs.Steps.{Step, may_accept}
use Rattle.store_model.specs.declared.event.Event.{Event}
use Rattle.store_model.specs.declared.event.Event.TheVariants as event
use Rattle.store_model.specs.declared.event.Reply.TheVariants as reply
use Rattle.store_model.specs.declared.handle.Tx.{Tx}
use Rattle.transactions.specs.Tables.{IsPending, holds_if, is_listed}
use Rattle.transactions.specs.Entries.{AreRebased}
use Rattle.transactions.specs.Histories.{IsShort}
use Rattle.transactions.specs.Stores.{StoreView}
use Rattle.transactions.specs.declared.prepared.JudgedWrite.{JudgedWrite}
use Rattle.transactions.specs.declared.prepared.ReadyWrite.{ReadyWrite}
use Rattle.transactions.specs.declared.prepared.ReadyCommit.{ReadyCommit}
use Rattle.transactions.specs.declared.prepared.OutcomeChange.{OutcomeChange}
use Rattle.transactions.specs.declared.prepared.JudgedCommit.{JudgedCommit}
use Rattle.transactions.specs.declared.prepared.Ready.{Ready}
use Rattle.transactions.specs.declared.prepared.Ready.TheVariants as ready
use Rattle.transactions.specs.declared.prepared.Next.{Next}
use Rattle.transactions.specs.declared.prepared.Prepared.{Prepared}

-- An operation may be accepted by itself, and leads to this: the trees then, the transactions that are rolled back, the
-- room.
pub record IsJudgedWrite (machine : Machine) (session moment : ℕ) (op : Op) (judged : JudgedWrite) : Type 0 where
  pub there : is_open machine session ≡ true
  pub named : unnamed_refusal machine (hive_of op) ≡ None
  pub is_legal : legal (trees_now machine) op ≡ Ok Legal
  pub roomy : room_refusal machine (element_encoded_len (change moment op)) ≡ None
  pub short : IsShort (change moment op)
  pub levels : judged.levels ≡ levels_made (trees_now machine) op
  pub trees : judged.trees ≡ applied_one (trees_now machine) op moment
  pub holders : (slot : ℕ) → is_listed judged.holders slot ≡ holds_if (claim_of op) (at machine.tx_slots slot)
  pub room : judged.room ≡ machine.room + (17 + element_encoded_len (change moment op))

-- it may; or the answer is this, and nothing has changed
abbrev pub JudgesWrite : Machine → ℕ → ℕ → Op → Result (Option JudgedWrite) Refusal → Type 0
JudgesWrite machine session moment op (Ok (Some judged)) = IsJudgedWrite machine session moment op judged
JudgesWrite machine session moment op (Ok None) = Step machine (event.Write session moment op) reply.Opened machine
JudgesWrite machine session moment op (Err why) = Step machine (event.Write session moment op) (reply.Refused why) machine

-- An operation may be accepted by itself, and all that it leads to is made: the change, the trees then, the
-- transactions that are rolled back, what the others see, the room.
pub record IsReadyWrite (machine : Machine) (session moment : ℕ) (op : Op) (made : ReadyWrite) : Type 0 where
  pub free : fault machine ≡ None
  pub there : is_open machine session ≡ true
  pub named : unnamed_refusal machine (hive_of op) ≡ None
  pub is_legal : legal (trees_now machine) op ≡ Ok Legal
  pub roomy : room_refusal machine (element_encoded_len (change moment op)) ≡ None
  pub levels : made.levels ≡ levels_made (trees_now machine) op
  pub element : made.element ≡ change moment op
  pub short : IsShort made.element
  pub trees : made.trees ≡ applied_one (trees_now machine) op moment
  pub holders : (slot : ℕ) → is_listed made.holders slot ≡ holds_if (claim_of op) (at machine.tx_slots slot)
  pub rebased : AreRebased made.trees (last_number machine + 1) machine.tx_slots made.rebased.items
  pub room : made.room ≡ machine.room + (17 + element_encoded_len (change moment op))

-- what a commit of a unit of work does to the tree of outcomes, if there is one
abbrev pub unit_ops : Machine → List ℕ → List Op
unit_ops machine unit =
    if has_outcomes machine then outcome_ops machine.bounds.hives (outcome_tree machine.bounds (trees_now machine)) (last_number machine + 1, unit_name unit) else []

-- The commit of a unit may be recorded after others: its number is above theirs, and the number of the unit's commit
-- among them is known, if there is one.
pub record MayRecord (unit : List ℕ) (number : ℕ) (earlier : Option ℕ) (commits : List Commit) : Type 0 where
  pub above : AllByRecursion (λ c. c.0 < number) commits
  pub from_one : 0 < number
  pub known : (n : ℕ) → (earlier ≡ Some n) ↔ Contains commits (n, unit_name unit)

-- What a commit of a unit of work adds to a change for its outcome, on trees after the change's operations: no more bytes
-- than were set aside. None of its operations leaves the tree of outcomes too heavy, and these are the trees after them.
pub record IsOutcomeChange (machine : Machine) (unit : List ℕ) (moment : ℕ) (before : List TreeMap) (made : OutcomeChange) : Type 0 where
  pub ops : made.ops.items ≡ unit_ops machine unit
  pub long : made.text_len ≡ ops_encoded_len made.ops.items
  pub few : made.text_len ≤ outcome_bytes machine
  pub light : any_outweighs before made.ops.items moment ≡ false
  pub trees : made.trees ≡ applied before made.ops.items moment
  pub earlier : has_outcomes machine ≡ true → made.earlier ≡ outcome_of machine unit

-- A commit of these operations, and of what its outcome adds, may be accepted, and leads to these trees and this room.
pub record IsJudgedCommit (machine : Machine) (unit : List ℕ) (moment : ℕ) (ops : List Op) (made : JudgedCommit) : Type 0 where
  pub outcome : IsOutcomeChange machine unit moment (applied (trees_now machine) ops moment) made.outcome
  pub light : any_outweighs (trees_now machine) ops moment ≡ false
  pub carried : made.carried ≡ true → AreCarriedOut (trees_now machine) ops moment
  pub long : made.text_len ≡ 16 + ops_encoded_len (ops ++ made.outcome.ops.items)
  pub short : made.text_len ≤ MOST_ELEMENT_BYTES
  pub roomy : room_refusal machine made.text_len ≡ None
  pub room : made.room ≡ machine.room + (17 + made.text_len)

-- why a commit of operations of a unit of work is not accepted
abbrev pub unit_refusal : Machine → List ℕ → ℕ → List Op → Option Refusal
unit_refusal machine unit moment ops =
    first_of (refused_if (any_outweighs (trees_now machine) (ops ++ unit_ops machine unit) moment) TooLarge)
    (room_refusal machine (16 + ops_encoded_len (ops ++ unit_ops machine unit)))

-- A transaction has operations, on hives that calls may name. The change that a commit makes of it may be accepted, and
-- what that leads to is made.
-- Its unit of work is known, and the number with which that committed before, if the store keeps outcomes.
pub record IsReadyCommit (machine : Machine) (made : ReadyCommit) : Type 0 where
  pub one : Transaction
  pub free : fault machine ≡ None
  pub there : is_open machine made.session ≡ true
  pub found : own machine.tx_slots made.session made.tx ≡ Some one
  pub active : inactive_refusal (Some one) ≡ None
  pub some : (length one.ops == 0) ≡ false
  pub named : HivesAreNamable machine.bounds.hives one.ops
  pub unit : made.unit ≡ one.id
  pub earlier : has_outcomes machine ≡ true → made.earlier ≡ outcome_of machine one.id
  pub element : made.element ≡ commit_change machine made.moment one
  pub short : IsShort made.element
  pub light : any_outweighs (trees_now machine) (committed machine one) made.moment ≡ false
  pub trees : made.trees ≡ applied (trees_now machine) (committed machine one) made.moment
  pub rebased : AreRebased made.trees (last_number machine + 1) machine.tx_slots made.rebased.items
  pub roomy : room_refusal machine (element_encoded_len (commit_change machine made.moment one)) ≡ None
  pub room : made.room ≡ machine.room + room_of (commit_change machine made.moment one)

-- A transaction has no operations, and may commit as nothing.
pub record IsReadyNothing (machine : Machine) (session : ℕ) (tx : Tx) : Type 0 where
  pub ops : List Op
  pub text_len : ℕ
  pub free : fault machine ≡ None
  pub there : is_open machine session ≡ true
  pub pending : IsPending (own machine.tx_slots session tx) ops text_len
  pub none : (length ops == 0) ≡ true

-- What an event is going to do, in a store with space reserved for this many changes.
abbrev pub IsReady : Machine → ℕ → Event → Ready → Type 0
IsReady machine spare wanted (ready.Answered answer) = Step machine wanted answer machine × (answer ≡ reply.Refused NoMemory → ⊥)
IsReady machine spare wanted (ready.Write made) = (0 < spare) × ((session : ℕ) × (moment : ℕ) × (op : Op) × (wanted ≡ event.Write session moment op) × IsReadyWrite machine session moment op made)
IsReady machine spare wanted (ready.Nothing session tx) = ((moment : ℕ) × (wanted ≡ event.CommitAccept session tx moment)) × IsReadyNothing machine session tx
IsReady machine spare wanted (ready.Commit made) = (0 < spare) × (wanted ≡ event.CommitAccept made.session made.tx made.moment) × IsReadyCommit machine made

-- what an operation by itself leads to, if it may be accepted; else its answer, and nothing has changed
abbrev pub PreparesWrite : Machine → ℕ → ℕ → Op → Result (Option ReadyWrite) Refusal → Type 0
PreparesWrite machine session moment op (Ok (Some made)) = IsReadyWrite machine session moment op made
PreparesWrite machine session moment op (Ok None) = Step machine (event.Write session moment op) reply.Opened machine
PreparesWrite machine session moment op (Err why) = Step machine (event.Write session moment op) (reply.Refused why) machine

-- the change that will be accepted, if one will, and the trees that will then be those of now
abbrev pub change_of_ready : Ready → Option (Element × List TreeMap)
change_of_ready (ready.Answered answer) = None
change_of_ready (ready.Write made) = Some (made.element, made.trees)
change_of_ready (ready.Nothing session tx) = None
change_of_ready (ready.Commit made) = Some (made.element, made.trees)

abbrev pub change_to_accept : Prepared → Option (Element × List TreeMap)
change_to_accept prepared = change_of_ready prepared.ready

-- the same, as the pair that is predicted
abbrev pub change_and_trees : Next → Element × List TreeMap
change_and_trees next = (next.change.value, next.trees)

-- An event asks for this change, and nothing prevents it: a write by itself, whose operation is legal and changes
-- something; or a commit of a transaction that has operations.
abbrev pub EventAccepts : Machine → Event → Element → Type 0
EventAccepts machine (event.Write session moment op) element =
    (write_refusal machine session moment op ≡ None) × (legal (trees_now machine) op ≡ Ok Legal) × (element ≡ change moment op)
EventAccepts machine (event.CommitAccept session tx moment) element =
    (one : Transaction) × (found_in machine session tx ≡ Some one) × (first_of (fault machine) (commit_refusal_if machine moment (Some one)) ≡ None)
    × ((length one.ops == 0) ≡ false) × (element ≡ commit_change machine moment one)
EventAccepts machine _ element = ⊥

-- What is predicted before the event: the change that it will accept, and the trees of now with that change applied; or
-- that it will accept none.
abbrev pub Predicts : Machine → Event → Option (Element × List TreeMap) → Type 0
Predicts machine wanted (Some (element, trees)) = EventAccepts machine wanted element × (trees ≡ applied (trees_now machine) element.ops element.moment)
Predicts machine wanted None = (element : Element) → ¬ (EventAccepts machine wanted element)

-- Just the predicted change has been accepted, and the trees of now are the predicted ones; if no change was predicted,
-- none has been accepted.
abbrev pub AcceptsJust : Option (Element × List TreeMap) → Machine → Machine → Type 0
AcceptsJust (Some (element, trees)) old new = (trees_now new ≡ trees) × (new.accepted ≡ old.accepted ++ element ∷ [])
AcceptsJust None old new = new.accepted ≡ old.accepted

-- what an event that may accept a change leads to, or why it is refused
abbrev pub PreparesEvent : Machine → ℕ → Event → Result Ready Refusal → Type 0
PreparesEvent machine spare wanted (Ok made) = IsReady machine spare wanted made
PreparesEvent machine spare wanted (Err why) = Step machine wanted (reply.Refused why) machine

-- An event that may accept a change is prepared in a store. Either this is its answer, which is never that there is no
-- memory, and nothing changes; or it is accepted as this says, and space is reserved for the change.
abbrev pub IsPrepared : StoreView → Prepared → Type 0
IsPrepared store prepared = (may_accept prepared.event.value ≡ true) × IsReady store.machine store.spare prepared.event.value prepared.ready
