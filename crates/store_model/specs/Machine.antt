-- The machine: the state of a store, and why it refuses an event. It knows no disk.
use Rattle.std.specs.Prelude.{ℕ, ◌+◌, ◌-◌, ◌^◌, ◌==◌, ◌||◌, ◌&&◌, not, nat_lt, nat_le, Bool, true, false, if◌then◌else◌, List, [], ◌∷◌, ◌++◌, length, take, drop, sum_by, replicate, Option, Some, None, is_some, Result, Ok, Err, slice_index_or}
use Rattle.std.specs.List.{filter, list_any}
use Rattle.std.specs.Option.{option_map}
use Rattle.reg_names.specs.Names.{folded_path}
use Rattle.refusals.specs.declared.refusal.Refusal.{Refusal}
use Rattle.refusals.specs.declared.refusal.Refusal.TheVariants.{NotFound, TooLarge, NoSuchHandle, NoSeat, JournalFull, HistoryFull, Faulted, Unsupported}
use Rattle.refusals.specs.declared.refusal.Refusal.TheVariants as refusal
use Rattle.refusals.specs.declared.limits.TheConstants.{MOST_JOURNAL_BYTES, MOST_HISTORY, GREATEST_NUMBER, MOST_ELEMENT_BYTES, MOST_SESSIONS, MOST_TRANSACTIONS}
use Rattle.reg_tree.specs.Maps.{TreeMap}
use Rattle.reg_tree.specs.Fresh.{fresh_tree}
use Rattle.reg_tree.specs.Encodings.{element_encoded_len}
use Rattle.reg_tree.specs.Operations.{hive_of}
use Rattle.reg_tree.specs.Judgement.{legal}
use Rattle.reg_tree.specs.Judgement.{any_outweighs}
use Rattle.reg_tree.specs.TreeLists.{value_in, value_index_in, info_in, subkeys_in, subkey_index_in, value_names_in}
use Rattle.reg_tree.specs.Sequences.{after_elements}
use Rattle.reg_tree.specs.declared.element.Element.{Element}
use Rattle.reg_tree.specs.declared.op.Op.{Op}
use Rattle.reg_tree.specs.declared.op.Legality.{Legality}
use Rattle.reg_tree.specs.declared.op.Legality.TheVariants.{Legal, Opened}
use Rattle.conflicts.specs.Claims.{claim_of}
use Rattle.commit_outcomes.specs.Units.{unit_name}
use Rattle.commit_outcomes.specs.Commits.{Commit}
use Rattle.commit_outcomes.specs.Trees.{number_in}
use Rattle.commit_outcomes.specs.Operations.{outcome_ops}
use Rattle.store_model.specs.Transactions.{Transaction, TxSlots, is_claimed, view, own, count_held, inactive_refusal}
use Rattle.store_model.specs.declared.bounds.StoreBounds.{StoreBounds}
use Rattle.store_model.specs.declared.room.TheConstants.{MOST_OUTCOME_BYTES}
use Rattle.store_model.specs.declared.handle.Tx.{Tx}
use Rattle.store_model.specs.declared.event.Question.{Question}
use Rattle.store_model.specs.declared.event.Question.TheVariants.{ValueOf, ValueAt, KeyAt, KeysOf, ValuesOf, InfoOf}
use Rattle.store_model.specs.declared.event.ReadResult.{ReadResult}
use Rattle.store_model.specs.declared.event.ReadResult.TheVariants as found

-- the trees as the store was opened or its history was folded last, the number of the last change before that, and the
-- history, which is the changes accepted since, with the commits among them in their order; the sessions that are open,
-- in the order in which they were opened; the transaction in each slot, and how many were begun; the number up to which
-- changes are durable; the room that the journal has used; how many calls of the device have failed, and whether the
-- store is faulted by one; and how many changes the history has at most, and which hives calls may name
pub record Machine : Type 0 where
  pub opened : List TreeMap
  pub before : ℕ
  pub accepted : List Element
  pub commits : List Commit
  pub sessions : List ℕ
  pub tx_slots : TxSlots
  pub begun : ℕ
  pub durable : ℕ
  pub room : ℕ
  pub failures : ℕ
  pub faulted : Bool
  pub bounds : StoreBounds

-- the journal's header and first gate take 65 bytes, and each change 17 and its length
abbrev pub room_of : Element → ℕ
room_of element = 17 + element_encoded_len element

abbrev pub room_with : List Element → ℕ
room_with elements = 65 + sum_by room_of elements

-- the bounds of a store that accepts this many changes until its history is folded, and whose calls name this many hives
abbrev pub bounds_with : ℕ → ℕ → StoreBounds
bounds_with changes hives = record { changes = changes; hives = hives }

-- the bounds of a store whose calls name this many hives, and whose history is as long as any may be
abbrev pub bounds_for : ℕ → StoreBounds
bounds_for hives = bounds_with MOST_HISTORY hives

-- the bounds of a store whose calls name each of its trees
abbrev pub bounds_of : List TreeMap → StoreBounds
bounds_of trees = bounds_for (length trees)

-- a store as it was opened within bounds, on trees after the change of a number, its journal encoding these changes: no
-- change was accepted since, and there are no sessions and no transactions
abbrev pub opened_machine : StoreBounds → List TreeMap → ℕ → List Element → ℕ → Machine
opened_machine bounds trees number journaled failures =
    record {
      opened = trees;
      before = number;
      accepted = [];
      commits = [];
      sessions = [];
      tx_slots = [];
      begun = 0;
      durable = number;
      room = room_with journaled;
      failures = failures;
      faulted = false;
      bounds = bounds;
    }

-- a store of new hives, each of which calls may name within these bounds, and of one more for outcomes; its journal is
-- empty
abbrev pub fresh_machine : StoreBounds → Machine
fresh_machine bounds = opened_machine bounds (replicate (bounds.hives + 1) fresh_tree) 0 [] 0

-- the trees after all accepted changes
abbrev pub trees_now : Machine → List TreeMap
trees_now machine = after_elements machine.opened machine.accepted

-- the trees of the hives that calls name, after all accepted changes
abbrev pub named_trees : Machine → List TreeMap
named_trees machine = take machine.bounds.hives (trees_now machine)

-- the trees after the change of a number, which is not below the opening's
abbrev pub trees_at : Machine → ℕ → List TreeMap
trees_at machine number = after_elements machine.opened (take (number - machine.before) machine.accepted)

-- the number of the last accepted change
abbrev pub last_number : Machine → ℕ
last_number machine = machine.before + length machine.accepted

-- the store whose history may have this many changes
abbrev pub with_history : ℕ → Machine → Machine
with_history changes machine = record machine { bounds = bounds_with changes machine.bounds.hives }

-- the store with its history folded, as if it had been opened on the trees of now after the last accepted change
abbrev pub folded : Machine → Machine
folded machine = record machine { opened = trees_now machine; before = last_number machine; accepted = []; commits = [] }

-- the changes that are not durable yet
abbrev pub pending : Machine → List Element
pending machine = drop (machine.durable - machine.before) machine.accepted

-- whether a session is open
abbrev pub is_open : Machine → ℕ → Bool
is_open machine session = list_any (λ s. s == session) machine.sessions

-- the transaction of a handle, if the session is open and it is the session's
abbrev pub found_in : Machine → ℕ → Tx → Option Transaction
found_in machine session tx = if is_open machine session then own machine.tx_slots session tx else None

-- a change of one operation
abbrev pub change : ℕ → Op → Element
change moment op = record { moment = moment; ops = op ∷ [] }

-- whether a store keeps the outcomes of commits: it has one hive more than calls may name
abbrev pub has_outcomes : Machine → Bool
has_outcomes machine = nat_lt machine.bounds.hives (length machine.opened)

-- the tree of outcomes: that of the hive after those that calls may name
abbrev pub outcome_tree : StoreBounds → List TreeMap → TreeMap
outcome_tree bounds trees = slice_index_or trees bounds.hives fresh_tree

-- the commits whose numbers are up to this
abbrev pub commits_to : ℕ → List Commit → List Commit
commits_to number commits = filter (λ c. nat_le c.0 number) commits

-- the commit that is next, of a transaction's unit of work
abbrev pub next_commit : Machine → Transaction → Commit
next_commit machine one = (last_number machine + 1, unit_name one.id)

-- what a commit does to the tree of outcomes, if there is one
abbrev pub commit_ops : Machine → Transaction → List Op
commit_ops machine one =
    if has_outcomes machine then outcome_ops machine.bounds.hives (outcome_tree machine.bounds (trees_now machine)) (next_commit machine one) else []

-- the operations of the change that a commit makes of a transaction: the transaction's operations in their order, and
-- then what the commit does to the tree of outcomes
abbrev pub committed : Machine → Transaction → List Op
committed machine one = one.ops ++ commit_ops machine one

-- how many bytes of a change are set aside for what a commit does to the tree of outcomes
abbrev pub outcome_bytes : Machine → ℕ
outcome_bytes machine = if has_outcomes machine then MOST_OUTCOME_BYTES else 0

-- the change that a commit makes of a transaction
abbrev pub commit_change : Machine → ℕ → Transaction → Element
commit_change machine moment one = record { moment = moment; ops = committed machine one }

-- the first refusal of two, in this order
abbrev pub first_of : Option Refusal → Option Refusal → Option Refusal
first_of (Some first) later = Some first
first_of None later = later

abbrev pub refused_if : Bool → Refusal → Option Refusal
refused_if true why = Some why
refused_if false why = None

-- whether a refusal is about the device: that it failed in this call, or in an earlier one
abbrev pub is_of_device : Refusal → Bool
is_of_device refusal.DiskFault = true
is_of_device refusal.Faulted = true
is_of_device _ = false

-- a store that is faulted takes no change
abbrev pub fault : Machine → Option Refusal
fault machine = refused_if machine.faulted Faulted

-- a call of a session that isn't open is refused
abbrev pub closed_refusal : Machine → ℕ → Option Refusal
closed_refusal machine session = refused_if (not (is_open machine session)) NoSuchHandle

-- a call that names a hive which calls may not name is refused
abbrev pub unnamed_refusal : Machine → ℕ → Option Refusal
unnamed_refusal machine hive = refused_if (nat_le machine.bounds.hives hive) NotFound

-- why a call of a session that names a hive is refused, whatever it asks
abbrev pub call_refusal : Machine → ℕ → ℕ → Option Refusal
call_refusal machine session hive = first_of (closed_refusal machine session) (unnamed_refusal machine hive)

-- why a call in a transaction is refused
abbrev pub tx_call_refusal : Machine → ℕ → Tx → ℕ → Option Refusal
tx_call_refusal machine session tx hive = first_of (inactive_refusal (found_in machine session tx)) (unnamed_refusal machine hive)

-- 32 sessions are open
abbrev pub start_refusal : Machine → ℕ → Option Refusal
start_refusal machine session = first_of (fault machine) (refused_if (not (is_open machine session) && nat_le MOST_SESSIONS (length machine.sessions)) NoSeat)

-- what is read of trees, if it is there
abbrev pub looked_up : List TreeMap → ℕ → List (List ℕ) → Question → Option ReadResult
looked_up trees hive path (ValueOf name) = option_map found.Value (value_in trees hive (folded_path path) name)
looked_up trees hive path (ValueAt index) = option_map found.Value (value_index_in trees hive (folded_path path) index)
looked_up trees hive path (KeyAt index) = option_map found.Key (subkey_index_in trees hive (folded_path path) index)
looked_up trees hive path KeysOf = option_map found.Keys (subkeys_in trees hive (folded_path path))
looked_up trees hive path ValuesOf = option_map found.ValueNames (value_names_in trees hive (folded_path path))
looked_up trees hive path InfoOf = option_map found.Counts (info_in trees hive (folded_path path))

-- what is not there is not found
abbrev pub read_refusal : Option ReadResult → Option Refusal
read_refusal (Some found) = None
read_refusal None = Some NotFound

-- the first refusal of an operation: that it is not legal, or what refuses a legal one; a key that is opened is refused
-- for nothing more
abbrev pub refusal_by : Result Legality Refusal → Option Refusal → Option Refusal
refusal_by (Err refusal) further = Some refusal
refusal_by (Ok Opened) further = None
refusal_by (Ok Legal) further = further

-- why there is no room for a change of this many bytes: the history has as many changes as it may have, or the last
-- number is the greatest; or the journal does not have enough room
abbrev pub room_refusal : Machine → ℕ → Option Refusal
room_refusal machine long =
    first_of (refused_if (nat_le machine.bounds.changes (length machine.accepted) || nat_le GREATEST_NUMBER (last_number machine)) HistoryFull)
    (refused_if (nat_lt MOST_JOURNAL_BYTES (machine.room + (17 + long))) JournalFull)

-- why an operation is not accepted by itself
abbrev pub write_refusal : Machine → ℕ → ℕ → Op → Option Refusal
write_refusal machine session moment op =
    first_of (fault machine) (first_of (call_refusal machine session (hive_of op)) (refusal_by (legal (trees_now machine) op) (room_refusal machine (element_encoded_len (change moment op)))))

-- 1,024 transactions are kept, or 18,446,744,073,709,551,615 were begun
abbrev pub slot_refusal : TxSlots → ℕ → Option Refusal
slot_refusal tx_slots begun = refused_if (nat_le MOST_TRANSACTIONS (count_held tx_slots) || nat_le (2 ^ 64 - 1) begun) NoSeat

abbrev pub begin_refusal : Machine → ℕ → Option Refusal
begin_refusal machine session =
    first_of (fault machine) (first_of (closed_refusal machine session) (slot_refusal machine.tx_slots machine.begun))

-- a transaction that isn't there, or has ended, is not read
abbrev pub seen : List TreeMap → ℕ → List (List ℕ) → Question → Option Transaction → Option ReadResult
seen now hive path question None = None
seen now hive path question (Some one) = looked_up (view now one) hive path question

-- a change of one more operation is too long, with as many bytes as are set aside
abbrev pub too_long : ℕ → Transaction → Op → Bool
too_long aside one op = nat_lt MOST_ELEMENT_BYTES (element_encoded_len (record { moment = one.moment; ops = one.ops ++ op ∷ [] }) + aside)

-- why an operation is not added to an active transaction: it is not legal in its view, makes its change too long, or
-- another active transaction's claim conflicts
abbrev pub added_refusal : ℕ → List TreeMap → TxSlots → ℕ → Op → Transaction → Option Refusal
added_refusal aside now tx_slots slot op one =
    refusal_by (legal (view now one) op) (first_of (refused_if (too_long aside one op) TooLarge) (refused_if (is_claimed tx_slots slot (claim_of op)) refusal.Conflict))

abbrev pub added_refusal_if : ℕ → List TreeMap → TxSlots → ℕ → Op → Option Transaction → Option Refusal
added_refusal_if aside now tx_slots slot op None = Some NoSuchHandle
added_refusal_if aside now tx_slots slot op (Some one) = first_of (inactive_refusal (Some one)) (added_refusal aside now tx_slots slot op one)

-- why the change that a commit makes of an active transaction is not accepted, if the transaction has operations
abbrev pub commit_refusal : Machine → ℕ → Transaction → Option Refusal
commit_refusal machine moment one =
    if length one.ops == 0 then None
    else first_of (refused_if (any_outweighs (trees_now machine) (committed machine one) moment) TooLarge) (room_refusal machine (element_encoded_len (commit_change machine moment one)))

abbrev pub commit_refusal_if : Machine → ℕ → Option Transaction → Option Refusal
commit_refusal_if machine moment None = Some NoSuchHandle
commit_refusal_if machine moment (Some one) = first_of (inactive_refusal (Some one)) (commit_refusal machine moment one)

-- the number of a unit's commit in the tree of outcomes of now
abbrev pub outcome_of : Machine → List ℕ → Option ℕ
outcome_of machine id = number_in (outcome_tree machine.bounds (trees_now machine)) id

-- why the outcome of a unit is not told: the store keeps none, or has no commit of the unit
abbrev pub outcome_refusal : Machine → List ℕ → Option Refusal
outcome_refusal machine id =
    first_of (refused_if (not (has_outcomes machine)) Unsupported) (refused_if (not (is_some (outcome_of machine id))) NotFound)
