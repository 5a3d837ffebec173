-- The steps of the machine: what it may answer to each event, and what it is then.
use Rattle.std.specs.Prelude.{◌≡◌, ℕ, ◌+◌, ◌<◌, ◌≤◌, not, ◌==◌, Bool, true, false, if◌then◌else◌, List, [], ◌∷◌, ◌++◌, length, filter, slice_get, Option, Some, None, Ok, ◌⊎◌, is_some}
use Rattle.refusals.specs.declared.refusal.Refusal.{Refusal}
use Rattle.refusals.specs.declared.refusal.Refusal.TheVariants.{NoMemory, NotFound, DiskFault}
use Rattle.reg_tree.specs.Maps.{TreeMap}
use Rattle.reg_tree.specs.Operations.{hive_of}
use Rattle.reg_tree.specs.Judgement.{legal}
use Rattle.reg_tree.specs.TreeLists.{levels_made}
use Rattle.reg_tree.specs.declared.op.Op.{Op}
use Rattle.reg_tree.specs.declared.op.Legality.TheVariants.{Legal, Opened}
use Rattle.conflicts.specs.Claims.{claim_of}
use Rattle.store_model.specs.Transactions.{Transaction, SetsSlot, EachSlotBecomes, ended, rolled_back_by, gone_with, missing_refusal, inactive_refusal}
use Rattle.store_model.specs.Machine.{Machine, trees_now, last_number, folded, pending, room_with, room_of, is_open, found_in, change, commit_change, next_commit, outcome_bytes, has_outcomes, outcome_of, outcome_refusal, first_of, fault, closed_refusal, unnamed_refusal, call_refusal, tx_call_refusal, start_refusal, looked_up, read_refusal, write_refusal, begin_refusal, seen, added_refusal_if, commit_refusal_if}
use Rattle.store_model.specs.Acts.{StartsTx, AddsOp, OpensKey, EndsTx, ClosesTx}
use Rattle.store_model.specs.Shapes.{DoneOr, ReadOr, AcceptedOr, AddedOr, BegunOr, AwaitsOr, OutcomeOr, CommittedAsOr, ReceiptOr, FoldedOr, SteppedOr}
use Rattle.store_model.specs.declared.handle.Tx.{Tx}
use Rattle.store_model.specs.declared.handle.Outcome.{Outcome}
use Rattle.store_model.specs.declared.handle.Outcome.TheVariants.{Committed, RolledBack}
use Rattle.store_model.specs.declared.event.ReadResult.{ReadResult}
use Rattle.disk_model.specs.declared.progress.Progress.{Progress}
use Rattle.disk_model.specs.declared.progress.Progress.TheVariants.{Idle, Done}
use Rattle.store_model.specs.declared.event.Event.{Event}
use Rattle.store_model.specs.declared.event.Event.TheVariants as event
use Rattle.store_model.specs.declared.event.Reply.{Reply}

-- nothing changes; the answer is the first refusal
abbrev pub IsRefused : Machine → Option Refusal → Refusal → Machine → Type 0
IsRefused old wanted refusal new = (wanted ≡ Some refusal) × (new ≡ old)

-- the same of an event that takes memory: the answer may instead be that there is no memory
abbrev pub Refuses : Machine → Option Refusal → Refusal → Machine → Type 0
Refuses old wanted refusal new = ((wanted ≡ Some refusal) ⊎ (refusal ≡ NoMemory)) × (new ≡ old)

-- a session is open afterwards, and each that was
abbrev pub with_session : Machine → ℕ → Machine
with_session old session = if is_open old session then old else record old { sessions = old.sessions ++ session ∷ [] }

-- a session is no longer open, and its transactions are gone
pub record Ends (old : Machine) (session : ℕ) (new : Machine) : Type 0 where
  pub free : closed_refusal old session ≡ None
  pub next : new ≡ record old { sessions = filter (λ s. not (s == session)) old.sessions; tx_slots = new.tx_slots }
  pub gone : EachSlotBecomes (gone_with session) old.tx_slots new.tx_slots

-- the answer is what is there, and nothing changes
pub record AnswersRead (old : Machine) (refusal : Option Refusal) (there : Option ReadResult) (found : ReadResult) (new : Machine) : Type 0 where
  pub free : refusal ≡ None
  pub told : there ≡ Some found
  pub next : new ≡ old

-- an operation is the next change, and each active transaction that holds a claim which conflicts is rolled back
pub record AcceptsWrite (old : Machine) (session moment : ℕ) (op : Op) (levels : Option ℕ) (number : ℕ) (new : Machine) : Type 0 where
  pub free : write_refusal old session moment op ≡ None
  pub is_legal : legal (trees_now old) op ≡ Ok Legal
  pub made : levels ≡ levels_made (trees_now old) op
  pub numbered : number ≡ last_number old + 1
  pub next : new ≡ record old { accepted = old.accepted ++ change moment op ∷ []; room = old.room + room_of (change moment op); tx_slots = new.tx_slots }
  pub rolled_back : EachSlotBecomes (rolled_back_by (claim_of op)) old.tx_slots new.tx_slots

-- a key that is there is opened, and nothing changes
pub record OpensAlone (old : Machine) (refusal : Option Refusal) (trees : List TreeMap) (op : Op) (new : Machine) : Type 0 where
  pub free : refusal ≡ None
  pub is_there : legal trees op ≡ Ok Opened
  pub next : new ≡ old

-- a transaction is begun
pub record Begins (old : Machine) (session : ℕ) (id : List ℕ) (tx : Tx) (new : Machine) : Type 0 where
  pub free : begin_refusal old session ≡ None
  pub starts : StartsTx old.tx_slots old.begun session id tx new.tx_slots
  pub next : new ≡ record old { begun = old.begun + 1; tx_slots = new.tx_slots }

-- something is done with a transaction, and nothing else changes
abbrev pub ChangesSlots : Machine → Type 0 → Machine → Type 0
ChangesSlots old act new = act × (new ≡ record old { tx_slots = new.tx_slots })

-- a transaction without operations commits as nothing, whose number is 0; of any other one change is made, which is the
-- next
abbrev pub after_commit : Machine → ℕ → Transaction → Machine
after_commit old moment one =
    if length one.ops == 0 then old
    else record old { accepted = old.accepted ++ commit_change old moment one ∷ []; commits = old.commits ++ next_commit old one ∷ []; room = old.room + room_of (commit_change old moment one) }

pub record CommitsTx (old : Machine) (session : ℕ) (tx : Tx) (moment number : ℕ) (new : Machine) : Type 0 where
  pub one : Transaction
  pub found : found_in old session tx ≡ Some one
  pub free : first_of (fault old) (commit_refusal_if old moment (Some one)) ≡ None
  pub numbered : number ≡ (if length one.ops == 0 then 0 else last_number old + 1)
  pub next : new ≡ record (after_commit old moment one) { tx_slots = new.tx_slots }
  pub put : SetsSlot old.tx_slots new.tx_slots tx.slot (Some (ended Committed one))

-- the answer is what became of a transaction
pub record OutcomeIs (old : Machine) (session : ℕ) (tx : Tx) (outcome : Outcome) (new : Machine) : Type 0 where
  pub one : Transaction
  pub found : found_in old session tx ≡ Some one
  pub free : fault old ≡ None
  pub told : outcome ≡ one.outcome
  pub next : new ≡ old

-- the answer is the number of a unit's commit that the store keeps
pub record CommitIs (old : Machine) (id : List ℕ) (number : ℕ) (new : Machine) : Type 0 where
  pub keeps : has_outcomes old ≡ true
  pub told : outcome_of old id ≡ Some number
  pub next : new ≡ old

-- each accepted change is durable, and the history is folded: the trees of now are those of the opening, and no change
-- was accepted since; sessions and transactions stay. The answer is the number of the opening from now on
pub record Folds (old : Machine) (number : ℕ) (new : Machine) : Type 0 where
  pub free : fault old ≡ None
  pub all_durable : last_number old ≤ old.durable
  pub told : number ≡ last_number old
  pub next : new ≡ folded old

-- a step has ended a trim: it is done, made nothing durable, and the room is what the changes take that are not durable
pub record EndsTrim (old : Machine) (progress : Progress) (new : Machine) : Type 0 where
  pub done : progress ≡ Done
  pub durable : new.durable ≡ old.durable
  pub room : new.room ≡ room_with (pending old)

-- the journal's room stays, or a trim has ended
abbrev pub KeepsRoom : Machine → Progress → Machine → Type 0
KeepsRoom old progress new = (new.room ≡ old.room) ⊎ EndsTrim old progress new

-- a step of the journal may make changes durable, of those that were accepted; what is durable stays so. It may end a
-- trim instead; if there was nothing to do, nothing changes
pub record Journals (old : Machine) (progress : Progress) (new : Machine) : Type 0 where
  pub free : fault old ≡ None
  pub next : new ≡ record old { durable = new.durable; room = new.room }
  pub grows : old.durable ≤ new.durable
  pub within : new.durable ≤ last_number old
  pub room : KeepsRoom old progress new
  pub idle : progress ≡ Idle → new ≡ old

-- a step of a trim
pub record Trims (old : Machine) (progress : Progress) (new : Machine) : Type 0 where
  pub free : fault old ≡ None
  pub next : new ≡ record old { room = new.room }
  pub room : KeepsRoom old progress new

pub record Flushes (old : Machine) (hive : ℕ) (new : Machine) : Type 0 where
  pub free : fault old ≡ None
  pub there : is_some (slice_get old.opened hive) ≡ true
  pub next : new ≡ old

-- a hive that isn't there is not flushed
abbrev pub no_hive : Machine → ℕ → Option Refusal
no_hive old hive = if is_some (slice_get old.opened hive) then None else Some NotFound

-- a step is refused as it should be, or since there is no memory, or since the device failed in it: then the store is
-- faulted
pub record DeviceFails (old : Machine) (refusal : Refusal) (new : Machine) : Type 0 where
  pub free : fault old ≡ None
  pub told : refusal ≡ DiskFault
  pub failed : old.failures < new.failures
  pub next : new ≡ record old { failures = new.failures; faulted = true }

abbrev pub StepFails : Machine → Option Refusal → Refusal → Machine → Type 0
StepFails old wanted refusal new = Refuses old wanted refusal new ⊎ ((wanted ≡ None) × DeviceFails old refusal new)

-- the events that may make a call of the device: a step of the journal, of a flush, of a trim
abbrev pub is_step : Event → Bool
is_step event.JournalStep = true
is_step (event.FlusherStep hive) = true
is_step event.TrimStep = true
is_step _ = false

-- whether an event folds the history
abbrev pub is_fold : Event → Bool
is_fold event.Fold = true
is_fold _ = false

-- the events that leave what the journal and the device need, but for one change more: those that neither make a step
-- nor fold the history
abbrev pub is_request : Event → Bool
is_request event.JournalStep = false
is_request (event.FlusherStep hive) = false
is_request event.TrimStep = false
is_request event.Fold = false
is_request _ = true

-- whether an event may accept a change: a write by itself, or a commit
abbrev pub may_accept : Event → Bool
may_accept (event.Write session moment op) = true
may_accept (event.CommitAccept session tx moment) = true
may_accept _ = false

-- From old, the machine may give this answer to the event and go on to new.
abbrev pub Step : Machine → Event → Reply → Machine → Type 0
-- sessions open and end
Step old (event.StartSession session) reply new =
    DoneOr ((start_refusal old session ≡ None) × (new ≡ with_session old session)) (λ r. Refuses old (start_refusal old session) r new) reply
Step old (event.EndSession session) reply new =
    DoneOr (Ends old session new) (λ r. IsRefused old (closed_refusal old session) r new) reply
-- a read answers what is there now
Step old (event.Read session hive path question) reply new =
    ReadOr (λ found. AnswersRead old (call_refusal old session hive) (looked_up (trees_now old) hive path question) found new)
    (λ r. Refuses old (first_of (call_refusal old session hive) (read_refusal (looked_up (trees_now old) hive path question))) r new) reply
-- a write by itself is accepted at once
Step old (event.Write session moment op) reply new =
    AcceptedOr (λ levels number. AcceptsWrite old session moment op levels number new)
    (OpensAlone old (write_refusal old session moment op) (trees_now old) op new)
    (λ r. Refuses old (write_refusal old session moment op) r new) reply
-- a transaction is begun; it is read and written as it sees the trees
Step old (event.Begin session id) reply new =
    BegunOr (λ tx. Begins old session id tx new) (λ r. Refuses old (begin_refusal old session) r new) reply
Step old (event.TxRead session tx hive path question) reply new =
    ReadOr (λ found. AnswersRead old (tx_call_refusal old session tx hive) (seen (trees_now old) hive path question (found_in old session tx)) found new)
    (λ r. Refuses old (first_of (tx_call_refusal old session tx hive) (read_refusal (seen (trees_now old) hive path question (found_in old session tx)))) r new) reply
Step old (event.TxWrite session tx moment op) reply new =
    AddedOr (λ levels. (first_of (fault old) (unnamed_refusal old (hive_of op)) ≡ None) × ChangesSlots old (AddsOp (outcome_bytes old) (trees_now old) old.tx_slots (found_in old session tx) tx.slot moment op levels new.tx_slots) new)
    ((first_of (fault old) (unnamed_refusal old (hive_of op)) ≡ None) × OpensKey (outcome_bytes old) (trees_now old) old.tx_slots (found_in old session tx) tx.slot op × (new ≡ old))
    (λ r. Refuses old (first_of (fault old) (first_of (tx_call_refusal old session tx (hive_of op)) (added_refusal_if (outcome_bytes old) (trees_now old) old.tx_slots tx.slot op (found_in old session tx)))) r new) reply
-- a transaction ends, and is dropped
Step old (event.CommitAccept session tx moment) reply new =
    AwaitsOr (λ number. CommitsTx old session tx moment number new)
    (λ r. Refuses old (first_of (fault old) (commit_refusal_if old moment (found_in old session tx))) r new) reply
Step old (event.Rollback session tx) reply new =
    DoneOr (ChangesSlots old (EndsTx old.tx_slots (found_in old session tx) tx.slot RolledBack new.tx_slots) new) (λ r. IsRefused old (inactive_refusal (found_in old session tx)) r new) reply
Step old (event.Close session tx) reply new =
    DoneOr (ChangesSlots old (ClosesTx old.tx_slots (found_in old session tx) tx.slot new.tx_slots) new) (λ r. IsRefused old (missing_refusal (found_in old session tx)) r new) reply
Step old (event.Outcome session tx) reply new =
    OutcomeOr (λ outcome. OutcomeIs old session tx outcome new)
    (λ r. IsRefused old (first_of (fault old) (missing_refusal (found_in old session tx))) r new) reply
-- a unit's commit is told as long as the store keeps it, to whoever asks
Step old (event.OutcomeOf id) reply new =
    CommittedAsOr (λ number. CommitIs old id number new) (λ r. Refuses old (outcome_refusal old id) r new) reply
-- what is accepted becomes durable in time, and then there is a receipt of it
Step old event.FlushAsk reply new =
    AwaitsOr (λ number. (fault old ≡ None) × (number ≡ last_number old) × (new ≡ old)) (λ r. IsRefused old (fault old) r new) reply
Step old (event.Acked number) reply new =
    ReceiptOr (λ told. (told ≡ number) × (number ≤ old.durable) × (new ≡ old))
    ((old.durable < number) × (fault old ≡ None) × (new ≡ old))
    (λ r. (old.durable < number) × IsRefused old (fault old) r new) reply
-- the history is folded once each accepted change is durable
Step old event.Fold reply new =
    FoldedOr (λ number. Folds old number new)
    ((old.durable < last_number old) × (fault old ≡ None) × (new ≡ old))
    (λ r. Refuses old (fault old) r new) reply
Step old event.JournalStep reply new = SteppedOr (λ progress. Journals old progress new) (λ r. StepFails old (fault old) r new) reply
Step old (event.FlusherStep hive) reply new =
    SteppedOr (λ progress. Flushes old hive new) (λ r. StepFails old (first_of (fault old) (no_hive old hive)) r new) reply
Step old event.TrimStep reply new = SteppedOr (λ progress. Trims old progress new) (λ r. StepFails old (fault old) r new) reply

-- the machine may give these answers to these events, one after another
abbrev pub Run : Machine → List Event → List Reply → Machine → Type 0
Run old [] [] new = new ≡ old
Run old (event ∷ events) (reply ∷ replies) new = (mid : Machine) × Step old event reply mid × Run mid events replies new
Run old [] (reply ∷ replies) new = ⊥
Run old (event ∷ events) [] new = ⊥
