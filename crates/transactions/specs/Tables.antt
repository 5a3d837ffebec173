-- What a table of transactions shows.
use Rattle.std.specs.Prelude.{◌≡◌, ℕ, ◌+◌, ◌==◌, Bool, false, if◌then◌else◌, List, Option, Some, None, ◌⊎◌}
use Rattle.std.specs.List.{AllByRecursion, list_any}
use Rattle.refusals.specs.declared.refusal.Refusal.{Refusal}
use Rattle.refusals.specs.declared.refusal.Refusal.TheVariants.{NoMemory}
use Rattle.reg_tree.specs.Maps.{TreeMap}
use Rattle.reg_tree.specs.Encodings.{element_encoded_len}
use Rattle.reg_tree.specs.declared.op.Op.{Op}
use Rattle.conflicts.specs.Skeleton.{Claim}
use Rattle.conflicts.specs.Claims.{claim_of}
use Rattle.store_model.specs.Ends.{refusal_of}
use Rattle.store_model.specs.Machine.{slot_refusal}
use Rattle.store_model.specs.Acts.{StartsTx, AddsOp, OpensKey, EndsTx}
use Rattle.store_model.specs.Transactions.{Transaction, TxSlots, own, is_active, ended, holds, inactive_refusal}
use Rattle.store_model.specs.declared.handle.Tx.{Tx}
use Rattle.store_model.specs.declared.handle.TxEndError.{TxEndError}
use Rattle.store_model.specs.declared.handle.Outcome.{Outcome}
use Rattle.store_model.specs.declared.handle.Outcome.TheVariants.{RolledBack}
use Rattle.transactions.specs.declared.table.TxWriteOutcome.{TxWriteOutcome}
use Rattle.transactions.specs.declared.table.TxWriteOutcome.TheVariants.{Added, Opened}

-- the trees of now and the number of the last accepted change, the transaction in each slot, and how many were begun;
-- which hives operations may be on, and how many bytes of a change are set aside for its commit
pub record Table : Type 0 where
  pub trees : List TreeMap
  pub number : ℕ
  pub tx_slots : TxSlots
  pub begun : ℕ
  pub hives : ℕ
  pub aside : ℕ

-- a call that takes memory is refused as it should be, or since there is no memory; nothing changes
abbrev pub TableRefuses : Table → Option Refusal → Refusal → Table → Type 0
TableRefuses old wanted refusal new = ((wanted ≡ Some refusal) ⊎ (refusal ≡ NoMemory)) × (new ≡ old)

-- whether the transaction in a slot holds a claim which conflicts
abbrev pub holds_if : Claim → Option Transaction → Bool
holds_if claim None = false
holds_if claim (Some one) = holds claim one

-- no operation conflicts with a claim of a slot's transaction
abbrev pub MeetNone : List Op → Option Transaction → Type 0
MeetNone ops there = AllByRecursion (λ op. holds_if (claim_of op) there ≡ false) ops

-- whether a slot is listed
abbrev pub is_listed : List ℕ → ℕ → Bool
is_listed tx_slots slot = list_any (λ p. p == slot) tx_slots

-- a transaction that is active is rolled back, if it is listed
abbrev pub rolled_back : Transaction → Transaction
rolled_back one = if is_active one then ended RolledBack one else one

abbrev pub rolled_back_if : Bool → Option Transaction → Option Transaction
rolled_back_if listed None = None
rolled_back_if listed (Some one) = if listed then Some (rolled_back one) else Some one

-- a transaction is begun
pub record Begins (old : Table) (session : ℕ) (id : List ℕ) (tx : Tx) (new : Table) : Type 0 where
  pub free : slot_refusal old.tx_slots old.begun ≡ None
  pub starts : StartsTx old.tx_slots old.begun session id tx new.tx_slots
  pub next : new ≡ record old { begun = old.begun + 1; tx_slots = new.tx_slots }

-- something is done with a transaction, and nothing else changes
abbrev pub ChangesSlots : Table → Type 0 → Table → Type 0
ChangesSlots old act new = act × (new ≡ record old { tx_slots = new.tx_slots })

-- an operation is the last of a transaction's, or opens a key that is there in its view
abbrev pub Writes : Table → ℕ → Tx → ℕ → Op → TxWriteOutcome → Table → Type 0
Writes old session tx moment op (Added levels) new =
    ChangesSlots old (AddsOp old.aside old.trees old.tx_slots (own old.tx_slots session tx) tx.slot moment op levels new.tx_slots) new
Writes old session tx moment op Opened new = OpensKey old.aside old.trees old.tx_slots (own old.tx_slots session tx) tx.slot op × (new ≡ old)

-- a transaction ends, and these were its operations
pub record EndsWith (old : Table) (session : ℕ) (tx : Tx) (outcome : Outcome) (ops : List Op) (new : Table) : Type 0 where
  pub finishes : EndsTx old.tx_slots (own old.tx_slots session tx) tx.slot outcome new.tx_slots
  pub given : ops ≡ finishes.one.ops
  pub next : new ≡ record old { tx_slots = new.tx_slots }

-- a transaction that isn't there, or isn't active, does not end
abbrev pub EndIsRefused : Table → ℕ → Tx → TxEndError → Table → Type 0
EndIsRefused old session tx why new = (inactive_refusal (own old.tx_slots session tx) ≡ Some (refusal_of why)) × (new ≡ old)

-- these are the operations of an active transaction, and its length as a change
pub record IsPendingOf (one : Transaction) (ops : List Op) (length : ℕ) : Type 0 where
  pub active : inactive_refusal (Some one) ≡ None
  pub given : ops ≡ one.ops
  pub long : (moment : ℕ) → length ≡ element_encoded_len (record { moment = moment; ops = one.ops })

abbrev pub IsPending : Option Transaction → List Op → ℕ → Type 0
IsPending None ops length = ⊥
IsPending (Some one) ops length = IsPendingOf one ops length

-- whether a slot's transaction is of a session
abbrev pub is_of : ℕ → Option Transaction → Bool
is_of session None = false
is_of session (Some one) = one.session == session
