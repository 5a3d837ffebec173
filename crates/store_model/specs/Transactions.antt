-- Transactions, and the slots that they have.
use Rattle.std.specs.Prelude.{◌≡◌, ◌≢◌, ℕ, Bool, true, false, not, ◌&&◌, ◌==◌, if◌then◌else◌, List, [], ◌∷◌, ◌++◌, Option, Some, None, is_some, count_by, slice_index_or}
use Rattle.std.specs.List.{list_any}
use Rattle.std.specs.Option.{option_and_then}
use Rattle.slab.specs.Slab.{entries_from}
use Rattle.refusals.specs.declared.refusal.Refusal.{Refusal}
use Rattle.refusals.specs.declared.refusal.Refusal.TheVariants.{NoSuchHandle}
use Rattle.refusals.specs.declared.refusal.Refusal.TheVariants as refusal
use Rattle.reg_tree.specs.Maps.{TreeMap}
use Rattle.reg_tree.specs.Judgement.{applied}
use Rattle.reg_tree.specs.declared.op.Op.{Op}
use Rattle.conflicts.specs.Skeleton.{Claim}
use Rattle.conflicts.specs.Claims.{claim_of, meets}
use Rattle.store_model.specs.declared.handle.Tx.{Tx}
use Rattle.store_model.specs.declared.handle.Outcome.{Outcome}
use Rattle.store_model.specs.declared.handle.Outcome.TheVariants.{Active, Committed, RolledBack}

-- A transaction: the session that began it, its unit of work, and how many transactions were begun with it; whether it
-- is active, committed or rolled back; its operations in order, and the moment of its latest accepted write.
pub record Transaction : Type 0 where
  pub session : ℕ
  pub id : List ℕ
  pub generation : ℕ
  pub outcome : Outcome
  pub ops : List Op
  pub moment : ℕ

-- the transaction in each slot from 0 on, or nothing
abbrev pub TxSlots : Type 0
TxSlots = List (Option Transaction)

abbrev pub at : TxSlots → ℕ → Option Transaction
at tx_slots slot = slice_index_or tx_slots slot None

-- the transactions that are kept, each with its slot
abbrev pub held : TxSlots → List (ℕ × Transaction)
held tx_slots = entries_from 0 tx_slots

-- how many transactions are kept
abbrev pub count_held : TxSlots → ℕ
count_held tx_slots = count_by is_some tx_slots

-- a slot has this, and every other slot has what it had
pub record SetsSlot (old new : TxSlots) (slot : ℕ) (content : Option Transaction) : Type 0 where
  pub there : at new slot ≡ content
  pub others : (other : ℕ) → other ≢ slot → at new other ≡ at old other

-- each slot has what its transaction became
abbrev pub EachSlotBecomes : (Transaction → Option Transaction) → TxSlots → TxSlots → Type 0
EachSlotBecomes after old new = (slot : ℕ) → at new slot ≡ option_and_then after (at old slot)

-- a transaction as it is begun: it has no operations
abbrev pub fresh_transaction : ℕ → List ℕ → ℕ → Transaction
fresh_transaction session id generation = record { session = session; id = id; generation = generation; outcome = Active; ops = []; moment = 0 }

abbrev pub is_active_outcome : Outcome → Bool
is_active_outcome Active = true
is_active_outcome Committed = false
is_active_outcome RolledBack = false

abbrev pub is_active : Transaction → Bool
is_active one = is_active_outcome one.outcome

-- a transaction after its end: it has no operations
abbrev pub ended : Outcome → Transaction → Transaction
ended outcome one = record one { outcome = outcome; ops = [] }

-- a transaction after one more operation
abbrev pub with_op : Transaction → Op → ℕ → Transaction
with_op one op moment = record one { ops = one.ops ++ op ∷ []; moment = moment }

-- what a transaction sees: the trees of now, with its operations applied at the moment of its latest write
abbrev pub view : List TreeMap → Transaction → List TreeMap
view now one = applied now one.ops one.moment

-- whether a transaction is active and holds a claim that conflicts with one more
abbrev pub holds : Claim → Transaction → Bool
holds claim one = is_active one && list_any (λ op. meets claim (claim_of op)) one.ops

-- whether another slot's transaction does
abbrev pub is_claimed : TxSlots → ℕ → Claim → Bool
is_claimed tx_slots slot claim = list_any (λ (e : ℕ × Transaction). not (e.0 == slot) && holds claim e.1) (held tx_slots)

-- a transaction that holds a claim which conflicts is rolled back; every other one stays
abbrev pub rolled_back_by : Claim → Transaction → Option Transaction
rolled_back_by claim one = if holds claim one then Some (ended RolledBack one) else Some one

-- a transaction of this session is gone; every other one stays
abbrev pub gone_with : ℕ → Transaction → Option Transaction
gone_with session one = if one.session == session then None else Some one

-- the transaction of a handle, if it is of the session
abbrev pub own_if : ℕ → ℕ → Option Transaction → Option Transaction
own_if session generation None = None
own_if session generation (Some one) = if one.session == session && one.generation == generation then Some one else None

abbrev pub own : TxSlots → ℕ → Tx → Option Transaction
own tx_slots session tx = own_if session tx.generation (at tx_slots tx.slot)

-- a handle whose transaction isn't there has none, and a transaction that has ended isn't active
abbrev pub missing_refusal : Option Transaction → Option Refusal
missing_refusal None = Some NoSuchHandle
missing_refusal (Some one) = None

abbrev pub inactive_refusal : Option Transaction → Option Refusal
inactive_refusal None = Some NoSuchHandle
inactive_refusal (Some one) = if is_active one then None else Some refusal.NotActive
