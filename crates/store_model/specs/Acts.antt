-- What is done with one transaction, on the trees of now and the slots of all. Each says which transaction it is: if
-- its session must be open, the transaction of a handle in an open session. Of each change as many bytes are set aside
-- as its commit may add.
use Rattle.std.specs.Prelude.{◌≡◌, ℕ, ◌+◌, List, Option, Some, None, Ok}
use Rattle.reg_tree.specs.Maps.{TreeMap}
use Rattle.reg_tree.specs.Judgement.{legal}
use Rattle.reg_tree.specs.TreeLists.{levels_made}
use Rattle.reg_tree.specs.declared.op.Op.{Op}
use Rattle.reg_tree.specs.declared.op.Legality.TheVariants.{Legal, Opened}
use Rattle.store_model.specs.Transactions.{Transaction, TxSlots, SetsSlot, at, view, fresh_transaction, ended, with_op, inactive_refusal}
use Rattle.store_model.specs.Machine.{added_refusal_if}
use Rattle.store_model.specs.declared.handle.Tx.{Tx}
use Rattle.store_model.specs.declared.handle.Outcome.{Outcome}

-- a transaction is begun in a free slot; its number is one that none had before
pub record StartsTx (old : TxSlots) (begun session : ℕ) (id : List ℕ) (tx : Tx) (new : TxSlots) : Type 0 where
  pub vacant : at old tx.slot ≡ None
  pub numbered : tx.generation ≡ begun + 1
  pub put : SetsSlot old new tx.slot (Some (fresh_transaction session id tx.generation))

-- an operation is the last of a transaction's
pub record AddsOp (aside : ℕ) (now : List TreeMap) (old : TxSlots) (its : Option Transaction) (slot moment : ℕ) (op : Op) (levels : Option ℕ) (new : TxSlots) : Type 0 where
  pub one : Transaction
  pub found : its ≡ Some one
  pub free : added_refusal_if aside now old slot op (Some one) ≡ None
  pub is_legal : legal (view now one) op ≡ Ok Legal
  pub made : levels ≡ levels_made (view now one) op
  pub put : SetsSlot old new slot (Some (with_op one op moment))

-- a key that is there in a transaction's view is opened
pub record OpensKey (aside : ℕ) (now : List TreeMap) (old : TxSlots) (its : Option Transaction) (slot : ℕ) (op : Op) : Type 0 where
  pub one : Transaction
  pub found : its ≡ Some one
  pub free : added_refusal_if aside now old slot op (Some one) ≡ None
  pub is_there : legal (view now one) op ≡ Ok Opened

-- a transaction that is active ends
pub record EndsTx (old : TxSlots) (its : Option Transaction) (slot : ℕ) (outcome : Outcome) (new : TxSlots) : Type 0 where
  pub one : Transaction
  pub found : its ≡ Some one
  pub active : inactive_refusal (Some one) ≡ None
  pub put : SetsSlot old new slot (Some (ended outcome one))

-- a transaction is dropped
pub record ClosesTx (old : TxSlots) (its : Option Transaction) (slot : ℕ) (new : TxSlots) : Type 0 where
  pub one : Transaction
  pub found : its ≡ Some one
  pub put : SetsSlot old new slot None
