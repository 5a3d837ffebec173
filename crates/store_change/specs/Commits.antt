-- What a commit of operations makes of a machine.
use Rattle.std.specs.Prelude.{◌≡◌, ◌≤◌, ◌⊎◌, ℕ, ◌+◌, ◌==◌, if◌then◌else◌, List, [], ◌∷◌, ◌++◌, length, Some, None}
use Rattle.refusals.specs.declared.refusal.Refusal.{Refusal}
use Rattle.reg_tree.specs.Judgement.{applied}
use Rattle.reg_tree.specs.declared.element.Element.{Element}
use Rattle.reg_tree.specs.declared.op.Op.{Op}
use Rattle.store_model.specs.Transactions.{Transaction, fresh_transaction, inactive_refusal, view}
use Rattle.store_model.specs.Machine.{Machine, commit_ops, found_in, last_number, trees_now}
use Rattle.store_model.specs.Steps.{Step}
use Rattle.store_model.specs.declared.handle.Tx.{Tx}
use Rattle.store_model.specs.declared.event.Event.TheVariants.{Begin, TxWrite, CommitAccept}
use Rattle.store_model.specs.declared.event.Reply.TheVariants.{Refused}
use Rattle.store_driver.specs.Waits.{IsWaited}

-- the change of these operations that is made for a unit of work: the operations in their order, and then what keeps the
-- commit in the tree of outcomes, if the store has one
abbrev pub change_of : Machine → List ℕ → ℕ → List Op → Element
change_of old id moment ops = record { moment = moment; ops = ops ++ commit_ops old (fresh_transaction 0 id 0) }

-- accepted changes, with the change of these operations for a unit of work; no operations are no change
abbrev pub with_change : Machine → List ℕ → ℕ → List Op → List Element
with_change old id moment ops = if length ops == 0 then old.accepted else old.accepted ++ change_of old id moment ops ∷ []

-- nothing was accepted, and the bounds are the same
pub record KeepsAccepted (old new : Machine) : Type 0 where
  pub opened : new.opened ≡ old.opened
  pub before : new.before ≡ old.before
  pub accepted : new.accepted ≡ old.accepted
  pub bounds : new.bounds ≡ old.bounds

-- the operations were accepted as one change for a unit of work
pub record AcceptsOps (old : Machine) (id : List ℕ) (moment : ℕ) (ops : List Op) (new : Machine) : Type 0 where
  pub opened : new.opened ≡ old.opened
  pub before : new.before ≡ old.before
  pub accepted : new.accepted ≡ with_change old id moment ops
  pub bounds : new.bounds ≡ old.bounds

-- the number of the change of these operations; no operations have the number 0
abbrev pub number_of : Machine → List Op → ℕ
number_of old ops = if length ops == 0 then 0 else last_number old + 1

-- The operations were accepted as one change for a unit of work, which has this number and is durable.
pub record Commits (old : Machine) (id : List ℕ) (moment : ℕ) (ops : List Op) (number : ℕ) (new : Machine) : Type 0 where
  pub accepts : AcceptsOps old id moment ops new
  pub numbered : number ≡ number_of old ops
  pub durable : number ≤ new.durable

-- A transaction of session 0 for a unit of work is active and has these operations, which it sees carried out at this
-- moment. Nothing was accepted.
pub record InTransaction (old : Machine) (id : List ℕ) (tx : Tx) (moment : ℕ) (ops : List Op) (new : Machine) : Type 0 where
  pub keeps : KeepsAccepted old new
  pub one : Transaction
  pub found : found_in new 0 tx ≡ Some one
  pub unit : one.id ≡ id
  pub active : inactive_refusal (Some one) ≡ None
  pub same_ops : one.ops ≡ ops
  pub seen : view (trees_now new) one ≡ applied (trees_now old) ops moment

-- no transaction of session 0 is begun for a unit of work: the machine refuses it for this reason
abbrev pub IsNotBegun : Machine → List ℕ → Refusal → Machine → Type 0
IsNotBegun old id why new = Step old (Begin 0 id) (Refused why) new

-- The machine refuses the next call of a transaction of session 0 for this reason. The call adds the first operation
-- that is left, or commits if none is left.
abbrev pub RefusesNext : Machine → Tx → ℕ → List Op → Refusal → Machine → Type 0
RefusesNext old tx moment (op ∷ left) why new = Step old (TxWrite 0 tx moment op) (Refused why) new
RefusesNext old tx moment [] why new = Step old (CommitAccept 0 tx moment) (Refused why) new

-- A transaction was begun and has the first of the operations. Its next call is refused for this reason.
pub record StopsInTransaction (old : Machine) (id : List ℕ) (moment : ℕ) (ops : List Op) (why : Refusal) (new : Machine) : Type 0 where
  pub tx : Tx
  pub first : List Op
  pub left : List Op
  pub whole : ops ≡ first ++ left
  pub mid : Machine
  pub has : InTransaction old id tx moment first mid
  pub refuses : RefusesNext mid tx moment left why new

-- the operations were accepted as one change, and the wait until it is durable ended with this refusal
abbrev pub StopsWaiting : Machine → List ℕ → ℕ → List Op → Refusal → Machine → Type 0
StopsWaiting old id moment ops why new = (mid : Machine) × AcceptsOps old id moment ops mid × IsWaited mid (number_of old ops) (Some why) new

-- A commit was refused for this reason. Nothing was accepted: no transaction was begun, or its next call was refused. Or
-- the change was accepted and isn't known to be durable: the wait for it was refused.
abbrev pub FailsToCommit : Machine → List ℕ → ℕ → List Op → Refusal → Machine → Type 0
FailsToCommit old id moment ops why new =
    (KeepsAccepted old new × (IsNotBegun old id why new ⊎ StopsInTransaction old id moment ops why new))
    ⊎ (AcceptsOps old id moment ops new × StopsWaiting old id moment ops why new)
