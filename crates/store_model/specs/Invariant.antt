-- What every state of the machine keeps: what is known of the transactions that are kept, and of handles.
use Rattle.std.specs.Prelude.{◌≡◌, ◌≢◌, ◌⊎◌, ℕ, ◌+◌, ◌<◌, ◌≤◌, nat_lt, true, length, List, [], ◌∷◌, ◌++◌, map, filter_map, Option, Some, None, Ok, Err, ⊤}
use Rattle.std.specs.List.{All}
use Rattle.refusals.specs.declared.refusal.Refusal.TheVariants.{TooLarge}
use Rattle.refusals.specs.declared.limits.TheConstants.{GREATEST_NUMBER, MOST_JOURNAL_BYTES, MOST_SESSIONS, MOST_TRANSACTIONS}
use Rattle.reg_tree.specs.Maps.{TreeMap}
use Rattle.reg_tree.specs.Operations.{hive_of}
use Rattle.reg_tree.specs.Judgement.{legal, applied, applied_one}
use Rattle.reg_tree.specs.Sequences.{AreTrees}
use Rattle.reg_tree.specs.declared.element.Element.{Element}
use Rattle.reg_tree.specs.declared.op.Op.{Op}
use Rattle.reg_tree.specs.declared.op.Legality.TheVariants.{Legal}
use Rattle.conflicts.specs.TreeOutlines.{AreCarriedOut, OpsDontConflict}
use Rattle.store_model.specs.Transactions.{Transaction, TxSlots, at, is_active, count_held}
use Rattle.commit_outcomes.specs.Commits.{Commit, AreUpTo, kept}
use Rattle.commit_outcomes.specs.Trees.{HasCommits}
use Rattle.store_model.specs.declared.bounds.StoreBounds.{StoreBounds}
use Rattle.store_model.specs.Machine.{Machine, commits_to, has_outcomes, outcome_tree, trees_at, trees_now, last_number, pending, room_of, room_with}
use Rattle.store_model.specs.declared.handle.Tx.{Tx}
use Rattle.store_model.specs.declared.event.Reply.{Reply}
use Rattle.store_model.specs.declared.event.Reply.TheVariants as reply

-- a slot has this transaction, and it is active
pub record IsActiveAt (tx_slots : TxSlots) (slot : ℕ) (one : Transaction) : Type 0 where
  pub there : at tx_slots slot ≡ Some one
  pub active : is_active one ≡ true

-- the numbers, slots and room of a state: what was there at the opening is durable, and nothing is durable that was not
-- accepted; numbers and changes, sessions and transactions are within their limits; and the journal's room is at least
-- what an empty journal takes with the changes that are not durable yet
pub record IsWithin (machine : Machine) : Type 0 where
  pub opened : machine.before ≤ machine.durable
  pub known : machine.durable ≤ last_number machine
  pub numbers : last_number machine ≤ GREATEST_NUMBER
  pub changes : length machine.accepted ≤ machine.bounds.changes
  pub sessions : length machine.sessions ≤ MOST_SESSIONS
  pub held : count_held machine.tx_slots ≤ MOST_TRANSACTIONS
  pub room : room_with (pending machine) ≤ machine.room

-- each operation, on the trees after those before it, is legal and changes something
abbrev pub AreLegalChanges : List TreeMap → List Op → ℕ → Type 0
AreLegalChanges trees [] moment = ⊤
AreLegalChanges trees (op ∷ ops) moment = (legal trees op ≡ Ok Legal) × AreLegalChanges (applied_one trees op moment) ops moment

-- each accepted change has an operation, and on the trees after those before it all of its operations are legal and
-- change something
abbrev pub AreLegalHistory : List TreeMap → List Element → Type 0
AreLegalHistory trees [] = ⊤
AreLegalHistory trees (element ∷ elements) =
    (0 < length element.ops) × AreLegalChanges trees element.ops element.moment
    × AreLegalHistory (applied trees element.ops element.moment) elements

-- each operation is on a hive that calls may name: one of the first `hives`
abbrev pub HivesAreNamable : ℕ → List Op → Type 0
HivesAreNamable hives ops = All (λ op. hive_of op < hives) ops

-- The tree of outcomes has the commits that are kept: of those that it had at the opening, whose numbers are up to the
-- opening's, and those of the history. So it was after each change since the opening, with the commits up to then.
pub record KeepsOutcomes (machine : Machine) : Type 0 where
  pub before : List Commit
  pub opened : HasCommits before (outcome_tree machine.bounds machine.opened)
  pub up_to : AreUpTo machine.before before
  pub now : HasCommits (kept (before ++ machine.commits)) (outcome_tree machine.bounds (trees_now machine))
  pub numbers : AreUpTo (last_number machine) (kept (before ++ machine.commits))
  pub since : AreUpTo (last_number machine) machine.commits
  pub each : (number : ℕ) → machine.before ≤ number → number ≤ last_number machine →
      HasCommits (kept (before ++ commits_to number machine.commits)) (outcome_tree machine.bounds (trees_at machine number))

-- Trees at a number may be opened within bounds: if there is a tree of outcomes, it has commits up to the number.
abbrev pub OutcomesFit : StoreBounds → List TreeMap → ℕ → Type 0
OutcomesFit bounds trees number =
    nat_lt bounds.hives (length trees) ≡ true → (commits : List Commit) × HasCommits commits (outcome_tree bounds trees) × AreUpTo number commits

-- What every state keeps: the trees of now are trees; no transaction's number is above how many were begun; the
-- operations of an active transaction may be carried out in turn on the trees of now, at whatever moment; no claims of
-- two active transactions conflict; active transactions write to no hive but those that calls may name; numbers, slots
-- and room are within their limits; each accepted change was legal; and a store that keeps outcomes has those of the
-- commits that are kept.
pub record InvariantHolds (machine : Machine) : Type 0 where
  pub trees : AreTrees (trees_now machine)
  pub known : (slot : ℕ) (one : Transaction) → at machine.tx_slots slot ≡ Some one → one.generation ≤ machine.begun
  pub carried : (slot : ℕ) (one : Transaction) → IsActiveAt machine.tx_slots slot one → (moment : ℕ) → AreCarriedOut (trees_now machine) one.ops moment
  pub apart : (slot other : ℕ) (one two : Transaction) → slot ≢ other → IsActiveAt machine.tx_slots slot one → IsActiveAt machine.tx_slots other two → OpsDontConflict one.ops two.ops
  pub named : (slot : ℕ) (one : Transaction) → IsActiveAt machine.tx_slots slot one → HivesAreNamable machine.bounds.hives one.ops
  pub within : IsWithin machine
  pub history : AreLegalHistory machine.opened machine.accepted
  pub outcomes : has_outcomes machine ≡ true → KeepsOutcomes machine

-- each operation, on the trees after those before it, is legal, or refused for weight alone
abbrev pub AreLegalButForWeight : List TreeMap → List Op → ℕ → Type 0
AreLegalButForWeight trees [] moment = ⊤
AreLegalButForWeight trees (op ∷ ops) moment =
    ((legal trees op ≡ Ok Legal) ⊎ (legal trees op ≡ Err TooLarge)) × AreLegalButForWeight (applied_one trees op moment) ops moment

-- the handle that an answer gives
abbrev pub handle_in : Reply → Option Tx
handle_in (reply.Begun tx) = Some tx
handle_in _ = None

-- the handles that answers give, in order, and their numbers
abbrev pub given : List Reply → List Tx
given replies = filter_map handle_in replies

abbrev pub numbers_given : List Reply → List ℕ
numbers_given replies = map (λ tx. tx.generation) (given replies)

-- if a handle is given it has the next number, which is how many were begun then; else no more were begun
abbrev pub IsCounted : Machine → Option Tx → Machine → Type 0
IsCounted old None new = new.begun ≡ old.begun
IsCounted old (Some tx) new = (tx.generation ≡ old.begun + 1) × (new.begun ≡ tx.generation)

-- a handle is gone for good: its number was given to a transaction, and its slot has none of that number
pub record IsGone (machine : Machine) (tx : Tx) : Type 0 where
  pub was_begun : tx.generation ≤ machine.begun
  pub not_there : (one : Transaction) → at machine.tx_slots tx.slot ≡ Some one → one.generation ≢ tx.generation

-- All stays that the journal, its numbers, the bounds and the device need.
pub record JournalStateStays (old new : Machine) : Type 0 where
  pub opened : new.opened ≡ old.opened
  pub before : new.before ≡ old.before
  pub accepted : new.accepted ≡ old.accepted
  pub durable : new.durable ≡ old.durable
  pub room : new.room ≡ old.room
  pub faulted : new.faulted ≡ old.faulted
  pub bounds : new.bounds ≡ old.bounds

-- One change is accepted. It has an operation, and is legal operation by operation on the trees of now. There is a
-- number and room in the journal for it; that room is used. The rest stays.
pub record AcceptsOneChange (old new : Machine) : Type 0 where
  pub element : Element
  pub some : 0 < length element.ops
  pub legal : AreLegalChanges (trees_now old) element.ops element.moment
  pub number : last_number old < GREATEST_NUMBER
  pub opened : new.opened ≡ old.opened
  pub before : new.before ≡ old.before
  pub accepted : new.accepted ≡ old.accepted ++ element ∷ []
  pub durable : new.durable ≡ old.durable
  pub room : new.room ≡ old.room + room_of element
  pub fits : new.room ≤ MOST_JOURNAL_BYTES
  pub faulted : new.faulted ≡ old.faulted
  pub bounds : new.bounds ≡ old.bounds
