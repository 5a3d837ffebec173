-- What a store in memory shows.
use Rattle.std.specs.Prelude.{◌≡◌, ◌≤◌, ℕ, nat_lt, slice_get, Bool, true, false, List, length, Option, Some, None, Result, Ok, Err, refl}
use Rattle.std.specs.Coded.{Coded, code_by, coded×, coded_ℕ, coded_list, coded_bool}
use Rattle.refusals.specs.declared.refusal.Refusal.{Refusal}
use Rattle.reg_tree.specs.Maps.{TreeMap}
use Rattle.reg_tree.specs.contracts.element.Element as element
use Rattle.reg_tree.specs.declared.element.Element.{Element}
use Rattle.store_model.specs.Codes.{trees_code, tx_slots_code}
use Rattle.refusals.specs.declared.limits.TheConstants.{GREATEST_NUMBER}
use Rattle.commit_outcomes.specs.Commits.{Commit, AreUpTo}
use Rattle.commit_outcomes.specs.Trees.{HasCommits}
use Rattle.store_model.specs.Machine.{Machine, bounds_for, has_outcomes, outcome_bytes, outcome_tree, trees_now, last_number}
use Rattle.store_model.specs.Steps.{Step}
use Rattle.store_model.specs.Transactions.{TxSlots}
use Rattle.store_model.specs.declared.bounds.StoreBounds.{StoreBounds}
use Rattle.store_model.specs.contracts.bounds.StoreBounds as bounds
use Rattle.store_model.specs.declared.event.Event.{Event}
use Rattle.store_model.specs.declared.event.Event.TheVariants as event
use Rattle.store_model.specs.declared.event.Reply.{Reply}
use Rattle.store_model.specs.declared.event.Reply.TheVariants as reply
use Rattle.transactions.specs.Tables.{Table}

-- one call of the device has failed if the store is faulted, and else none
abbrev pub failures_of : Bool → ℕ
failures_of true = 1
failures_of false = 0

-- the machine that a store shows
abbrev pub store_of : List TreeMap → ℕ → List Element → List Commit → List ℕ → Table → ℕ → ℕ → Bool → StoreBounds → Machine
store_of opened before accepted commits sessions table durable room faulted bounds = record {
  opened = opened;
  before = before;
  accepted = accepted;
  commits = commits;
  sessions = sessions;
  tx_slots = table.tx_slots;
  begun = table.begun;
  durable = durable;
  room = room;
  failures = failures_of faulted;
  faulted = faulted;
  bounds = bounds;
}

-- the machine, the number above which its changes are retained, and for how many changes more space is reserved
pub record StoreView : Type 0 where
  pub machine : Machine
  pub retained : ℕ
  pub spare : ℕ

-- the table's trees and number are those of the last accepted change, what is durable was accepted, and the history is
-- within its limit
pub record TableMatchesMachine (table : Table) (machine : Machine) : Type 0 where
  pub trees : table.trees ≡ trees_now machine
  pub number : table.number ≡ last_number machine
  pub durable : machine.durable ≤ last_number machine
  pub few : length machine.accepted ≤ machine.bounds.changes
  pub hives : table.hives ≡ machine.bounds.hives
  pub aside : table.aside ≡ outcome_bytes machine

-- a store keeps outcomes exactly if it has a list of commits, which is that of its tree of outcomes, up to the last number
abbrev pub OutcomesMatch : Option (List Commit) → Machine → Type 0
OutcomesMatch None machine = has_outcomes machine ≡ false
OutcomesMatch (Some commits) machine =
    (has_outcomes machine ≡ true) × HasCommits commits (outcome_tree machine.bounds (trees_now machine)) × AreUpTo (last_number machine) commits
    × (last_number machine ≤ GREATEST_NUMBER)

-- what is found of outcomes in trees at a number: the commits of the tree after the first `hives`, if there is one
abbrev pub OutcomesAt : ℕ → List TreeMap → ℕ → Option (List Commit) → Type 0
OutcomesAt hives trees number None = nat_lt hives (length trees) ≡ false
OutcomesAt hives trees number (Some commits) =
    (nat_lt hives (length trees) ≡ true) × HasCommits commits (outcome_tree (bounds_for hives) trees) × AreUpTo number commits

-- the tree of outcomes among trees, if a store keeps outcomes
abbrev pub IsOutcomeTree : Machine → List TreeMap → Option TreeMap → Type 0
IsOutcomeTree machine trees None = has_outcomes machine ≡ false
IsOutcomeTree machine trees (Some tree) = (has_outcomes machine ≡ true) × (slice_get trees machine.bounds.hives ≡ Some tree)

-- an event's answer, or why it was refused, is a step of the machine
abbrev pub Answers : Machine → Event → Result Reply Refusal → Machine → Type 0
Answers old event (Ok answer) new = Step old event answer new
Answers old event (Err refusal) new = Step old event (reply.Refused refusal) new

-- whether a faulted store refuses an event as faulted: each that may lead to an accepted change, and each that asks
-- about one
abbrev pub needs_device : Event → Bool
needs_device (event.StartSession session) = true
needs_device (event.Write session moment op) = true
needs_device (event.Begin session id) = true
needs_device (event.TxWrite session tx moment op) = true
needs_device (event.CommitAccept session tx moment) = true
needs_device (event.Outcome session tx) = true
needs_device event.FlushAsk = true
needs_device _ = false

-- how machines are distinguished: by their parts
abbrev pub machine_code : Coded Machine
machine_code =
    code_by (List TreeMap × (ℕ × (List Element × (List Commit × (List ℕ × (TxSlots × (ℕ × (ℕ × (ℕ × (ℕ × (Bool × StoreBounds)))))))))))
    (coded× trees_code (coded× coded_ℕ (coded× (coded_list element.the_row.coded) (coded× (coded_list (coded× coded_ℕ (coded_list coded_ℕ))) (coded× (coded_list coded_ℕ) (coded× tx_slots_code (coded× coded_ℕ (coded× coded_ℕ (coded× coded_ℕ (coded× coded_ℕ (coded× coded_bool bounds.the_row.coded)))))))))))
    (λ m. (m.opened, (m.before, (m.accepted, (m.commits, (m.sessions, (m.tx_slots, (m.begun, (m.durable, (m.room, (m.failures, (m.faulted, m.bounds))))))))))))
    (λ p. record { opened = p.0; before = p.1.0; accepted = p.1.1.0; commits = p.1.1.1.0; sessions = p.1.1.1.1.0; tx_slots = p.1.1.1.1.1.0; begun = p.1.1.1.1.1.1.0; durable = p.1.1.1.1.1.1.1.0; room = p.1.1.1.1.1.1.1.1.0; failures = p.1.1.1.1.1.1.1.1.1.0; faulted = p.1.1.1.1.1.1.1.1.1.1.0; bounds = p.1.1.1.1.1.1.1.1.1.1.1 })
    (λ _. refl)

abbrev pub store_code : Coded StoreView
store_code = code_by (Machine × (ℕ × ℕ)) (coded× machine_code (coded× coded_ℕ coded_ℕ)) (λ s. (s.machine, (s.retained, s.spare))) (λ p. record { machine = p.0; retained = p.1.0; spare = p.1.1 }) (λ _. refl)
