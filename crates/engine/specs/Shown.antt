-- What contracts see of an engine.
use Rattle.std.specs.Prelude.{ℕ, List, Option, refl}
use Rattle.std.specs.Coded.{Coded, code_by, coded×, coded_ℕ, coded_list, coded_option}
use Rattle.std.specs.FinMap as finite
use Rattle.reg_tree_parts.specs.Rows.{row_code}
use Rattle.reg_tree.specs.Maps.{TreeMap}
use Rattle.reg_tree.specs.contracts.element.Element as element
use Rattle.reg_tree.specs.contracts.op.Op as op
use Rattle.reg_tree.specs.declared.element.Element.{Element}
use Rattle.crash_model.specs.Promises.{Choice, Content}
use Rattle.change_codec.specs.ModelChanges.{TimedOp}
use Rattle.store_model.specs.Machine.{Machine}
use Rattle.store_model.specs.Codes.{trees_code}
use Rattle.store_model.specs.contracts.event.Event as event
use Rattle.store_model.specs.declared.event.Event.{Event}
use Rattle.transactions.specs.Prepared.{change_to_accept}
use Rattle.transactions.specs.declared.prepared.Prepared.{Prepared}
use Rattle.transactions.specs.Stores.{machine_code}
use Rattle.commit_journal.specs.Store.{Store}
use Rattle.commit_journal.specs.contracts.store_layout.Layout as layout
use Rattle.commit_journal.specs.declared.store_layout.Layout.{Layout}
use Rattle.engine_invariant.specs.Engines.{EngineView}
use Rattle.engine_invariant.specs.States.{HiveView}
use Rattle.engine_invariant.specs.Progress.{FlushView}

-- a prepared event; and the change that will be accepted, if one will, with the trees of now after it
pub record Awaiting : Type 0 where
  pub event : Event
  pub next : Option (Element × List TreeMap)

abbrev pub awaiting_of : Prepared → Awaiting
awaiting_of prepared = record { event = prepared.event.value; next = change_to_accept prepared }

-- the machine; the disk; the store that the files are of; the changes that the journal decoded to at the opening, and
-- the number before the first of them; the durable content and what is under way of the journal and of each hive, and
-- the hive's memory; how many steps of the journal are left, if changes wait and none is refused, until some are
-- durable; each hive's flush; and the prepared event, if there is one
pub record Shown (D : Type 0) : Type 0 where
  pub machine : Machine
  pub disk : D
  pub store : Store
  pub base : ℕ
  pub opened : List Element
  pub journal : Choice (Content TimedOp)
  pub hives : List HiveView
  pub left : ℕ
  pub flushes : List FlushView
  pub prepared : Option Awaiting

-- an engine at one moment, over a disk of this clock and these failures
abbrev pub engine_view : {D : Type 0} → (D → ℕ) → (D → ℕ) → Shown D → EngineView
engine_view clock failures shown = record {
  machine = shown.machine;
  base = shown.base;
  opened = shown.opened;
  journal = shown.journal;
  hives = shown.hives;
  left = shown.left;
  flushes = shown.flushes;
  clock = clock shown.disk;
  failures = failures shown.disk;
}

abbrev pub store_code : Coded Store
store_code = code_by (List ℕ × (ℕ × Layout)) (coded× (coded_list coded_ℕ) (coded× coded_ℕ layout.the_row.coded)) (λ s. (s.id, (s.hives, s.layout))) (λ p. record { id = p.0; hives = p.1.0; layout = p.1.1 }) (λ _. refl)

abbrev pub held_code : Coded (TreeMap × ℕ)
held_code = coded× (finite.code (coded_list (coded_list coded_ℕ)) row_code) coded_ℕ

abbrev pub choice_code : {X : Type 0} → Coded X → Coded (Choice X)
choice_code {X = X} code = code_by (X × Option X) (coded× code (coded_option code)) (λ c. (c.now, c.next)) (λ p. record { now = p.0; next = p.1 }) (λ _. refl)

abbrev pub content_code : Coded (Content TimedOp)
content_code = code_by (ℕ × List (List (ℕ × TimedOp))) (coded× coded_ℕ (coded_list (coded_list (coded× coded_ℕ (coded× coded_ℕ op.the_row.coded)))))
    (λ s. (s.below, s.elements)) (λ p. record { below = p.0; elements = p.1 }) (λ _. refl)

abbrev pub hive_code : Coded HiveView
hive_code = code_by (Choice (TreeMap × ℕ) × (TreeMap × ℕ)) (coded× (choice_code held_code) held_code) (λ h. (h.files, h.memory)) (λ p. record { files = p.0; memory = p.1 }) (λ _. refl)

abbrev pub flush_code : Coded FlushView
flush_code = code_by (ℕ × ℕ) (coded× coded_ℕ coded_ℕ) (λ f. (f.left, f.pages)) (λ p. record { left = p.0; pages = p.1 }) (λ _. refl)

abbrev pub awaiting_code : Coded Awaiting
awaiting_code = code_by (Event × Option (Element × List TreeMap)) (coded× event.the_row.coded (coded_option (coded× element.the_row.coded trees_code))) (λ a. (a.event, a.next)) (λ p. record { event = p.0; next = p.1 }) (λ _. refl)

abbrev pub shown_code : {D : Type 0} → Coded D → Coded (Shown D)
shown_code {D = D} code =
    code_by (Machine × (D × (Store × (ℕ × (List Element × (Choice (Content TimedOp) × (List HiveView × (ℕ × (List FlushView × Option Awaiting)))))))))
    (coded× machine_code (coded× code (coded× store_code (coded× coded_ℕ (coded× (coded_list element.the_row.coded) (coded× (choice_code content_code) (coded× (coded_list hive_code) (coded× coded_ℕ (coded× (coded_list flush_code) (coded_option awaiting_code))))))))))
    (λ s. (s.machine, (s.disk, (s.store, (s.base, (s.opened, (s.journal, (s.hives, (s.left, (s.flushes, s.prepared))))))))))
    (λ p. record { machine = p.0; disk = p.1.0; store = p.1.1.0; base = p.1.1.1.0; opened = p.1.1.1.1.0; journal = p.1.1.1.1.1.0; hives = p.1.1.1.1.1.1.0; left = p.1.1.1.1.1.1.1.0; flushes = p.1.1.1.1.1.1.1.1.0; prepared = p.1.1.1.1.1.1.1.1.1 }) (λ _. refl)
