-- What a history has of an event.
use Rattle.std.specs.Prelude.{ℕ, List, [], refl}
use Rattle.std.specs.Coded.{Coded, code_by, coded×, coded_ℕ, coded_list}
use Rattle.logbook.specs.Pages.{Book}
use Rattle.published_trees.specs.Lists.{book_code}
use Rattle.reg_tree.specs.contracts.element.Element as element
use Rattle.reg_tree.specs.declared.element.Element.{Element}
use Rattle.crash_model.specs.Promises.{Choice, Content, nothing, settled}
use Rattle.change_codec.specs.ModelChanges.{TimedOp}
use Rattle.store_model.specs.Machine.{Machine, bounds_for, opened_machine}
use Rattle.store_model.specs.contracts.event.Event as event
use Rattle.store_model.specs.contracts.event.Reply as reply
use Rattle.store_model.specs.declared.event.Event.{Event}
use Rattle.store_model.specs.declared.event.Event.TheVariants.{FlushAsk}
use Rattle.store_model.specs.declared.event.Reply.{Reply}
use Rattle.store_model.specs.declared.event.Reply.TheVariants.{NotYet}
use Rattle.transactions.specs.Stores.{machine_code}
use Rattle.engine_invariant.specs.Engines.{EngineView}
use Rattle.engine_invariant.specs.Progress.{FlushView}
use Rattle.engine_invariant.specs.States.{HiveView}
use Rattle.engine.specs.Shown.{choice_code, content_code, flush_code, hive_code}

-- an event, its reply, and the engine after it
pub record HistoryEntry : Type 0 where
  pub event : Event
  pub reply : Reply
  pub after : EngineView

abbrev pub entry_of : Event → Reply → EngineView → HistoryEntry
entry_of event reply after = record { event = event; reply = reply; after = after }

abbrev pub view_code : Coded EngineView
view_code =
    code_by (Machine × (ℕ × (List Element × (Choice (Content TimedOp) × (List HiveView × (ℕ × (List FlushView × (ℕ × ℕ))))))))
    (coded× machine_code (coded× coded_ℕ (coded× (coded_list element.the_row.coded) (coded× (choice_code content_code) (coded× (coded_list hive_code) (coded× coded_ℕ (coded× (coded_list flush_code) (coded× coded_ℕ coded_ℕ))))))))
    (λ v. (v.machine, (v.base, (v.opened, (v.journal, (v.hives, (v.left, (v.flushes, (v.clock, v.failures)))))))))
    (λ p. record { machine = p.0; base = p.1.0; opened = p.1.1.0; journal = p.1.1.1.0; hives = p.1.1.1.1.0; left = p.1.1.1.1.1.0; flushes = p.1.1.1.1.1.1.0; clock = p.1.1.1.1.1.1.1.0; failures = p.1.1.1.1.1.1.1.1 }) (λ _. refl)

abbrev pub entry_code : Coded HistoryEntry
entry_code = code_by (Event × (Reply × EngineView)) (coded× event.the_row.coded (coded× reply.the_row.coded view_code)) (λ e. (e.event, (e.reply, e.after))) (λ p. record { event = p.0; reply = p.1.0; after = p.1.1 }) (λ _. refl)

-- a beginning of the history of a book
pub record SeenHistory : Type 0 where
  pub book : Book
  pub log : List HistoryEntry

abbrev pub seen_code : Coded SeenHistory
seen_code = code_by (Book × List HistoryEntry) (coded× book_code (coded_list entry_code)) (λ s. (s.book, s.log)) (λ p. record { book = p.0; log = p.1 }) (λ _. refl)

-- an engine without hives at its beginning, for entries that no history has
abbrev pub no_view : ℕ → EngineView
no_view clock = record { machine = opened_machine (bounds_for 0) [] 0 [] 0; base = 0; opened = []; journal = settled nothing; hives = []; left = 0; flushes = []; clock = clock; failures = 0 }

abbrev pub no_entry : ℕ → HistoryEntry
no_entry clock = entry_of FlushAsk NotYet (no_view clock)
