-- What holds of an engine's parts.
use Rattle.std.specs.Prelude.{◌≡◌, ◌≤◌, ℕ, ◌+◌, ◌-◌, false, Result, Ok, Err, List, length, map, slice_get, Some}
use Rattle.reg_tree.specs.declared.element.Element.{Element}
use Rattle.refusals.specs.declared.refusal.Refusal.{Refusal}
use Rattle.crash_model.specs.Promises.{Content, top}
use Rattle.change_codec.specs.ModelChanges.{TimedOp}
use Rattle.disk_model.specs.declared.progress.Progress.{Progress}
use Rattle.disk_model.specs.declared.progress.Progress.TheVariants as progress
use Rattle.commit_journal.specs.Store.{all_hives, room_of}
use Rattle.engine_invariant.specs.Answers.{refused_by}
use Rattle.store_model.specs.Machine.{Machine}
use Rattle.transactions.specs.Stores.{StoreView}
use Rattle.engine.specs.EarlierChanges.{changes_before}
use Rattle.commit_journal.specs.Journals.{choice_of, store_of}
use Rattle.commit_journal.specs.Journals as journals
use Rattle.commit_journal.specs.declared.journal.Journal.{Journal}
use Rattle.hive_flush.specs.HiveStates.{HiveIsRepaired, IsBroken}
use Rattle.hive_flush.specs.declared.hive.HiveFile.{HiveFile}
use Rattle.engine_invariant.specs.States.{IsConsistent}
use Rattle.engine_invariant.specs.Prefixes.{ArePlaced, view_of}
use Rattle.recovery.specs.Retained.{numbered_changes}
use Rattle.engine.specs.RetainedChanges.{RetainsWhatHivesLack}
use Rattle.engine.specs.LastChangePerHive.{AreLastNaming}
use Rattle.engine.specs.declared.parts.Parts.{Parts}

-- The store in memory, the journal and the hives of an engine: all of its invariant. Each hive has its number in the
-- store, and no repair left. Calls name as many hives as the journal's header says, which is at least one. As long as the
-- store isn't faulted the device has failed in no step.
pub record AreSound (store : StoreView) (base : ℕ) (opened : List Element) (journal : Journal) (hives : List HiveFile) : Type 0 where
  pub kept : IsConsistent store.machine base opened (choice_of journal) (map view_of hives)
  pub placed : ArePlaced (store_of journal) hives
  pub many : length hives ≡ all_hives (store_of journal)
  pub named : store.machine.bounds.hives ≡ (store_of journal).hives
  pub some : 1 ≤ (store_of journal).hives
  pub whole : (i : ℕ) (hive : HiveFile) → slice_get hives i ≡ Some hive → HiveIsRepaired hive
  pub journal_works : store.machine.faulted ≡ false → ¬ (journals.IsBroken journal)
  pub hives_work : store.machine.faulted ≡ false → (i : ℕ) (hive : HiveFile) → slice_get hives i ≡ Some hive → ¬ (IsBroken hive)

-- An engine's parts are sound. For each hive it is known which durable change names it last. Each change that is
-- pending or that a hive lacks is retained.
pub record IsSound {D : Type 0} (parts : Parts D) : Type 0 where
  pub holds : AreSound parts.store parts.base (changes_before parts.earlier) parts.journal parts.hives.items
  pub last_changes : AreLastNaming parts.store.machine parts.base (changes_before parts.earlier) parts.last_changes.last.items
  pub named : length parts.last_changes.last.items ≡ length parts.hives.items
  pub retained : RetainsWhatHivesLack parts.store parts.base (changes_before parts.earlier) (numbered_changes parts.opened) parts.hives.items

-- The machine after a step of the journal or of a trim, after which the journal decodes to `now`, and before which it
-- had used `used` bytes of room. Once the step is done, what the journal has is durable, and the room that it no longer
-- uses is free.
abbrev pub after_mark_durable : Machine → Content TimedOp → ℕ → Result Progress Refusal → Machine
after_mark_durable machine now used (Ok progress.Done) = record machine { durable = top machine.durable now; room = machine.room - (used - (65 + room_of now.elements)) }
after_mark_durable machine now used (Ok progress.Idle) = machine
after_mark_durable machine now used (Ok progress.More) = machine
after_mark_durable machine now used (Err why) = refused_by machine why
