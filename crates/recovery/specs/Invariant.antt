-- The invariant of an opened store.
use Rattle.std.specs.Prelude.{◌≡◌, ℕ, List, length, map, slice_get, Some}
use Rattle.std.specs.List.{filter}
use Rattle.commit_journal.specs.Store.{IsStore, all_hives}
use Rattle.commit_journal.specs.Journals.{changes_of, choice_of, store_of}
use Rattle.commit_journal.specs.Journals as journals
use Rattle.reg_tree.specs.declared.element.Element.{Element}
use Rattle.change_codec.specs.ModelChanges.{timed_elements}
use Rattle.commit_journal.specs.Numbered.{NumberedChange, numbered}
use Rattle.commit_journal.specs.LastChangePerHive.{AreLastIn}
use Rattle.hive_flush.specs.HiveStates.{HiveIsRepaired, IsBroken, file_choice}
use Rattle.hive_flush.specs.declared.hive.HiveFile.{HiveFile}
use Rattle.store_model.specs.Machine.{bounds_for}
use Rattle.store_model.specs.Invariant.{OutcomesFit}
use Rattle.engine_invariant.specs.Openings.{OpeningRecovers}
use Rattle.engine_invariant.specs.Prefixes.{ArePlaced, view_of}
use Rattle.recovery.specs.Retained.{is_lacked, numbered_changes}
use Rattle.recovery.specs.declared.found.RecoveredStore.{RecoveredStore}

-- the hives' own numbers, in their order: those in their files
abbrev pub own_numbers : List HiveFile → List ℕ
own_numbers hives = map (λ (hive : HiveFile). (file_choice hive).now.1) hives

-- of changes that are numbered from `base` + 1 on, exactly those are retained that some hive lacks
abbrev pub RetainsWhatHivesLack : ℕ → List Element → List NumberedChange → List HiveFile → Type 0
RetainsWhatHivesLack base changes kept hives = kept ≡ filter (is_lacked (own_numbers hives)) (numbered base changes)

-- What was found is of one store, and journal and hives recover the trees and the number together; a tree of outcomes
-- has commits up to the number; the device hasn't failed in a step of the journal.
pub record InvariantHolds (found : RecoveredStore) : Type 0 where
  pub recovers : OpeningRecovers (store_of found.journal).hives found.trees found.number found.base (changes_of found.journal) (choice_of found.journal) (map view_of found.hives.items)
  pub store : IsStore (store_of found.journal)
  pub placed : ArePlaced (store_of found.journal) found.hives.items
  pub many : length found.hives.items ≡ all_hives (store_of found.journal)
  pub outcomes : OutcomesFit (bounds_for (store_of found.journal).hives) found.trees found.number
  pub works : ¬ (journals.IsBroken found.journal)
  pub opened : RetainsWhatHivesLack found.base (changes_of found.journal) (numbered_changes found.opened) found.hives.items
  pub named : length found.last_changes.last.items ≡ length found.hives.items
  pub names : AreLastIn found.base (timed_elements (changes_of found.journal)) found.last_changes.last.items

-- the device hasn't failed in a step of a hive
abbrev pub AllWork : List HiveFile → Type 0
AllWork hives = (i : ℕ) (hive : HiveFile) → slice_get hives i ≡ Some hive → ¬ (IsBroken hive)

-- no repair of a hive is left
abbrev pub AreWhole : List HiveFile → Type 0
AreWhole hives = (i : ℕ) (hive : HiveFile) → slice_get hives i ≡ Some hive → HiveIsRepaired hive
