-- A step of a hive's repair keeps the invariant of an opened store.
use Rattle.std.proofs.Common.{◌≡◌, ◌⊎◌, inl, inr, ℕ, ◌<◌, List, length, map, refl, sym, ◌∙◌, ap, subst, Some, slice_get, get_or, Result, Ok, Err}
use Rattle.std.specs.Prelude.{slice_set, IfErr, OnOk}
use Rattle.std.specs.Global.{Vec}
use Rattle.std.specs.List.{filter}
use Rattle.std.proofs.lemmas.Option.{slice_get_read}
use Rattle.std.proofs.lemmas.List.{length-set}
use Rattle.std.proofs.Math.Seq.{map-set_same}
use Rattle.refusals.specs.declared.refusal.Refusal.{Refusal}
use Rattle.refusals.specs.declared.refusal.Refusal.TheVariants as refusal
use Rattle.reg_tree.specs.Maps.{TreeMap}
use Rattle.crash_model.specs.Promises.{Choice}
use Rattle.commit_journal.specs.Numbered.{numbered}
use Rattle.disk_model.specs.declared.progress.Progress.{Progress}
use Rattle.commit_journal.specs.Journals.{changes_of, choice_of, store_of}
use Rattle.hive_flush.specs.HiveStates.{IsBroken, file_choice, memory_of, hive_number}
use Rattle.hive_flush.specs.HiveStates as states
use Rattle.hive_flush.specs.declared.hive.HiveFile.{HiveFile}
use Rattle.engine_invariant.specs.States.{HiveView}
use Rattle.engine_invariant.specs.Openings.{OpeningRecovers}
use Rattle.engine_invariant.specs.Prefixes.{ArePlaced, view_of}
use Rattle.engine_invariant.proofs.HiveLists.{each_hive}
use Rattle.recovery.specs.Invariant.{AllWork, InvariantHolds, own_numbers}
use Rattle.recovery.specs.Retained.{is_lacked, numbered_changes}
use Rattle.recovery.specs.declared.found.RecoveredStore.{RecoveredStore}

pub views_on : (hives : List HiveFile) (k : ℕ) (old new : HiveFile) → old ≡ get_or hives k old → file_choice new ≡ file_choice old → memory_of new ≡ memory_of old → map view_of (slice_set hives k new) ≡ map view_of hives
views_on hives k old new is files memory =
    let same : view_of new ≡ view_of old = λ i. record { files = files i; memory = memory i } in
    map-set_same view_of hives k new old (same ∙ ap view_of is)

pub kept_on : (found : RecoveredStore) (k : ℕ) (old new : HiveFile) (then : Vec HiveFile) → then.items ≡ slice_set found.hives.items k new → InvariantHolds found → k < length found.hives.items → old ≡ get_or found.hives.items k old
    → file_choice new ≡ file_choice old → memory_of new ≡ memory_of old → hive_number new ≡ hive_number old → states.store_of new ≡ states.store_of old → InvariantHolds (record found { hives = then })
kept_on found k old new then are kept lt value files memory place owner =
    let is = slice_get_read found.hives.items (length found.hives.items) k old refl lt value in
    record {
      recovers = subst (λ (v : List HiveView). OpeningRecovers (store_of found.journal).hives found.trees found.number found.base (changes_of found.journal) (choice_of found.journal) v) (sym (ap (map view_of) are ∙ views_on found.hives.items k old new value files memory)) kept.recovers;
      store = kept.store;
      placed = subst (λ (hs : List HiveFile). ArePlaced (store_of found.journal) hs) (sym are) (record {
        place = each_hive found.hives.items k old new is (λ j h. hive_number h ≡ j) (place ∙ kept.placed.place k old is) (λ j h ne at. kept.placed.place j h at);
        owner = each_hive found.hives.items k old new is (λ j h. states.store_of h ≡ (store_of found.journal).id) (owner ∙ kept.placed.owner k old is) (λ j h ne at. kept.placed.owner j h at);
      });
      many = ap (λ (hs : List HiveFile). length hs) are ∙ length-set found.hives.items k new ∙ kept.many;
      outcomes = kept.outcomes;
      works = kept.works;
      opened = subst (λ (numbers : List ℕ). numbered_changes found.opened ≡ filter (is_lacked numbers) (numbered found.base (changes_of found.journal)))
          (sym (ap own_numbers are ∙ map-set_same (λ (h : HiveFile). (file_choice h).now.1) found.hives.items k new old (ap (λ (c : Choice (TreeMap × ℕ)). c.now.1) files ∙ ap (λ (h : HiveFile). (file_choice h).now.1) value))) kept.opened;
      named = kept.named ∙ sym (ap (λ (hs : List HiveFile). length hs) are ∙ length-set found.hives.items k new);
      names = kept.names;
    }

pub works_on : (hives : List HiveFile) (k : ℕ) (old new : HiveFile) → slice_get hives k ≡ Some old → (result : Result Progress Refusal) → AllWork hives → (IsBroken new → IsBroken old ⊎ (result ≡ Err refusal.DiskFault)) → OnOk result (AllWork (slice_set hives k new))
works_on hives k old new is (Ok come) all broken = each_hive hives k old new is (λ j h. ¬ (IsBroken h)) (λ bad. elim (broken bad) [ inl was ↦ all k old is was | inr f ↦ absurd cc ]) (λ j h ne at. all j h at)
works_on hives k old new is (Err why) all broken = tt

-- a hive that works is refused a step only by the device
pub only_fault : (result : Result Progress Refusal) → IfErr result (λ why. (why ≡ refusal.DiskFault) ⊎ (why ≡ refusal.Faulted)) → (result ≡ Err refusal.Faulted → ⊥) → IfErr result (λ why. why ≡ refusal.DiskFault)
only_fault (Ok come) as_journal_damage free = tt
only_fault (Err why) (inl fault) free = fault
only_fault (Err why) (inr faulted) free = absurd (free (ap Err faulted))
