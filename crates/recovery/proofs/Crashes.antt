-- What a crash leaves of an opened store.
use Rattle.std.proofs.Common.{◌≡◌, ℕ, ◌+◌, ◌-◌, ◌≤◌, List, [], length, map, refl, sym, ◌∙◌, subst, arith}
use Rattle.std.proofs.lemmas.List.{length-map}
use Rattle.reg_tree.specs.Maps.{TreeMap}
use Rattle.reg_tree.specs.Sequences.{after_elements}
use Rattle.reg_tree.specs.declared.element.Element.{Element}
use Rattle.crash_model.specs.Promises.{Choice, Content}
use Rattle.crash_model.proofs.Lists.{take_nil}
use Rattle.disk_model.specs.FileState.{FileState}
use Rattle.disk_model.specs.Crash.{LeavesHonest}
use Rattle.store_model.specs.Machine.{Machine, bounds_for, opened_machine}
use Rattle.store_model.specs.Invariant.{OutcomesFit}
use Rattle.store_model.specs.declared.bounds.StoreBounds.{StoreBounds}
use Rattle.change_codec.specs.ModelChanges.{TimedOp}
use Rattle.commit_journal.specs.Store.{Store, all_hives, room_of}
use Rattle.commit_journal.proofs.StoreHives.{most_hives}
use Rattle.commit_journal.specs.Journals.{changes_of, choice_of, store_of}
use Rattle.commit_journal.specs.declared.journal.Journal.{Journal}
use Rattle.hive_flush.specs.declared.hive.HiveFile.{HiveFile}
use Rattle.engine_invariant.specs.States.{HiveView, IsConsistent}
use Rattle.engine_invariant.specs.Openings.{OpeningRecovers}
use Rattle.engine_invariant.specs.Prefixes.{AreOnDisk, ArePlaced, IsPrimaryOf, IsSafeAt, Recover, view_of}
use Rattle.recovery.specs.Invariant.{InvariantHolds}
use Rattle.recovery.specs.Recovered.{IsRecovered}
use Rattle.recovery.specs.Shown.{Shown}
use Rattle.recovery.specs.Shown as shown
use Rattle.commit_journal.specs.Journals as journals
use Rattle.recovery.specs.declared.found.RecoveredStore.{RecoveredStore}

-- The laws that are used

abbrev pub Begins : Type 0
Begins = (bounds : StoreBounds) (trees : List TreeMap) (number failures base : ℕ) (opened : List Element) (journal : Choice (Content TimedOp)) (hives : List HiveView) → OpeningRecovers bounds.hives trees number base opened journal hives
    → length trees ≤ bounds.hives + 1 → OutcomesFit bounds trees number → IsConsistent (record (opened_machine bounds trees number [] failures) { room = 65 + room_of journal.now.elements }) base opened journal hives

abbrev pub Safe : Type 0
Safe = (store : Store) (machine : Machine) (base : ℕ) (opened : List Element) (journal : Journal) (hives : List HiveFile) (states : ℕ → ℕ → FileState) (moment : ℕ) → IsConsistent machine base opened (choice_of journal) (map view_of hives)
    → store_of journal ≡ store → machine.bounds.hives ≡ store.hives → ArePlaced store hives → AreOnDisk journal hives (states moment) → IsSafeAt store states moment machine

-- what was found has a tree for each hive
pub found_long : (found : RecoveredStore) → InvariantHolds found → length found.trees ≡ all_hives (store_of found.journal)
found_long found kept = sym kept.recovers.all ∙ length-map found.hives.items view_of ∙ kept.many

-- an opened store's files recover what was found, whatever a crash leaves of them
pub still_recovered : Begins → Safe → (found : RecoveredStore) → InvariantHolds found → (states : ℕ → ℕ → FileState) (moment : ℕ) → AreOnDisk found.journal found.hives.items (states moment)
    → (files : ℕ → List ℕ) → LeavesHonest (IsPrimaryOf (all_hives (store_of found.journal))) (states moment) files → IsRecovered files (store_of found.journal) found.number found.trees
still_recovered begins safe found kept states moment on files left =
    let long = found_long found kept in
    let its = store_of found.journal in
    let few : length found.trees ≤ its.hives + 1 = omega (arith, long, most_hives its.layout its.hives) in
    let begun = begins (bounds_for its.hives) found.trees found.number 0 found.base (changes_of found.journal) (choice_of found.journal) (map view_of found.hives.items) kept.recovers few kept.outcomes in
    let own = subst (λ n. LeavesHonest (IsPrimaryOf n) (states moment) files) (sym long) left in
    let p = safe (store_of found.journal) _ found.base (changes_of found.journal) found.journal found.hives.items states moment begun refl refl kept.placed on files own in
    let number : p.0 ≡ found.number = omega (arith, p.1, p.2) in
    record {
      store_is = kept.store;
      many = long;
      recovers = subst (λ n. Recover (store_of found.journal) n files found.number found.trees) long
          (subst (λ n. Recover (store_of found.journal) (length found.trees) files n found.trees) number
          (subst (λ (es : List Element). Recover (store_of found.journal) (length found.trees) files p.0 (after_elements found.trees es)) (take_nil (p.0 - found.number)) p.3));
    }

-- a moment that is past is as it was
pub same_moment : (old new : ℕ → ℕ → FileState) (clock : ℕ) → ((k f : ℕ) → k ≤ clock → new k f ≡ old k f) → old clock ≡ new clock
same_moment old new clock past = sym (λ i f. past clock f (omega arith) i)

-- The same of a store as it is shown: at the moment when a step begins, seen at the moment of its end too, and at that

module _ {D : Type 0} (state_at : D → ℕ → ℕ → FileState) (clock : D → ℕ) (faithful : D → Type 0) (begins : Begins) (safe : Safe) (inside it : Shown D) (is : inside ≡ it) (kept : InvariantHolds inside.found)
    (on_disk : faithful inside.disk → AreOnDisk inside.found.journal inside.found.hives.items (state_at inside.disk (clock inside.disk))) where
  -- whatever a crash leaves at a moment of a disk recovers what is shown
  abbrev pub StillShown : D → ℕ → Type 0
  StillShown disk moment = faithful disk → (files : ℕ → List ℕ) → LeavesHonest (IsPrimaryOf (all_hives (shown.store_of it))) (state_at disk moment) files → IsRecovered files (shown.store_of it) it.found.number it.found.trees

  pub before_call : (disk : D) → (faithful disk → faithful inside.disk) → ((k f : ℕ) → k ≤ clock inside.disk → state_at disk k f ≡ state_at inside.disk k f) → StillShown disk (clock it.disk)
  before_call disk back past =
      subst (λ (v : Shown D). faithful disk → (files : ℕ → List ℕ) → LeavesHonest (IsPrimaryOf (all_hives (shown.store_of v))) (state_at disk (clock v.disk)) files → IsRecovered files (shown.store_of v) v.found.number v.found.trees) is
      (λ f. still_recovered begins safe inside.found kept (state_at disk) (clock inside.disk)
      (subst (AreOnDisk inside.found.journal inside.found.hives.items) (same_moment (state_at inside.disk) (state_at disk) (clock inside.disk) past) (on_disk (back f))))

  pub no_call : StillShown it.disk (clock it.disk)
  no_call = subst (λ (v : Shown D). faithful v.disk → (files : ℕ → List ℕ) → LeavesHonest (IsPrimaryOf (all_hives (shown.store_of v))) (state_at v.disk (clock v.disk)) files → IsRecovered files (shown.store_of v) v.found.number v.found.trees) is
      (λ f. still_recovered begins safe inside.found kept (state_at inside.disk) (clock inside.disk) (on_disk f))

  pub after_call : (disk : D) (found : RecoveredStore) → (faithful disk → faithful inside.disk) → found ≡ record inside.found { hives = found.hives } → InvariantHolds found
      → (faithful disk → AreOnDisk inside.found.journal inside.found.hives.items (state_at inside.disk (clock inside.disk)) → AreOnDisk found.journal found.hives.items (state_at disk (clock disk))) → StillShown disk (clock disk)
  after_call disk found back rest no_change on =
      subst (λ (v : Shown D). faithful disk → (files : ℕ → List ℕ) → LeavesHonest (IsPrimaryOf (all_hives (shown.store_of v))) (state_at disk (clock disk)) files → IsRecovered files (shown.store_of v) v.found.number v.found.trees) is
      (λ f files left. subst (λ (x : RecoveredStore). IsRecovered files (journals.store_of x.journal) x.number x.trees) rest
      (still_recovered begins safe found no_change (state_at disk) (clock disk) (on f (on_disk (back f))) files
      (subst (λ (x : RecoveredStore). LeavesHonest (IsPrimaryOf (all_hives (journals.store_of x.journal))) (state_at disk (clock disk)) files) (sym rest) left)))
