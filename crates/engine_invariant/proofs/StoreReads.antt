-- What a crash leaves is a prefix, at each moment of an event.
use Rattle.std.proofs.Common.{◌≡◌, ℕ, ◌+◌, ◌*◌, ◌<◌, ◌≤◌, List, length, map, refl, sym, ◌∙◌, subst, arith, Option, Some, None, slice_get}
use Rattle.std.proofs.lemmas.Option.{none-some, slice_get-get_or}
use Rattle.refusals.specs.declared.limits.TheConstants.{GREATEST_NUMBER}
use Rattle.reg_tree.specs.Maps.{TreeMap}
use Rattle.reg_tree.specs.Fresh.{fresh_tree}
use Rattle.reg_tree.specs.declared.element.Element.{Element}
use Rattle.crash_model.specs.Promises.{Choice, Content, settled, JournalOn, HiveOn}
use Rattle.crash_model.specs.Files.{FilesPrefix, HiveRecovers}
use Rattle.crash_model.proofs.OfFiles.{files_prefix}
use Rattle.crash_model.proofs.MemoryCounts.{left_with_memory}
use Rattle.disk_model.specs.FileState.{FileState, IsSound}
use Rattle.disk_model.specs.FileState as file
use Rattle.disk_model.specs.Sector.{IsHonest}
use Rattle.disk_model.specs.Crash.{LeavesHonest}
use Rattle.disk_model.specs.StoreFiles.{primary_file, log_file, journal_file}
use Rattle.commit_journal.specs.OnDisk.{is_on}
use Rattle.commit_journal.specs.Store.{Store, encodings}
use Rattle.commit_journal.specs.Encoding.{Encodings, decoded}
use Rattle.commit_journal.specs.OnDisk.{JournalView}
use Rattle.commit_journal.specs.Journals.{journal_view, choice_of, encodings_of}
use Rattle.commit_journal.specs.Journals as journals
use Rattle.commit_journal.specs.declared.journal.Journal.{Journal}
use Rattle.crash_model.specs.Files.{DecodesBy}
use Rattle.hive_flush.specs.HiveStates.{FilesMatchHive}
use Rattle.hive_flush.specs.HiveStates as states
use Rattle.hive_flush.specs.Decoders.{HiveFilesHold}
use Rattle.hive_flush.specs.declared.hive.HiveFile.{HiveFile}
use Rattle.store_model.specs.Machine.{Machine}
use Rattle.change_codec.specs.ModelChanges.{TimedOp}
use Rattle.engine_invariant.specs.Rules.{rules}
use Rattle.engine_invariant.specs.States.{HiveView, tree_of, counted, state_of, IsConsistent}
use Rattle.engine_invariant.specs.Prefixes.{IsPrimaryOf, trees_after, JournalDecodesTo, Holds, view_of, IsPrefix, IsSafeAt, AreOnDisk, ArePlaced}
use Rattle.engine_invariant.proofs.HiveLists.{at_slot, viewed}
use Rattle.engine_invariant.proofs.Bridge.{last_is, tree_of_is}

module _ (store : Store) (m : Machine) (base : ℕ) (opened : List Element) (journal : Choice (Content TimedOp)) (hives : List HiveView)
    (i : IsConsistent m base opened journal hives) (same : m.bounds.hives ≡ store.hives) where
  abbrev decodes : List ℕ → Content TimedOp → Type 0
  decodes = JournalDecodesTo store

  abbrev holds : List ℕ → List ℕ → TreeMap × ℕ → Type 0
  holds = Holds store

  -- the crash model's prefix is the machine's
  of_law : (files : ℕ → List ℕ) → FilesPrefix (rules m.bounds.hives) decodes holds GREATEST_NUMBER (length m.opened) (state_of m base opened journal hives) files → IsPrefix store m files
  of_law files (n, low, high, found) = (
    n,
    low,
    omega (arith, high, last_is m base opened i.begun),
    record {
      journal = found.journal;
      decoded = found.decoded;
      last = found.last;
      limit = found.limit;
      each = λ j lt. subst (λ k. HiveRecovers (rules k) (holds (files (1 + 2 * j)) (files (2 + 2 * j))) found.journal j n (tree_of (trees_after m n) j)) same
          (subst (HiveRecovers (rules m.bounds.hives) (holds (files (1 + 2 * j)) (files (2 + 2 * j))) found.journal j n) (sym (tree_of_is m.bounds.hives m base opened i.begun n j lt)) (found.each j lt));
    },
  )

  pub stands : (state : ℕ → FileState) → JournalOn decodes journal (file.Leaves (state 0))
      → ((j : ℕ) (h : HiveView) → slice_get hives j ≡ Some h → HiveOn holds h.files (λ c. file.Leaves (state (1 + 2 * j)) c × IsHonest (state (1 + 2 * j)) c) (file.Leaves (state (2 + 2 * j))))
      → (files : ℕ → List ℕ) → LeavesHonest (IsPrimaryOf (length m.opened)) state files → IsPrefix store m files
  stands state on each files left = of_law files
      (files_prefix (rules m.bounds.hives) decodes holds GREATEST_NUMBER (length m.opened) (state_of m base opened journal hives) i.law (file.Leaves (state 0)) on
      (λ j c. file.Leaves (state (1 + 2 * j)) c × IsHonest (state (1 + 2 * j)) c) (λ j. file.Leaves (state (2 + 2 * j))) (λ j lt. by_slot j lt (slice_get hives j) refl)
      files (left.0 0) (λ j lt. ((left.0 (1 + 2 * j), left.1 (1 + 2 * j) (j, lt, refl)), left.0 (2 + 2 * j))))
    where
      by_slot : (j : ℕ) → j < length m.opened → (o : Option HiveView) → slice_get hives j ≡ o
          → HiveOn holds (counted o) (λ c. file.Leaves (state (1 + 2 * j)) c × IsHonest (state (1 + 2 * j)) c) (file.Leaves (state (2 + 2 * j)))
      by_slot j lt None e = absurd (none-some _ (sym e ∙ slice_get-get_or hives j (record { files = settled (fresh_tree, 0); memory = (fresh_tree, 0) }) (omega (arith, lt, i.all))))
      by_slot j lt (Some h) e = λ p l pl ll. let x = each j h e p l pl ll in (x.0, left_with_memory h.files h.memory (i.own j h e) x.0 x.1, x.2)

-- What the journal and the hives promise of the disk
abbrev pub JournalPromise : Type 0
JournalPromise = (t : Encodings TimedOp) (v : JournalView TimedOp) (state : FileState) → is_on t v state → JournalOn (DecodesBy (decoded t)) v.choice (file.Leaves state)

abbrev pub HivePromise : Type 0
HivePromise = (hive : HiveFile) (primary log : FileState) → FilesMatchHive hive primary log → HiveOn (HiveFilesHold (states.store_of hive)) (states.file_choice hive) (λ c. file.Leaves primary c × IsHonest primary c) (file.Leaves log)

pub disk_stands : JournalPromise → HivePromise → (store : Store) (m : Machine) (base : ℕ) (opened : List Element) (journal : Journal) (hives : List HiveFile) (states_at : ℕ → ℕ → FileState) (k : ℕ)
    → IsConsistent m base opened (choice_of journal) (map view_of hives) → journals.store_of journal ≡ store → m.bounds.hives ≡ store.hives → ArePlaced store hives → AreOnDisk journal hives (states_at k) → IsSafeAt store states_at k m
disk_stands decodes_on holds_on store m base opened journal hives states_at k i owner same placed on = stands store m base opened (choice_of journal) (map view_of hives) i same (states_at k)
    (subst (λ (s : Store). JournalOn (DecodesBy (decoded (encodings s))) (choice_of journal) (file.Leaves (states_at k journal_file))) owner (decodes_on (encodings_of journal) (journal_view journal) (states_at k journal_file) on.decodes)) each
  where
    each : (j : ℕ) (v : HiveView) → slice_get (map view_of hives) j ≡ Some v → HiveOn (Holds store) v.files (λ c. file.Leaves (states_at k (primary_file j)) c × IsHonest (states_at k (primary_file j)) c) (file.Leaves (states_at k (log_file j)))
    each j v e =
        let w = viewed hives j v e in
        subst (λ (x : HiveView). HiveOn (Holds store) x.files (λ c. file.Leaves (states_at k (primary_file j)) c × IsHonest (states_at k (primary_file j)) c) (file.Leaves (states_at k (log_file j)))) w.2
        (subst (λ (id : List ℕ). HiveOn (HiveFilesHold id) (states.file_choice w.0) (λ c. file.Leaves (states_at k (primary_file j)) c × IsHonest (states_at k (primary_file j)) c) (file.Leaves (states_at k (log_file j)))) (placed.owner j w.0 w.1)
        (holds_on w.0 (states_at k (primary_file j)) (states_at k (log_file j)) (on.each j w.0 w.1)))

-- what is past stays safe
pub past_stays : (store : Store) (old_states new_states : ℕ → ℕ → FileState) (clock : ℕ) → ((k f : ℕ) → k ≤ clock → new_states k f ≡ old_states k f)
    → (k : ℕ) (m : Machine) → k ≤ clock → IsSafeAt store old_states k m → IsSafeAt store new_states k m
past_stays store old_states new_states clock past k m le safe = λ files left. safe files (subst (λ (s : ℕ → FileState). LeavesHonest (IsPrimaryOf (length m.opened)) s files) (same_state (new_states k) (old_states k) (λ f. past k f le)) left)
  where
    same_state : (a b : ℕ → FileState) → ((f : ℕ) → a f ≡ b f) → a ≡ b
    same_state a b each = λ i f. each f i

-- what a read gives of a store's files is what a crash may leave of them, with honest first sectors, if each hive's
-- primary file shows one
pub reads_left : (state : ℕ → FileState) (hives : List HiveFile) → ((f : ℕ) → IsSound (state f)) → ((i : ℕ) (hive : HiveFile) → slice_get hives i ≡ Some hive → IsHonest (state (primary_file i)) (state (primary_file i)).seen)
    → LeavesHonest (IsPrimaryOf (length hives)) state (λ f. (state f).seen)
reads_left state hives sound honest = (
  λ f. (sound f).left,
  λ f (i, lt, is). let at = at_slot hives i lt in subst (λ n. IsHonest (state n) (state n).seen) (sym is) (honest i at.0 at.1),
)
