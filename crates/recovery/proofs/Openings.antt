-- What an opening has read of a store's files, and what they recover.
use Rattle.std.proofs.Common.{◌≡◌, ◌⊎◌, inl, inr, ℕ, List, length, sym, ◌∙◌, ap, subst, arith, Some, slice_get}
use Rattle.std.specs.List.{AllByRecursion}
use Rattle.refusals.specs.declared.refusal.Refusal.{Refusal}
use Rattle.refusals.specs.declared.refusal.Refusal.TheVariants as refusal
use Rattle.reg_tree.specs.declared.element.Element.{Element}
use Rattle.crash_model.specs.Promises.{Content}
use Rattle.disk_model.specs.FileState.{FileState}
use Rattle.disk_model.specs.StoreFiles.{IsJournal, primary_file, log_file, journal_file}
use Rattle.disk_model.specs.ReadOnly.{IsSyncedOrSame}
use Rattle.disk_model.proofs.Unwritten.{seen_same}
use Rattle.change_codec.specs.ModelChanges.{TimedOp}
use Rattle.change_codec.specs.Encoding.{Fits}
use Rattle.commit_journal.specs.Encoding.{decoded}
use Rattle.commit_journal.specs.Store.{Store, IsStore, IsNoJournal, all_hives, encodings}
use Rattle.commit_journal.specs.Journals.{changes_of, choice_of, encodings_of}
use Rattle.commit_journal.specs.ReadBuffers as journals
use Rattle.commit_journal.specs.declared.journal.Journal.{Journal}
use Rattle.commit_journal.specs.Numbered.{NumberedChange}
use Rattle.commit_journal.specs.Scans.{DeniesNext, ScanFails}
use Rattle.hive_files.specs.Frames.{RefusalHasCause}
use Rattle.hive_flush.specs.Decoders.{HiveFilesHold, RefusalNamesHive}
use Rattle.hive_flush.specs.HiveStates.{FilesMatchHive, memory_of}
use Rattle.hive_flush.specs.declared.hive.HiveFile.{HiveFile}
use Rattle.engine_invariant.specs.Prefixes.{AreOnDisk}
use Rattle.recovery.specs.Replays.{NotReplayed, Replays}
use Rattle.recovery.specs.declared.replay.Replay.{Replay}
use Rattle.recovery.specs.Reading.{AreAtRest, AreOf, AreOpened, IsNoHive, IsOpened, IsScanned}
use Rattle.recovery.specs.Recovered.{IsNoStore, IsFileRefusal, seen_in}
use Rattle.recovery.specs.Refused.{HoldsNothing, IsWrong}

tells : (i : ℕ) (why : Refusal) → RefusalNamesHive i why → IsFileRefusal why
tells i (refusal.HiveDamaged hive cause) e = tt
tells i refusal.Unsupported e = tt
tells i _ e = absurd e

-- a hive whose files decode to nothing is wrong as its refusal says
wrong : (files : ℕ → List ℕ) (i : ℕ) (why : Refusal) → RefusalNamesHive i why → HoldsNothing files i why → IsWrong files why
wrong files i (refusal.HiveDamaged hive cause) e none = inl (subst (λ n. HoldsNothing files n (refusal.HiveDamaged hive cause)) (sym e) none)
wrong files i refusal.Unsupported e none = (i, none)
wrong files i _ e none = absurd e

-- a refusal of a hive, as one of the store whose journal was read after it
pub refused_hives : (read faithful : Type 0) → (faithful → read) → (rose risen : Type 0) → (rose → risen) → (store : Store) → IsStore store → (now : Content TimedOp) (old : ℕ → FileState) → (faithful → decoded (encodings store) (old journal_file).seen ≡ Some now)
    → (why : Refusal) → RefusalHasCause rose (IsNoHive read store.id (all_hives store) old) why → RefusalHasCause risen (IsNoStore faithful (seen_in old)) why
refused_hives read faithful back rose risen up store is now old decodes why (inl hungry) = inl hungry
refused_hives read faithful back rose risen up store is now old decodes why (inr (inl (fault, r))) = inr (inl (fault, up r))
refused_hives read faithful back rose risen up store is now old decodes why (inr (inr (i, lt, (of, none)))) =
    inr (inr (
      tells i why of,
      λ f. wrong (seen_in old) i why of (record { store = store; journal = now; store_is = is; decodes = decodes f; there = lt }, none (back f)),
    ))

-- a refusal that names no hive
pub refused_beside : (read faithful : Type 0) (rose : Type 0) (store : List ℕ) (count : ℕ) (old : ℕ → FileState) (why : Refusal) → ((i : ℕ) → RefusalNamesHive i why → ⊥) → RefusalHasCause rose (IsNoHive read store count old) why → RefusalHasCause rose (IsNoStore faithful (seen_in old)) why
refused_beside read faithful rose store count old why none (inl hungry) = inl hungry
refused_beside read faithful rose store count old why none (inr (inl fault)) = inr (inl fault)
refused_beside read faithful rose store count old why none (inr (inr (i, lt, (of, nothing)))) = absurd (none i of)

-- a refusal of files that were read as they had been before
pub refused_still : (rose risen faithful : Type 0) → (rose → risen) → (old mid : ℕ → FileState) → mid ≡ old → (why : Refusal) → RefusalHasCause rose (IsNoStore faithful (seen_in mid)) why → RefusalHasCause risen (IsNoStore faithful (seen_in old)) why
refused_still rose risen faithful up old mid same why (inl hungry) = inl hungry
refused_still rose risen faithful up old mid same why (inr (inl (fault, r))) = inr (inl (fault, up r))
refused_still rose risen faithful up old mid same why (inr (inr as_journal_damage)) = inr (inr (subst (λ (s : ℕ → FileState). IsNoStore faithful (seen_in s) why) same as_journal_damage))

-- a refusal of the journal, as one of the store
pub refused_journal : (fault faithful : Type 0) (files : ℕ → List ℕ) (why : Refusal) → journals.FailsBy fault (faithful → IsNoJournal (files journal_file)) why → RefusalHasCause fault (IsNoStore faithful files) why
refused_journal fault faithful files why (inl hungry) = inl hungry
refused_journal fault faithful files why (inr (inl failed)) = inr (inl failed)
refused_journal fault faithful files why (inr (inr (damaged, none))) = rw damaged (inr (inr (tt, λ f. inl (none f))))

-- hives stay as they were opened while the journal is read
pub opened_still : (read faithful : Type 0) → (faithful → read) → (store : List ℕ) (old mid new : ℕ → FileState) (hives : List HiveFile) → AreOpened read store old mid hives → ((f : ℕ) → ¬ (IsJournal f) → new f ≡ mid f)
    → (i : ℕ) (hive : HiveFile) → slice_get hives i ≡ Some hive → IsOpened faithful store old new i hive
opened_still read faithful back store old mid new hives opened others i hive is =
    let o = opened.each i hive is in
    record {
      rests = o.rests;
      place = o.place;
      owner = o.owner;
      works = o.works;
      held = λ f. o.held (back f);
      on = λ f. subst (λ (p : FileState). FilesMatchHive hive p (new (log_file i))) (sym (others (primary_file i) (λ e. omega (arith, e))))
          (subst (λ (l : FileState). FilesMatchHive hive (mid (primary_file i)) l) (sym (others (log_file i) (λ e. omega (arith, e)))) (o.on (back f)));
    }

-- What was read of a store: its journal, and its hives.
module _ (faithful : Type 0) (store : Store) (then now : ℕ → FileState) (journal : Journal) (hives : List HiveFile) (is : IsScanned faithful store then now journal) (many : length hives ≡ all_hives store)
    (opened : (i : ℕ) (hive : HiveFile) → slice_get hives i ≡ Some hive → IsOpened faithful store.id then now i hive) where
  abbrev changes : List Element
  changes = changes_of journal

  pub at_rest : AreAtRest journal (choice_of journal).now.below changes hives
  at_rest = record {
    store = subst IsStore (sym is.of) is.store_is;
    choice = is.choice;
    fit = subst (λ (s : Store). AllByRecursion (Fits (all_hives s)) changes) (sym is.of) is.fit;
    numbers = is.numbers_fit;
    many = many ∙ ap (λ (s : Store). all_hives s) (sym is.of);
    rest = λ i h at. (opened i h at).rests;
    place = λ i h at. (opened i h at).place;
    owner = λ i h at. (opened i h at).owner ∙ ap (λ (s : Store). s.id) (sym is.of);
  }

  -- it is of the files as they were seen
  pub are_of : faithful → AreOf (seen_in then) journal hives
  are_of f = record {
    decodes = is.decodes f;
    holds = λ i h at. subst (λ (s : Store). HiveFilesHold s.id (then (primary_file i)).seen (then (log_file i)).seen (memory_of h)) (sym is.of) ((opened i h at).held f);
  }

  pub are_on : faithful → AreOnDisk journal hives now
  are_on f = record { decodes = is.on f; each = λ i h at. (opened i h at).on f }

-- what the journal decodes to it decoded to before the hives were read
pub decoded_before : (faithful : Type 0) (store : Store) (old then now : ℕ → FileState) (journal : Journal) → IsScanned faithful store then now journal → (faithful → (f : ℕ) → IsSyncedOrSame (old f) (then f))
    → faithful → decoded (encodings store) (old journal_file).seen ≡ Some (choice_of journal).now
decoded_before faithful store old then now journal is synced f =
    ap (λ (s : Store). decoded (encodings s) (old journal_file).seen) (sym is.of) ∙ ap (decoded (encodings_of journal)) (sym (seen_same (old journal_file) (then journal_file) (synced f journal_file))) ∙ is.decodes f

-- a refused scan whose sink refuses nothing, as one of the store
pub refused_scan : (fault faithful : Type 0) (files : ℕ → List ℕ) (Took Begins : List NumberedChange → Type 0) (why : Refusal) → ScanFails Took (λ change refused. ⊥) Begins fault (faithful → IsNoJournal (files journal_file)) why → RefusalHasCause fault (IsNoStore faithful files) why
refused_scan fault faithful files Took Begins why fails = by_reason fails.reason
  where
    by_reason : journals.FailsBy fault (faithful → IsNoJournal (files journal_file)) why ⊎ DeniesNext (λ change refused. ⊥) Begins fails.taken why → RefusalHasCause fault (IsNoStore faithful files) why
    by_reason (inl own) = refused_journal fault faithful files why own
    by_reason (inr denied) = absurd denied.denies

-- a refused scan whose sink replays the changes
pub refused_replay : (fault faithful : Type 0) (files : ℕ → List ℕ) (begin after : Replay) (Begins : List NumberedChange → Type 0) (why : Refusal)
    → ((taken : List NumberedChange) → Replays begin after taken → DeniesNext (NotReplayed after) Begins taken why → (why ≡ refusal.NoMemory) ⊎ ((why ≡ refusal.JournalDamaged) × (faithful → IsWrong files refusal.JournalDamaged)))
    → ScanFails (Replays begin after) (NotReplayed after) Begins fault (faithful → IsNoJournal (files journal_file)) why → RefusalHasCause fault (IsNoStore faithful files) why
refused_replay fault faithful files begin after Begins why denied fails = by_reason fails.reason
  where
    by_denial : (why ≡ refusal.NoMemory) ⊎ ((why ≡ refusal.JournalDamaged) × (faithful → IsWrong files refusal.JournalDamaged)) → RefusalHasCause fault (IsNoStore faithful files) why
    by_denial (inl hungry) = inl hungry
    by_denial (inr (damaged, wrong)) = rw damaged (inr (inr (tt, wrong)))

    by_reason : journals.FailsBy fault (faithful → IsNoJournal (files journal_file)) why ⊎ DeniesNext (NotReplayed after) Begins fails.taken why → RefusalHasCause fault (IsNoStore faithful files) why
    by_reason (inl own) = refused_journal fault faithful files why own
    by_reason (inr d) = by_denial (denied fails.taken fails.took d)

-- a refusal for a device that failed in a longer time
pub refused_up : (rose risen : Type 0) → (rose → risen) → (Stands : Refusal → Type 0) (why : Refusal) → RefusalHasCause rose Stands why → RefusalHasCause risen Stands why
refused_up rose risen up Stands why (inl hungry) = inl hungry
refused_up rose risen up Stands why (inr (inl (fault, r))) = inr (inl (fault, up r))
refused_up rose risen up Stands why (inr (inr stands)) = inr (inr stands)
