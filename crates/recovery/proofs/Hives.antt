-- Hives are opened one after another.
use Rattle.std.proofs.Common.{◌≡◌, inl, inr, ℕ, ◌<◌, List, [], ◌∷◌, ◌++◌, length, refl, sym, ◌∙◌, subst, arith, Some, slice_get}
use Rattle.std.proofs.lemmas.Option.{slice_get_within}
use Rattle.refusals.specs.declared.refusal.Refusal.{Refusal}
use Rattle.crash_model.specs.Promises.{settled}
use Rattle.disk_model.specs.FileState.{FileState}
use Rattle.disk_model.specs.StoreFiles.{IsFileOfHive, primary_file, log_file, journal_file}
use Rattle.disk_model.specs.ReadOnly.{IsSyncedOrSame}
use Rattle.disk_model.proofs.Unwritten.{seen_same, synced_on}
use Rattle.hive_files.specs.Frames.{RefusalHasCause}
use Rattle.hive_flush.specs.Decoders.{HiveFilesHold, FilesHoldNone, RefusesHiveFiles}
use Rattle.hive_flush.specs.HiveStates.{IsBroken, FilesMatchHive, file_choice, memory_of, hive_number}
use Rattle.hive_flush.specs.HiveStates as states
use Rattle.hive_flush.specs.declared.hive.HiveFile.{HiveFile}
use Rattle.engine_invariant.proofs.HiveLists.{each_pushed}
use Rattle.recovery.specs.Reading.{AreOpened, IsNoHive, IsOpened}

module _ (before after : Type 0) (back : after → before) (store : List ℕ) (then mid now : ℕ → FileState) (hives : List HiveFile) (a : AreOpened before store then mid hives)
    (k : ℕ) (many : length hives ≡ k) (others : (f : ℕ) → ¬ (IsFileOfHive k f) → now f ≡ mid f) (synced : after → (f : ℕ) → IsSyncedOrSame (mid f) (now f)) where
  files_synced : after → (f : ℕ) → IsSyncedOrSame (then f) (now f)
  files_synced faithful f = synced_on (then f) (mid f) (now f) (a.files (back faithful) f) (synced faithful f)

  was_seen : after → (f : ℕ) → (mid f).seen ≡ (then f).seen
  was_seen faithful f = seen_same (then f) (mid f) (a.files (back faithful) f)

  -- those before stay as they are
  earlier : (i : ℕ) (h : HiveFile) → slice_get hives i ≡ Some h → IsOpened after store then now i h
  earlier i h is =
      let o = a.each i h is in
      let lt = slice_get_within hives i h is in
      record {
        rests = o.rests;
        place = o.place;
        owner = o.owner;
        works = o.works;
        held = λ faithful. o.held (back faithful);
        on = λ faithful.
            subst (λ (s : FileState). FilesMatchHive h s (now (log_file i))) (sym (others (primary_file i) (λ f. elim (f) [ inl e ↦ omega (arith, e, lt, many) | inr e ↦ omega (arith, e, lt, many) ])))
            (subst (λ (s : FileState). FilesMatchHive h (mid (primary_file i)) s) (sym (others (log_file i) (λ f. elim (f) [ inl e ↦ omega (arith, e, lt, many) | inr e ↦ omega (arith, e, lt, many) ]))) (o.on (back faithful)));
      }

  pub one_more : (hive : HiveFile) → file_choice hive ≡ settled (memory_of hive) → hive_number hive ≡ k → states.store_of hive ≡ store → ¬ (IsBroken hive)
      → (after → HiveFilesHold store (mid (primary_file k)).seen (mid (log_file k)).seen (memory_of hive))
      → (after → FilesMatchHive hive (now (primary_file k)) (now (log_file k))) → AreOpened after store then now (hives ++ hive ∷ [])
  one_more hive rests place owner works held on = record {
    each = each_pushed hives hive (IsOpened after store then now) earlier (subst (λ n. IsOpened after store then now n hive) (sym many) (record {
      rests = rests;
      place = place;
      owner = owner;
      works = works;
      held = λ faithful. subst (λ (p : List ℕ). HiveFilesHold store p (then (log_file k)).seen (memory_of hive)) (was_seen faithful (primary_file k))
          (subst (λ (l : List ℕ). HiveFilesHold store (mid (primary_file k)).seen l (memory_of hive)) (was_seen faithful (log_file k)) (held faithful));
      on = on;
    }));
    files = files_synced;
    journal = others journal_file (λ f. elim (f) [ inl e ↦ omega (arith, e) | inr e ↦ omega (arith, e) ]) ∙ a.journal;
  }

  -- a hive that could not be opened
  pub refused : (count : ℕ) (why : Refusal) (rose risen : Type 0) → (rose → risen) → k < count
      → RefusalHasCause rose (RefusesHiveFiles after k store (mid (primary_file k)).seen (mid (log_file k)).seen) why
      → RefusalHasCause risen (IsNoHive after store count then) why
  refused count why rose risen up lt (inl none) = inl none
  refused count why rose risen up lt (inr (inl (fault, r))) = inr (inl (fault, up r))
  refused count why rose risen up lt (inr (inr (tells, none))) =
      inr (inr (
        k,
        lt,
        (
          tells,
          λ faithful. subst (λ (p : List ℕ). FilesHoldNone k store p (then (log_file k)).seen why) (was_seen faithful (primary_file k))
              (subst (λ (l : List ℕ). FilesHoldNone k store (mid (primary_file k)).seen l why) (was_seen faithful (log_file k)) (none faithful)),
        ),
      ))

pub none_yet : (faithful : Type 0) (store : List ℕ) (state : ℕ → FileState) → AreOpened faithful store state state []
none_yet faithful store state = record { each = λ i hive is. absurd cc; files = λ f g. inl refl; journal = refl }
