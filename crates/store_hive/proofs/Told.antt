-- What is told of a hive, from what was read of its files and of the journal.
use Rattle.std.proofs.Common.{◌≡◌, ◌⊎◌, inl, inr, ℕ, ◌<◌, List, ◌∷◌, [], ◌++◌, refl, sym, ◌∙◌, ap, subst, arith}
use Rattle.std.proofs.lemmas.Option.{none-some}
use Rattle.refusals.specs.declared.refusal.Refusal.{Refusal}
use Rattle.refusals.specs.declared.refusal.Refusal.TheVariants as refusal
use Rattle.crash_model.specs.Promises.{Choice, Content, top}
use Rattle.disk_model.specs.FileState.{FileState}
use Rattle.disk_model.specs.StoreFiles.{IsFileOfHive, primary_file, log_file, journal_file}
use Rattle.change_codec.specs.ModelChanges.{TimedOp}
use Rattle.commit_journal.specs.Encoding.{decoded}
use Rattle.commit_journal.specs.Journals.{changes_of, choice_of}
use Rattle.commit_journal.specs.Numbered.{NumberedChange, numbered}
use Rattle.commit_journal.specs.ReadBuffers as journals
use Rattle.commit_journal.specs.Scans.{DeniesNext, JournalBegins, ScanFails}
use Rattle.commit_journal.specs.Store.{Store, IsStore, IsNoJournal, all_hives, encodings}
use Rattle.commit_journal.specs.declared.journal.Journal.{Journal}
use Rattle.hive_files.specs.Frames.{RefusalHasCause}
use Rattle.hive_flush.specs.Decoders.{FilesHoldNone, RefusalNamesHive, RefusesHiveFiles}
use Rattle.engine_invariant.specs.Prefixes.{Holds, JournalDecodesTo}
use Rattle.recovery.specs.Reading.{IsOnlyStore, IsScanned, replayed_on}
use Rattle.recovery.specs.Recovered.{IsFileRefusal, seen_in}
use Rattle.recovery.specs.Refused.{IsInStore}
use Rattle.store_hive.specs.LedTrees.{HoldsBeside, IsLed, TellsOfHive}
use Rattle.store_hive.specs.RefusedHives.{HiveIsWrong, IsAfterNamed, RecoversNoNamedTree, RecoversNoOutcomes, RecoversNoTree}
use Rattle.store_hive.specs.Replays.{IsIllegalOnHive, NotReplayedOnHive, ReplaysOnHive}
use Rattle.store_hive.specs.declared.held_tree.HeldTree.{HeldTree}
use Rattle.store_hive.specs.declared.hive_replay.HiveReplay.{HiveReplay}
use Rattle.store_hive.proofs.Lacked.{content_with}
use Rattle.store_hive.proofs.Scanned as scanned

-- what a scanned journal decodes to
pub scanned_decodes : (faithful : Type 0) (store : Store) (then now : ℕ → FileState) (journal : Journal) → IsScanned faithful store then now journal → faithful → JournalDecodesTo store (then journal_file).seen (choice_of journal).now
scanned_decodes faithful store then now journal is f = ap (λ (s : Store). decoded (encodings s) (then journal_file).seen) (sym is.of) ∙ is.decodes f

module _ (begin after : HiveReplay) (hive : ℕ) (held : HeldTree) (hive_is : begin.hive ≡ hive) (number_is : begin.number ≡ held.number) (tree_is : begin.tree ≡ held.tree) (store : Store) (files : ℕ → List ℕ) (bytes : List ℕ) (beside : HoldsBeside files store hive bytes held) where
  own_holds : Holds store (files (primary_file begin.hive)) (files (log_file begin.hive)) (begin.tree, begin.number)
  own_holds = subst (λ n. Holds store (files (primary_file n)) (files (log_file n)) (begin.tree, begin.number)) (sym hive_is)
      (subst (λ n. Holds store (files (primary_file hive)) (files (log_file hive)) (begin.tree, n)) (sym number_is)
      (subst (λ t. Holds store (files (primary_file hive)) (files (log_file hive)) (t, held.number)) (sym tree_is) beside.holds))

  -- the whole journal was replayed
  pub led_to : (faithful : Type 0) (then now : ℕ → FileState) → (then journal_file).seen ≡ bytes → (journal : Journal) → IsScanned faithful store then now journal → ReplaysOnHive begin after (numbered (choice_of journal).now.below (changes_of journal)) → IsStore store → hive < all_hives store
      → (last : ℕ) → last ≡ top 0 (choice_of journal).now → faithful → IsLed files store hive (record { tree = after.tree; number = after.number; last = last })
  led_to faithful then now seen journal is took store_is there last last_is f =
      let content = content_with (choice_of journal).now.below (changes_of journal) in
      let now_is : (choice_of journal).now ≡ content = ap (λ (c : Choice (Content TimedOp)). c.now) is.choice in
      record {
        store_is = store_is;
        there = there;
        journal = (choice_of journal).now;
        decodes = ap (decoded (encodings store)) (beside.same ∙ sym seen) ∙ scanned_decodes faithful store then now journal is f;
        own = begin.tree;
        holds = subst (λ n. Holds store (files (primary_file hive)) (files (log_file hive)) (begin.tree, n)) (sym took.number)
            (subst (λ n. Holds store (files (primary_file n)) (files (log_file n)) (begin.tree, begin.number)) hive_is own_holds);
        leads = ap (λ (j : Content TimedOp). replayed_on j hive (begin.tree, after.number)) now_is ∙ ap (λ n. replayed_on content hive (begin.tree, n)) took.number ∙ ap (λ n. replayed_on content n (begin.tree, begin.number)) (sym hive_is)
            ∙ scanned.led begin after _ took (choice_of journal).now.below (changes_of journal) refl;
        last = last_is;
      }

  -- a change of the journal was not taken
  pub illegal_next : IsStore store → hive < all_hives store → IsOnlyStore bytes store → (taken : List NumberedChange) → ReplaysOnHive begin after taken → (change : NumberedChange) → JournalBegins bytes (taken ++ change ∷ []) → IsIllegalOnHive after change → HiveIsWrong files hive refusal.JournalDamaged
  illegal_next is there only taken took change begins none =
      subst (λ n. HiveIsWrong files n refusal.JournalDamaged) hive_is
      (scanned.wrong begin after taken took files store is (subst (λ n. n < all_hives store) (sym hive_is) there) (subst (λ (l : List ℕ). IsOnlyStore l store) (sym beside.same) only) own_holds
      change (subst (λ (l : List ℕ). JournalBegins l (taken ++ change ∷ [])) (sym beside.same) begins) none)

-- why a scan is refused whose sink replays the changes
pub scan_refused : (begin after : HiveReplay) (hive : ℕ) (held : HeldTree) → begin.hive ≡ hive → begin.number ≡ held.number → begin.tree ≡ held.tree → (store : Store) → IsStore store → hive < all_hives store → (fault faithful : Type 0) (bytes : List ℕ) → (faithful → IsOnlyStore bytes store) → (why : Refusal)
    → ScanFails (ReplaysOnHive begin after) (NotReplayedOnHive after) (λ changes. faithful → JournalBegins bytes changes) fault (faithful → IsNoJournal bytes) why
    → RefusalHasCause fault (λ damage. (damage ≡ refusal.JournalDamaged) × (faithful → (files : ℕ → List ℕ) → HoldsBeside files store hive bytes held → HiveIsWrong files hive refusal.JournalDamaged)) why
scan_refused begin after hive held hive_is number_is tree_is store is there fault faithful bytes only why fails = by_reason fails.reason
  where
    by_denial : (d : DeniesNext (NotReplayedOnHive after) (λ changes. faithful → JournalBegins bytes changes) fails.taken why) → NotReplayedOnHive after d.change why → RefusalHasCause fault (λ damage. (damage ≡ refusal.JournalDamaged) × (faithful → (files : ℕ → List ℕ) → HoldsBeside files store hive bytes held → HiveIsWrong files hive refusal.JournalDamaged)) why
    by_denial d (inl hungry) = inl hungry
    by_denial d (inr (damaged, none)) = inr (inr (
      damaged,
      λ f files beside. illegal_next begin after hive held hive_is number_is tree_is store files bytes beside is there (only f) fails.taken fails.took d.change (d.begins f) none,
    ))

    by_reason : journals.FailsBy fault (faithful → IsNoJournal bytes) why ⊎ DeniesNext (NotReplayedOnHive after) (λ changes. faithful → JournalBegins bytes changes) fails.taken why → RefusalHasCause fault (λ damage. (damage ≡ refusal.JournalDamaged) × (faithful → (files : ℕ → List ℕ) → HoldsBeside files store hive bytes held → HiveIsWrong files hive refusal.JournalDamaged)) why
    by_reason (inl (inl hungry)) = inl hungry
    by_reason (inl (inr (inl failed))) = inr (inl failed)
    by_reason (inl (inr (inr (damaged, none)))) = inr (inr (damaged, λ f files beside. inl (subst IsNoJournal (sym beside.same) (none f))))
    by_reason (inr d) = by_denial d d.denies

-- why one is refused whose sink refuses nothing
pub discard_refused : (fault faithful : Type 0) (bytes : List ℕ) (Took Begins : List NumberedChange → Type 0) (why : Refusal) → ScanFails Took (λ change refused. ⊥) Begins fault (faithful → IsNoJournal bytes) why
    → RefusalHasCause fault (λ damage. (damage ≡ refusal.JournalDamaged) × (faithful → IsNoJournal bytes)) why
discard_refused fault faithful bytes Took Begins why fails = by_reason fails.reason
  where
    by_reason : journals.FailsBy fault (faithful → IsNoJournal bytes) why ⊎ DeniesNext (λ change refused. ⊥) Begins fails.taken why → RefusalHasCause fault (λ damage. (damage ≡ refusal.JournalDamaged) × (faithful → IsNoJournal bytes)) why
    by_reason (inl own) = own
    by_reason (inr denied) = absurd denied.denies

-- a refusal of the journal, as one of a hive
pub journal_refused : (rose risen faithful : Type 0) → (rose → risen) → (files : ℕ → List ℕ) (bytes : List ℕ) → files journal_file ≡ bytes → (hive : ℕ) (why : Refusal)
    → RefusalHasCause rose (λ damage. (damage ≡ refusal.JournalDamaged) × (faithful → IsNoJournal bytes)) why → RefusalHasCause risen (RecoversNoTree faithful files hive) why
journal_refused rose risen faithful up files bytes same hive why (inl hungry) = inl hungry
journal_refused rose risen faithful up files bytes same hive why (inr (inl (fault, r))) = inr (inl (fault, up r))
journal_refused rose risen faithful up files bytes same hive why (inr (inr (damaged, none))) = rw damaged (inr (inr (tt, λ f. inl (subst IsNoJournal (sym same) (none f)))))

names_file : (i : ℕ) (why : Refusal) → RefusalNamesHive i why → IsFileRefusal why
names_file i (refusal.HiveDamaged hive cause) is = tt
names_file i refusal.Unsupported is = tt
names_file i _ is = absurd is

-- a hive whose files decode to nothing is wrong as its refusal says
none_wrong : (files : ℕ → List ℕ) (hive : ℕ) (of : IsInStore files hive) (why : Refusal) → RefusalNamesHive hive why → FilesHoldNone hive of.store.id (files (primary_file hive)) (files (log_file hive)) why → HiveIsWrong files hive why
none_wrong files hive of (refusal.HiveDamaged its cause) is none = (is, inl (of, subst (λ n. FilesHoldNone hive of.store.id (files (primary_file hive)) (files (log_file hive)) (refusal.HiveDamaged n cause)) is none))
none_wrong files hive of refusal.Unsupported is none = (of, none)
none_wrong files hive of _ is none = absurd is

-- what is told of a hive whose files are refused
pub hive_refused : (rose more risen read faithful : Type 0) → (rose → risen) → (more → risen) → (faithful → read) → (store : Store) → IsStore store → (hive : ℕ) → hive < all_hives store → (files : ℕ → List ℕ) (bytes : List ℕ) → files journal_file ≡ bytes → (why told : Refusal)
    → RefusalHasCause rose (RefusesHiveFiles read hive store.id (files (primary_file hive)) (files (log_file hive))) why → TellsOfHive more faithful store bytes why told → RefusalHasCause risen (RecoversNoTree faithful files hive) told
hive_refused rose more risen read faithful up over back store is hive there files bytes same why told fails (inr journal) = journal_refused more risen faithful over files bytes same hive told journal
hive_refused rose more risen read faithful up over back store is hive there files bytes same why told (inl hungry) (inl (e, decodes)) = inl (e ∙ hungry)
hive_refused rose more risen read faithful up over back store is hive there files bytes same why told (inr (inl (fault, r))) (inl (e, decodes)) = inr (inl (e ∙ fault, up r))
hive_refused rose more risen read faithful up over back store is hive there files bytes same why told (inr (inr (names, none))) (inl (e, decodes)) =
    rw e (inr (inr (
      names_file hive why names,
      λ f.
          let s = decodes hive names in
          none_wrong files hive (record { store = store; journal = s.0; store_is = is; decodes = ap (decoded (encodings store)) same ∙ s.1 f; there = there }) why names (none (back f)),
    )))

-- a hive that the journal doesn't lead anywhere
pub led_refused : (rose risen faithful : Type 0) → (rose → risen) → (store : Store) (hive : ℕ) (files : ℕ → List ℕ) (bytes : List ℕ) (held : HeldTree) → (faithful → HoldsBeside files store hive bytes held) → (why : Refusal)
    → RefusalHasCause rose (λ damage. (damage ≡ refusal.JournalDamaged) × (faithful → (its : ℕ → List ℕ) → HoldsBeside its store hive bytes held → HiveIsWrong its hive refusal.JournalDamaged)) why → RefusalHasCause risen (RecoversNoTree faithful files hive) why
led_refused rose risen faithful up store hive files bytes held beside why (inl hungry) = inl hungry
led_refused rose risen faithful up store hive files bytes held beside why (inr (inl (fault, r))) = inr (inl (fault, up r))
led_refused rose risen faithful up store hive files bytes held beside why (inr (inr (damaged, wrong))) = rw damaged (inr (inr (tt, λ f. wrong f files (beside f))))

-- a refusal of a hive that calls name, of files that were read as they had been before
pub named_refused : (rose risen faithful : Type 0) → (rose → risen) → (old mid : ℕ → FileState) → mid ≡ old → (hive : ℕ) (why : Refusal) → RefusalHasCause rose (RecoversNoTree faithful (seen_in mid) hive) why → RefusalHasCause risen (RecoversNoNamedTree faithful (seen_in old) hive) why
named_refused rose risen faithful up old mid same hive why (inl hungry) = inl hungry
named_refused rose risen faithful up old mid same hive why (inr (inl (fault, r))) = inr (inl (fault, up r))
named_refused rose risen faithful up old mid same hive why (inr (inr wrong)) = inr (inr (inl (subst (λ (s : ℕ → FileState). RecoversNoTree faithful (seen_in s) hive why) same wrong)))

-- and of that of outcomes
pub outcomes_refused : (rose risen faithful : Type 0) → (rose → risen) → (old mid : ℕ → FileState) → mid ≡ old → (hive : ℕ) → (faithful → IsAfterNamed (seen_in old) hive) → (why : Refusal)
    → RefusalHasCause rose (RecoversNoTree faithful (seen_in mid) hive) why → RefusalHasCause risen (RecoversNoOutcomes faithful (seen_in old)) why
outcomes_refused rose risen faithful up old mid same hive after why (inl hungry) = inl hungry
outcomes_refused rose risen faithful up old mid same hive after why (inr (inl (fault, r))) = inr (inl (fault, up r))
outcomes_refused rose risen faithful up old mid same hive after why (inr (inr wrong)) =
    let its = subst (λ (s : ℕ → FileState). RecoversNoTree faithful (seen_in s) hive why) same wrong in
    inr (inr (inl (hive, after, its)))

-- a refusal of the journal's header, as one of outcomes
pub header_refused : (fault faithful : Type 0) (files : ℕ → List ℕ) (why : Refusal) → journals.FailsBy fault (faithful → IsNoJournal (files journal_file)) why → RefusalHasCause fault (RecoversNoOutcomes faithful files) why
header_refused fault faithful files why (inl hungry) = inl hungry
header_refused fault faithful files why (inr (inl failed)) = inr (inl failed)
header_refused fault faithful files why (inr (inr (damaged, none))) =
    rw damaged (inr (inr (inl (0, (λ f store s is decodes. absurd (none-some s (sym (none f store is) ∙ decodes))), (tt, λ f. inl (none f))))))

-- the journal is no file of a hive
pub journal_apart : (hive : ℕ) → IsFileOfHive hive journal_file → ⊥
journal_apart hive (inl is) = absurd (omega (arith, is))
journal_apart hive (inr is) = absurd (omega (arith, is))
