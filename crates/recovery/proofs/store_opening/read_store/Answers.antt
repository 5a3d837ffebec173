use Rattle.std.proofs.Common.{◌≡◌, ◌∙◌, ◌<◌, ◌++◌, ◌∷◌, [], List, ℕ, length, map, replicate, ap, sym, subst, arith}
use Rattle.commit_journal.specs.Numbered.{NumberedChange}
use Rattle.commit_journal.specs.Scans.{JournalBegins, ScanFails}
use Rattle.commit_journal.specs.Store.{Store, IsNoJournal}
use Rattle.commit_journal.specs.Journals.{choice_of}
use Rattle.disk_model.specs.FileState.{FileState}
use Rattle.disk_model.specs.ReadOnly.{OnlySyncs}
use Rattle.disk_model.specs.StoreFiles.{journal_file}
use Rattle.disk_model.proofs.Unwritten.{synced_still, syncs_on}
use Rattle.hive_files.specs.Frames.{RefusalHasCause}
use Rattle.hive_flush.specs.declared.hive.HiveFile.{HiveFile}
use Rattle.hive_flush.specs.HiveStates.{memory_of}
use Rattle.recovery.specs.Invariant.{own_numbers}
use Rattle.recovery.specs.Reading.{BeginsAt, IsNoHive}
use Rattle.recovery.specs.Recovered.{IsNoStore, seen_in}
use Rattle.recovery.specs.Replays.{NotReplayed, Replays}
use Rattle.recovery.proofs.Openings.{opened_still, refused_beside, refused_hives, refused_replay, refused_up, decoded_before}
use Rattle.recovery.proofs.Scanned as scanned
use Rattle.recovery.proofs.store_opening.read_store.Goals.{then-is_hive_refusal+in_ok-journal-in-Err, else-is_hive_refusal}
use Rattle.recovery.proofs.store_opening.read_store.Goals as goal

pub returns-in-Ok-scan_store-clause-opened : goal.returns-in-Ok-scan_store-clause-opened
returns-in-Ok-scan_store-clause-opened g c =
    let D = g.D.Disk in
    opened_still (D.faithful c.open_hives.new.disk) (D.faithful c.scan_store.new.disk) c.scan_store.ensures.faithful c.args.owner.now.id (D.state_at c.args.disk.now (D.clock c.args.disk.now)) (D.state_at c.open_hives.new.disk (D.clock c.open_hives.new.disk))
    (D.state_at c.scan_store.new.disk (D.clock c.scan_store.new.disk)) c.in-Ok.hives.items c.in-Ok.ensures.opened c.scan_store.ensures.others

pub returns-in-Ok-scan_store-clause-replayed : goal.returns-in-Ok-scan_store-clause-replayed
returns-in-Ok-scan_store-clause-replayed g c =
    let hives = c.in-Ok.hives.items in
    let e = c.in_ok-replay-in-Ok.ensures in
    record {
      begin = c.in_ok-replay-in-Ok.replay;
      begins = record {
        numbers = e.numbers ∙ ap own_numbers c.deref.ensures.value;
        trees = e.trees ∙ ap (map (λ (h : HiveFile). (memory_of h).0)) c.deref.ensures.value;
        are = e.are;
        retained = e.retained;
        names = e.names ∙ ap (λ (l : List HiveFile). replicate (length l) 0) c.deref.ensures.value;
      };
      replays = c.in-Ok-scan_store.ensures.took;
    }

pub returns-in-Err-scan_store-clause-fails : goal.returns-in-Err-scan_store-clause-fails
returns-in-Err-scan_store-clause-fails g c =
    let D = g.D.Disk in
    let old = D.state_at c.args.disk.now (D.clock c.args.disk.now) in
    let mid = D.state_at c.open_hives.new.disk (D.clock c.open_hives.new.disk) in
    let last = c.scan_store.new.disk in
    let owner : Store = record { id = c.args.owner.now.id; hives = c.args.owner.now.hives; layout = c.args.owner.now.layout } in
    let hives = c.in-Ok.hives.items in
    let e = c.in_ok-replay-in-Ok.ensures in
    let begins : BeginsAt hives c.in_ok-replay-in-Ok.replay = record {
      numbers = e.numbers ∙ ap own_numbers c.deref.ensures.value;
      trees = e.trees ∙ ap (map (λ (h : HiveFile). (memory_of h).0)) c.deref.ensures.value;
      are = e.are;
      retained = e.retained;
      names = e.names ∙ ap (λ (l : List HiveFile). replicate (length l) 0) c.deref.ensures.value;
    } in
    let opened = c.in-Ok.ensures.opened in
    let journal : (mid journal_file).seen ≡ (old journal_file).seen = ap (λ (s : FileState). s.seen) opened.journal in
    let back : D.faithful last → D.faithful c.open_hives.new.disk = c.scan_store.ensures.faithful in
    refused_up (D.failures c.open_hives.new.disk < D.failures last) (D.failures c.args.disk.now < D.failures last) (λ rose. omega (arith, rose, c.open_hives.ensures.failures)) (IsNoStore (D.faithful last) (seen_in old)) c.in-Err-scan_store.why
    (refused_replay (D.failures c.open_hives.new.disk < D.failures last) (D.faithful last) (seen_in old) c.in_ok-replay-in-Ok.replay c.scan_store.new.sink (λ (changes : List NumberedChange). D.faithful last → JournalBegins (mid journal_file).seen changes) c.in-Err-scan_store.why
    (λ taken took d.
    scanned.denied hives (λ i h at. (opened.each i h at).rests) c.in_ok-replay-in-Ok.replay c.scan_store.new.sink begins taken took owner c.requires.store (c.in-Ok.ensures.many ∙ c.all_hives-count.ensures) (seen_in old) (D.faithful last)
    (λ f. c.requires.only (c.open_hives.ensures.faithful (back f)))
    (λ f i h at. (opened.each i h at).held (back f)) c.in-Err-scan_store.why
    (record { change = d.change; denies = d.denies; begins = λ f. subst (λ (l : List ℕ). JournalBegins l (taken ++ d.change ∷ [])) journal (d.begins f) }))
    (subst (λ (l : List ℕ). ScanFails (Replays c.in_ok-replay-in-Ok.replay c.scan_store.new.sink) (NotReplayed c.scan_store.new.sink) (λ (changes : List NumberedChange). D.faithful last → JournalBegins (mid journal_file).seen changes) (D.failures c.open_hives.new.disk < D.failures last) (D.faithful last → IsNoJournal l) c.in-Err-scan_store.why) journal c.in-Err-scan_store.ensures.fails))

pub returns-after-is_hive_refusal-clause-fails : goal.returns-after-is_hive_refusal-clause-fails
returns-after-is_hive_refusal-clause-fails g c =
    let D = g.D.Disk in
    let old = D.state_at c.args.disk.now (D.clock c.args.disk.now) in
    let mid = D.state_at c.open_hives.new.disk (D.clock c.open_hives.new.disk) in
    let owner : Store = record { id = c.args.owner.now.id; hives = c.args.owner.now.hives; layout = c.args.owner.now.layout } in
    let rose = D.failures c.args.disk.now < D.failures c.open_hives.new.disk in
    let why = c.in-Err.why in
    let Refuses : g.row.D.Denot → Type 0 = λ disk. RefusalHasCause (D.failures c.args.disk.now < D.failures disk) (IsNoStore (D.faithful disk) (seen_in old)) why in
    elim c.if-is_hive_refusal.branch [
      | then-is_hive_refusal+in_ok-journal-in-Err w ↦
          let o = w.scan_store-then-is_hive_refusal in
          let last = D.state_at o.new.disk (D.clock o.new.disk) in
          let r = w.in_ok-journal-in-Err in
          let decodes = decoded_before (D.faithful o.new.disk) owner old mid last r.journal r.ensures.scanned (λ f. synced_still (c.open_hives.ensures.synced (o.ensures.faithful f))) in
          subst Refuses (sym w.disk-is) (refused_hives (D.faithful c.open_hives.new.disk) (D.faithful o.new.disk) o.ensures.faithful rose (D.failures c.args.disk.now < D.failures o.new.disk) (λ more. omega (arith, more, o.ensures.failures)) owner c.requires.store
          (choice_of r.journal).now old decodes why
          (subst (λ n. RefusalHasCause rose (IsNoHive (D.faithful c.open_hives.new.disk) owner.id n old) why) c.all_hives-count.ensures c.in-Err.ensures.fails))
      | else-is_hive_refusal w ↦
          subst Refuses (sym w.disk-is) (refused_beside (D.faithful c.open_hives.new.disk) (D.faithful c.open_hives.new.disk) rose owner.id c.all_hives-count.result old why (c.is_hive_refusal.ensures w.if-is_hive_refusal.false) c.in-Err.ensures.fails)
    ]

pub returns-after-is_hive_refusal-clause-synced : goal.returns-after-is_hive_refusal-clause-synced
returns-after-is_hive_refusal-clause-synced g c =
    let D = g.D.Disk in
    let Synced : g.row.D.Denot → Type 0 = λ disk. D.faithful disk → OnlySyncs (D.state_at c.args.disk.now) (D.state_at disk) (D.clock c.args.disk.now) (D.clock disk) in
    elim c.if-is_hive_refusal.branch [
      | then-is_hive_refusal+in_ok-journal-in-Err w ↦
          let o = w.scan_store-then-is_hive_refusal in
          subst Synced (sym w.disk-is) (λ f. syncs_on _ _ _ _ _ _ (c.open_hives.ensures.synced (o.ensures.faithful f)) (o.ensures.synced f))
      | else-is_hive_refusal w ↦ subst Synced (sym w.disk-is) c.open_hives.ensures.synced
    ]
