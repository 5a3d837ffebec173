use Rattle.std.proofs.Common.{inl, inr, ◌≡◌, ◌<◌, ◌≤◌, Some, sym, subst, arith, List, ℕ}
use Rattle.std.proofs.lemmas.Result.{err_from_is_err_and}
use Rattle.disk_model.specs.FileState.{FileState}
use Rattle.disk_model.specs.StoreFiles.{journal_file}
use Rattle.disk_model.proofs.Unwritten.{no_change}
use Rattle.commit_journal.specs.Store.{Store, all_hives}
use Rattle.commit_journal.specs.Encoding.{decoded}
use Rattle.commit_journal.specs.Journals.{changes_of, choice_of, store_of, encodings_of}
use Rattle.commit_journal.specs.declared.journal.Journal.{Journal}
use Rattle.hive_flush.specs.declared.hive.HiveFile.{HiveFile}
use Rattle.engine_invariant.specs.Prefixes.{AreOnDisk}
use Rattle.recovery.specs.Invariant.{AllWork}
use Rattle.recovery.specs.Reading.{AreOf}
use Rattle.hive_files.specs.Frames.{RefusalHasCause}
use Rattle.recovery.specs.Recovered.{IsNoStore, seen_in}
use Rattle.recovery.proofs.Openings.{are_of, are_on, at_rest, refused_journal, refused_still}
use Rattle.recovery.specs.Repairs.{most_repairs, repairs_left}
use Rattle.recovery.proofs.Together.{of_found}
use Rattle.recovery.proofs.store_opening.find.Goals as goal

pub recovered-requires : goal.recovered-requires
recovered-requires g c =
    let D = g.D.Disk in
    let own : Store = record { id = c.in_ok-owner.owner.id; hives = c.in_ok-owner.owner.hives; layout = c.in_ok-owner.owner.layout } in
    let then = D.state_at c.owner.new.disk (D.clock c.owner.new.disk) in
    let now = D.state_at c.read_store.new.disk (D.clock c.read_store.new.disk) in
    let e = c.in_ok-read.ensures in
    record {
      rest = at_rest (D.faithful c.read_store.new.disk) own then now c.in_ok-read.read.journal c.in_ok-read.read.hives.items e.scanned e.many e.opened;
      replayed = e.replayed;
    }

pub returns-in_err-owner-clause-fails : goal.returns-in_err-owner-clause-fails
returns-in_err-owner-clause-fails g c =
    let p = err_from_is_err_and c.from_residual.result c.from_residual.ensures.1 in
    let D = g.D.Disk in
    rw (p.1, p.2) (refused_journal (D.failures c.args.disk.now < D.failures c.owner.new.disk) (D.faithful c.owner.new.disk) (seen_in (D.state_at c.args.disk.now (D.clock c.args.disk.now))) c.in_err-owner.field-0.0 c.in_err-owner.ensures.fails)

pub returns-in_err-read-clause-fails : goal.returns-in_err-read-clause-fails
returns-in_err-read-clause-fails g c =
    let p = err_from_is_err_and c.from_residual-in_err-read.result c.from_residual-in_err-read.ensures.1 in
    let D = g.D.Disk in
    let old = D.state_at c.args.disk.now (D.clock c.args.disk.now) in
    let then = D.state_at c.owner.new.disk (D.clock c.owner.new.disk) in
    let same : then ≡ old = (λ i f. no_change c.owner.ensures.no_change f i) in
    let last = c.read_store.new.disk in
    rw (p.1, p.2) (refused_still (D.failures c.owner.new.disk < D.failures last) (D.failures c.args.disk.now < D.failures last) (D.faithful last) (λ rose. omega (arith, rose, c.owner.ensures.failures)) old then same c.in_err-read.field-0.0 c.in_err-read.ensures.fails)

pub returns-in_err-found-clause-fails : goal.returns-in_err-found-clause-fails
returns-in_err-found-clause-fails g c =
    let p = err_from_is_err_and c.from_residual-in_err-found.result c.from_residual-in_err-found.ensures.1 in
    let D = g.D.Disk in
    let own : Store = record { id = c.in_ok-owner.owner.id; hives = c.in_ok-owner.owner.hives; layout = c.in_ok-owner.owner.layout } in
    let old = D.state_at c.args.disk.now (D.clock c.args.disk.now) in
    let then = D.state_at c.owner.new.disk (D.clock c.owner.new.disk) in
    let now = D.state_at c.read_store.new.disk (D.clock c.read_store.new.disk) in
    let same : then ≡ old = (λ i f. no_change c.owner.ensures.no_change f i) in
    let e = c.in_ok-read.ensures in
    let hs = c.in_ok-read.read.hives.items in
    let of = are_of (D.faithful c.read_store.new.disk) own then now c.in_ok-read.read.journal hs e.scanned e.many e.opened in
    let last = c.read_store.new.disk in
    rw (p.1, p.2) (elim (c.in_err-found.ensures.fails) as (λ z. RefusalHasCause (D.failures c.args.disk.now < D.failures last) (IsNoStore (D.faithful last) (seen_in old)) c.in_err-found.field-0.0) [
      | inl memory ↦ inl memory
      | inr wrong ↦ inr (inr (wrong.0, λ f. wrong.1 (seen_in old) (subst (λ (s : ℕ → FileState). AreOf (seen_in s) c.in_ok-read.read.journal hs) same (of f))))
    ])

pub returns-clause-works : goal.returns-clause-works
returns-clause-works g c = subst AllWork (sym c.in_ok-found.ensures.hives) (λ i h is. (c.in_ok-read.ensures.opened i h is).works)

pub returns-clause-recovered : goal.returns-clause-recovered
returns-clause-recovered g c = λ f.
    let D = g.D.Disk in
    let own : Store = record { id = c.in_ok-owner.owner.id; hives = c.in_ok-owner.owner.hives; layout = c.in_ok-owner.owner.layout } in
    let old = D.state_at c.args.disk.now (D.clock c.args.disk.now) in
    let then = D.state_at c.owner.new.disk (D.clock c.owner.new.disk) in
    let now = D.state_at c.read_store.new.disk (D.clock c.read_store.new.disk) in
    let same : then ≡ old = (λ i f. no_change c.owner.ensures.no_change f i) in
    let e = c.in_ok-read.ensures in
    let of = are_of (D.faithful c.read_store.new.disk) own then now c.in_ok-read.read.journal c.in_ok-read.read.hives.items e.scanned e.many e.opened f in
    let it = c.in_ok-found.found in
    let k = c.in_ok-found.ensures.kept in
    of_found it.trees it.number it.base (changes_of it.journal) it.journal it.hives.items k.recovers k.store k.many (seen_in old)
    (subst (λ (s : ℕ → FileState). AreOf (seen_in s) it.journal it.hives.items) same
    (subst (λ (x : Journal). AreOf (seen_in then) x it.hives.items) (sym c.in_ok-found.ensures.journal) (subst (λ (hs : List HiveFile). AreOf (seen_in then) c.in_ok-read.read.journal hs) (sym c.in_ok-found.ensures.hives) of)))

pub returns-clause-on_disk : goal.returns-clause-on_disk
returns-clause-on_disk g c = λ f.
    let D = g.D.Disk in
    let own : Store = record { id = c.in_ok-owner.owner.id; hives = c.in_ok-owner.owner.hives; layout = c.in_ok-owner.owner.layout } in
    let then = D.state_at c.owner.new.disk (D.clock c.owner.new.disk) in
    let now = D.state_at c.read_store.new.disk (D.clock c.read_store.new.disk) in
    let e = c.in_ok-read.ensures in
    let it = c.in_ok-found.found in
    subst (λ (x : Journal). AreOnDisk x it.hives.items now) (sym c.in_ok-found.ensures.journal) (subst (λ (hs : List HiveFile). AreOnDisk c.in_ok-read.read.journal hs now) (sym c.in_ok-found.ensures.hives)
    (are_on (D.faithful c.read_store.new.disk) own then now c.in_ok-read.read.journal c.in_ok-read.read.hives.items e.scanned e.many e.opened f))

pub returns-clause-few : goal.returns-clause-few
returns-clause-few g c = λ f.
    let D = g.D.Disk in
    let own : Store = record { id = c.in_ok-owner.owner.id; hives = c.in_ok-owner.owner.hives; layout = c.in_ok-owner.owner.layout } in
    let old = D.state_at c.args.disk.now (D.clock c.args.disk.now) in
    let then = D.state_at c.owner.new.disk (D.clock c.owner.new.disk) in
    let same : then ≡ old = (λ i f. no_change c.owner.ensures.no_change f i) in
    let e = c.in_ok-read.ensures in
    subst (λ (x : Journal). repairs_left c.in_ok-found.found.hives.items ≤ most_repairs (seen_in old) (all_hives (store_of x))) (sym c.in_ok-found.ensures.journal)
    (subst (λ (hs : List HiveFile). repairs_left hs ≤ most_repairs (seen_in old) (all_hives (store_of c.in_ok-read.read.journal))) (sym c.in_ok-found.ensures.hives)
    (subst (λ (s : Store). repairs_left c.in_ok-read.read.hives.items ≤ most_repairs (seen_in old) (all_hives s)) (sym e.scanned.of)
    (subst (λ (s : ℕ → FileState). repairs_left c.in_ok-read.read.hives.items ≤ most_repairs (seen_in s) (all_hives own)) same (e.few f))))

pub returns-clause-decodes : goal.returns-clause-decodes
returns-clause-decodes g c = λ f.
    let D = g.D.Disk in
    let old = D.state_at c.args.disk.now (D.clock c.args.disk.now) in
    let then = D.state_at c.owner.new.disk (D.clock c.owner.new.disk) in
    let same : then ≡ old = (λ i f. no_change c.owner.ensures.no_change f i) in
    let read = c.in_ok-read.read.journal in
    subst (λ (x : Journal). decoded (encodings_of x) (seen_in old journal_file) ≡ Some (choice_of x).now) (sym c.in_ok-found.ensures.journal)
    (subst (λ (s : ℕ → FileState). decoded (encodings_of read) (seen_in s journal_file) ≡ Some (choice_of read).now) same (c.in_ok-read.ensures.scanned.decodes f))
