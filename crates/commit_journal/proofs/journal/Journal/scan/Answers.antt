use Rattle.std.proofs.Common.{◌≡◌, List, ℕ, subst, arith}
use Rattle.disk_model.proofs.Unwritten.{seen_same, synced_still}
use Rattle.commit_journal.specs.Numbered.{NumberedChange}
use Rattle.commit_journal.specs.ReadBuffers.{journal_bytes_at}
use Rattle.commit_journal.specs.Scans.{JournalBegins}
use Rattle.commit_journal.specs.Store.{IsNoJournal}
use Rattle.commit_journal.proofs.Fails.{scan_from}
use Rattle.commit_journal.proofs.journal.Journal.scan.Goals as goal

pub returns-clause-fails : goal.returns-clause-fails
returns-clause-fails g c =
    let D = g.D.Disk in
    let last = c.scan_at_rest.new.disk in
    let old = journal_bytes_at (D.state_at c.args.disk.now) (D.clock c.args.disk.now) in
    let synced = journal_bytes_at (D.state_at c.sync.new.disk) (D.clock c.sync.new.disk) in
    let same : D.faithful last → synced ≡ old = λ f. seen_same _ _ (synced_still (c.in-Ok.ensures.syncs (c.scan_at_rest.ensures.faithful f)) 0) in
    scan_from c.scan_at_rest.result _ _ (λ (changes : List NumberedChange). D.faithful last → JournalBegins synced changes) (λ (changes : List NumberedChange). D.faithful last → JournalBegins old changes) _ _ (D.faithful last → IsNoJournal synced) (D.faithful last → IsNoJournal old)
    (λ changes begins f. subst (λ (l : List ℕ). JournalBegins l changes) (same f) (begins f))
    (λ rose. omega (arith, rose, c.in-Ok.ensures.failures))
    (λ none f. subst IsNoJournal (same f) (none f))
    c.scan_at_rest.ensures.fails
