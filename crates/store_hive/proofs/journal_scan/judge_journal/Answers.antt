use Rattle.commit_journal.specs.Journals.{choice_of}
use Rattle.store_hive.specs.LedTrees.{named_by}
use Rattle.store_hive.proofs.Told.{discard_refused, scanned_decodes}
use Rattle.store_hive.proofs.journal_scan.judge_journal.Goals as goal

pub returns-in-Ok-clause-whole : goal.returns-in-Ok-clause-whole
returns-in-Ok-clause-whole g c =
    let D = g.D.Disk in (
      (choice_of c.in-Ok.journal).now,
      scanned_decodes (D.faithful c.scan_store.new.disk) (named_by c.args.owner.now) (D.state_at c.args.disk.now (D.clock c.args.disk.now)) (D.state_at c.scan_store.new.disk (D.clock c.scan_store.new.disk)) c.in-Ok.journal c.in-Ok.ensures.scanned,
    )

pub returns-in-Err-clause-fails : goal.returns-in-Err-clause-fails
returns-in-Err-clause-fails g c = discard_refused _ _ _ _ _ c.in-Err.why c.in-Err.ensures.fails
